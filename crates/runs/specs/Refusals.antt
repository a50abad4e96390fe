-- The number and the values of each refusal of a run's call. Assumes nothing.
use Rattle.std.specs.Prelude.{[], ◌∷◌}
use Rattle.shapes.specs.Limits.{Refusal}
use Rattle.runs.specs.declared.refusals.RunRefusal.{RunRefusal}
use Rattle.runs.specs.declared.refusals.RunRefusal.TheVariants.{Unreadable, TooFew, BlockWaits, AllPassed, OtherShape, Readable, NoBlock, ShortBuffer}

-- scan number, chunk, entry and cause; the need; the block's cells
abbrev pub run_refusal : RunRefusal → Refusal
run_refusal (Unreadable scan chunk entry cause) = (16, scan ∷ chunk ∷ entry ∷ cause ∷ [])
run_refusal (TooFew need) = (17, need ∷ [])
run_refusal BlockWaits = (18, [])
run_refusal AllPassed = (19, [])
run_refusal OtherShape = (20, [])
run_refusal Readable = (21, [])
run_refusal NoBlock = (22, [])
run_refusal (ShortBuffer cells) = (23, cells ∷ [])
