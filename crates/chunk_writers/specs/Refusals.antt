-- The number and the values of each refusal. Assumes nothing.
use Rattle.std.specs.Prelude.{[], ◌∷◌}
use Rattle.shapes.specs.Limits.{Refusal}
use Rattle.chunk_writers.specs.declared.refusals.WriteRefusal.{WriteRefusal}
use Rattle.chunk_writers.specs.declared.refusals.WriteRefusal.TheVariants.{Row, Twice, Long, Room, Memory}

-- the row, the later of the two rows, nothing, the bytes that are needed; want of memory is no cause of the table, and has number 0
abbrev pub write_refusal : WriteRefusal → Refusal
write_refusal (Row i) = (11, i ∷ [])
write_refusal (Twice i) = (24, i ∷ [])
write_refusal Long = (25, [])
write_refusal (Room n) = (26, n ∷ [])
write_refusal Memory = (0, [])
