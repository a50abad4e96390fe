-- The number and the values of each refusal. Assumes nothing.
use Rattle.std.specs.Prelude.{[], ◌∷◌}
use Rattle.shapes.specs.Limits.{Refusal}
use Rattle.sources.specs.declared.refusals.SourceRefusal.{SourceRefusal}
use Rattle.sources.specs.declared.refusals.SourceRefusal.TheVariants.{Beyond, Short, Unreadable}
use Rattle.sources.specs.declared.refusals.RowRefusal.{RowRefusal}
use Rattle.sources.specs.declared.refusals.CorrectionRefusal.{CorrectionRefusal}
use Rattle.sources.specs.declared.refusals.CorrectionRefusal.TheVariants.{OutOfRange, Full}

-- what a fetch returns: nothing, V, or the chunk, the entry and the cause
abbrev pub source_refusal : SourceRefusal → Refusal
source_refusal Beyond = (14, [])
source_refusal (Short v) = (15, v ∷ [])
source_refusal (Unreadable chunk entry cause) = (16, chunk ∷ entry ∷ cause ∷ [])

-- the row
abbrev pub row_refusal : RowRefusal → Refusal
row_refusal e = (11, e.row ∷ [])

abbrev pub correction_refusal : CorrectionRefusal → Refusal
correction_refusal OutOfRange = (12, [])
correction_refusal Full = (13, [])
