-- The number and the values of each refusal, and of each fault in a body. Assumes nothing.
use Rattle.std.specs.Prelude.{ℕ, cond, [], ◌∷◌, Ok, Err, Result, ◌==◌}
use Rattle.shapes.specs.Limits.{Refusal}
use Rattle.shapes.specs.Refusals.{shape_refusal}
use Rattle.chunk_files.specs.declared.refusals.FileRefusal.{FileRefusal}
use Rattle.chunk_files.specs.declared.refusals.FileRefusal.TheVariants.{Short, Mark, Shape, Entry, End}
use Rattle.chunk_files.specs.declared.refusals.UnknownNumber.{UnknownNumber}
use Rattle.chunk_files.specs.declared.faults.BodyCause.{BodyCause}
use Rattle.chunk_files.specs.declared.faults.BodyCause.TheVariants.{Offset, Reading, Count}
use Rattle.chunk_files.specs.declared.faults.BodyFault.{BodyFault}
use Rattle.chunk_files.specs.Bodies.{Fault}

abbrev pub file_refusal : FileRefusal → Refusal
file_refusal Short = (7, [])
file_refusal Mark = (8, [])
file_refusal (Shape r) = shape_refusal r
file_refusal (Entry j) = (9, j ∷ [])
file_refusal End = (10, [])

abbrev pub cause_number : BodyCause → ℕ
cause_number Offset = 1
cause_number Reading = 2
cause_number Count = 3

-- the cause with a number
abbrev pub cause_of : ℕ → Result BodyCause UnknownNumber
cause_of n = cond (n == 1) (Ok Offset) (cond (n == 2) (Ok Reading) (cond (n == 3) (Ok Count) (Err (record { number = n }))))

abbrev pub body_fault : BodyFault → Fault
body_fault f = (cause_number f.cause, f.entry)
