-- The number of each kind of body. Assumes nothing.
use Rattle.std.specs.Prelude.{ℕ, cond, Ok, Err, Result, ◌==◌}
use Rattle.chunk_files.specs.declared.kind.BodyKind.{BodyKind}
use Rattle.chunk_files.specs.declared.kind.BodyKind.TheVariants.{Pairs, Words}
use Rattle.chunk_files.specs.declared.refusals.UnknownNumber.{UnknownNumber}

abbrev pub kind_number : BodyKind → ℕ
kind_number Pairs = 0
kind_number Words = 1

-- the kind with a number
abbrev pub kind_of : ℕ → Result BodyKind UnknownNumber
kind_of n = cond (n == 0) (Ok Pairs) (cond (n == 1) (Ok Words) (Err (record { number = n })))

-- the kind that a byte of an entry is taken for: words where it isn't 0
abbrev pub told_kind : ℕ → BodyKind
told_kind n = cond (n == 0) Pairs Words
