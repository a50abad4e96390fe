-- Marks: a bit for each remainder by 64. Assumes nothing.
use Rattle.std.specs.Prelude.{◌≡◌, ℕ, ◌%◌, ◌^◌, List, [], ◌∷◌, length, bit_or, refl}
use Rattle.std.proofs.Common.{ap}
use Rattle.std.proofs.lemmas.Nat.{or_comm}
use Rattle.shapes.specs.declared.readings.Reading.{Reading}
use Rattle.measures.specs.Laws.{Lawful}
use Rattle.measures.specs.Unions.{or_assoc}
use Rattle.measures.specs.declared.values.Marks.{Marks}

-- the marks with these bits
abbrev pub of_bits : ℕ → Marks
of_bits n = record { bits = n }

-- no reading: no bit is set
abbrev pub no_marks : Marks
no_marks = of_bits 0

-- the union: each bit that either has
abbrev pub marks_join : Marks → Marks → Marks
marks_join x y = of_bits (bit_or x.bits y.bits)

-- one reading: the bit of its remainder by 64
abbrev pub marks_lift : Reading → Marks
marks_lift r = of_bits (2 ^ (r.value % 64))

-- the bits as one number
abbrev pub marks_columns : Marks → List ℕ
marks_columns x = x.bits ∷ []

-- there is one column
pub marks_wide : (x : Marks) → length (marks_columns x) ≡ 1
marks_wide x = refl

-- the laws of marks
pub marks_lawful : Lawful no_marks marks_join
marks_lawful = record {
  assoc = λ x y z. ap of_bits (or_assoc x.bits y.bits z.bits);
  comm = λ x y. ap of_bits (or_comm x.bits y.bits);
  neutral = λ x. refl;
}
