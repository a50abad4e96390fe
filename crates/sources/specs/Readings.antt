-- Readings given as plain numbers, and their lifts. Assumes nothing.
use Rattle.std.specs.Prelude.{◌≡◌, ℕ, Bool, true, false, List, [], ◌∷◌, Some, None, Option, nat_le, refl}
use Rattle.std.proofs.Common.{leb-true}
use Rattle.shapes.specs.declared.readings.Reading.{Reading}

-- whether a number is a reading
abbrev pub is_reading : ℕ → Bool
is_reading n = nat_le n 16777215

abbrev pub reading_if : (n : ℕ) (b : Bool) → is_reading n ≡ b → Option Reading
reading_if n true e = Some (record { value = n; within = leb-true n 16777215 e })
reading_if n false e = None

-- the reading of a number, if it is one
abbrev pub reading_of : ℕ → Option Reading
reading_of n = reading_if n (is_reading n) refl

module _ {M : Type 0} (lifted : Reading → M) where
  -- the lift of a reading, if there is one, before other values
  abbrev pub lift_before : Option Reading → List M → List M
  lift_before None vs = vs
  lift_before (Some r) vs = lifted r ∷ vs

  -- the lifts of numbers, in order; a number that is no reading has none
  abbrev pub lifts : List ℕ → List M
  lifts [] = []
  lifts (n ∷ ns) = lift_before (reading_of n) (lifts ns)
