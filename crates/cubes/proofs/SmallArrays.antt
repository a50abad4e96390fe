-- Small arrays, computed from the definitions.
use Rattle.std.proofs.Common.{◌≡◌, [], ◌∷◌, refl}
use Rattle.cubes.specs.Handing.{release}
use Rattle.cubes.specs.Examples.{Examples, handed_sums, three_readings, one_fault}

readable : handed_sums three_readings
    ≡ ((3, 0), 5 ∷ 0 ∷ 0 ∷ 0 ∷ []) ∷ ((1, 0), 5 ∷ 0 ∷ []) ∷ ((3, 1), 0 ∷ 7 ∷ 0 ∷ 1 ∷ []) ∷ ((1, 1), 0 ∷ 8 ∷ []) ∷ ((2, 0), 12 ∷ 1 ∷ []) ∷ ((0, 0), 13 ∷ []) ∷ []
unfolding release
readable = refl

with_a_fault : handed_sums one_fault
    ≡ ((3, 0), 0 ∷ 0 ∷ 0 ∷ 0 ∷ []) ∷ ((1, 0), 0 ∷ 0 ∷ []) ∷ ((3, 1), 0 ∷ 7 ∷ 0 ∷ 1 ∷ []) ∷ ((1, 1), 0 ∷ 8 ∷ []) ∷ ((2, 0), 7 ∷ 1 ∷ []) ∷ ((0, 0), 8 ∷ []) ∷ []
unfolding release
with_a_fault = refl

pub examples : Examples
examples = record { readable = readable; with_a_fault = with_a_fault }
