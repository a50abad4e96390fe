-- Range: the lowest and the highest reading. Assumes nothing.
use Rattle.std.specs.Prelude.{◌≡◌, ℕ, ◌^◌, ◌<◌, min, max, List, [], ◌∷◌, length, refl}
use mathlib.Core.HLevel.{is_prop→PathP}
use Rattle.std.proofs.Math.Bridge.{le_prop}
use Rattle.std.proofs.Common.{arith}
use Rattle.shapes.specs.declared.readings.Reading.{Reading}
use Rattle.measures.specs.Laws.{Lawful}
use Rattle.measures.specs.declared.values.Range.{Range}

-- the proofs that the numbers below fit
pub min_fits : (a b : ℕ) → a < 2 ^ 32 → b < 2 ^ 32 → min a b < 2 ^ 32
min_fits a b p q = omega arith

pub max_fits : (a b : ℕ) → a < 2 ^ 32 → b < 2 ^ 32 → max a b < 2 ^ 32
max_fits a b p q = omega arith

pub reading_fits : (r : Reading) → r.value < 2 ^ 32
reading_fits r = omega arith

-- no reading: the low is the largest number of 32 bits, and the high is 0
abbrev pub no_range : Range
no_range = record { low = 4294967295; high = 0; fits = (omega arith, omega arith) }

-- the lower low and the higher high
abbrev pub range_join : Range → Range → Range
range_join x y = record {
  low = min x.low y.low;
  high = max x.high y.high;
  fits = (min_fits x.low y.low x.fits.0 y.fits.0, max_fits x.high y.high x.fits.1 y.fits.1);
}

-- one reading: it is the lowest and the highest
abbrev pub range_lift : Reading → Range
range_lift r = record { low = r.value; high = r.value; fits = (reading_fits r, reading_fits r) }

-- the low, then the high
abbrev pub range_columns : Range → List ℕ
range_columns x = x.low ∷ x.high ∷ []

-- there are two columns
pub range_wide : (x : Range) → length (range_columns x) ≡ 2
range_wide x = refl

-- ranges of equal numbers are equal
pub range_ext : (x y : Range) → x.low ≡ y.low → x.high ≡ y.high → x ≡ y
range_ext x y p q = λ i. record {
  low = p i;
  high = q i;
  fits = (is_prop→PathP (λ k. p k < 2 ^ 32) (λ k. le_prop) x.fits.0 y.fits.0 i, is_prop→PathP (λ k. q k < 2 ^ 32) (λ k. le_prop) x.fits.1 y.fits.1 i);
}

-- the laws of ranges
pub range_lawful : Lawful no_range range_join
range_lawful = record {
  assoc = λ x y z. range_ext _ _ (omega arith) (omega arith);
  comm = λ x y. range_ext _ _ (omega arith) (omega arith);
  neutral = λ x. range_ext _ _ (omega arith) (omega arith);
}
