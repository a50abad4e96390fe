-- Total: a count and a sum. Assumes nothing.
use Rattle.std.specs.Prelude.{◌≡◌, ℕ, ◌+◌, ◌-◌, ◌^◌, ◌<◌, min, List, [], ◌∷◌, length, refl}
use mathlib.Core.HLevel.{is_prop→PathP}
use Rattle.std.proofs.Math.Bridge.{le_prop}
use Rattle.std.proofs.Common.{arith}
use Rattle.shapes.specs.declared.readings.Reading.{Reading}
use Rattle.measures.specs.Laws.{Lawful}
use Rattle.measures.specs.declared.values.Total.{Total}

-- a sum that stops at 2^64 − 1
abbrev pub stopped_sum : ℕ → ℕ → ℕ
stopped_sum a b = min (a + b) (2 ^ 64 - 1)

-- the proofs that the numbers below fit
pub sum_fits : (a b : ℕ) → stopped_sum a b < 2 ^ 64
sum_fits a b = omega arith

pub reading_fits : (r : Reading) → r.value < 2 ^ 64
reading_fits r = omega arith

-- no reading: the count and the sum are 0
abbrev pub no_total : Total
no_total = record { count = 0; sum = 0; fits = (omega arith, omega arith) }

-- both numbers are added
abbrev pub total_join : Total → Total → Total
total_join x y = record {
  count = stopped_sum x.count y.count;
  sum = stopped_sum x.sum y.sum;
  fits = (sum_fits x.count y.count, sum_fits x.sum y.sum);
}

-- one reading: the count is 1, and the sum is the reading
abbrev pub total_lift : Reading → Total
total_lift r = record { count = 1; sum = r.value; fits = (omega arith, reading_fits r) }

-- the count, then the sum
abbrev pub total_columns : Total → List ℕ
total_columns x = x.count ∷ x.sum ∷ []

-- there are two columns
pub total_wide : (x : Total) → length (total_columns x) ≡ 2
total_wide x = refl

-- totals of equal numbers are equal
pub total_ext : (x y : Total) → x.count ≡ y.count → x.sum ≡ y.sum → x ≡ y
total_ext x y p q = λ i. record {
  count = p i;
  sum = q i;
  fits = (is_prop→PathP (λ k. p k < 2 ^ 64) (λ k. le_prop) x.fits.0 y.fits.0 i, is_prop→PathP (λ k. q k < 2 ^ 64) (λ k. le_prop) x.fits.1 y.fits.1 i);
}

-- the laws of totals
pub total_lawful : Lawful no_total total_join
total_lawful = record {
  assoc = λ x y z. total_ext _ _ (omega arith) (omega arith);
  comm = λ x y. total_ext _ _ (omega arith) (omega arith);
  neutral = λ x. total_ext _ _ (omega arith) (omega arith);
}
