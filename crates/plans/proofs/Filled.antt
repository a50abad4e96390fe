-- An array of six made by number: below n it has the values of f, and the rest is 0.
use Rattle.std.proofs.Common.{◌≡◌, ℕ, ◌<◌, ◌≤◌, ◌⊎◌, List, map, length, get_or, sym, ◌∙◌, inl, inr, arith}
use Rattle.std.specs.List.{range_with_len}
use Rattle.std.proofs.lemmas.List.FromFn.{length-map-range_with_len, get_or-map-range_with_len}
use Rattle.std.proofs.lemmas.List.{get_or_past, ext_get_or}
use Rattle.std.proofs.lemmas.Bool.{cases_lt}
use Rattle.shapes.specs.Views.{six}
use Rattle.shapes.proofs.Sixes.{length-six, six_at}

pub filled_six : (f : ℕ → ℕ) (n : ℕ) (xs : List ℕ) → length xs ≡ 6 → ((k : ℕ) → k < 6 → k < n → get_or xs k 0 ≡ f k) → ((k : ℕ) → k < 6 → n ≤ k → get_or xs k 0 ≡ 0) → xs ≡ six 0 (map f (range_with_len 0 n))
filled_six f n xs long done rest = ext_get_or 0 xs (six 0 fs) (long ∙ sym (length-six 0 fs)) at
  where
    fs : List ℕ
    fs = map f (range_with_len 0 n)

    same : (k : ℕ) → k < 6 → (k < n) ⊎ (n ≤ k) → get_or xs k 0 ≡ get_or fs k 0
    same k s (inl l) = done k s l ∙ sym (get_or-map-range_with_len f 0 n k k 0 l (omega arith))
    same k s (inr l) = rest k s l ∙ sym (get_or_past fs k 0 (omega (arith, length-map-range_with_len f 0 n)))

    at : (k : ℕ) → k < length xs → get_or xs k 0 ≡ get_or (six 0 fs) k 0
    at k l = same k (omega arith) (cases_lt k n) ∙ sym (six_at 0 fs k (omega arith))
