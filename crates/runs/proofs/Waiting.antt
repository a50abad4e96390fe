-- The counts by mask.
use Rattle.std.proofs.Common.{◌≡◌, ℕ, suc, ◌+◌, ◌^◌, ◌<◌, ◌⊎◌, List, length, get_or, set, sym, ap, ◌∙◌, inl, inr, arith}
use Rattle.std.proofs.lemmas.Bool.{cases_eq}
use Rattle.std.proofs.lemmas.List.{ext_get_or, length-set, get_or-set_same, get_or-set_other}
use Rattle.std.proofs.lemmas.List.FromFn.{length-map-range_with_len, get_or-map-range_with_len}
use Rattle.runs.specs.Controls.{handed_at, counts_in}

pub length-counts : (n : ℕ) (tb : List ℕ) → length (counts_in n tb) ≡ 2 ^ n
unfolding counts_in
length-counts n tb = length-map-range_with_len (handed_at tb) 0 (2 ^ n)

pub count_is : (n : ℕ) (tb : List ℕ) (m : ℕ) → m < 2 ^ n → get_or (counts_in n tb) m 0 ≡ handed_at tb m
unfolding counts_in
count_is n tb m l = get_or-map-range_with_len (handed_at tb) 0 (2 ^ n) m m 0 l (omega arith)

-- one more block of a group
pub counts_more : (n : ℕ) (old : List ℕ) (m : ℕ) → m < 2 ^ n → m < length old
    → set (counts_in n old) m (suc (get_or (counts_in n old) m 0)) ≡ counts_in n (set old m (get_or old m 0 + 1))
counts_more n old m l s = ext_get_or 0 (set (counts_in n old) m v) (counts_in n new) (size ∙ sym (length-counts n new)) (λ i b. let k : i < 2 ^ n = omega (arith, size) in each i k (cases_eq i m))
  where
    v : ℕ
    v = suc (get_or (counts_in n old) m 0)

    new : List ℕ
    new = set old m (get_or old m 0 + 1)

    size : length (set (counts_in n old) m v) ≡ 2 ^ n
    size = length-set (counts_in n old) m v ∙ length-counts n old

    each : (i : ℕ) → i < 2 ^ n → (i ≡ m) ⊎ (i ≡ m → ⊥) → get_or (set (counts_in n old) m v) i 0 ≡ get_or (counts_in n new) i 0
    each i b (inl e) = ap (λ k. get_or (set (counts_in n old) m v) k 0) e ∙ get_or-set_same (counts_in n old) m v 0 (omega (arith, length-counts n old))
        ∙ (omega (arith, count_is n old m l) ∙ sym (ap (λ k. get_or (counts_in n new) k 0) e ∙ count_is n new m l ∙ get_or-set_same old m (get_or old m 0 + 1) 0 s))
    each i b (inr d) = get_or-set_other (counts_in n old) m i v 0 d ∙ (count_is n old i b ∙ sym (count_is n new i b ∙ get_or-set_other old m i (get_or old m 0 + 1) 0 d))
