-- Six radices, 1 past the last dimension: those of a group, the products of those at the first places, and the digits of a scan number.
use Rattle.std.proofs.Common.{◌≡◌, ℕ, zero, suc, ◌+◌, ◌-◌, ◌*◌, ◌/◌, ◌%◌, ◌^◌, ◌<◌, ◌≤◌, Bool, true, false, cond, eqb, ltb, ◌⊎◌, List, [], ◌∷◌, length, get_or, sym, refl, ap, ◌∙◌, ap₂, inl, inr, mul-one, arith}
use Rattle.std.proofs.lemmas.List.{ext_get_or, get_or_past}
use Rattle.std.proofs.lemmas.List.FromFn.{length-map-range_with_len, get_or-map-range_with_len}
use Rattle.std.proofs.lemmas.Bool.{cases_lt, lt-ltb}
use Rattle.shapes.specs.Arrays.{radix, group, inside}
use Rattle.shapes.specs.Views.{six}
use Rattle.shapes.proofs.Sixes.{length-six, six_at}
use Rattle.cubes.specs.Summaries.{big}
use Rattle.cubes.specs.Scans.{width, weight, scan_digits}
use Rattle.cubes.proofs.Joins.{big_cong}
use Rattle.cubes.proofs.ScanNumbers.{products}
use Rattle.runs.proofs.Widths.{radix_long, radix_at}

one_way : (b : Bool) (k : ℕ) → cond b k k ≡ k
one_way true k = refl
one_way false k = refl

-- the radices of a group are those of its dimensions, filled up
pub radix_six : (n m : ℕ) (ks : List ℕ) → length ks ≡ n → radix (group 6 m) (six 1 ks) ≡ six 1 (radix (group n m) ks)
radix_six n m ks l = ext_get_or 1 (radix (group 6 m) (six 1 ks)) (six 1 (radix (group n m) ks)) (long ∙ sym (length-six 1 (radix (group n m) ks)))
    (λ i b. each i (omega (arith, long)))
  where
    long : length (radix (group 6 m) (six 1 ks)) ≡ 6
    long = radix_long 6 m (six 1 ks) (length-six 1 ks)

    here : (i : ℕ) → (i < n) ⊎ (n ≤ i) → get_or (radix (group n m) ks) i 1 ≡ cond (eqb (m / 2 ^ i % 2) 1) (get_or ks i 1) 1
    here i (inl b) = radix_at n m ks i l b
    here i (inr b) = get_or_past (radix (group n m) ks) i 1 (omega (arith, radix_long n m ks l))
        ∙ sym (ap (λ k. cond (eqb (m / 2 ^ i % 2) 1) k 1) (get_or_past ks i 1 (omega arith)) ∙ one_way (eqb (m / 2 ^ i % 2) 1) 1)

    each : (i : ℕ) → i < 6 → get_or (radix (group 6 m) (six 1 ks)) i 1 ≡ get_or (six 1 (radix (group n m) ks)) i 1
    each i b = radix_at 6 m (six 1 ks) i (length-six 1 ks) b ∙ ap (λ k. cond (eqb (m / 2 ^ i % 2) 1) k 1) (six_at 1 ks i b)
        ∙ sym (six_at 1 (radix (group n m) ks) i b ∙ here i (cases_lt i n))

-- factors of 1 change no product
product_rest : (f : ℕ → ℕ) (n d : ℕ) → ((i : ℕ) → n ≤ i → i < n + d → f i ≡ 1) → big 1 ◌*◌ f (n + d) ≡ big 1 ◌*◌ f n
product_rest f n zero ones = ap (big 1 ◌*◌ f) (omega arith)
product_rest f n (suc d) ones =
    let e : n + suc d ≡ suc (n + d) = omega arith in
    ap (big 1 ◌*◌ f) e ∙ ap₂ ◌*◌ (product_rest f n d (λ i a b. ones i a (omega arith))) (ones (n + d) (omega arith) (omega arith)) ∙ mul-one (big 1 ◌*◌ f n)

-- the product of the radices at the first places, where only the places of the dimensions matter
pub width_alike : (p q : ℕ → ℕ) (ks : List ℕ) (x : ℕ) → ((i : ℕ) → i < length ks → p i ≡ q i) → width p ks x ≡ width q ks x
width_alike p q ks x same = big_cong 1 ◌*◌ products (λ j. cond (ltb (p j) x) (get_or ks j 1) 1) (λ j. cond (ltb (q j) x) (get_or ks j 1) 1) (length ks)
    (λ i l. ap (λ y. cond (ltb y x) (get_or ks i 1) 1) (same i l))

pub width_six : (place : ℕ → ℕ) (ks : List ℕ) (x : ℕ) → length ks ≤ 6 → width place (six 1 ks) x ≡ width place ks x
width_six place ks x few =
    ap (big 1 ◌*◌ filled) (length-six 1 ks ∙ sum)
    ∙ product_rest filled (length ks) (6 - length ks) past
    ∙ big_cong 1 ◌*◌ products filled (λ j. cond (ltb (place j) x) (get_or ks j 1) 1) (length ks) (λ i l. ap (λ k. cond (ltb (place i) x) k 1) (six_at 1 ks i (omega arith)))
  where
    filled : ℕ → ℕ
    filled = λ j. cond (ltb (place j) x) (get_or (six 1 ks) j 1) 1

    sum : 6 ≡ length ks + (6 - length ks)
    sum = omega arith

    past : (i : ℕ) → length ks ≤ i → i < length ks + (6 - length ks) → filled i ≡ 1
    past i a b = ap (λ k. cond (ltb (place i) x) k 1) (six_at 1 ks i (omega arith) ∙ get_or_past ks i 1 a) ∙ one_way (ltb (place i) x) 1

-- the digits of a scan number
pub scan_long : (p : ℕ → ℕ) (ks : List ℕ) (s : ℕ) → length (scan_digits p ks s) ≡ length ks
scan_long p ks s = length-map-range_with_len (λ i. s / weight p ks i % get_or ks i 1) 0 (length ks)

pub scan_at : (p : ℕ → ℕ) (ks : List ℕ) (s i : ℕ) → i < length ks → get_or (scan_digits p ks s) i 0 ≡ s / width p ks (p i) % get_or ks i 1
scan_at p ks s i l = get_or-map-range_with_len (λ j. s / weight p ks j % get_or ks j 1) 0 (length ks) i i 0 l (omega arith)

pub scan_six : (p q : ℕ → ℕ) (ks : List ℕ) (s : ℕ) → length ks ≤ 6 → ((i : ℕ) → i < length ks → p i ≡ q i) → scan_digits p (six 1 ks) s ≡ six 0 (scan_digits q ks s)
scan_six p q ks s few same = ext_get_or 0 (scan_digits p (six 1 ks) s) (six 0 (scan_digits q ks s)) (long ∙ sym (length-six 0 (scan_digits q ks s)))
    (λ i b. each i (omega (arith, long)))
  where
    long : length (scan_digits p (six 1 ks) s) ≡ 6
    long = scan_long p (six 1 ks) s ∙ length-six 1 ks

    weigh : (i : ℕ) → i < 6 → get_or (scan_digits p (six 1 ks) s) i 0 ≡ s / width p ks (p i) % get_or ks i 1
    weigh i b = scan_at p (six 1 ks) s i (omega (arith, length-six 1 ks)) ∙ ap₂ (λ w k. s / w % k) (width_six p ks (p i) few) (six_at 1 ks i b)

    here : (i : ℕ) → (i < length ks) ⊎ (length ks ≤ i) → s / width p ks (p i) % get_or ks i 1 ≡ get_or (scan_digits q ks s) i 0
    here i (inl b) = ap (λ w. s / w % get_or ks i 1) (width_alike p q ks (p i) same ∙ ap (width q ks) (same i b)) ∙ sym (scan_at q ks s i b)
    here i (inr b) = ap (λ k. s / width p ks (p i) % k) (get_or_past ks i 1 b) ∙ omega arith ∙ sym (get_or_past (scan_digits q ks s) i 0 (omega (arith, scan_long q ks s)))

    each : (i : ℕ) → i < 6 → get_or (scan_digits p (six 1 ks) s) i 0 ≡ get_or (six 0 (scan_digits q ks s)) i 0
    each i b = weigh i b ∙ here i (cases_lt i (length ks)) ∙ sym (six_at 0 (scan_digits q ks s) i b)

-- they lie inside
inside_each : (ks xs : List ℕ) → length xs ≡ length ks → ((i : ℕ) → i < length ks → get_or xs i 0 < get_or ks i 1) → inside ks xs ≡ true
inside_each [] [] l small = refl
inside_each [] (x ∷ xs) l small = absurd (omega arith)
inside_each (k ∷ ks) [] l small = absurd (omega arith)
inside_each (k ∷ ks) (x ∷ xs) l small = rw (lt-ltb x k (small 0 (omega arith))) (inside_each ks xs (omega arith) (λ i b. small (suc i) (omega arith)))

pub scan_inside : (p : ℕ → ℕ) (ks : List ℕ) (s : ℕ) → ((i : ℕ) → i < length ks → 0 < get_or ks i 1) → inside ks (scan_digits p ks s) ≡ true
scan_inside p ks s some = inside_each ks (scan_digits p ks s) (scan_long p ks s) (λ i l. omega (arith, scan_at p ks s i l, some i l))
