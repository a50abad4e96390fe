-- Scan numbers: no two blocks share one, each number below the number of blocks is one, and they rise with the coordinates.
use Rattle.std.proofs.Common.{◌≡◌, ℕ, zero, suc, ◌+◌, ◌*◌, ◌/◌, ◌%◌, ◌<◌, ◌≤◌, ◌⊎◌, List, [], ◌∷◌, length, get_or, sym, refl, ap, ◌∙◌, ap₂, inl, inr, add-zero, add_assoc, add-suc, mul-le-mul_right, mod-lt, mod-eq_of_lt, mul_assoc, mul_comm, add_comm, mul-le-mul_left, mul-pos, one-mul, zero-add, add-one, arith}
use native.Mathlib.Nat.{mul-add-div_right}
use lib.Arith.{digits_lt, digits_div, digits_mod, mod-mul}
use Rattle.std.proofs.lemmas.List.{ext_get_or}
use Rattle.std.proofs.lemmas.List.FromFn.{length-map-range_with_len, get_or-map-range_with_len}
use Rattle.std.proofs.lemmas.Nat.{div_below}
use Rattle.std.proofs.lemmas.Bool.{cases_eq, cases_lt}
use Rattle.shapes.specs.Arrays.{product, Below}
use Rattle.shapes.proofs.Numbering.{below_length, below_getD}
use Rattle.measures.specs.Laws.{Lawful}
use Rattle.cubes.specs.Summaries.{big}
use Rattle.cubes.specs.Scans.{width, weight, scan_number, scan_digits, Injective}
use Rattle.cubes.proofs.Joins.{big_first}
use Rattle.cubes.proofs.Contents.{so_far, so_far_none, so_far_all, so_far_hit, so_far_miss}

pub sums : Lawful 0 ◌+◌
sums = record { assoc = add_assoc; comm = add_comm; neutral = zero-add }

pub products : Lawful 1 ◌*◌
products = record { assoc = mul_assoc; comm = mul_comm; neutral = one-mul }

pub below_from_getD : (ks cs : List ℕ) → length cs ≡ length ks → ((i : ℕ) → i < length ks → get_or cs i 0 < get_or ks i 1) → Below ks cs
below_from_getD [] [] l h = tt
below_from_getD [] (c ∷ cs) l h = absurd (omega arith)
below_from_getD (k ∷ ks) [] l h = absurd (omega arith)
below_from_getD (k ∷ ks) (c ∷ cs) l h = (h 0 (omega arith), below_from_getD ks cs (omega arith) (λ i m. h (suc i) (omega arith)))

product_positive : (ks : List ℕ) (i : ℕ) → 0 < product ks → 0 < get_or ks i 1
product_positive [] i l = omega arith
product_positive (zero ∷ ks) i l = absurd (omega arith)
product_positive (suc k ∷ ks) zero l = omega arith
product_positive (suc k ∷ ks) (suc i) l = product_positive ks i (rest (product ks) l)
  where
    rest : (p : ℕ) → 0 < suc k * p → 0 < p
    rest zero y = absurd (omega arith)
    rest (suc p) y = omega arith

-- the place p holds a dimension below n, or none
pub search_place : (place : ℕ → ℕ) (n p : ℕ) → ((i : ℕ) × (i < n) × (place i ≡ p)) ⊎ ((i : ℕ) → i < n → place i ≡ p → ⊥)
search_place place zero p = inr (λ i l q. omega arith)
search_place place (suc n) p = at (cases_eq (place n) p) (search_place place n p)
  where
    at : (place n ≡ p) ⊎ (place n ≡ p → ⊥) → ((i : ℕ) × (i < n) × (place i ≡ p)) ⊎ ((i : ℕ) → i < n → place i ≡ p → ⊥)
        → ((i : ℕ) × (i < suc n) × (place i ≡ p)) ⊎ ((i : ℕ) → i < suc n → place i ≡ p → ⊥)
    at (inl q) r = inl (n, omega arith, q)
    at (inr ne) (inl r) = inl (r.0, omega (arith, r.1), r.2)
    at (inr ne) (inr r) = inr (λ i l q. last i l q (cases_eq i n))
      where
        last : (i : ℕ) → i < suc n → place i ≡ p → (i ≡ n) ⊎ (i ≡ n → ⊥) → ⊥
        last i l q (inl z) = ne (sym (ap place z) ∙ q)
        last i l q (inr z) = r i (omega arith) q

-- the part of the scan number that the places before p make
abbrev pub low_part : (ℕ → ℕ) → List ℕ → List ℕ → ℕ → ℕ
low_part place ks cs p = so_far 0 ◌+◌ (λ i. get_or cs i 0 * weight place ks i) place (length ks) p

module _ (place : ℕ → ℕ) (ks : List ℕ) (distinct : (i j : ℕ) → i < length ks → j < length ks → place i ≡ place j → i ≡ j) where
  -- the step from the places before p to those before p + 1
  pub width_hit : (p i : ℕ) → i < length ks → place i ≡ p → width place ks (suc p) ≡ width place ks p * get_or ks i 1
  width_hit p i l q = ap (width place ks) (sym (add-one p))
      ∙ so_far_hit 1 ◌*◌ products (λ j. get_or ks j 1) place (length ks) p i l q (λ k m r. distinct k i m l (r ∙ sym q))

  pub width_miss : (p : ℕ) → ((i : ℕ) → i < length ks → place i ≡ p → ⊥) → width place ks (suc p) ≡ width place ks p
  width_miss p none = ap (width place ks) (sym (add-one p)) ∙ so_far_miss 1 ◌*◌ products (λ j. get_or ks j 1) place (length ks) p none

  pub low_hit : (cs : List ℕ) (p i : ℕ) → i < length ks → place i ≡ p → low_part place ks cs (suc p) ≡ get_or cs i 0 * width place ks p + low_part place ks cs p
  low_hit cs p i l q =
      ap (low_part place ks cs) (sym (add-one p))
      ∙ so_far_hit 0 ◌+◌ sums (λ j. get_or cs j 0 * weight place ks j) place (length ks) p i l q (λ k m r. distinct k i m l (r ∙ sym q))
      ∙ add_comm (low_part place ks cs p) (get_or cs i 0 * weight place ks i)
      ∙ ap (λ z. get_or cs i 0 * width place ks z + low_part place ks cs p) q

  pub low_miss : (cs : List ℕ) (p : ℕ) → ((i : ℕ) → i < length ks → place i ≡ p → ⊥) → low_part place ks cs (suc p) ≡ low_part place ks cs p
  low_miss cs p none = ap (low_part place ks cs) (sym (add-one p)) ∙ so_far_miss 0 ◌+◌ sums (λ j. get_or cs j 0 * weight place ks j) place (length ks) p none

  pub low_zero : (cs : List ℕ) → low_part place ks cs 0 ≡ 0
  low_zero cs = so_far_none 0 ◌+◌ sums (λ i. get_or cs i 0 * weight place ks i) place (length ks) 0 (λ k l. omega arith)

  pub width_zero : width place ks 0 ≡ 1
  width_zero = so_far_none 1 ◌*◌ products (λ j. get_or ks j 1) place (length ks) 0 (λ k l. omega arith)

  pub low_below : (cs : List ℕ) → Below ks cs → (p : ℕ) → low_part place ks cs p < width place ks p
  low_below cs b zero = omega (arith, low_zero cs, width_zero)
  low_below cs b (suc p) = at (search_place place (length ks) p) (low_below cs b p)
    where
      at : ((i : ℕ) × (i < length ks) × (place i ≡ p)) ⊎ ((i : ℕ) → i < length ks → place i ≡ p → ⊥) → low_part place ks cs p < width place ks p
          → low_part place ks cs (suc p) < width place ks (suc p)
      at (inl r) ih = rw (low_hit cs p r.0 r.1 r.2, width_hit p r.0 r.1 r.2, mul_comm (width place ks p) (get_or ks r.0 1))
          (digits_lt (below_getD ks cs r.0 0 1 b r.1) ih)
      at (inr r) ih = rw (low_miss cs p r, width_miss p r) ih

  -- the low part tells the coordinates at its places
  pub low_injective : (a b : List ℕ) → Below ks a → Below ks b → (p : ℕ) → low_part place ks a p ≡ low_part place ks b p → (i : ℕ) → i < length ks → place i < p
      → get_or a i 0 ≡ get_or b i 0
  low_injective a b ba bb zero same i l q = absurd (omega arith)
  low_injective a b ba bb (suc p) same i l q = at (search_place place (length ks) p) (low_injective a b ba bb p)
    where
      at : ((j : ℕ) × (j < length ks) × (place j ≡ p)) ⊎ ((j : ℕ) → j < length ks → place j ≡ p → ⊥)
          → (low_part place ks a p ≡ low_part place ks b p → (j : ℕ) → j < length ks → place j < p → get_or a j 0 ≡ get_or b j 0) → get_or a i 0 ≡ get_or b i 0
      at (inr r) ih = ih (sym (low_miss a p r) ∙ same ∙ low_miss b p r) i l (earlier (cases_eq (place i) p))
        where
          earlier : (place i ≡ p) ⊎ (place i ≡ p → ⊥) → place i < p
          earlier (inl z) = absurd (r i l z)
          earlier (inr z) = omega arith
      at (inl (j, m, z)) ih = last (cases_eq (place i) p)
        where
          both : get_or a j 0 * width place ks p + low_part place ks a p ≡ get_or b j 0 * width place ks p + low_part place ks b p
          both = sym (low_hit a p j m z) ∙ same ∙ low_hit b p j m z

          digit : get_or a j 0 ≡ get_or b j 0
          digit = sym (digits_div (get_or a j 0) (low_below a ba p)) ∙ ap (λ n. n / width place ks p) both ∙ digits_div (get_or b j 0) (low_below b bb p)

          rest : low_part place ks a p ≡ low_part place ks b p
          rest = sym (digits_mod (get_or a j 0) (low_below a ba p)) ∙ ap (λ n. n % width place ks p) both ∙ digits_mod (get_or b j 0) (low_below b bb p)

          last : (place i ≡ p) ⊎ (place i ≡ p → ⊥) → get_or a i 0 ≡ get_or b i 0
          last (inl y) = ap (λ n. get_or a n 0) (distinct i j l m (y ∙ sym z)) ∙ digit ∙ ap (λ n. get_or b n 0) (sym (distinct i j l m (y ∙ sym z)))
          last (inr y) = ih rest i l (omega arith)

  -- the low part is one less than the width just where each of its coordinates is the highest
  pub low_full : (cs : List ℕ) (p : ℕ) → ((i : ℕ) → i < length ks → place i < p → get_or cs i 0 + 1 ≡ get_or ks i 1) → low_part place ks cs p + 1 ≡ width place ks p
  low_full cs zero high = omega (arith, low_zero cs, width_zero)
  low_full cs (suc p) high = at (search_place place (length ks) p) (low_full cs p (λ i l m. high i l (omega arith)))
    where
      at : ((i : ℕ) × (i < length ks) × (place i ≡ p)) ⊎ ((i : ℕ) → i < length ks → place i ≡ p → ⊥) → low_part place ks cs p + 1 ≡ width place ks p
          → low_part place ks cs (suc p) + 1 ≡ width place ks (suc p)
      at (inl (i, l, z)) ih = rw (low_hit cs p i l z, width_hit p i l z, ← (high i l (omega arith))) (omega arith)
      at (inr r) ih = rw (low_miss cs p r, width_miss p r) ih

  pub full_low : (cs : List ℕ) → Below ks cs → (p : ℕ) → low_part place ks cs p + 1 ≡ width place ks p → (i : ℕ) → i < length ks → place i < p → get_or cs i 0 + 1
      ≡ get_or ks i 1
  full_low cs b zero full i l q = absurd (omega arith)
  full_low cs b (suc p) full i l q = at (search_place place (length ks) p) (full_low cs b p)
    where
      at : ((j : ℕ) × (j < length ks) × (place j ≡ p)) ⊎ ((j : ℕ) → j < length ks → place j ≡ p → ⊥)
          → (low_part place ks cs p + 1 ≡ width place ks p → (j : ℕ) → j < length ks → place j < p → get_or cs j 0 + 1 ≡ get_or ks j 1) → get_or cs i 0 + 1 ≡ get_or ks i 1
      at (inr r) ih = ih (ap (λ z. z + 1) (sym (low_miss cs p r)) ∙ full ∙ width_miss p r) i l (earlier (cases_eq (place i) p))
        where
          earlier : (place i ≡ p) ⊎ (place i ≡ p → ⊥) → place i < p
          earlier (inl z) = absurd (r i l z)
          earlier (inr z) = omega arith
      at (inl (j, m, z)) ih = last (cases_eq (place i) p)
        where
          whole : get_or cs j 0 * width place ks p + low_part place ks cs p + 1 ≡ width place ks p * get_or ks j 1
          whole = ap (λ n. n + 1) (sym (low_hit cs p j m z)) ∙ full ∙ width_hit p j m z

          less : low_part place ks cs p < width place ks p
          less = low_below cs b p

          top : get_or cs j 0 + 1 ≡ get_or ks j 1
          top = decide (cases_lt (get_or cs j 0 + 1) (get_or ks j 1))
            where
              decide : (get_or cs j 0 + 1 < get_or ks j 1) ⊎ (get_or ks j 1 ≤ get_or cs j 0 + 1) → get_or cs j 0 + 1 ≡ get_or ks j 1
              decide (inl y) = absurd (omega (arith, whole, less, mul-le-mul_left (width place ks p) y))
              decide (inr y) = omega (arith, below_getD ks cs j 0 1 b m)

          rest : low_part place ks cs p + 1 ≡ width place ks p
          rest = let w : get_or cs j 0 * width place ks p + low_part place ks cs p + 1 ≡ width place ks p * (get_or cs j 0 + 1) = whole
              ∙ ap (λ n. width place ks p * n) (sym top) in omega arith

          last : (place i ≡ p) ⊎ (place i ≡ p → ⊥) → get_or cs i 0 + 1 ≡ get_or ks i 1
          last (inl y) = rw (distinct i j l m (y ∙ sym z)) top
          last (inr y) = ih rest i l (omega arith)

  -- where the low part is 0 each of its coordinates is
  pub low_none : (cs : List ℕ) → Below ks cs → (p : ℕ) → low_part place ks cs p ≡ 0 → (i : ℕ) → i < length ks → place i < p → get_or cs i 0 ≡ 0
  low_none cs b zero none i l q = absurd (omega arith)
  low_none cs b (suc p) none i l q = at (search_place place (length ks) p) (low_none cs b p)
    where
      at : ((j : ℕ) × (j < length ks) × (place j ≡ p)) ⊎ ((j : ℕ) → j < length ks → place j ≡ p → ⊥)
          → (low_part place ks cs p ≡ 0 → (j : ℕ) → j < length ks → place j < p → get_or cs j 0 ≡ 0) → get_or cs i 0 ≡ 0
      at (inr r) ih = ih (sym (low_miss cs p r) ∙ none) i l (earlier (cases_eq (place i) p))
        where
          earlier : (place i ≡ p) ⊎ (place i ≡ p → ⊥) → place i < p
          earlier (inl z) = absurd (r i l z)
          earlier (inr z) = omega arith
      at (inl (j, m, z)) ih = last (cases_eq (place i) p)
        where
          whole : get_or cs j 0 * width place ks p + low_part place ks cs p ≡ 0
          whole = sym (low_hit cs p j m z) ∙ none

          digit : get_or cs j 0 ≡ 0
          digit = decide (cases_lt 0 (get_or cs j 0))
            where
              decide : (0 < get_or cs j 0) ⊎ (get_or cs j 0 ≤ 0) → get_or cs j 0 ≡ 0
              decide (inl y) = absurd (omega (arith, whole, low_below cs b p, mul-le-mul_right (width place ks p) y))
              decide (inr y) = omega arith

          last : (place i ≡ p) ⊎ (place i ≡ p → ⊥) → get_or cs i 0 ≡ 0
          last (inl y) = rw (distinct i j l m (y ∙ sym z)) digit
          last (inr y) = ih (omega (arith, whole)) i l (omega arith)

  -- the places from p on count in multiples of the width
  pub width_multiple : (p m : ℕ) → (t : ℕ) × (width place ks (p + m) ≡ t * width place ks p)
  width_multiple p zero = (1, ap (width place ks) (add-zero p) ∙ omega arith)
  width_multiple p (suc m) = at (search_place place (length ks) (p + m)) (width_multiple p m)
    where
      at : ((i : ℕ) × (i < length ks) × (place i ≡ p + m)) ⊎ ((i : ℕ) → i < length ks → place i ≡ p + m → ⊥) → (t : ℕ)
          × (width place ks (p + m) ≡ t * width place ks p) → (t : ℕ) × (width place ks (p + suc m) ≡ t * width place ks p)
      at (inl (i, l, z)) (t, e) = (t * get_or ks i 1, ap (width place ks) (add-suc p m) ∙ width_hit (p + m) i l z ∙ ap (λ n. n * get_or ks i 1) e ∙ omega arith)
      at (inr r) (t, e) = (t, ap (width place ks) (add-suc p m) ∙ width_miss (p + m) r ∙ e)

  pub low_split : (cs : List ℕ) (p m : ℕ) → (q : ℕ) × (low_part place ks cs (p + m) ≡ q * width place ks p + low_part place ks cs p)
  low_split cs p zero = (0, ap (low_part place ks cs) (add-zero p) ∙ omega arith)
  low_split cs p (suc m) = at (search_place place (length ks) (p + m)) (low_split cs p m) (width_multiple p m)
    where
      at : ((i : ℕ) × (i < length ks) × (place i ≡ p + m)) ⊎ ((i : ℕ) → i < length ks → place i ≡ p + m → ⊥) → (q : ℕ)
          × (low_part place ks cs (p + m) ≡ q * width place ks p + low_part place ks cs p)
          → (t : ℕ) × (width place ks (p + m) ≡ t * width place ks p) → (q : ℕ) × (low_part place ks cs (p + suc m) ≡ q * width place ks p + low_part place ks cs p)
      at (inl (i, l, z)) (q, e) (t, w) = (
        get_or cs i 0 * t + q,
        ap (low_part place ks cs) (add-suc p m) ∙ low_hit cs (p + m) i l z
            ∙ ap₂ (λ a b. get_or cs i 0 * a + b) w e ∙ omega arith,
      )
      at (inr r) (q, e) (t, w) = (q, ap (low_part place ks cs) (add-suc p m) ∙ low_miss cs (p + m) r ∙ e)

  -- the quotient by the width tells the coordinates from p on
  pub later_same : (a b : List ℕ) → Below ks a → Below ks b → (p m : ℕ) → low_part place ks a (p + m) / width place ks p
      ≡ low_part place ks b (p + m) / width place ks p
      → (i : ℕ) → i < length ks → p ≤ place i → place i < p + m → get_or a i 0 ≡ get_or b i 0
  later_same a b ba bb p zero same i l from to = absurd (omega arith)
  later_same a b ba bb p (suc m) same i l from to = at (search_place place (length ks) (p + m)) (later_same a b ba bb p m) (width_multiple p m)
    where
      at : ((j : ℕ) × (j < length ks) × (place j ≡ p + m)) ⊎ ((j : ℕ) → j < length ks → place j ≡ p + m → ⊥)
          → (low_part place ks a (p + m) / width place ks p ≡ low_part place ks b (p + m) / width place ks p → (j : ℕ) → j < length ks → p ≤ place j
          → place j < p + m → get_or a j 0 ≡ get_or b j 0)
          → (t : ℕ) × (width place ks (p + m) ≡ t * width place ks p) → get_or a i 0 ≡ get_or b i 0
      at (inr r) ih w = ih (ap (λ n. n / width place ks p) (sym (ap (low_part place ks a) (add-suc p m) ∙ low_miss a (p + m) r)) ∙ same
          ∙ ap (λ n. n / width place ks p) (ap (low_part place ks b) (add-suc p m) ∙ low_miss b (p + m) r)) i l from (earlier (cases_eq (place i) (p + m)))
        where
          earlier : (place i ≡ p + m) ⊎ (place i ≡ p + m → ⊥) → place i < p + m
          earlier (inl z) = absurd (r i l z)
          earlier (inr z) = omega arith
      at (inl (j, n, z)) ih (t, w) = last (cases_eq (place i) (p + m))
        where
          positive : 0 < width place ks p
          positive = omega (arith, low_below a ba p)

          part : (cs : List ℕ) → low_part place ks cs (p + suc m) / width place ks p ≡ get_or cs j 0 * t + low_part place ks cs (p + m) / width place ks p
          part cs = ap (λ v. v / width place ks p) (ap (low_part place ks cs) (add-suc p m) ∙ low_hit cs (p + m) j n z
              ∙ ap (λ v. get_or cs j 0 * v + low_part place ks cs (p + m)) w
              ∙ ap (λ v. v + low_part place ks cs (p + m)) (sym (mul_assoc (get_or cs j 0) t (width place ks p))))
              ∙ mul-add-div_right positive (get_or cs j 0 * t) (low_part place ks cs (p + m))

          less : (cs : List ℕ) → Below ks cs → low_part place ks cs (p + m) / width place ks p < t
          less cs b = div_below (low_part place ks cs (p + m)) (width place ks p) t positive (rw w at (low_below cs b (p + m)))

          both : get_or a j 0 * t + low_part place ks a (p + m) / width place ks p ≡ get_or b j 0 * t + low_part place ks b (p + m) / width place ks p
          both = sym (part a) ∙ same ∙ part b

          digit : get_or a j 0 ≡ get_or b j 0
          digit = sym (digits_div (get_or a j 0) (less a ba)) ∙ ap (λ v. v / t) both ∙ digits_div (get_or b j 0) (less b bb)

          rest : low_part place ks a (p + m) / width place ks p ≡ low_part place ks b (p + m) / width place ks p
          rest = sym (digits_mod (get_or a j 0) (less a ba)) ∙ ap (λ v. v % t) both ∙ digits_mod (get_or b j 0) (less b bb)

          last : (place i ≡ p + m) ⊎ (place i ≡ p + m → ⊥) → get_or a i 0 ≡ get_or b i 0
          last (inl y) = let k : i ≡ j = distinct i j l n (y ∙ sym z) in rw k digit
          last (inr y) = ih rest i l from (omega arith)

  -- past the number of dimensions all of the places are passed
  module _ (within : (i : ℕ) → i < length ks → place i < suc (length ks)) where
    pub scan_is_low : (cs : List ℕ) → low_part place ks cs (suc (length ks)) ≡ scan_number place ks cs
    scan_is_low cs = so_far_all 0 ◌+◌ sums (λ i. get_or cs i 0 * weight place ks i) place (length ks) (suc (length ks)) within

    pub width_is_product : width place ks (suc (length ks)) ≡ product ks
    width_is_product = so_far_all 1 ◌*◌ products (λ j. get_or ks j 1) place (length ks) (suc (length ks)) within ∙ whole ks
      where
        whole : (ks : List ℕ) → big 1 ◌*◌ (λ j. get_or ks j 1) (length ks) ≡ product ks
        whole [] = refl
        whole (k ∷ ks) = big_first 1 ◌*◌ products (λ j. get_or (k ∷ ks) j 1) (length ks) ∙ ap (λ z. k * z) (whole ks)

    -- scan numbers count up to the number of blocks
    pub scan_below : (cs : List ℕ) → Below ks cs → scan_number place ks cs < product ks
    scan_below cs b = rw (← scan_is_low cs, ← width_is_product) (low_below cs b (suc (length ks)))

    pub scan_apart : Injective (scan_number place ks) ks
    scan_apart a b ba bb same = ext_get_or 0 a b (below_length ks a ba ∙ sym (below_length ks b bb))
        (λ i l. low_injective a b ba bb (suc (length ks)) (scan_is_low a ∙ same ∙ sym (scan_is_low b)) i (rw (below_length ks a ba) at l)
        (within i (rw (below_length ks a ba) at l)))

    -- each number below the number of blocks is the scan number of one block
    module _ (positive : (i : ℕ) → 0 < get_or ks i 1) where
      pub width_positive : (p : ℕ) → 0 < width place ks p
      width_positive zero = rw width_zero (omega arith)
      width_positive (suc p) = at (search_place place (length ks) p) (width_positive p)
        where
          at : ((i : ℕ) × (i < length ks) × (place i ≡ p)) ⊎ ((i : ℕ) → i < length ks → place i ≡ p → ⊥) → 0 < width place ks p → 0 < width place ks (suc p)
          at (inl (i, l, z)) ih = rw (width_hit p i l z) (mul-pos ih (positive i))
          at (inr r) ih = rw (width_miss p r) ih

      module _ (d : ℕ) where
        digit_of : (i : ℕ) → i < length ks → get_or (scan_digits place ks d) i 0 ≡ d / width place ks (place i) % get_or ks i 1
        digit_of i l = get_or-map-range_with_len (λ j. d / weight place ks j % get_or ks j 1) 0 (length ks) i i 0 l (omega arith)

        pub scan_digits_within : Below ks (scan_digits place ks d)
        scan_digits_within = below_from_getD ks (scan_digits place ks d) (length-map-range_with_len (λ j. d / weight place ks j % get_or ks j 1) 0 (length ks))
            (λ i l. rw (digit_of i l) (mod-lt (d / width place ks (place i)) (positive i)))

        pub low_of_digits : (p : ℕ) → low_part place ks (scan_digits place ks d) p ≡ d % width place ks p
        low_of_digits zero = low_zero (scan_digits place ks d) ∙ sym (ap (λ z. d % z) width_zero ∙ omega arith)
        low_of_digits (suc p) = at (search_place place (length ks) p) (low_of_digits p)
          where
            at : ((i : ℕ) × (i < length ks) × (place i ≡ p)) ⊎ ((i : ℕ) → i < length ks → place i ≡ p → ⊥) → low_part place ks (scan_digits place ks d) p
                ≡ d % width place ks p
                → low_part place ks (scan_digits place ks d) (suc p) ≡ d % width place ks (suc p)
            at (inl (i, l, z)) ih =
                low_hit (scan_digits place ks d) p i l z
                ∙ ap₂ (λ a b. a * width place ks p + b) (digit_of i l ∙ ap (λ q. d / width place ks q % get_or ks i 1) z) ih
                ∙ sym (mod-mul d {m = get_or ks i 1} {c = width place ks p} (positive i) (width_positive p))
                ∙ ap (λ q. d % q) (mul_comm (get_or ks i 1) (width place ks p) ∙ sym (width_hit p i l z))
            at (inr r) ih = low_miss (scan_digits place ks d) p r ∙ ih ∙ ap (λ q. d % q) (sym (width_miss p r))

    module _ (d : ℕ) (less : d < product ks) where
      radix_positive : (i : ℕ) → 0 < get_or ks i 1
      radix_positive i = product_positive ks i (omega arith)

      pub scan_digits_below : Below ks (scan_digits place ks d)
      scan_digits_below = scan_digits_within radix_positive d

      pub scan_of_digits : scan_number place ks (scan_digits place ks d) ≡ d
      scan_of_digits = sym (scan_is_low (scan_digits place ks d)) ∙ low_of_digits radix_positive d (suc (length ks)) ∙ ap (λ q. d % q) width_is_product
          ∙ mod-eq_of_lt less

    pub digits_of_scan : (cs : List ℕ) → Below ks cs → scan_digits place ks (scan_number place ks cs) ≡ cs
    digits_of_scan cs b = scan_apart (scan_digits place ks (scan_number place ks cs)) cs (scan_digits_below (scan_number place ks cs) (scan_below cs b)) b
        (scan_of_digits (scan_number place ks cs) (scan_below cs b))

    -- the next scan number: either the places before p begin again, or those from p on stay
    module _ (a b : List ℕ) (ba : Below ks a) (bb : Below ks b) (next : scan_number place ks b ≡ scan_number place ks a + 1) (p m : ℕ)
        (all : p + m ≡ suc (length ks)) where
      split_of : (cs : List ℕ) → (q : ℕ) × (scan_number place ks cs ≡ q * width place ks p + low_part place ks cs p)
      split_of cs = let r = low_split cs p m in (r.0, sym (scan_is_low cs) ∙ ap (low_part place ks cs) (sym all) ∙ r.1)

      pub next_begins : low_part place ks a p + 1 ≡ width place ks p → low_part place ks b p ≡ 0
      next_begins full = at (split_of a) (split_of b)
        where
          positive : 0 < width place ks p
          positive = omega (arith, low_below a ba p)

          at : (q : ℕ) × (scan_number place ks a ≡ q * width place ks p + low_part place ks a p) → (q : ℕ)
              × (scan_number place ks b ≡ q * width place ks p + low_part place ks b p) → low_part place ks b p ≡ 0
          at (q, e) (r, f) = sym (digits_mod r (low_below b bb p)) ∙ ap (λ v. v % width place ks p) turn ∙ digits_mod (q + 1) positive
            where
              turn : r * width place ks p + low_part place ks b p ≡ (q + 1) * width place ks p + 0
              turn = omega (arith, e, f, next, full)

      pub next_stays : low_part place ks a p + 1 < width place ks p → (i : ℕ) → i < length ks → p ≤ place i → get_or b i 0 ≡ get_or a i 0
      next_stays less i l from = later_same b a bb ba p m (at (split_of a)) i l from (rw all (within i l))
        where
          at : (q : ℕ) × (scan_number place ks a ≡ q * width place ks p + low_part place ks a p) → low_part place ks b (p + m) / width place ks p
              ≡ low_part place ks a (p + m) / width place ks p
          at (q, e) =
              ap (λ v. v / width place ks p) (ap (low_part place ks b) all ∙ scan_is_low b ∙ next ∙ more)
              ∙ digits_div q less
              ∙ sym (digits_div q (low_below a ba p))
              ∙ ap (λ v. v / width place ks p) (sym e ∙ sym (scan_is_low a) ∙ ap (low_part place ks a) (sym all))
            where
              more : scan_number place ks a + 1 ≡ q * width place ks p + (low_part place ks a p + 1)
              more = omega (arith, e)

    -- the first scan number has every coordinate 0
    pub first_none : (cs : List ℕ) → Below ks cs → scan_number place ks cs ≡ 0 → (i : ℕ) → i < length ks → get_or cs i 0 ≡ 0
    first_none cs b none i l = low_none cs b (suc (length ks)) (scan_is_low cs ∙ none) i l (within i l)

-- a greater coordinate nowhere gives a greater number
pub sum_rising : (f g : ℕ → ℕ) (n : ℕ) → ((i : ℕ) → i < n → f i ≤ g i) → big 0 ◌+◌ f n ≤ big 0 ◌+◌ g n
sum_rising f g zero h = omega arith
sum_rising f g (suc n) h = omega (arith, sum_rising f g n (λ i l. h i (omega arith)), h n (omega arith))

pub scan_rising : (place : ℕ → ℕ) (ks a b : List ℕ) → ((i : ℕ) → i < length ks → get_or a i 0 ≤ get_or b i 0) → scan_number place ks a ≤ scan_number place ks b
scan_rising place ks a b h = sum_rising (λ i. get_or a i 0 * weight place ks i) (λ i. get_or b i 0 * weight place ks i) (length ks)
    (λ i l. mul-le-mul_right (weight place ks i) (h i l))
