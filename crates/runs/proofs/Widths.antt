-- The radices of a group, and the product of those at the first places.
use Rattle.std.proofs.Common.{◌≡◌, ℕ, zero, suc, ◌+◌, ◌*◌, ◌/◌, ◌%◌, ◌^◌, ◌<◌, ◌≤◌, Bool, true, false, cond, eqb, ltb, ◌⊎◌, List, [], ◌∷◌, length, get_or, sym, refl, ap, ◌∙◌, ap₂, subst, inl, inr, arith}
use Rattle.std.proofs.lemmas.List.{get_or_default}
use Rattle.std.proofs.lemmas.Nat.{mul-le}
use Rattle.std.proofs.lemmas.Bool.{cases_eq}
use Rattle.shapes.specs.Arrays.{product, radix, group}
use Rattle.shapes.proofs.Masks.{keeps_bit, length-group}
use Rattle.plans.specs.Views.{place_in}
use Rattle.cubes.specs.Summaries.{big}
use Rattle.cubes.specs.Scans.{width}
use Rattle.shapes.proofs.Radixes.{length-radix}
use Rattle.cubes.proofs.Joins.{big_first, big_last}
use Rattle.cubes.proofs.RegionSteps.{getD_radix_any}
use Rattle.cubes.proofs.ScanNumbers.{products}

-- the radices of a group of n dimensions
pub radix_long : (n m : ℕ) (ks : List ℕ) → length ks ≡ n → length (radix (group n m) ks) ≡ n
radix_long n m ks l = length-radix (group n m) ks (length-group n m ∙ sym l) ∙ l

pub radix_at : (n m : ℕ) (ks : List ℕ) (i : ℕ) → length ks ≡ n → i < n → get_or (radix (group n m) ks) i 1 ≡ cond (eqb (m / 2 ^ i % 2) 1) (get_or ks i 1) 1
radix_at n m ks i l h =
    getD_radix_any (group n m) ks i (omega (arith, length-group n m)) (omega (arith, l))
    ∙ ap (λ b. cond b (get_or ks i 1) 1) (keeps_bit n m i h)

-- products over the first i numbers
pub product_front_le : (f g : ℕ → ℕ) (n i : ℕ) → i ≤ n → ((j : ℕ) → j < n → (1 ≤ f j) × (f j ≤ g j)) → (1 ≤ big 1 ◌*◌ f i) × (big 1 ◌*◌ f i ≤ big 1 ◌*◌ g n)
product_front_le f g zero i l h = let e : i ≡ 0 = omega arith in rw e (omega arith, omega arith)
product_front_le f g (suc n) i l h = at (h n (omega arith)) (λ k b. product_front_le f g n k b (λ j q. h j (omega arith))) (cases_eq i (suc n))
  where
    at : (1 ≤ f n) × (f n ≤ g n) → ((k : ℕ) → k ≤ n → (1 ≤ big 1 ◌*◌ f k) × (big 1 ◌*◌ f k ≤ big 1 ◌*◌ g n)) → (i ≡ suc n) ⊎ (i ≡ suc n → ⊥)
        → (1 ≤ big 1 ◌*◌ f i) × (big 1 ◌*◌ f i ≤ big 1 ◌*◌ g (suc n))
    at last ih (inl e) =
        let r = ih n (omega arith) in
        rw e (omega (arith, mul-le 1 1 (big 1 ◌*◌ f n) (f n) r.0 last.0), mul-le (big 1 ◌*◌ f n) (f n) (big 1 ◌*◌ g n) (g n) r.1 last.1)
    at last ih (inr e) =
        let r = ih i (omega arith) in
        let up : 1 ≤ g n = omega (arith, last.0, last.1) in
        let same : big 1 ◌*◌ g n ≤ big 1 ◌*◌ g n = omega arith in
        (r.0, omega (arith, r.1, mul-le (big 1 ◌*◌ g n) 1 (big 1 ◌*◌ g n) (g n) same up))

pub big_product : (ks : List ℕ) → big 1 ◌*◌ (λ j. get_or ks j 1) (length ks) ≡ product ks
big_product [] = refl
big_product (k ∷ ks) = big_first 1 ◌*◌ products (λ j. get_or (k ∷ ks) j 1) (length ks) ∙ ap (λ z. k * z) (big_product ks)

-- the product of the radices at places before p, of the first i dimensions
unfoldable pub part : (ℕ → ℕ) → List ℕ → ℕ → ℕ → ℕ
part place ks p i = big 1 ◌*◌ (λ j. cond (ltb (place j) p) (get_or ks j 1) 1) i

pub part_none : (place : ℕ → ℕ) (ks : List ℕ) (p : ℕ) → part place ks p 0 ≡ 1
unfolding part
part_none place ks p = refl

pub part_more : (place : ℕ → ℕ) (ks : List ℕ) (p i : ℕ) → part place ks p i * cond (ltb (place i) p) (get_or ks i 1) 1 ≡ part place ks p (i + 1)
unfolding part
part_more place ks p i = sym (big_last 1 ◌*◌ products (λ j. cond (ltb (place j) p) (get_or ks j 1) 1) i)

pub part_all : (place : ℕ → ℕ) (ks : List ℕ) (p i : ℕ) → i ≡ length ks → part place ks p i ≡ width place ks p
unfolding part
part_all place ks p i e = ap (λ k. big 1 ◌*◌ (λ j. cond (ltb (place j) p) (get_or ks j 1) 1) k) e

one_or_more : (b : Bool) (k : ℕ) → 0 < k → (1 ≤ cond b k 1) × (cond b k 1 ≤ k)
one_or_more true k l = (omega arith, omega arith)
one_or_more false k l = (omega arith, omega arith)

pub part_small : (place : ℕ → ℕ) (ks : List ℕ) (p i : ℕ) → ((j : ℕ) → j < length ks → 0 < get_or ks j 1) → i ≤ length ks
    → (1 ≤ part place ks p i) × (part place ks p i ≤ product ks)
unfolding part
part_small place ks p i some l =
    let r = product_front_le (λ j. cond (ltb (place j) p) (get_or ks j 1) 1) (λ j. get_or ks j 1) (length ks) i l (λ j h. one_or_more (ltb (place j) p) (get_or ks j 1) (some j h)) in
    (r.0, subst (λ k. big 1 ◌*◌ (λ j. cond (ltb (place j) p) (get_or ks j 1) 1) i ≤ k) (big_product ks) r.1)

pub width_some : (place : ℕ → ℕ) (ks : List ℕ) (p : ℕ) → ((i : ℕ) → i < length ks → 0 < get_or ks i 1) → 0 < width place ks p
width_some place ks p some = omega (arith, part_all place ks p (length ks) refl, (part_small place ks p (length ks) some (omega arith)).0)

-- the same for six radices, as code reads them
pub each_some : (radices : List ℕ) → length radices ≡ 6 → ((i : ℕ) → i < 6 → 1 ≤ get_or radices i 0) → (i : ℕ) → i < length radices → 0 < get_or radices i 1
each_some radices long some i l = omega (arith, some i (omega arith), get_or_default radices i 0 1 l)

module _ (radices places : List ℕ) (p : ℕ) (long : length radices ≡ 6) (some : (i : ℕ) → i < 6 → 1 ≤ get_or radices i 0) (small : product radices ≤ 2 ^ 34) where
  pub before_more : (i so_far f : ℕ) → i < 6 → so_far ≡ part (place_in places) radices p i → f ≡ cond (ltb (get_or places i 0) p) (get_or radices i 0) 1
      → (so_far * f ≡ part (place_in places) radices p (i + 1)) × (so_far * f ≤ 2 ^ 34)
  before_more i so_far f l e is = (more, omega (arith, more, small, (part_small (place_in places) radices p (i + 1) (each_some radices long some) (omega arith)).1))
    where
      more : so_far * f ≡ part (place_in places) radices p (i + 1)
      more = ap₂ ◌*◌ e (is ∙ ap (λ k. cond (ltb (get_or places i 0) p) k 1) (get_or_default radices i 0 1 (omega arith))) ∙ part_more (place_in places) radices p i
