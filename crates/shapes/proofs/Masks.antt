-- Masks and groups.
use Rattle.std.proofs.Common.{◌≡◌, ℕ, zero, suc, ◌+◌, ◌-◌, ◌*◌, ◌/◌, ◌%◌, ◌^◌, ◌<◌, Bool, true, false, cond, eqb, [], ◌∷◌, length, set, sym, refl, ap, ◌∙◌, one-add, arith}
use native.Mathlib.Nat.{pow-succ', one-le-pow}
use lib.Bits.{bit_and}
use Rattle.std.specs.List.{prefix_len}
use Rattle.std.proofs.lemmas.Nat.{shr-shr, and_mask}
use Rattle.std.proofs.lemmas.Bool.{eqb-true, eqb-false}
use Rattle.shapes.specs.Arrays.{Group, group, keeps, mask}
use Rattle.shapes.specs.Laws.{MasksNumber}

pub group_even : (n k : ℕ) → group (suc n) (2 * k) ≡ false ∷ group n k
group_even n k =
    let e : 2 * k % 2 ≡ 0 = omega arith in
    let d : 2 * k / 2 ≡ k = omega arith in
    rw (e, d) refl

pub group_odd : (n k : ℕ) → group (suc n) (2 * k + 1) ≡ true ∷ group n k
group_odd n k =
    let e : (2 * k + 1) % 2 ≡ 1 = omega arith in
    let d : (2 * k + 1) / 2 ≡ k = omega arith in
    rw (e, d) refl

-- bit i of a mask says whether the group keeps dimension i
pub keeps_bit : (n m i : ℕ) → i < n → keeps (group n m) i ≡ eqb (m / 2 ^ i % 2) 1
keeps_bit zero m i h = absurd (omega arith)
keeps_bit (suc n) m zero h = let e : m / 1 ≡ m = omega arith in rw e refl
keeps_bit (suc n) m (suc i) h =
    keeps_bit n (m / 2) i (omega arith) ∙ ap (λ k. eqb (k % 2) 1) (shr-shr m 1 i ∙ ap (λ k. m / 2 ^ k) (one-add i))

-- as code tests it
pub keeps_and : (n m i : ℕ) → i < n → keeps (group n m) i ≡ eqb (bit_and (m / 2 ^ i) 1) 1
keeps_and n m i h = keeps_bit n m i h ∙ ap (λ k. eqb k 1) (sym (and_mask (m / 2 ^ i) 1))

-- to add a dimension to a group is to add its power of two to the mask
pub group_with : (n m e : ℕ) → keeps (group n m) e ≡ false → group n (m + 2 ^ e) ≡ set (group n m) e true
group_with zero m e k = refl
group_with (suc n) m zero k =
    let z : m % 2 ≡ 0 = omega (arith, eqb-false (m % 2) 1 k) in
    let o : (m + 1) % 2 ≡ 1 = omega arith in
    let d : (m + 1) / 2 ≡ m / 2 = omega arith in
    rw (o, d) refl
group_with (suc n) m (suc e) k =
    let p : 2 ^ suc e ≡ 2 * 2 ^ e = pow-succ' 2 e in
    let o : (m + 2 ^ suc e) % 2 ≡ m % 2 = omega arith in
    let d : (m + 2 ^ suc e) / 2 ≡ m / 2 + 2 ^ e = omega arith in
    rw (o, d) (ap (λ g. eqb (m % 2) 1 ∷ g) (group_with n (m / 2) e k))

-- the root keeps every dimension
root_odd : (n : ℕ) → 2 ^ suc n - 1 ≡ 2 * (2 ^ n - 1) + 1
root_odd n = omega (arith, one-le-pow n 2 (omega arith), pow-succ' 2 n)

pub keeps_root : (n i : ℕ) → i < n → keeps (group n (2 ^ n - 1)) i ≡ true
keeps_root zero i h = absurd (omega arith)
keeps_root (suc n) zero h = ap (λ m. keeps (group (suc n) m) 0) (root_odd n) ∙ ap (λ g. keeps g 0) (group_odd n (2 ^ n - 1))
keeps_root (suc n) (suc i) h =
    ap (λ m. keeps (group (suc n) m) (suc i)) (root_odd n)
    ∙ (ap (λ g. keeps g (suc i)) (group_odd n (2 ^ n - 1)) ∙ keeps_root n i (omega arith))

pub length-group : (n m : ℕ) → length (group n m) ≡ n
length-group zero m = refl
length-group (suc n) m = ap suc (length-group n (m / 2))

-- every other group lacks one, and the lowest that it lacks comes after its leading kept ones
pub lowest_lacks : (n m : ℕ) → m + 1 < 2 ^ n → (prefix_len (λ kept. kept) (group n m) < n) × (keeps (group n m) (prefix_len (λ kept. kept) (group n m)) ≡ false)
lowest_lacks zero m h = absurd (omega arith)
lowest_lacks (suc n) m h = go (eqb (m % 2) 1) refl (lowest_lacks n (m / 2))
  where
    L : Group → ℕ
    L g = prefix_len (λ kept. kept) g

    go : (b : Bool) → eqb (m % 2) 1 ≡ b → (m / 2 + 1 < 2 ^ n → (L (group n (m / 2)) < n) × (keeps (group n (m / 2)) (L (group n (m / 2))) ≡ false))
        → (L (b ∷ group n (m / 2)) < suc n) × (keeps (b ∷ group n (m / 2)) (L (b ∷ group n (m / 2))) ≡ false)
    go true e ih =
        let r = ih (omega (arith, eqb-true (m % 2) 1 e, pow-succ' 2 n)) in
        (omega (arith, r.0), rw (one-add (L (group n (m / 2)))) r.1)
    go false e ih = (omega arith, refl)

-- the mask of the group of a mask is that mask, and every group is the group of its mask
pub mask-group : (n m : ℕ) → m < 2 ^ n → mask (group n m) ≡ m
mask-group zero m h = omega arith
mask-group (suc n) m h = go (eqb (m % 2) 1) refl (mask-group n (m / 2) (omega (arith, pow-succ' 2 n)))
  where
    go : (b : Bool) → eqb (m % 2) 1 ≡ b → mask (group n (m / 2)) ≡ m / 2 → cond b 1 0 + 2 * mask (group n (m / 2)) ≡ m
    go true e ih = omega (arith, eqb-true (m % 2) 1 e)
    go false e ih = omega (arith, eqb-false (m % 2) 1 e)

pub group-mask : (g : Group) → group (length g) (mask g) ≡ g
group-mask [] = refl
group-mask (false ∷ g) =
    let e : 0 + 2 * mask g ≡ 2 * mask g = omega arith in
    rw e (group_even (length g) (mask g) ∙ ap (λ k. false ∷ k) (group-mask g))
group-mask (true ∷ g) =
    let e : 1 + 2 * mask g ≡ 2 * mask g + 1 = omega arith in
    rw e (group_odd (length g) (mask g) ∙ ap (λ k. true ∷ k) (group-mask g))

pub mask_below : (g : Group) → mask g < 2 ^ length g
mask_below [] = omega arith
mask_below (true ∷ g) = omega (arith, mask_below g, pow-succ' 2 (length g))
mask_below (false ∷ g) = omega (arith, mask_below g, pow-succ' 2 (length g))

pub masks_number : MasksNumber
masks_number = record { of_mask = λ n m h. (length-group n m, mask-group n m h); of_group = λ g. (mask_below g, group-mask g) }
