-- Groups and masks of six.
use Rattle.std.proofs.Common.{◌≡◌, ℕ, ◌+◌, ◌*◌, ◌/◌, ◌%◌, ◌^◌, ◌<◌, ◌≤◌, true, false, cond, eqb, List, [], ◌∷◌, map, length, get_or, sym, refl, ap, ◌∙◌, ⊎_elim, arith, pow_mono}
use mir.Val.{bool_byte}
use native.Mathlib.Nat.{div-eq_of_lt}
use Rattle.std.proofs.lemmas.List.{ext_get_or, get_or_past, get_or-map}
use Rattle.std.proofs.lemmas.Bool.{cases_lt}
use Rattle.shapes.specs.Arrays.{Group, group, mask, keeps}
use Rattle.shapes.specs.Views.{six}
use Rattle.shapes.proofs.Masks.{keeps_bit, length-group}
use Rattle.shapes.proofs.Sixes.{length-six, six_at}

-- a mask of n dimensions has no bit from n on
no_bit : (n m i : ℕ) → m < 2 ^ n → n ≤ i → eqb (m / 2 ^ i % 2) 1 ≡ false
no_bit n m i h l =
    let up : 2 ^ n ≤ 2 ^ i = pow_mono l in
    let z : m / 2 ^ i ≡ 0 = div-eq_of_lt (omega arith) in
    ap (λ k. eqb (k % 2) 1) z

-- a mask of n dimensions as one of six
pub group_six : (n m : ℕ) → m < 2 ^ n → group 6 m ≡ six false (group n m)
group_six n m h = ext_get_or false (group 6 m) (six false (group n m)) (sym (length-six false (group n m))) at where
  past : (i : ℕ) → i < 6 → n ≤ i → keeps (group 6 m) i ≡ keeps (group n m) i
  past i l p = keeps_bit 6 m i l ∙ (no_bit n m i h p ∙ sym (get_or_past (group n m) i false (omega (arith, length-group n m))))

  at : (i : ℕ) → i < 6 → keeps (group 6 m) i ≡ get_or (six false (group n m)) i false
  at i l = ⊎_elim (λ b. keeps_bit 6 m i l ∙ sym (keeps_bit n m i b)) (past i l) (cases_lt i n) ∙ sym (six_at false (group n m) i l)

-- the number that `u32::from` makes of a flag
flag_bytes : (g : Group) → map bool_byte g ≡ map (λ b. cond b 1 0) g
flag_bytes [] = refl
flag_bytes (true ∷ g) = ap (λ ks. 1 ∷ ks) (flag_bytes g)
flag_bytes (false ∷ g) = ap (λ ks. 0 ∷ ks) (flag_bytes g)

-- the mask of six flags, flag by flag
flags_mask : (g : Group) → length g ≡ 6 → cond (keeps g 0) 1 0 + 2 * cond (keeps g 1) 1 0 + 4 * cond (keeps g 2) 1 0 + 8 * cond (keeps g 3) 1 0 + 16 * cond (keeps g 4) 1 0 + 32 * cond (keeps g 5) 1 0 ≡ mask g
flags_mask [] l = absurd (omega arith)
flags_mask (a ∷ []) l = absurd (omega arith)
flags_mask (a ∷ b ∷ []) l = absurd (omega arith)
flags_mask (a ∷ b ∷ c ∷ []) l = absurd (omega arith)
flags_mask (a ∷ b ∷ c ∷ d ∷ []) l = absurd (omega arith)
flags_mask (a ∷ b ∷ c ∷ d ∷ e ∷ []) l = absurd (omega arith)
flags_mask (a ∷ b ∷ c ∷ d ∷ e ∷ f ∷ []) l = omega arith
flags_mask (a ∷ b ∷ c ∷ d ∷ e ∷ f ∷ g ∷ h) l = absurd (omega arith)

pub mask-six : (g : Group) (ks : List ℕ) → length g ≡ 6 → ks ≡ map bool_byte g → get_or ks 0 0 + 2 * get_or ks 1 0 + 4 * get_or ks 2 0 + 8 * get_or ks 3 0 + 16 * get_or ks 4 0 + 32 * get_or ks 5 0 ≡ mask g
mask-six g ks l e =
    let is : ks ≡ map (λ b. cond b 1 0) g = e ∙ flag_bytes g in
    let at : (i : ℕ) → i < 6 → get_or ks i 0 ≡ cond (keeps g i) 1 0 = λ i h. ap (λ xs. get_or xs i 0) is ∙ get_or-map (λ b. cond b 1 0) g i false 0 (omega arith) in
    omega (arith, at 0 (omega arith), at 1 (omega arith), at 2 (omega arith), at 3 (omega arith), at 4 (omega arith), at 5 (omega arith), flags_mask g l)
