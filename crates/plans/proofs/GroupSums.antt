-- Sums over all groups of n dimensions, by mask.
use Rattle.std.proofs.Common.{◌≡◌, ℕ, zero, suc, ◌+◌, ◌-◌, ◌*◌, ◌^◌, Bool, true, false, List, [], ◌∷◌, sym, refl, ap, ◌∙◌, add-one, arith}
use native.Mathlib.Nat.{pow-succ', one-le-pow}
use Rattle.std.specs.List.{range_with_len}
use Rattle.shapes.specs.Arrays.{Group, group, keeps}
use Rattle.shapes.proofs.Masks.{group_even, group_odd}
use Rattle.plans.proofs.Sums.{total, times, total_last, total_scaled, total_plus, total_zero, every}

-- a sum over two numbers at a time
total_twos : (f : ℕ → ℕ) (a n : ℕ) → total f (range_with_len (2 * a) (2 * n)) ≡ total (λ k. f (2 * k) + f (2 * k + 1)) (range_with_len a n)
unfolding total
total_twos f a zero = refl
total_twos f a (suc n) =
    let e : 2 * suc n ≡ suc (suc (2 * n)) = omega arith in
    let d : 2 * a + 1 + 1 ≡ 2 * (a + 1) = omega arith in
    rw (e, d, total_twos f (a + 1) n) (omega arith)

-- the sum over all masks is that over all but the last, and the last
pub total_root : (f : ℕ → ℕ) (n : ℕ) → total f (range_with_len 0 (2 ^ n)) ≡ total f (range_with_len 0 (2 ^ n - 1)) + f (2 ^ n - 1)
total_root f n =
    let e : 2 ^ n ≡ suc (2 ^ n - 1) = omega (arith, one-le-pow n 2 (omega arith)) in
    let z : 0 + (2 ^ n - 1) ≡ 2 ^ n - 1 = omega arith in
    ap (λ k. total f (range_with_len 0 k)) e ∙ (total_last f 0 (2 ^ n - 1) ∙ ap (λ k. total f (range_with_len 0 (2 ^ n - 1)) + f k) z)

pub times_shift : (f : ℕ → ℕ) (a n : ℕ) → times f (range_with_len (a + 1) n) ≡ times (λ i. f (suc i)) (range_with_len a n)
unfolding times
times_shift f a zero = refl
times_shift f a (suc n) = rw (times_shift f (a + 1) n, add-one a) refl

times_front : (n : ℕ) (w : ℕ → Bool → ℕ) (b : Bool) (g : Group) → times (λ i. w i (keeps (b ∷ g) i)) (range_with_len 0 (suc n)) ≡ w 0 b * times (λ i. w (suc i) (keeps g i)) (range_with_len 0 n)
unfolding times
times_front n w b g = ap (λ k. w 0 b * k) (times_shift (λ i. w i (keeps (b ∷ g) i)) 0 n)

-- a sum over all groups of products over all dimensions is a product of sums
pub all_groups : (n : ℕ) (w : ℕ → Bool → ℕ) → total (λ m. times (λ i. w i (keeps (group n m) i)) (range_with_len 0 n)) (range_with_len 0 (2 ^ n)) ≡ times (λ i. w i false + w i true) (range_with_len 0 n)
unfolding total times
all_groups zero w = refl
all_groups (suc n) w =
    ap (λ k. total F (range_with_len 0 k)) (pow-succ' 2 n)
    ∙ (total_twos F 0 (2 ^ n)
    ∙ (total_scaled (w 0 false + w 0 true) (λ k. F (2 * k) + F (2 * k + 1)) t (range_with_len 0 (2 ^ n)) (every (λ k. F (2 * k) + F (2 * k + 1) ≡ (w 0 false + w 0 true) * t k) two (range_with_len 0 (2 ^ n)))
    ∙ (ap (λ k. (w 0 false + w 0 true) * k) (all_groups n (λ i. w (suc i)))
    ∙ ap (λ k. (w 0 false + w 0 true) * k) (sym (times_shift (λ i. w i false + w i true) 0 n)))))
  where
    F : ℕ → ℕ
    F m = times (λ i. w i (keeps (group (suc n) m) i)) (range_with_len 0 (suc n))

    t : ℕ → ℕ
    t k = times (λ i. w (suc i) (keeps (group n k) i)) (range_with_len 0 n)

    even : (k : ℕ) → F (2 * k) ≡ w 0 false * t k
    even k = ap (λ g. times (λ i. w i (keeps g i)) (range_with_len 0 (suc n))) (group_even n k) ∙ times_front n w false (group n k)

    odd : (k : ℕ) → F (2 * k + 1) ≡ w 0 true * t k
    odd k = ap (λ g. times (λ i. w i (keeps g i)) (range_with_len 0 (suc n))) (group_odd n k) ∙ times_front n w true (group n k)

    two : (k : ℕ) → F (2 * k) + F (2 * k + 1) ≡ (w 0 false + w 0 true) * t k
    two k = omega (arith, even k, odd k)

pub total_swap : (f : ℕ → ℕ → ℕ) (xs ys : List ℕ) → total (λ x. total (f x) ys) xs ≡ total (λ y. total (λ x. f x y) xs) ys
unfolding total
total_swap f [] ys = sym (total_zero (λ y. 0) ys (every (λ y. ◌≡◌ {A = ℕ} 0 0) (λ y. refl) ys))
total_swap f (x ∷ xs) ys = rw (total_swap f xs ys) (sym (total_plus (f x) (λ y. total (λ z. f z y) xs) ys))
