-- Agreement with a summary cell, dimension by dimension, and of lists filled up to six.
use Rattle.std.proofs.Common.{◌≡◌, ℕ, zero, suc, ◌+◌, ◌*◌, ◌/◌, ◌%◌, ◌<◌, ◌≤◌, Bool, true, false, cond, not, ◌&&◌, ◌||◌, eqb, ltb, List, [], ◌∷◌, ◌++◌, length, take, replicate, refl, ap, ap₂, ◌∙◌, zero-lt-suc, mul_comm, div-lt_iff_lt-mul, zero-mul, arith}
use Rattle.std.specs.List.{list_all, zip}
use Rattle.shapes.specs.declared.dims.Dim.{Dim}
use Rattle.shapes.specs.Arrays.{Group, product, digits, sizes, cell_at, agrees, none_dim}
use Rattle.shapes.specs.Views.{six}
use Rattle.summaries.specs.Answers.{kept_inside}

kept_or : (b e : Bool) → (not b || e) ≡ cond b e true
kept_or true e = refl
kept_or false e = refl

-- agreement, dimension by dimension
pub zips_agree : (g : Group) (xs : List ℕ) (ds : List Dim) (cs ls : List ℕ)
    → list_all (λ (t : (Bool × ℕ) × ((ℕ × Dim) × ℕ)). not t.0.0 || eqb t.0.1 (t.1.0.0 * t.1.0.1.edge + t.1.1)) (zip (zip g xs) (zip (zip cs ds) ls)) ≡ agrees g xs (cell_at ds cs ls)
zips_agree [] xs ds cs ls = refl
zips_agree (b ∷ g) [] ds cs ls = refl
zips_agree (b ∷ g) (x ∷ xs) [] [] ls = refl
zips_agree (b ∷ g) (x ∷ xs) [] (c ∷ cs) ls = refl
zips_agree (b ∷ g) (x ∷ xs) (d ∷ ds) [] ls = refl
zips_agree (b ∷ g) (x ∷ xs) (d ∷ ds) (c ∷ cs) [] = refl
zips_agree (b ∷ g) (x ∷ xs) (d ∷ ds) (c ∷ cs) (l ∷ ls) = ap₂ (λ t u. t && u) (kept_or b (eqb x (c * d.edge + l))) (zips_agree g xs ds cs ls)

-- groups filled up keep nothing more
filled_none : (n m : ℕ) (xs ys : List ℕ) → agrees (take n (replicate m false)) xs ys ≡ true
filled_none zero m xs ys = refl
filled_none (suc n) zero xs ys = refl
filled_none (suc n) (suc m) [] ys = refl
filled_none (suc n) (suc m) (x ∷ xs) [] = refl
filled_none (suc n) (suc m) (x ∷ xs) (y ∷ ys) = filled_none n m xs ys

filled_agrees : (g : Group) (n m : ℕ) (xs : List ℕ) (ds : List Dim) (cs ls : List ℕ) → length g ≤ n → length ds ≡ length g → length cs ≡ length g → length ls ≡ length g
    → agrees (take n (g ++ replicate m false)) xs (cell_at (take n (ds ++ replicate m none_dim)) (take n (cs ++ replicate m 0)) (take n (ls ++ replicate m 0))) ≡ agrees g xs (cell_at ds cs ls)
filled_agrees [] n m xs ds cs ls few a b d = filled_none n m xs _
filled_agrees (k ∷ g) zero m xs ds cs ls few a b d = absurd (omega arith)
filled_agrees (k ∷ g) (suc n) m xs [] cs ls few a b d = absurd (omega arith)
filled_agrees (k ∷ g) (suc n) m xs (e ∷ ds) [] ls few a b d = absurd (omega arith)
filled_agrees (k ∷ g) (suc n) m xs (e ∷ ds) (c ∷ cs) [] few a b d = absurd (omega arith)
filled_agrees (k ∷ g) (suc n) m [] (e ∷ ds) (c ∷ cs) (l ∷ ls) few a b d = refl
filled_agrees (k ∷ g) (suc n) m (x ∷ xs) (e ∷ ds) (c ∷ cs) (l ∷ ls) few a b d =
    ap (λ t. cond k (eqb x (c * e.edge + l)) true && t) (filled_agrees g n m xs ds cs ls (omega arith) (omega arith) (omega arith) (omega arith))

pub agrees_six : (g : Group) (xs : List ℕ) (ds : List Dim) (cs ls : List ℕ) → length g ≤ 6 → length ds ≡ length g → length cs ≡ length g → length ls ≡ length g
    → agrees (six false g) xs (cell_at (six none_dim ds) (six 0 cs) (six 0 ls)) ≡ agrees g xs (cell_at ds cs ls)
agrees_six g xs ds cs ls few a b d = filled_agrees g 6 6 xs ds cs ls few a b d

-- digits of radices filled up are the digits, filled up
filled_zeros : (n m s : ℕ) → s < 1 → digits (take n (replicate m 1)) s ≡ take n (replicate m 0)
filled_zeros zero m s h = refl
filled_zeros (suc n) zero s h = refl
filled_zeros (suc n) (suc m) s h =
    let z : s ≡ 0 = omega arith in
    ap (λ k. k % 1 ∷ digits (take n (replicate m 1)) (k / 1)) z ∙ ap (λ ys. 0 ∷ ys) (filled_zeros n m 0 (omega arith))

quotient_below : (s k p : ℕ) → s < k * p → s / k < p
quotient_below s zero p h = absurd (omega (arith, zero-mul p))
quotient_below s (suc k) p h = (div-lt_iff_lt-mul (zero-lt-suc k)).1 (omega (arith, mul_comm (suc k) p))

filled_digits : (ks : List ℕ) (n m s : ℕ) → length ks ≤ n → s < product ks → digits (take n (ks ++ replicate m 1)) s ≡ take n (digits ks s ++ replicate m 0)
filled_digits [] n m s few h = filled_zeros n m s h
filled_digits (k ∷ ks) zero m s few h = absurd (omega arith)
filled_digits (k ∷ ks) (suc n) m s few h = ap (λ ys. s % k ∷ ys) (filled_digits ks n m (s / k) (omega arith) (quotient_below s k (product ks) h))

pub digits-six : (ks : List ℕ) (s : ℕ) → length ks ≤ 6 → s < product ks → digits (six 1 ks) s ≡ six 0 (digits ks s)
digits-six ks s few h = filled_digits ks 6 6 s few h

-- coordinates inside in the kept dimensions, dimension by dimension
pub zips_inside : (g : Group) (xs : List ℕ) (ds : List Dim) → length xs ≡ length ds
    → list_all (λ (t : (Bool × ℕ) × Dim). not t.0.0 || ltb t.0.1 t.1.size) (zip (zip g xs) ds) ≡ kept_inside g (sizes ds) xs
zips_inside [] xs ds long = refl
zips_inside (b ∷ g) [] [] long = refl
zips_inside (b ∷ g) [] (d ∷ ds) long = absurd (omega arith)
zips_inside (b ∷ g) (x ∷ xs) [] long = refl
zips_inside (b ∷ g) (x ∷ xs) (d ∷ ds) long = ap (λ t. (not b || ltb x d.size) && t) (zips_inside g xs ds (omega arith))

kept_none : (n m : ℕ) (ks xs : List ℕ) → length xs ≡ n → kept_inside (take n (replicate m false)) ks xs ≡ true
kept_none zero m ks xs l = refl
kept_none (suc n) zero ks xs l = refl
kept_none (suc n) (suc m) [] xs l = refl
kept_none (suc n) (suc m) (k ∷ ks) [] l = absurd (omega arith)
kept_none (suc n) (suc m) (k ∷ ks) (x ∷ xs) l = kept_none n m ks xs (omega arith)

filled_kept : (g : Group) (n m : ℕ) (ds : List Dim) (xs : List ℕ) → length g ≤ n → length ds ≡ length g → length xs ≡ n
    → kept_inside (take n (g ++ replicate m false)) (sizes (take n (ds ++ replicate m none_dim))) xs ≡ kept_inside g (sizes ds) xs
filled_kept [] n m ds xs few a l = kept_none n m _ xs l
filled_kept (k ∷ g) zero m ds xs few a l = absurd (omega arith)
filled_kept (k ∷ g) (suc n) m [] xs few a l = absurd (omega arith)
filled_kept (k ∷ g) (suc n) m (e ∷ ds) [] few a l = refl
filled_kept (k ∷ g) (suc n) m (e ∷ ds) (x ∷ xs) few a l = ap (λ t. (not k || ltb x e.size) && t) (filled_kept g n m ds xs (omega arith) (omega arith) (omega arith))

pub kept_six : (g : Group) (ds : List Dim) (xs : List ℕ) → length g ≤ 6 → length ds ≡ length g → length xs ≡ 6 → kept_inside (six false g) (sizes (six none_dim ds)) xs ≡ kept_inside g (sizes ds) xs
kept_six g ds xs few a l = filled_kept g 6 6 ds xs few a l
