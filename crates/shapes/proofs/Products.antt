-- Products of lists, and of their fronts.
use Rattle.std.proofs.Common.{◌≡◌, ℕ, zero, suc, ◌+◌, ◌*◌, ◌/◌, ◌<◌, ◌≤◌, List, [], ◌∷◌, ◌++◌, map, length, get_or, take, drop, replicate, sym, refl, ap, ◌∙◌, add-zero, mul_assoc, one-mul, arith}
use Rattle.std.specs.List.{AllByRecursion}
use Rattle.std.proofs.lemmas.Nat.{mul-le, le-div, div-mul-add, div-add-mod'}
use Rattle.std.proofs.lemmas.List.{take_more, take-append-drop}
use Rattle.std.proofs.ByRecursion.{All-drop}
use Rattle.shapes.specs.declared.dims.Dim.{Dim}
use Rattle.shapes.specs.Arrays.{product, chunks, volume, extent, total_chunks}
use Rattle.shapes.specs.Limits.{Fit}
use Rattle.shapes.specs.Views.{six}

pub product-append : (xs ys : List ℕ) → product (xs ++ ys) ≡ product xs * product ys
product-append [] ys = sym (one-mul (product ys))
product-append (x ∷ xs) ys = ap (λ n. x * n) (product-append xs ys) ∙ sym (mul_assoc x (product xs) (product ys))

pub product_take_more : (xs : List ℕ) (i d : ℕ) → i < length xs → product (take (i + 1) xs) ≡ product (take i xs) * get_or xs i d
product_take_more xs i d l =
    let one : product (get_or xs i d ∷ []) ≡ get_or xs i d = omega arith in
    ap product (take_more xs i d l) ∙ (product-append (take i xs) (get_or xs i d ∷ []) ∙ ap (λ n. product (take i xs) * n) one)

pub product_positive : (xs : List ℕ) → AllByRecursion (λ x. 1 ≤ x) xs → 1 ≤ product xs
product_positive [] h = omega arith
product_positive (x ∷ xs) h = let p = h.0 in let q = product_positive xs h.1 in omega (arith, mul-le 1 1 x (product xs) p q)

-- a front of factors from 1 up makes no larger product
pub product_take_le : (xs : List ℕ) (i : ℕ) → AllByRecursion (λ x. 1 ≤ x) xs → product (take i xs) ≤ product xs
product_take_le xs i h =
    let e : product xs ≡ product (take i xs) * product (drop i xs) = ap product (sym (take-append-drop i xs)) ∙ product-append (take i xs) (drop i xs) in
    let one : 1 ≤ product (drop i xs) = product_positive (drop i xs) (All-drop (λ x. 1 ≤ x) i xs h) in
    let a : product (take i xs) ≤ product (take i xs) = omega arith in
    omega (arith, mul-le (product (take i xs)) 1 (product (take i xs)) (product (drop i xs)) a one)

pub product_ones : (n : ℕ) → product (replicate n 1) ≡ 1
product_ones zero = refl
product_ones (suc n) = let e : product (replicate n 1) ≡ 1 = product_ones n in omega arith

-- what fills a list up to six brings nothing to a product where it counts 1
filled_front : {X : Type 0} (f : X → ℕ) (x : X) → f x ≡ 1 → (n m : ℕ) → product (map f (take n (replicate m x))) ≡ 1
filled_front f x e zero m = refl
filled_front f x e (suc n) zero = refl
filled_front f x e (suc n) (suc m) = let ih = filled_front f x e n m in omega (arith, ap (λ y. y * product (map f (take n (replicate m x)))) e)

filled_product : {X : Type 0} (f : X → ℕ) (x : X) → f x ≡ 1 → (xs : List X) (n m : ℕ) → length xs ≤ n → product (map f (take n (xs ++ replicate m x))) ≡ product (map f xs)
filled_product f x e [] n m l = filled_front f x e n m
filled_product f x e (y ∷ xs) zero m l = absurd (omega arith)
filled_product f x e (y ∷ xs) (suc n) m l = ap (λ p. f y * p) (filled_product f x e xs n m (omega arith))

pub product-six : {X : Type 0} (f : X → ℕ) (x : X) → f x ≡ 1 → (xs : List X) → length xs ≤ 6 → product (map f (six x xs)) ≡ product (map f xs)
product-six f x e xs l = filled_product f x e xs 6 6 l

exchange : (a b c d : ℕ) → a * b * (c * d) ≡ a * c * (b * d)
exchange a b c d = omega arith

-- the sizes are the chunk counts times the edges
pub extent_is : (ds : List Dim) → AllByRecursion Fit ds → extent ds ≡ total_chunks ds * volume ds
extent_is [] f = refl
extent_is (d ∷ ds) f =
    let ih : extent ds ≡ total_chunks ds * volume ds = extent_is ds f.1 in
    let split = div-add-mod' d.size d.edge in
    let none = f.0.4 in
    let e : d.size ≡ chunks d * d.edge = omega arith in
    cc (e, ih, exchange (chunks d) d.edge (total_chunks ds) (volume ds))

pub volume_positive : (ds : List Dim) → AllByRecursion Fit ds → 1 ≤ volume ds
volume_positive [] f = omega arith
volume_positive (d ∷ ds) f = let e = f.0.2 in let v = volume_positive ds f.1 in omega (arith, mul-le 1 1 d.edge (volume ds) e v)

pub total_positive : (ds : List Dim) → AllByRecursion Fit ds → 1 ≤ total_chunks ds
total_positive [] f = omega arith
total_positive (d ∷ ds) f =
    let p = f.0.2 in let q = f.0.3 in
    let e = le-div 1 d.size d.edge p (omega arith) in let v = total_positive ds f.1 in omega (arith, mul-le 1 1 (chunks d) (total_chunks ds) e v)

-- the quotient of the two products is the number of chunks
pub total_quotient : (ds : List Dim) → AllByRecursion Fit ds → extent ds / volume ds ≡ total_chunks ds
total_quotient ds f =
    let v = volume_positive ds f in
    let q = div-mul-add (total_chunks ds) (volume ds) 0 v in
    let e : extent ds ≡ total_chunks ds * volume ds + 0 = extent_is ds f ∙ sym (add-zero (total_chunks ds * volume ds)) in
    ap (λ x. x / volume ds) e ∙ q

pub total_le : (ds : List Dim) → AllByRecursion Fit ds → total_chunks ds ≤ extent ds
total_le ds f =
    let v = volume_positive ds f in
    let e = extent_is ds f in
    let a : total_chunks ds ≤ total_chunks ds = omega arith in
    omega (arith, mul-le (total_chunks ds) 1 (total_chunks ds) (volume ds) a v)
