-- Numbers in mixed radix: digits and number are inverse, and the number is the sum of each digit times the product of the radices before it.
use Rattle.std.proofs.Common.{◌≡◌, ℕ, zero, suc, ◌+◌, ◌*◌, ◌/◌, ◌%◌, ◌<◌, true, false, List, [], ◌∷◌, map, length, get_or, take, sum_by, sym, refl, ap, ◌∙◌, ap₂, mul_assoc, mul-le-mul_left, div-one, add-one, arith}
use native.Mathlib.Nat.{mod-add-div, div-div-eq-div-mul}
use lib.Arith.{digits_div, digits_mod}
use Rattle.std.specs.List.{range_with_len}
use Rattle.std.proofs.lemmas.List.{get_or-map, length-map}
use Rattle.std.proofs.lemmas.List.Sums.{sum_by-cons, sum-map}
use Rattle.std.proofs.lemmas.List.FromFn.{length-map-range_with_len, get_or-map-range_with_len}
use Rattle.std.proofs.lemmas.Nat.{div_below, mod_below}
use Rattle.shapes.specs.Arrays.{Group, product, number, digits, all_digits, radix, only, Below, weighted}

pub below_length : (ks xs : List ℕ) → Below ks xs → length xs ≡ length ks
below_length [] [] b = refl
below_length [] (x ∷ xs) b = absurd b
below_length (k ∷ ks) [] b = absurd b
below_length (k ∷ ks) (x ∷ xs) b = ap suc (below_length ks xs b.1)

pub below_getD : (ks xs : List ℕ) (e c d : ℕ) → Below ks xs → e < length ks → get_or xs e c < get_or ks e d
below_getD [] xs e c d b l = absurd (omega arith)
below_getD (k ∷ ks) [] e c d b l = absurd b
below_getD (k ∷ ks) (x ∷ xs) zero c d b l = b.0
below_getD (k ∷ ks) (x ∷ xs) (suc e) c d b l = below_getD ks xs e c d b.1 (omega arith)

pub length_digits : (ks : List ℕ) (s : ℕ) → length (digits ks s) ≡ length ks
length_digits [] s = refl
length_digits (k ∷ ks) s = ap suc (length_digits ks (s / k))

-- a number below the product has its digits below the radices
pub digits_below : (ks : List ℕ) (s : ℕ) → s < product ks → Below ks (digits ks s)
digits_below [] s l = tt
digits_below (zero ∷ ks) s l = absurd (omega arith)
digits_below (suc k ∷ ks) s l = (mod_below s (suc k) (omega arith), digits_below ks (s / suc k) (div_below s (suc k) (product ks) (omega arith) (omega arith)))

pub number_digits : (ks : List ℕ) (s : ℕ) → s < product ks → number ks (digits ks s) ≡ s
number_digits [] s l = omega arith
number_digits (zero ∷ ks) s l = absurd (omega arith)
number_digits (suc k ∷ ks) s l =
    ap (λ z. s % suc k + suc k * z) (number_digits ks (s / suc k) (div_below s (suc k) (product ks) (omega arith) (omega arith)))
    ∙ mod-add-div s (suc k)

pub number_below : (ks xs : List ℕ) → Below ks xs → number ks xs < product ks
number_below [] [] b = omega arith
number_below [] (x ∷ xs) b = absurd b
number_below (k ∷ ks) [] b = absurd b
number_below (k ∷ ks) (x ∷ xs) b = omega (arith, b.0, mul-le-mul_left k (number_below ks xs b.1))

pub digits_number : (ks xs : List ℕ) → Below ks xs → digits ks (number ks xs) ≡ xs
digits_number [] [] b = refl
digits_number [] (x ∷ xs) b = absurd b
digits_number (k ∷ ks) [] b = absurd b
digits_number (k ∷ ks) (x ∷ xs) b = ap (digits (k ∷ ks)) turn ∙ ap₂ (λ a c. a ∷ digits ks c) (digits_mod (number ks xs) b.0) (digits_div (number ks xs) b.0) ∙ ap (λ z. x ∷ z) (digits_number ks xs b.1)
  where
    turn : x + k * number ks xs ≡ number ks xs * k + x
    turn = omega arith

-- two coordinate lists below the radices with one number are one
pub number_injective : (ks xs ys : List ℕ) → Below ks xs → Below ks ys → number ks xs ≡ number ks ys → xs ≡ ys
number_injective ks xs ys b c e = sym (digits_number ks xs b) ∙ ap (digits ks) e ∙ digits_number ks ys c

-- a list made by number has each value at its coordinates' number
pub length_by_digits : {X : Type 0} (f : List ℕ → X) (ks : List ℕ) → length (map f (all_digits ks)) ≡ product ks
length_by_digits f ks = length-map (all_digits ks) f ∙ length-map-range_with_len (digits ks) 0 (product ks)

pub getD_by_digits : {X : Type 0} (f : List ℕ → X) (ks : List ℕ) (s : ℕ) (d : X) → s < product ks → get_or (map f (all_digits ks)) s d ≡ f (digits ks s)
getD_by_digits f ks s d l =
    get_or-map f (all_digits ks) s [] d (rw (length-map-range_with_len (digits ks) 0 (product ks)) l)
    ∙ ap f (get_or-map-range_with_len (digits ks) 0 (product ks) s s [] l (omega arith))

pub getD_by_number : {X : Type 0} (f : List ℕ → X) (ks xs : List ℕ) (d : X) → Below ks xs → get_or (map f (all_digits ks)) (number ks xs) d ≡ f xs
getD_by_number f ks xs d b = getD_by_digits f ks (number ks xs) d (number_below ks xs b) ∙ ap f (digits_number ks xs b)

-- each coordinate list below the radices is listed, and once
pub listed_at : (ks xs : List ℕ) → Below ks xs → get_or (all_digits ks) (number ks xs) [] ≡ xs
listed_at ks xs b = get_or-map-range_with_len (digits ks) 0 (product ks) (number ks xs) (number ks xs) [] (number_below ks xs b) (omega arith) ∙ digits_number ks xs b

pub listed_once : (ks xs : List ℕ) (s : ℕ) → s < product ks → get_or (all_digits ks) s [] ≡ xs → (number ks xs ≡ s) × Below ks xs
listed_once ks xs s l e = (ap (number ks) is ∙ number_digits ks s l, rw is (digits_below ks s l))
  where
    is : xs ≡ digits ks s
    is = sym e ∙ get_or-map-range_with_len (digits ks) 0 (product ks) s s [] l (omega arith)

-- a block's radix counts a dropped dimension once: its numbers count over the kept dimensions alone
pub product_only : (g : Group) (ks : List ℕ) → product (radix g ks) ≡ product (only g ks)
product_only [] ks = refl
product_only (b ∷ g) [] = refl
product_only (true ∷ g) (k ∷ ks) = ap (λ z. k * z) (product_only g ks)
product_only (false ∷ g) (k ∷ ks) = omega (arith, product_only g ks)

pub number_only : (g : Group) (ks xs : List ℕ) → Below (radix g ks) xs → number (radix g ks) xs ≡ number (only g ks) (only g xs)
number_only [] ks xs b = refl
number_only (c ∷ g) [] xs b = refl
number_only (c ∷ g) (k ∷ ks) [] b = absurd b
number_only (true ∷ g) (k ∷ ks) (x ∷ xs) b = ap (λ z. x + k * z) (number_only g ks xs b.1)
number_only (false ∷ g) (k ∷ ks) (x ∷ xs) b = omega (arith, b.0, number_only g ks xs b.1)

-- one digit of a number
pub digit_at : (ks : List ℕ) (s p : ℕ) → p < length ks → get_or (digits ks s) p 0 ≡ s / product (take p ks) % get_or ks p 1
digit_at [] s p l = absurd (omega arith)
digit_at (k ∷ ks) s zero l = ap (λ z. z % k) (sym (div-one s))
digit_at (k ∷ ks) s (suc p) l = digit_at ks (s / k) p (omega arith) ∙ ap (λ z. z % get_or ks p 1) (div-div-eq-div-mul s k (product (take p ks)))

pub product_take_suc : (ks : List ℕ) (p : ℕ) → p < length ks → product (take (suc p) ks) ≡ product (take p ks) * get_or ks p 1
product_take_suc [] p l = absurd (omega arith)
product_take_suc (k ∷ ks) zero l = omega arith
product_take_suc (k ∷ ks) (suc p) l = ap (λ z. k * z) (product_take_suc ks p (omega arith)) ∙ sym (mul_assoc k (product (take p ks)) (get_or ks p 1))

-- the number is the sum of each digit times the product of the radices before it
sumBy_scaled : (k : ℕ) (f : ℕ → ℕ) (xs : List ℕ) → sum_by (λ i. k * f i) xs ≡ k * sum_by f xs
sumBy_scaled k f [] = omega arith
sumBy_scaled k f (x ∷ xs) = sum_by-cons (λ i. k * f i) x xs ∙ omega (arith, sumBy_scaled k f xs, ap (λ z. k * z) (sum_by-cons f x xs))

sumBy_later : (f : ℕ → ℕ) (a n : ℕ) → sum_by f (range_with_len (a + 1) n) ≡ sum_by (λ i. f (suc i)) (range_with_len a n)
sumBy_later f a zero = refl
sumBy_later f a (suc n) =
    sum_by-cons f (a + 1) (range_with_len (a + 1 + 1) n)
    ∙ ap₂ ◌+◌ (ap f (add-one a)) (sumBy_later f (a + 1) n)
    ∙ sym (sum_by-cons (λ i. f (suc i)) a (range_with_len (a + 1) n))

sumBy_same : (f g : ℕ → ℕ) (xs : List ℕ) → ((i : ℕ) → f i ≡ g i) → sum_by f xs ≡ sum_by g xs
sumBy_same f g [] h = refl
sumBy_same f g (x ∷ xs) h = sum_by-cons f x xs ∙ ap₂ ◌+◌ (h x) (sumBy_same f g xs h) ∙ sym (sum_by-cons g x xs)

pub number_weighted : (ks cs : List ℕ) → length cs ≡ length ks → number ks cs ≡ weighted ks cs
number_weighted ks cs l = go ks cs l ∙ sym (sum-map (λ i. get_or cs i 0 * product (take i ks)) (range_with_len 0 (length ks)))
  where
    go : (ks cs : List ℕ) → length cs ≡ length ks → number ks cs ≡ sum_by (λ i. get_or cs i 0 * product (take i ks)) (range_with_len 0 (length ks))
    go [] cs l = refl
    go (k ∷ ks) [] l = absurd (omega arith)
    go (k ∷ ks) (c ∷ cs) l =
        ap₂ ◌+◌ first (ap (λ z. k * z) (go ks cs (omega arith)) ∙ sym (sumBy_scaled k part (range_with_len 0 (length ks))) ∙ sumBy_same (λ i. k * part i) (λ i. whole (suc i)) (range_with_len 0 (length ks)) (λ i. omega arith) ∙ sym (sumBy_later whole 0 (length ks)))
        ∙ sym (sum_by-cons whole 0 (range_with_len (0 + 1) (length ks)))
      where
        part : ℕ → ℕ
        part i = get_or cs i 0 * product (take i ks)

        whole : ℕ → ℕ
        whole i = get_or (c ∷ cs) i 0 * product (take i (k ∷ ks))

        first : c ≡ whole 0
        first = omega arith
