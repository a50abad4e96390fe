-- Digits that lie inside their radices, digit by digit, and filled up to six.
use Rattle.std.proofs.Common.{◌≡◌, ℕ, zero, suc, ◌+◌, ◌-◌, ◌*◌, ◌<◌, ◌≤◌, Bool, true, false, cond, ◌&&◌, eqb, ltb, List, [], ◌∷◌, ◌++◌, length, get_or, take, drop, replicate, Option, Some, None, sym, refl, ap, ◌∙◌, arith}
use Rattle.std.specs.List.{AllByRecursion, zip, list_all}
use Rattle.std.proofs.lemmas.List.{drop_more, take-append-drop, map-id}
use Rattle.std.proofs.lemmas.Bool.{and_parts, eqb-true, ltb-true}
use Rattle.std.proofs.lemmas.Option.{none-some}
use Rattle.std.proofs.lemmas.Bool.Decides.{nat_tests}
use Rattle.std.proofs.ByRecursion.{All-take}
use Rattle.std.proofs.lemmas.Nat.{mul-le}
use Rattle.shapes.specs.Arrays.{product, number, inside, numbered, Below}
use Rattle.shapes.specs.Views.{six}
use Rattle.shapes.proofs.Numbering.{number_below}
use Rattle.shapes.proofs.Products.{product-append, product_positive, product-six}

pub number_at : (ks xs : List ℕ) (i : ℕ) → i < length ks → i < length xs → number (drop i ks) (drop i xs) ≡ get_or xs i 0 + get_or ks i 0 * number (drop (i + 1) ks) (drop (i + 1) xs)
number_at ks xs i p q = ap (λ ys. number ys (drop i xs)) (drop_more ks i 0 p) ∙ ap (number (get_or ks i 0 ∷ drop (i + 1) ks)) (drop_more xs i 0 q)

pub below_inside : (ks xs : List ℕ) → length ks ≡ length xs → inside ks xs ≡ true → Below ks xs
below_inside [] [] l h = tt
below_inside [] (x ∷ xs) l h = absurd (omega arith)
below_inside (k ∷ ks) [] l h = absurd (omega arith)
below_inside (k ∷ ks) (x ∷ xs) l h = let b = and_parts (ltb x k) (inside ks xs) h in (ltb-true x k b.0, below_inside ks xs (omega arith) b.1)

below_drop : (ks xs : List ℕ) (i : ℕ) → Below ks xs → Below (drop i ks) (drop i xs)
below_drop ks xs zero b = b
below_drop [] [] (suc i) b = tt
below_drop [] (x ∷ xs) (suc i) b = absurd b
below_drop (k ∷ ks) [] (suc i) b = absurd b
below_drop (k ∷ ks) (x ∷ xs) (suc i) b = below_drop ks xs i b.1

below_positive : (ks xs : List ℕ) → Below ks xs → AllByRecursion (λ k. 1 ≤ k) ks
below_positive [] [] b = tt
below_positive [] (x ∷ xs) b = tt
below_positive (k ∷ ks) [] b = absurd b
below_positive (k ∷ ks) (x ∷ xs) b = let l = b.0 in (omega arith, below_positive ks xs b.1)

-- the number of the digits from i on stays below the product of all radices
pub rest_below : (ks xs : List ℕ) (i : ℕ) → length ks ≡ length xs → inside ks xs ≡ true → number (drop i ks) (drop i xs) < product ks
rest_below ks xs i l h =
    let b = below_inside ks xs l h in
    let small = number_below (drop i ks) (drop i xs) (below_drop ks xs i b) in
    let e : product ks ≡ product (take i ks) * product (drop i ks) = ap product (sym (take-append-drop i ks)) ∙ product-append (take i ks) (drop i ks) in
    let one = product_positive (take i ks) (All-take (λ k. 1 ≤ k) i ks (below_positive ks xs b)) in
    let same : product (drop i ks) ≤ product (drop i ks) = omega arith in
    omega (arith, mul-le 1 (product (drop i ks)) (product (take i ks)) (product (drop i ks)) one same)

one_is_zero : (x : ℕ) → ltb x 1 ≡ eqb x 0
one_is_zero x = grind (arith, nat_tests)

filled_inside_none : (n m : ℕ) (xs : List ℕ) → length xs ≡ n → n ≤ m → inside (take n (replicate m 1)) xs ≡ inside [] xs
filled_inside_none zero m [] l h = refl
filled_inside_none zero m (x ∷ xs) l h = absurd (omega arith)
filled_inside_none (suc n) zero xs l h = absurd (omega arith)
filled_inside_none (suc n) (suc m) [] l h = absurd (omega arith)
filled_inside_none (suc n) (suc m) (x ∷ xs) l h = ap (λ b. b && inside (take n (replicate m 1)) xs) (one_is_zero x) ∙ ap (λ b. eqb x 0 && b) (filled_inside_none n m xs (omega arith) (omega arith))

filled_inside : (ks : List ℕ) (n m : ℕ) (xs : List ℕ) → length xs ≡ n → length ks ≤ n → n ≤ m → inside (take n (ks ++ replicate m 1)) xs ≡ inside ks xs
filled_inside [] n m xs l k h = filled_inside_none n m xs l h
filled_inside (k ∷ ks) zero m xs l few h = absurd (omega arith)
filled_inside (k ∷ ks) (suc n) m [] l few h = absurd (omega arith)
filled_inside (k ∷ ks) (suc n) m (x ∷ xs) l few h = ap (λ b. ltb x k && b) (filled_inside ks n m xs (omega arith) (omega arith) (omega arith))

pub inside_six : (ks xs : List ℕ) → length ks ≤ 6 → length xs ≡ 6 → inside (six 1 ks) xs ≡ inside ks xs
inside_six ks xs few l = filled_inside ks 6 6 xs l few (omega arith)

filled_number_none : (n m : ℕ) (xs : List ℕ) → inside [] xs ≡ true → number (take n (replicate m 1)) xs ≡ 0
filled_number_none zero m xs h = refl
filled_number_none (suc n) zero xs h = refl
filled_number_none (suc n) (suc m) [] h = refl
filled_number_none (suc n) (suc m) (x ∷ xs) h =
    let b = and_parts (eqb x 0) (inside [] xs) h in
    let z = eqb-true x 0 b.0 in
    let ih = filled_number_none n m xs b.1 in
    omega arith

filled_number : (ks : List ℕ) (n m : ℕ) (xs : List ℕ) → length ks ≤ n → inside ks xs ≡ true → number (take n (ks ++ replicate m 1)) xs ≡ number ks xs
filled_number [] n m xs l h = filled_number_none n m xs h
filled_number (k ∷ ks) zero m xs l h = absurd (omega arith)
filled_number (k ∷ ks) (suc n) m [] l h = refl
filled_number (k ∷ ks) (suc n) m (x ∷ xs) l h = ap (λ s. x + k * s) (filled_number ks n m xs (omega arith) (and_parts (ltb x k) (inside ks xs) h).1)

pub number-six : (ks xs : List ℕ) → length ks ≤ 6 → inside ks xs ≡ true → number (six 1 ks) xs ≡ number ks xs
number-six ks xs few h = filled_number ks 6 6 xs few h

-- what fills radices up to six leaves the number of six digits
pub numbered-six : (ks xs : List ℕ) → length ks ≤ 6 → length xs ≡ 6 → numbered (six 1 ks) xs ≡ numbered ks xs
numbered-six ks xs few l = by_case (inside ks xs) refl where
  by_case : (b : Bool) → inside ks xs ≡ b → numbered (six 1 ks) xs ≡ numbered ks xs
  by_case true e = ap (λ b. cond b (Some (number (six 1 ks) xs)) None) (inside_six ks xs few l) ∙ (ap (λ b. cond b (Some (number (six 1 ks) xs)) None) e ∙ (ap Some (number-six ks xs few e) ∙ sym (ap (λ b. cond b (Some (number ks xs)) None) e)))
  by_case false e = ap (λ b. cond b (Some (number (six 1 ks) xs)) None) (inside_six ks xs few l) ∙ (ap (λ b. cond b (Some (number (six 1 ks) xs)) None) e ∙ sym (ap (λ b. cond b (Some (number ks xs)) None) e))

abbrev told : ℕ → Option ℕ → ℕ
told d (Some x) = x
told d None = d

pub numbered_below : (ks xs : List ℕ) (s : ℕ) → length ks ≡ length xs → numbered ks xs ≡ Some s → s < product ks
numbered_below ks xs s l e = by_case (inside ks xs) refl where
  by_case : (b : Bool) → inside ks xs ≡ b → s < product ks
  by_case true h =
      let is : s ≡ number ks xs = ap (told s) (sym e ∙ ap (λ b. cond b (Some (number ks xs)) None) h) in
      omega (arith, is, rest_below ks xs 0 l h)
  by_case false h = absurd (none-some s (sym (ap (λ b. cond b (Some (number ks xs)) None) h) ∙ e))

-- one digit more, from the slowest on
pub number_back : (ks xs : List ℕ) (i s : ℕ) → 0 < i → i ≤ length ks → i ≤ length xs → s ≡ number (drop i ks) (drop i xs) → get_or xs (i - 1) 0 + get_or ks (i - 1) 0 * s ≡ number (drop (i - 1) ks) (drop (i - 1) xs)
number_back ks xs i s some p q e =
    let j : i - 1 + 1 ≡ i = omega arith in
    let at = number_at ks xs (i - 1) (omega arith) (omega arith) in
    sym (at ∙ (ap (λ k. get_or xs (i - 1) 0 + get_or ks (i - 1) 0 * number (drop k ks) (drop k xs)) j ∙ ap (λ n. get_or xs (i - 1) 0 + get_or ks (i - 1) 0 * n) (sym e)))

-- what fills radices up to six leaves their product
pub radices-product : (ks rs : List ℕ) → rs ≡ six 1 ks → length ks ≤ 6 → product rs ≡ product ks
radices-product ks rs e few = ap product e ∙ (sym (ap product (map-id (six 1 ks))) ∙ (product-six (λ k. k) 1 refl ks few ∙ ap product (map-id ks)))

pub number_back_below : (ks xs : List ℕ) (i s : ℕ) → 0 < i → i ≤ length ks → length ks ≡ length xs → inside ks xs ≡ true → s ≡ number (drop i ks) (drop i xs) → get_or xs (i - 1) 0 + get_or ks (i - 1) 0 * s < product ks
number_back_below ks xs i s some p l h e = omega (arith, number_back ks xs i s some p (omega arith) e, rest_below ks xs (i - 1) l h)

-- digit by digit, each beside its radix
pub all_zip_inside : (ks xs : List ℕ) → length ks ≡ length xs → list_all (λ p. ltb p.0 p.1) (zip xs ks) ≡ inside ks xs
all_zip_inside [] [] l = refl
all_zip_inside [] (x ∷ xs) l = absurd (omega arith)
all_zip_inside (k ∷ ks) [] l = absurd (omega arith)
all_zip_inside (k ∷ ks) (x ∷ xs) l = ap (λ b. ltb x k && b) (all_zip_inside ks xs (omega arith))
