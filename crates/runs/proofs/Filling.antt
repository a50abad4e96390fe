-- How many blocks a group has at most, and the number of a block's coordinates filled up to six.
use Rattle.std.proofs.Common.{◌≡◌, ℕ, suc, ◌<◌, ◌≤◌, true, false, List, [], ◌∷◌, length, get_or, ap, ◌∙◌, arith}
use Rattle.std.proofs.lemmas.Nat.{mul-le}
use Rattle.shapes.specs.Arrays.{Group, product, number, inside, Below, radix}
use Rattle.shapes.specs.Views.{six}
use Rattle.shapes.proofs.Numbering.{below_length}
use Rattle.shapes.proofs.Insides.{number-six}
use Rattle.sources.proofs.Placing.{inside_filled, number_filled}

-- a dropped dimension counts once, so a group has no more blocks than the root
pub product_radix_le : (g : Group) (ks : List ℕ) → ((i : ℕ) → i < length ks → 0 < get_or ks i 1) → (0 < product ks) × (product (radix g ks) ≤ product ks)
product_radix_le [] [] some = (omega arith, omega arith)
product_radix_le (b ∷ g) [] some = (omega arith, omega arith)
product_radix_le [] (k ∷ ks) some =
    let r = product_radix_le [] ks (λ i l. some (suc i) (omega arith)) in
    let e = mul-le 1 1 k (product ks) (some 0 (omega arith)) r.0 in
    (omega arith, omega arith)
product_radix_le (true ∷ g) (k ∷ ks) some =
    let r = product_radix_le g ks (λ i l. some (suc i) (omega arith)) in
    let e = mul-le 1 1 k (product ks) (some 0 (omega arith)) r.0 in
    (omega arith, mul-le k (product (radix g ks)) k (product ks) (omega arith) r.1)
product_radix_le (false ∷ g) (k ∷ ks) some =
    let r = product_radix_le g ks (λ i l. some (suc i) (omega arith)) in
    let e = mul-le 1 1 k (product ks) (some 0 (omega arith)) r.0 in
    (omega arith, mul-le 1 (product (radix g ks)) k (product ks) (some 0 (omega arith)) r.1)

-- the number of a block's coordinates, both as six
module _ (ks rs cs xs : List ℕ) (few : length ks ≤ 6) (r : rs ≡ six 1 ks) (x : xs ≡ six 0 cs) (b : Below ks cs) where
  filled_both : (six_long : length xs ≡ 6) → inside ks xs ≡ true
  filled_both six_long = ap (inside ks) x ∙ inside_filled ks cs 6 6 b (omega (arith, below_length ks cs b))

  pub block_number_is : length xs ≡ 6 → number rs xs ≡ number ks cs
  block_number_is six_long =
      ap (λ ys. number ys xs) r ∙ (number-six ks xs few (filled_both six_long)
      ∙ (ap (number ks) x ∙ number_filled ks cs 6 6 b (omega (arith, below_length ks cs b))))
