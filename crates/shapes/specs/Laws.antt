-- What numbers in mixed radix and masks are, in words. Assumes nothing.
use Rattle.std.specs.Prelude.{◌≡◌, ℕ, ◌^◌, ◌<◌, List, length}
use Rattle.shapes.specs.Arrays.{product, number, weighted, digits, Below, Group, mask, group}

-- a number is the sum of each digit times the product of the radices before it; lists of digits below the radices and numbers below their product go with each other
pub record NumbersCount : Type 0 where
  pub sum : (ks xs : List ℕ) → length xs ≡ length ks → number ks xs ≡ weighted ks xs
  pub below : (ks xs : List ℕ) → Below ks xs → (number ks xs < product ks) × (digits ks (number ks xs) ≡ xs)
  pub back : (ks : List ℕ) (s : ℕ) → s < product ks → Below ks (digits ks s) × (number ks (digits ks s) ≡ s)

-- each number below 2 ^ n is the mask of one group of n dimensions, and each group has one mask
pub record MasksNumber : Type 0 where
  pub of_mask : (n m : ℕ) → m < 2 ^ n → (length (group n m) ≡ n) × (mask (group n m) ≡ m)
  pub of_group : (g : Group) → (mask g < 2 ^ length g) × (group (length g) (mask g) ≡ g)
