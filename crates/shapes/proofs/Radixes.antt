-- Radices, and those of a group.
use Rattle.std.proofs.Common.{◌≡◌, ℕ, zero, suc, ◌<◌, ◌≤◌, true, false, List, [], ◌∷◌, length, get_or, refl, ap, if◌then◌else◌, arith}
use Rattle.std.specs.List.{AllByRecursion}
use Rattle.std.proofs.lemmas.Nat.{mul-le}
use Rattle.std.proofs.ByRecursion.{All-from_get_or}
use Rattle.shapes.specs.Arrays.{Group, product, radix, keeps}
use Rattle.shapes.specs.declared.radices.Radices.{Radices}

pub all_some : (ks : Radices) → AllByRecursion (λ (k : ℕ). 1 ≤ k) ks.each
all_some ks = All-from_get_or (λ (k : ℕ). 1 ≤ k) ks.each 0 (λ i l. ks.some i (omega (arith, ks.six)))

pub length-radix : (g : Group) (ks : List ℕ) → length g ≡ length ks → length (radix g ks) ≡ length ks
length-radix [] [] l = refl
length-radix [] (k ∷ ks) l = absurd (omega arith)
length-radix (b ∷ g) [] l = absurd (omega arith)
length-radix (b ∷ g) (k ∷ ks) l = ap suc (length-radix g ks (omega arith))

pub radix_at : (g : Group) (ks : List ℕ) (i : ℕ) → length g ≡ length ks → i < length ks → get_or (radix g ks) i 0 ≡ (if keeps g i then get_or ks i 0 else 1)
radix_at [] [] i l h = absurd (omega arith)
radix_at [] (k ∷ ks) i l h = absurd (omega arith)
radix_at (b ∷ g) [] i l h = absurd (omega arith)
radix_at (b ∷ g) (k ∷ ks) zero l h = refl
radix_at (b ∷ g) (k ∷ ks) (suc i) l h = radix_at g ks i (omega arith) (omega arith)

-- a group's radices are no larger, and make no larger product
pub radix_some : (g : Group) (ks : List ℕ) → AllByRecursion (λ (k : ℕ). 1 ≤ k) ks → AllByRecursion (λ (k : ℕ). 1 ≤ k) (radix g ks)
radix_some [] ks h = tt
radix_some (b ∷ g) [] h = tt
radix_some (true ∷ g) (k ∷ ks) h = (h.0, radix_some g ks h.1)
radix_some (false ∷ g) (k ∷ ks) h = (omega arith, radix_some g ks h.1)

pub radix_product : (g : Group) (ks : List ℕ) → AllByRecursion (λ (k : ℕ). 1 ≤ k) ks → product (radix g ks) ≤ product ks
radix_product [] [] h = omega arith
radix_product [] (k ∷ ks) h = let p = h.0 in let q = radix_product [] ks h.1 in omega (arith, mul-le 1 1 k (product ks) p q)
radix_product (b ∷ g) [] h = omega arith
radix_product (true ∷ g) (k ∷ ks) h = let q = radix_product g ks h.1 in let same : k ≤ k = omega arith in mul-le k (product (radix g ks)) k (product ks) same q
radix_product (false ∷ g) (k ∷ ks) h = let p = h.0 in let q = radix_product g ks h.1 in omega (arith, mul-le 1 (product (radix g ks)) k (product ks) p q)

pub some_at : (ks : List ℕ) (i : ℕ) → AllByRecursion (λ (k : ℕ). 1 ≤ k) ks → i < length ks → 1 ≤ get_or ks i 0
some_at [] i h l = absurd (omega arith)
some_at (k ∷ ks) zero h l = h.0
some_at (k ∷ ks) (suc i) h l = some_at ks i h.1 (omega arith)
