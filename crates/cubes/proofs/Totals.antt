-- Sums over groups: how many blocks a list has, by group.
use Rattle.std.proofs.Common.{◌≡◌, ℕ, zero, suc, ◌+◌, ◌*◌, Bool, true, false, cond, ◌⊎◌, List, [], ◌∷◌, ◌++◌, map, length, sum_by, sum, filter, sym, refl, ap, ◌∙◌, inl, inr, ⊎_elim, arith}
use Rattle.std.specs.List.{ContainsAt as Has, AllByRecursion}
use Rattle.std.proofs.ByRecursion.{All-append, All-weaker, All-map, all-has}
use Rattle.std.proofs.lemmas.List.Sums.{sum_by-cons, sum-map}
use Rattle.shapes.specs.Arrays.{Group, product, radix}
use Rattle.cubes.specs.Handing.{Block, same_group, of_group, tally, Distinct}
use Rattle.cubes.proofs.Machine.{same_group_refl, same_group_ne}
use Rattle.cubes.proofs.Listing.{all_always}

-- sums over all groups of n dimensions
pub sum_over : {X : Type 0} → (X → ℕ) → List X → ℕ
sum_over f [] = 0
sum_over f (x ∷ xs) = f x + sum_over f xs

pub sum_over_append : {X : Type 0} (f : X → ℕ) (xs ys : List X) → sum_over f (xs ++ ys) ≡ sum_over f xs + sum_over f ys
unfolding sum_over
sum_over_append f [] ys = omega arith
sum_over_append f (x ∷ xs) ys = omega (arith, sum_over_append f xs ys)

pub sum_over_map : {X Y : Type 0} (f : Y → ℕ) (g : X → Y) (xs : List X) → sum_over f (map g xs) ≡ sum_over (λ x. f (g x)) xs
unfolding sum_over
sum_over_map f g [] = refl
sum_over_map f g (x ∷ xs) = ap (λ m. f (g x) + m) (sum_over_map f g xs)

sum_over_add : {X : Type 0} (f g : X → ℕ) (xs : List X) → sum_over (λ x. f x + g x) xs ≡ sum_over f xs + sum_over g xs
unfolding sum_over
sum_over_add f g [] = refl
sum_over_add f g (x ∷ xs) = omega (arith, sum_over_add f g xs)

sum_over_times : {X : Type 0} (k : ℕ) (f : X → ℕ) (xs : List X) → sum_over (λ x. k * f x) xs ≡ k * sum_over f xs
unfolding sum_over
sum_over_times k f [] = omega arith
sum_over_times k f (x ∷ xs) = omega (arith, sum_over_times k f xs)

sum_over_none : {X : Type 0} (xs : List X) → sum_over (λ (x : X). 0) xs ≡ 0
unfolding sum_over
sum_over_none [] = refl
sum_over_none (x ∷ xs) = omega (arith, sum_over_none xs)

pub sum_over_like : {X : Type 0} (f g : X → ℕ) (xs : List X) → AllByRecursion (λ x. f x ≡ g x) xs → sum_over f xs ≡ sum_over g xs
unfolding sum_over
sum_over_like f g [] a = refl
sum_over_like f g (x ∷ xs) a = omega (arith, a.0, sum_over_like f g xs a.1)

pub every_group : ℕ → List Group
every_group zero = [] ∷ []
every_group (suc n) = map (λ g. false ∷ g) (every_group n) ++ map (λ g. true ∷ g) (every_group n)

pub every_group_are : (n : ℕ) → AllByRecursion (λ h. length h ≡ n) (every_group n)
unfolding every_group
every_group_are zero = (refl, tt)
every_group_are (suc n) = All-append (λ h. length h ≡ suc n) (map (λ g. false ∷ g) (every_group n)) (map (λ g. true ∷ g) (every_group n))
    (All-map (λ h. length h ≡ suc n) (λ g. false ∷ g) (every_group n)
    (All-weaker (λ h. length h ≡ n) (λ h. suc (length h) ≡ suc n) (λ h e. ap suc e) (every_group n) (every_group_are n)))
    (All-map (λ h. length h ≡ suc n) (λ g. true ∷ g) (every_group n)
    (All-weaker (λ h. length h ≡ n) (λ h. suc (length h) ≡ suc n) (λ h e. ap suc e) (every_group n) (every_group_are n)))

pub every_group_once : (n : ℕ) (g : Group) → length g ≡ n → sum_over (λ h. cond (same_group g h) 1 0) (every_group n) ≡ 1
unfolding every_group sum_over
every_group_once zero [] l = refl
every_group_once zero (b ∷ g) l = absurd (omega arith)
every_group_once (suc n) [] l = absurd (omega arith)
every_group_once (suc n) (true ∷ g) l = sum_over_append (λ h. cond (same_group (true ∷ g) h) 1 0) (map (λ g. false ∷ g) (every_group n))
    (map (λ g. true ∷ g) (every_group n))
    ∙ (omega (
      arith,
      sum_over_map (λ h. cond (same_group (true ∷ g) h) 1 0) (λ g. false ∷ g) (every_group n),
      sum_over_map
          (λ h. cond (same_group (true ∷ g) h) 1 0) (λ g. true ∷ g) (every_group n),
      sum_over_none (every_group n),
      every_group_once n g (omega arith),
    ))
every_group_once (suc n) (false ∷ g) l = sum_over_append (λ h. cond (same_group (false ∷ g) h) 1 0) (map (λ g. false ∷ g) (every_group n))
    (map (λ g. true ∷ g) (every_group n))
    ∙ (omega (
      arith,
      sum_over_map (λ h. cond (same_group (false ∷ g) h) 1 0) (λ g. false ∷ g) (every_group n),
      sum_over_map
          (λ h. cond (same_group (false ∷ g) h) 1 0) (λ g. true ∷ g) (every_group n),
      sum_over_none (every_group n),
      every_group_once n g (omega arith),
    ))

-- the products of the kept counts, summed over all groups
pub total_products : (ks : List ℕ) → sum_over (λ h. product (radix h ks)) (every_group (length ks)) ≡ product (map suc ks)
unfolding every_group sum_over
total_products [] = refl
total_products (k ∷ ks) = sum_over_append (λ h. product (radix h (k ∷ ks))) (map (λ g. false ∷ g) (every_group (length ks)))
    (map (λ g. true ∷ g) (every_group (length ks)))
    ∙ (omega (
      arith,
      sum_over_map (λ h. product (radix h (k ∷ ks))) (λ g. false ∷ g) (every_group (length ks)),
      sum_over_map (λ h. product (radix h (k ∷ ks)))
          (λ g. true ∷ g) (every_group (length ks)),
      sum_over_times 1 (λ h. product (radix h ks)) (every_group (length ks)),
      sum_over_times k
          (λ h. product (radix h ks)) (every_group (length ks)),
      ap (λ m. k * m) (total_products ks),
      total_products ks,
    ))

-- the sum as a list's
pub sum_over_is : {X : Type 0} (f : X → ℕ) (xs : List X) → sum_over f xs ≡ sum (map f xs)
unfolding sum_over
sum_over_is {X} f xs = go xs ∙ sym (sum-map f xs)
  where
    go : (xs : List X) → sum_over f xs ≡ sum_by f xs
    go [] = refl
    go (x ∷ xs) = ap (λ n. f x + n) (go xs) ∙ sym (sum_by-cons f x xs)

has_cases : {X : Type 0} (x y : X) (xs : List X) → Has (x ∷ xs) y → (x ≡ y) ⊎ Has xs y
has_cases x y xs (zero, l, e) = inl (e x)
has_cases x y xs (suc k, l, e) = inr (k, omega arith, e)

-- a group that a list has once counts once in it
pub counts_once : (gs : List Group) (g : Group) → Distinct gs → Has gs g → sum_over (λ h. cond (same_group g h) 1 0) gs ≡ 1
unfolding sum_over
counts_once [] g d (k, l, e) = absurd (omega arith)
counts_once (h ∷ gs) g d has = ⊎_elim
    (λ e. omega (arith, one (same_group g h) true (ap (same_group g) e ∙ same_group_refl g), none e))
    (λ k. omega (arith, one (same_group g h) false (same_group_ne g h (λ e. apart (sym e) k)), counts_once gs g d.1 k))
    (has_cases h g gs has)
  where
    one : (b c : Bool) → b ≡ c → ◌≡◌ {A = ℕ} (cond b 1 0) (cond c 1 0)
    one b c e = ap {B = ℕ} (λ z. cond z 1 0) e

    none : h ≡ g → sum_over (λ x. cond (same_group g x) 1 0) gs ≡ 0
    none e = sum_over_like (λ x. cond (same_group g x) 1 0) (λ x. 0) gs
        (All-weaker (λ x. x ≡ h → ⊥) (λ x. cond (same_group g x) 1 0 ≡ 0) (λ x n. ap {B = ℕ} (λ b. cond b 1 0) (same_group_ne g x (λ q. n (sym q ∙ sym e)))) gs
        d.0) ∙ sum_over_none gs

    apart : h ≡ g → Has gs g → ⊥
    apart e k = all-has (λ x. x ≡ h → ⊥) gs g d.0 k (sym e)

-- the blocks of a list, counted by group
pub tally_total : (gs : List Group) (xs : List Block) → AllByRecursion (λ x. sum_over (λ h. cond (same_group x.of h) 1 0) gs ≡ 1) xs → sum_over (tally xs) gs ≡ length xs
unfolding sum_over
tally_total gs [] v = sum_over_none gs
tally_total gs (x ∷ xs) v =
    sum_over_like (tally (x ∷ xs)) (λ h. cond (same_group x.of h) 1 0 + tally xs h) gs
    (all_always (λ h. tally (x ∷ xs) h ≡ cond (same_group x.of h) 1 0 + tally xs h) (λ h. step (same_group x.of h) (filter (of_group h) xs)) gs)
    ∙ (sum_over_add (λ h. cond (same_group x.of h) 1 0) (tally xs) gs ∙ omega (arith, v.0, tally_total gs xs v.1))
  where
    step : (b : Bool) (ys : List Block) → length (cond b (x ∷ ys) ys) ≡ cond b 1 0 + length ys
    step true ys = omega arith
    step false ys = omega arith
