-- Sums and products over a list, lists that differ in order alone, what holds of each pair of a list.
use Rattle.std.proofs.Common.{◌≡◌, ℕ, zero, suc, ◌+◌, ◌*◌, ◌<◌, ◌≤◌, ◌⊎◌, List, [], ◌∷◌, map, refl, ap, ◌∙◌, inl, inr, add-zero, mul-le-mul, mul_left_comm, arith}
use native.Mathlib.Nat.{one-le-mul}
use Rattle.std.specs.List.{range_with_len, AllByRecursion}
use Rattle.std.proofs.lemmas.Bool.{cases_lt}
use Rattle.shapes.specs.Arrays.{product}

unfoldable pub total : (ℕ → ℕ) → List ℕ → ℕ
total f [] = 0
total f (x ∷ xs) = f x + total f xs

unfoldable pub times : (ℕ → ℕ) → List ℕ → ℕ
times f [] = 1
times f (x ∷ xs) = f x * times f xs

pub total_nil : (f : ℕ → ℕ) → total f [] ≡ 0
unfolding total
total_nil f = refl

pub times_cons : (f : ℕ → ℕ) (x : ℕ) (xs : List ℕ) → times f (x ∷ xs) ≡ f x * times f xs
unfolding times
times_cons f x xs = refl

pub product_is : (f : ℕ → ℕ) (xs : List ℕ) → product (map f xs) ≡ times f xs
unfolding times
product_is f [] = refl
product_is f (x ∷ xs) = ap (λ k. f x * k) (product_is f xs)

pub total_same : (f g : ℕ → ℕ) (xs : List ℕ) → AllByRecursion (λ x. f x ≡ g x) xs → total f xs ≡ total g xs
unfolding total
total_same f g [] h = refl
total_same f g (x ∷ xs) h = omega (arith, h.0, total_same f g xs h.1)

pub times_same : (f g : ℕ → ℕ) (xs : List ℕ) → AllByRecursion (λ x. f x ≡ g x) xs → times f xs ≡ times g xs
unfolding times
times_same f g [] h = refl
times_same f g (x ∷ xs) h = rw (h.0, times_same f g xs h.1) refl

pub total_scaled : (k : ℕ) (f g : ℕ → ℕ) (xs : List ℕ) → AllByRecursion (λ x. f x ≡ k * g x) xs → total f xs ≡ k * total g xs
unfolding total
total_scaled k f g [] h = omega arith
total_scaled k f g (x ∷ xs) h = omega (arith, h.0, total_scaled k f g xs h.1)

pub total_zero : (f : ℕ → ℕ) (xs : List ℕ) → AllByRecursion (λ x. f x ≡ 0) xs → total f xs ≡ 0
unfolding total
total_zero f [] h = refl
total_zero f (x ∷ xs) h = omega (arith, h.0, total_zero f xs h.1)

pub total_plus : (f g : ℕ → ℕ) (xs : List ℕ) → total (λ x. f x + g x) xs ≡ total f xs + total g xs
unfolding total
total_plus f g [] = refl
total_plus f g (x ∷ xs) = omega (arith, total_plus f g xs)

pub total_le : (f g : ℕ → ℕ) (xs : List ℕ) → AllByRecursion (λ x. f x ≤ g x) xs → total f xs ≤ total g xs
unfolding total
total_le f g [] h = omega arith
total_le f g (x ∷ xs) h = omega (arith, h.0, total_le f g xs h.1)

pub total_at_most : (b : ℕ) (f : ℕ → ℕ) (a n : ℕ) → ((i : ℕ) → f i ≤ b) → total f (range_with_len a n) ≤ n * b
unfolding total
total_at_most b f a zero h = omega arith
total_at_most b f a (suc n) h = omega (arith, h a, total_at_most b f (a + 1) n h)

-- one more number
pub total_last : (f : ℕ → ℕ) (a n : ℕ) → total f (range_with_len a (suc n)) ≡ total f (range_with_len a n) + f (a + n)
unfolding total
total_last f a zero = rw (add-zero a) (omega arith)
total_last f a (suc n) =
    let e : a + 1 + n ≡ a + suc n = omega arith in
    let ih : f (a + 1) + total f (range_with_len (a + 1 + 1) n) ≡ total f (range_with_len (a + 1) n) + f (a + 1 + n) = total_last f (a + 1) n in
    let ih' : f (a + 1) + total f (range_with_len (a + 1 + 1) n) ≡ total f (range_with_len (a + 1) n) + f (a + suc n) = rw e at ih in
    omega arith

pub times_le : (f g : ℕ → ℕ) (xs : List ℕ) → AllByRecursion (λ x. f x ≤ g x) xs → times f xs ≤ times g xs
unfolding times
times_le f g [] h = omega arith
times_le f g (x ∷ xs) h = mul-le-mul h.0 (times_le f g xs h.1)

pub times_pos : (f : ℕ → ℕ) (xs : List ℕ) → AllByRecursion (λ x. 1 ≤ f x) xs → 1 ≤ times f xs
unfolding times
times_pos f [] h = omega arith
times_pos f (x ∷ xs) h = one-le-mul h.0 (times_pos f xs h.1)

-- lists that differ in order alone
pub data Reordered : List ℕ → List ℕ → Type 0 where
  same : {xs : List ℕ} → Reordered xs xs
  behind : {x : ℕ} {xs ys : List ℕ} → Reordered xs ys → Reordered (x ∷ xs) (x ∷ ys)
  swap : {x y : ℕ} {xs : List ℕ} → Reordered (x ∷ y ∷ xs) (y ∷ x ∷ xs)
  then : {xs ys zs : List ℕ} → Reordered xs ys → Reordered ys zs → Reordered xs zs

pub reordered_back : {xs ys : List ℕ} → Reordered xs ys → Reordered ys xs
reordered_back same = same
reordered_back (behind m) = behind (reordered_back m)
reordered_back swap = swap
reordered_back (then m n) = then (reordered_back n) (reordered_back m)

pub total_reordered : (f : ℕ → ℕ) {xs ys : List ℕ} → Reordered xs ys → total f xs ≡ total f ys
unfolding total
total_reordered f same = refl
total_reordered f (behind {x = x} m) = ap (λ k. f x + k) (total_reordered f m)
total_reordered f swap = omega arith
total_reordered f (then m n) = total_reordered f m ∙ total_reordered f n

pub times_reordered : (f : ℕ → ℕ) {xs ys : List ℕ} → Reordered xs ys → times f xs ≡ times f ys
unfolding times
times_reordered f same = refl
times_reordered f (behind {x = x} m) = ap (λ k. f x * k) (times_reordered f m)
times_reordered f (swap {x = x} {y = y} {xs = xs}) = mul_left_comm (f x) (f y) (times f xs)
times_reordered f (then m n) = times_reordered f m ∙ times_reordered f n

pub all_reordered : (P : ℕ → Type 0) {xs ys : List ℕ} → Reordered xs ys → AllByRecursion P xs → AllByRecursion P ys
all_reordered P same h = h
all_reordered P (behind m) h = (h.0, all_reordered P m h.1)
all_reordered P swap h = (h.1.0, (h.0, h.1.1))
all_reordered P (then m n) h = all_reordered P n (all_reordered P m h)

-- each element with each later one
abbrev pub Pairs : (ℕ → ℕ → Type 0) → List ℕ → Type 0
Pairs R [] = Unit {0}
Pairs R (x ∷ xs) = AllByRecursion (R x) xs × Pairs R xs

pub pairs_reordered : (R : ℕ → ℕ → Type 0) → ((x y : ℕ) → R x y → R y x) → {xs ys : List ℕ} → Reordered xs ys → Pairs R xs → Pairs R ys
pairs_reordered R s same h = h
pairs_reordered R s (behind {x = x} m) h = (all_reordered (R x) m h.0, pairs_reordered R s m h.1)
pairs_reordered R s (swap {x = x} {y = y}) h = ((s x y h.0.0, h.1.0), (h.0.1, h.1.1))
pairs_reordered R s (then m n) h = pairs_reordered R s n (pairs_reordered R s m h)

pub every : (P : ℕ → Type 0) → ((e : ℕ) → P e) → (zs : List ℕ) → AllByRecursion P zs
every P f [] = tt
every P f (z ∷ zs) = (f z, every P f zs)

pub all_weak : (P Q : ℕ → Type 0) → ((x : ℕ) → P x → Q x) → (xs : List ℕ) → AllByRecursion P xs → AllByRecursion Q xs
all_weak P Q f [] h = tt
all_weak P Q f (x ∷ xs) h = (f x h.0, all_weak P Q f xs h.1)

pub all_both : (P Q R : ℕ → Type 0) → ((x : ℕ) → P x → Q x → R x) → (xs : List ℕ) → AllByRecursion P xs → AllByRecursion Q xs → AllByRecursion R xs
all_both P Q R f [] h k = tt
all_both P Q R f (x ∷ xs) h k = (f x h.0 k.0, all_both P Q R f xs h.1 k.1)

-- a list in rising order of k
pub record Sorted (k : ℕ → ℕ) (xs : List ℕ) : Type 0 where
  pub list : List ℕ
  pub reordered : Reordered xs list
  pub rises : Pairs (λ x y. k x < k y) list

pub insert : (k : ℕ → ℕ) (x : ℕ) (ys : List ℕ) → Pairs (λ a b. k a < k b) ys → AllByRecursion (λ y. k x ≡ k y → ⊥) ys → Sorted k (x ∷ ys)
insert k x [] r a = record { list = x ∷ []; reordered = same; rises = (tt, tt) }
insert k x (y ∷ ys) r a = go (cases_lt (k x) (k y)) (insert k x ys r.1 a.1)
  where
    go : (k x < k y) ⊎ (k y ≤ k x) → Sorted k (x ∷ ys) → Sorted k (x ∷ y ∷ ys)
    go (inl h) l = record { list = x ∷ y ∷ ys; reordered = same; rises = ((h, all_weak (λ z. k y < k z) (λ z. k x < k z) (λ z e. omega arith) ys r.0), r) }
    go (inr h) l = record {
      list = y ∷ l.list;
      reordered = then swap (behind l.reordered);
      rises = (all_reordered (λ z. k y < k z) l.reordered (omega (arith, a.0), r.0), l.rises);
    }

pub sort : (k : ℕ → ℕ) (xs : List ℕ) → Pairs (λ x y. k x ≡ k y → ⊥) xs → Sorted k xs
sort k [] a = record { list = []; reordered = same; rises = tt }
sort k (x ∷ xs) a = go (sort k xs a.1)
  where
    go : Sorted k xs → Sorted k (x ∷ xs)
    go l = more (insert k x l.list l.rises (all_reordered (λ y. k x ≡ k y → ⊥) l.reordered a.0))
      where
        more : Sorted k (x ∷ l.list) → Sorted k (x ∷ xs)
        more m = record { list = m.list; reordered = then (behind l.reordered) m.reordered; rises = m.rises }

-- what holds of all numbers from a on, n of them
pub all_counting : (P : ℕ → Type 0) (a n : ℕ) → ((i : ℕ) → a ≤ i → i < a + n → P i) → AllByRecursion P (range_with_len a n)
all_counting P a zero f = tt
all_counting P a (suc n) f = (f a (omega arith) (omega arith), all_counting P (a + 1) n (λ i h l. f i (omega arith) (omega arith)))

pub pairs_counting : (R : ℕ → ℕ → Type 0) (a n : ℕ) → ((i j : ℕ) → a ≤ i → i < j → j < a + n → R i j) → Pairs R (range_with_len a n)
pairs_counting R a zero f = tt
pairs_counting R a (suc n) f = (all_counting (R a) (a + 1) n (λ j h l. f a j (omega arith) (omega arith) (omega arith)), pairs_counting R (a + 1) n (λ i j h l m. f i j (omega arith) l (omega arith)))

pub counting_all : (P : ℕ → Type 0) (a n : ℕ) → AllByRecursion P (range_with_len a n) → (i : ℕ) → a ≤ i → i < a + n → P i
counting_all P a zero h i l m = absurd (omega arith)
counting_all P a (suc n) h i l m = go (cases_lt a i) (counting_all P (a + 1) n h.1 i)
  where
    go : (a < i) ⊎ (i ≤ a) → (a + 1 ≤ i → i < a + 1 + n → P i) → P i
    go (inl k) f = f (omega arith) (omega arith)
    go (inr k) f = let e : a ≡ i = omega arith in rw e at h.0

pub counting_pairs : (R : ℕ → ℕ → Type 0) (a n : ℕ) → Pairs R (range_with_len a n) → (i j : ℕ) → a ≤ i → i < j → j < a + n → R i j
counting_pairs R a zero h i j l k m = absurd (omega arith)
counting_pairs R a (suc n) h i j l k m = go (cases_lt a i) (counting_pairs R (a + 1) n h.1 i j)
  where
    go : (a < i) ⊎ (i ≤ a) → (a + 1 ≤ i → i < j → j < a + 1 + n → R i j) → R i j
    go (inl q) f = f (omega arith) k (omega arith)
    go (inr q) f = let e : a ≡ i = omega arith in rw e at (counting_all (R a) (a + 1) n h.0 j (omega arith) (omega arith))
