-- Lists that are filled up to six.
use Rattle.std.proofs.Common.{◌≡◌, ℕ, zero, suc, ◌+◌, ◌-◌, ◌<◌, ◌≤◌, List, [], ◌∷◌, ◌++◌, map, length, get_or, take, drop, set, replicate, sym, refl, ap, ◌∙◌, ⊎_elim, arith}
use Rattle.std.proofs.lemmas.List.{ext_get_or, length-take, length-append, length-replicate, get_or-take, get_or_append_left, get_or-append_right, get_or-replicate, get_or_past, length-set, get_or-set_same, get_or-set_other, get_or_default, take-take, take_at}
use Rattle.std.proofs.lemmas.Bool.{cases_lt, cases_eq}
use Rattle.shapes.specs.Views.{six}

pub length-six : {X : Type 0} (x : X) (xs : List X) → length (six x xs) ≡ 6
length-six x xs = simp (length-take, length-append, length-replicate) (omega arith)

-- below the length, and past it
pub six_at : {X : Type 0} (x : X) (xs : List X) (i : ℕ) → i < 6 → get_or (six x xs) i x ≡ get_or xs i x
six_at x xs i l = ⊎_elim here past (cases_lt i (length xs)) where
  here : i < length xs → get_or (six x xs) i x ≡ get_or xs i x
  here h = get_or-take 6 (xs ++ replicate 6 x) i x l ∙ get_or_append_left xs (replicate 6 x) x i h

  past : length xs ≤ i → get_or (six x xs) i x ≡ get_or xs i x
  past h =
      get_or-take 6 (xs ++ replicate 6 x) i x l ∙ (get_or-append_right xs (replicate 6 x) (length xs) i x refl h
      ∙ (get_or-replicate 6 (i - length xs) x x (omega arith) ∙ sym (get_or_past xs i x h)))

-- a list of six that has x from n on
pub six_taken : {X : Type 0} (x : X) (xs : List X) (n : ℕ) → length xs ≡ 6 → ((i : ℕ) → n ≤ i → get_or xs i x ≡ x) → xs ≡ six x (take n xs)
six_taken x xs n six_long past = ext_get_or x xs (six x (take n xs)) (six_long ∙ sym (length-six x (take n xs))) at where
  below : (i : ℕ) → i < 6 → i < n → get_or xs i x ≡ get_or (six x (take n xs)) i x
  below i l h = sym (six_at x (take n xs) i l ∙ get_or-take n xs i x h)

  above : (i : ℕ) → i < 6 → n ≤ i → get_or xs i x ≡ get_or (six x (take n xs)) i x
  above i l h =
      let m : length (take n xs) ≤ i = simp length-take (omega arith) in
      past i h ∙ sym (six_at x (take n xs) i l ∙ get_or_past (take n xs) i x m)

  at : (i : ℕ) → i < length xs → get_or xs i x ≡ get_or (six x (take n xs)) i x
  at i l = let l6 : i < 6 = omega arith in ⊎_elim (below i l6) (above i l6) (cases_lt i n)

-- a list of six, element by element
pub six_listed : {X Y : Type 0} (f : X → Y) (d : X) (xs : List X) → length xs ≡ 6 → f (get_or xs 0 d) ∷ f (get_or xs 1 d) ∷ f (get_or xs 2 d) ∷ f (get_or xs 3 d) ∷ f (get_or xs 4 d) ∷ f (get_or xs 5 d) ∷ [] ≡ map f xs
six_listed f d [] l = absurd (omega arith)
six_listed f d (a ∷ []) l = absurd (omega arith)
six_listed f d (a ∷ b ∷ []) l = absurd (omega arith)
six_listed f d (a ∷ b ∷ e ∷ []) l = absurd (omega arith)
six_listed f d (a ∷ b ∷ e ∷ g ∷ []) l = absurd (omega arith)
six_listed f d (a ∷ b ∷ e ∷ g ∷ h ∷ []) l = absurd (omega arith)
six_listed f d (a ∷ b ∷ e ∷ g ∷ h ∷ k ∷ []) l = refl
six_listed f d (a ∷ b ∷ e ∷ g ∷ h ∷ k ∷ m ∷ xs) l = absurd (omega arith)

-- one element more of a list of at most six, put in its place
pub six_more : {X : Type 0} (x d : X) (xs : List X) (i : ℕ) → i < length xs → length xs ≤ 6 → set (six x (take i xs)) i (get_or xs i d) ≡ six x (take (i + 1) xs)
six_more x d xs i l few =
    let long : length (set (six x (take i xs)) i (get_or xs i d)) ≡ 6 = length-set (six x (take i xs)) i (get_or xs i d) ∙ length-six x (take i xs) in
    ext_get_or x (set (six x (take i xs)) i (get_or xs i d)) (six x (take (i + 1) xs)) (long ∙ sym (length-six x (take (i + 1) xs)))
    (λ k h. let k6 : k < 6 = omega arith in ⊎_elim (same k k6) (other k k6) (cases_eq k i)) where
      at_next : (k : ℕ) → k < 6 → get_or (six x (take (i + 1) xs)) k x ≡ get_or (take (i + 1) xs) k x
      at_next k h = six_at x (take (i + 1) xs) k h

      same : (k : ℕ) → k < 6 → k ≡ i → get_or (set (six x (take i xs)) i (get_or xs i d)) k x ≡ get_or (six x (take (i + 1) xs)) k x
      same k h e =
          let ki : i < 6 = omega arith in
          let in6 : i < length (six x (take i xs)) = omega (arith, length-six x (take i xs)) in
          let a : get_or (set (six x (take i xs)) i (get_or xs i d)) i x ≡ get_or xs i d = get_or-set_same (six x (take i xs)) i (get_or xs i d) x in6 in
          let b : get_or (take (i + 1) xs) i x ≡ get_or xs i x = get_or-take (i + 1) xs i x (omega arith) in
          rw e (a ∙ (get_or_default xs i d x l ∙ sym (at_next i ki ∙ b)))

      before : (k : ℕ) → k < i → get_or (take i xs) k x ≡ get_or (take (i + 1) xs) k x
      before k b = get_or-take i xs k x b ∙ sym (get_or-take (i + 1) xs k x (omega arith))

      after : (k : ℕ) → (k ≡ i → ⊥) → i ≤ k → get_or (take i xs) k x ≡ get_or (take (i + 1) xs) k x
      after k ne b = get_or_past (take i xs) k x (simp length-take (omega arith)) ∙ sym (get_or_past (take (i + 1) xs) k x (simp length-take (omega arith)))

      other : (k : ℕ) → k < 6 → (k ≡ i → ⊥) → get_or (set (six x (take i xs)) i (get_or xs i d)) k x ≡ get_or (six x (take (i + 1) xs)) k x
      other k h ne =
          get_or-set_other (six x (take i xs)) i k (get_or xs i d) x ne
          ∙ (six_at x (take i xs) k h ∙ (⊎_elim (before k) (after k ne) (cases_lt k i) ∙ sym (at_next k h)))

-- the first elements are the list's own
pub take-six : {X : Type 0} (x : X) (xs : List X) (n : ℕ) → n ≡ length xs → n ≤ 6 → take n (six x xs) ≡ xs
take-six x xs n e few = take-take n 6 (xs ++ replicate 6 x) few ∙ take_at xs (replicate 6 x) n (sym e)

-- a list put over the front of six
front_of_same : {X : Type 0} (x : X) (n m : ℕ) → n ≤ m → replicate n x ≡ take n (replicate m x)
front_of_same x zero m l = refl
front_of_same x (suc n) zero l = absurd (omega arith)
front_of_same x (suc n) (suc m) l = ap (λ ys. x ∷ ys) (front_of_same x n m (omega arith))

pasted : {X : Type 0} (x : X) (xs : List X) (n m : ℕ) → length xs ≤ n → n ≤ m → xs ++ drop (length xs) (replicate n x) ≡ take n (xs ++ replicate m x)
pasted x [] n m l h = front_of_same x n m h
pasted x (y ∷ xs) zero m l h = absurd (omega arith)
pasted x (y ∷ xs) (suc n) m l h = ap (λ ys. y ∷ ys) (pasted x xs n m (omega arith) (omega arith))

pub six_pasted : {X : Type 0} (x : X) (xs : List X) → length xs ≤ 6 → xs ++ drop (length xs) (replicate 6 x) ≡ six x xs
six_pasted x xs l = pasted x xs 6 6 l (omega arith)

-- a function of each of six
map_front : {X Y : Type 0} (f : X → Y) (x : X) (n m : ℕ) → map f (take n (replicate m x)) ≡ take n (replicate m (f x))
map_front f x zero m = refl
map_front f x (suc n) zero = refl
map_front f x (suc n) (suc m) = ap (λ ys. f x ∷ ys) (map_front f x n m)

map_filled : {X Y : Type 0} (f : X → Y) (x : X) (xs : List X) (n m : ℕ) → map f (take n (xs ++ replicate m x)) ≡ take n (map f xs ++ replicate m (f x))
map_filled f x [] n m = map_front f x n m
map_filled f x (y ∷ xs) zero m = refl
map_filled f x (y ∷ xs) (suc n) m = ap (λ ys. f y ∷ ys) (map_filled f x xs n m)

pub map-six : {X Y : Type 0} (f : X → Y) (x : X) (xs : List X) → map f (six x xs) ≡ six (f x) (map f xs)
map-six f x xs = map_filled f x xs 6 6
