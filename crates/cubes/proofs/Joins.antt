-- Joins of many values in a commutative monoid, from its laws alone.
use Rattle.std.proofs.Common.{◌≡◌, ℕ, zero, suc, ◌+◌, ◌*◌, ◌<◌, Bool, true, false, cond, eqb, ◌⊎◌, List, [], ◌∷◌, map, filter, sym, refl, ap, ◌∙◌, ap₂, inl, inr, add-zero, add-suc, suc-mul, mul_comm, zero-add, zero-mul, add-one, arith}
use lib.Arith.{digits_div, digits_mod}
use Rattle.std.specs.List.{range_with_len}
use Rattle.std.proofs.lemmas.Bool.{cases_eq, eq-eqb, ne_eqb}
use Rattle.shapes.specs.Arrays.{product, digits, all_digits, Below}
use Rattle.measures.specs.Laws.{Lawful, total}
use Rattle.cubes.specs.Summaries.{big}
use mathlib.Core.List.{map-map}

-- the join of f over all digit lists below the radices
abbrev pub nest : {M : Type 0} → M → (M → M → M) → List ℕ → (List ℕ → M) → M
nest empty join [] f = f []
nest empty join (k ∷ ks) f = big empty join (λ v. nest empty join ks (λ ys. f (v ∷ ys))) k

module _ {M : Type 0} (empty : M) (join : M → M → M) (laws : Lawful empty join) where
  pub join_empty : (a : M) → join a empty ≡ a
  join_empty a = laws.comm a empty ∙ laws.neutral a

  pub join_swap : (a b c d : M) → join (join a b) (join c d) ≡ join (join a c) (join b d)
  join_swap a b c d =
      laws.assoc a b (join c d)
      ∙ ap (join a) (sym (laws.assoc b c d) ∙ ap (λ z. join z d) (laws.comm b c) ∙ laws.assoc c b d)
      ∙ sym (laws.assoc a c (join b d))

  pub big_cong : (f g : ℕ → M) (n : ℕ) → ((i : ℕ) → i < n → f i ≡ g i) → big empty join f n ≡ big empty join g n
  big_cong f g zero h = refl
  big_cong f g (suc n) h = ap₂ join (big_cong f g n (λ i l. h i (omega arith))) (h n (omega arith))

  pub big_last : (f : ℕ → M) (n : ℕ) → big empty join f (n + 1) ≡ join (big empty join f n) (f n)
  big_last f n = ap (big empty join f) (add-one n)

  pub big_empty : (n : ℕ) → big empty join (λ _. empty) n ≡ empty
  big_empty zero = refl
  big_empty (suc n) = ap (λ z. join z empty) (big_empty n) ∙ laws.neutral empty

  pub big_none : (f : ℕ → M) (n : ℕ) → ((i : ℕ) → i < n → f i ≡ empty) → big empty join f n ≡ empty
  big_none f n h = big_cong f (λ _. empty) n h ∙ big_empty n

  pub big_join : (f g : ℕ → M) (n : ℕ) → big empty join (λ i. join (f i) (g i)) n ≡ join (big empty join f n) (big empty join g n)
  big_join f g zero = sym (laws.neutral empty)
  big_join f g (suc n) = ap (λ z. join z (join (f n) (g n))) (big_join f g n) ∙ join_swap (big empty join f n) (big empty join g n) (f n) (g n)

  pub big_swap : (f : ℕ → ℕ → M) (n m : ℕ) → big empty join (λ i. big empty join (f i) m) n ≡ big empty join (λ j. big empty join (λ i. f i j) n) m
  big_swap f zero m = sym (big_empty m)
  big_swap f (suc n) m = ap (λ z. join z (big empty join (f n) m)) (big_swap f n m) ∙ sym (big_join (λ j. big empty join (λ i. f i j) n) (f n) m)

  pub big_add : (f : ℕ → M) (n m : ℕ) → big empty join f (n + m) ≡ join (big empty join f n) (big empty join (λ i. f (n + i)) m)
  big_add f n zero = ap (big empty join f) (add-zero n) ∙ sym (join_empty (big empty join f n))
  big_add f n (suc m) = ap (big empty join f) (add-suc n m) ∙ ap (λ z. join z (f (n + m))) (big_add f n m)
      ∙ laws.assoc (big empty join f n) (big empty join (λ i. f (n + i)) m) (f (n + m))

  pub big_mul : (f : ℕ → M) (n c : ℕ) → big empty join f (n * c) ≡ big empty join (λ k. big empty join (λ l. f (k * c + l)) c) n
  big_mul f zero c = ap (big empty join f) (zero-mul c)
  big_mul f (suc n) c = ap (big empty join f) (suc-mul n c) ∙ big_add f (n * c) c ∙ ap (λ z. join z (big empty join (λ l. f (n * c + l)) c)) (big_mul f n c)

  pub big_first : (f : ℕ → M) (n : ℕ) → big empty join f (suc n) ≡ join (f 0) (big empty join (λ i. f (suc i)) n)
  big_first f zero = laws.comm empty (f 0)
  big_first f (suc n) = ap (λ z. join z (f (suc n))) (big_first f n) ∙ laws.assoc (f 0) (big empty join (λ i. f (suc i)) n) (f (suc n))

  pub big_cond : (b : Bool) (f : ℕ → M) (n : ℕ) → big empty join (λ i. cond b (f i) empty) n ≡ cond b (big empty join f n) empty
  big_cond true f n = refl
  big_cond false f n = big_empty n

  -- at most one value is not empty
  pub big_one : (f : ℕ → M) (n k : ℕ) → k < n → ((i : ℕ) → i < n → (i ≡ k → ⊥) → f i ≡ empty) → big empty join f n ≡ f k
  big_one f zero k l h = absurd (omega arith)
  big_one f (suc n) k l h = at (cases_eq n k) (λ ne. big_one f n k (omega arith) (λ i m. h i (omega arith)))
    where
      at : (n ≡ k) ⊎ (n ≡ k → ⊥) → ((n ≡ k → ⊥) → big empty join f n ≡ f k) → big empty join f (suc n) ≡ f k
      at (inl e) r = ap₂ join (big_none f n (λ i m. h i (omega arith) (λ q. omega arith))) (ap f e) ∙ laws.neutral (f k)
      at (inr ne) r = ap₂ join (r ne) (h n (omega arith) ne) ∙ join_empty (f k)

  pub big_eqb : (f : ℕ → M) (n k : ℕ) → k < n → big empty join (λ i. cond (eqb k i) (f i) empty) n ≡ f k
  big_eqb f n k l = big_one (λ i. cond (eqb k i) (f i) empty) n k l (λ i m ne. rw (ne_eqb k i (λ q. ne (sym q)))) ∙ rw (eq-eqb k k refl)

  pub total_counting : (f : ℕ → M) (a n : ℕ) → total empty join (map f (range_with_len a n)) ≡ big empty join (λ i. f (a + i)) n
  total_counting f a zero = refl
  total_counting f a (suc n) =
      ap (join (f a)) (total_counting f (a + 1) n ∙ big_cong (λ i. f (a + 1 + i)) (λ i. f (a + suc i)) n (λ i l. ap f (omega arith)))
      ∙ ap (λ z. join (f z) (big empty join (λ i. f (a + suc i)) n)) (sym (add-zero a))
      ∙ sym (big_first (λ i. f (a + i)) n)

  pub total_kept : {X : Type 0} (p : X → Bool) (v : X → M) (xs : List X) → total empty join (map v (filter p xs))
      ≡ total empty join (map (λ x. cond (p x) (v x) empty) xs)
  total_kept p v [] = refl
  total_kept {X} p v (x ∷ xs) = at (p x) (total_kept p v xs)
    where
      rest : M
      rest = total empty join (map (λ x. cond (p x) (v x) empty) xs)

      at : (b : Bool) → total empty join (map v (filter p xs)) ≡ rest → total empty join (map v (cond b (x ∷ filter p xs) (filter p xs)))
          ≡ join (cond b (v x) empty) rest
      at true r = ap (join (v x)) r
      at false r = r ∙ sym (laws.neutral rest)

  pub nest_cong : (ks : List ℕ) (f g : List ℕ → M) → ((ys : List ℕ) → Below ks ys → f ys ≡ g ys) → nest empty join ks f ≡ nest empty join ks g
  nest_cong [] f g h = h [] tt
  nest_cong (k ∷ ks) f g h = big_cong (λ v. nest empty join ks (λ ys. f (v ∷ ys))) (λ v. nest empty join ks (λ ys. g (v ∷ ys))) k
      (λ v l. nest_cong ks (λ ys. f (v ∷ ys)) (λ ys. g (v ∷ ys)) (λ ys b. h (v ∷ ys) (l, b)))

  pub nest_empty : (ks : List ℕ) → nest empty join ks (λ _. empty) ≡ empty
  nest_empty [] = refl
  nest_empty (k ∷ ks) = big_none (λ v. nest empty join ks (λ _. empty)) k (λ v l. nest_empty ks)

  pub nest_digits : (ks : List ℕ) (f : List ℕ → M) → big empty join (λ s. f (digits ks s)) (product ks) ≡ nest empty join ks f
  nest_digits [] f = laws.neutral (f [])
  nest_digits (k ∷ ks) f =
      ap (big empty join (λ s. f (digits (k ∷ ks) s))) (mul_comm k (product ks))
      ∙ big_mul (λ s. f (digits (k ∷ ks) s)) (product ks) k
      ∙ big_cong (λ q. big empty join (λ l. f (digits (k ∷ ks) (q * k + l))) k) (λ q. big empty join (λ l. f (l ∷ digits ks q)) k) (product ks)
      (λ q m. big_cong (λ l. f (digits (k ∷ ks) (q * k + l))) (λ l. f (l ∷ digits ks q)) k
      (λ l b. ap₂ (λ a c. f (a ∷ digits ks c)) (digits_mod q b) (digits_div q b)))
      ∙ big_swap (λ q l. f (l ∷ digits ks q)) (product ks) k
      ∙ big_cong (λ l. big empty join (λ q. f (l ∷ digits ks q)) (product ks)) (λ l. nest empty join ks (λ ys. f (l ∷ ys))) k
      (λ l b. nest_digits ks (λ ys. f (l ∷ ys)))

  pub total_digits : (ks : List ℕ) (f : List ℕ → M) → total empty join (map f (all_digits ks)) ≡ nest empty join ks f
  total_digits ks f =
      ap (total empty join) (map-map f (digits ks) (range_with_len 0 (product ks)))
      ∙ total_counting (λ s. f (digits ks s)) 0 (product ks)
      ∙ big_cong (λ s. f (digits ks (0 + s))) (λ s. f (digits ks s)) (product ks) (λ s l. ap (λ z. f (digits ks z)) (zero-add s))
      ∙ nest_digits ks f

  -- of all digit lists that pass the test
  pub total_kept_digits : (ks : List ℕ) (p : List ℕ → Bool) (v : List ℕ → M) → total empty join (map v (filter p (all_digits ks)))
      ≡ nest empty join ks (λ ys. cond (p ys) (v ys) empty)
  total_kept_digits ks p v = total_kept p v (all_digits ks) ∙ total_digits ks (λ ys. cond (p ys) (v ys) empty)
