-- The plan's places: an order along which slack never falls.
use Rattle.std.proofs.Common.{◌≡◌, ℕ, zero, suc, ◌+◌, ◌-◌, ◌<◌, ◌≤◌, Bool, true, false, cond, ◌&&◌, ◌||◌, eqb, ltb, ◌⊎◌, List, [], ◌∷◌, length, count_by, sym, refl, ap, ◌∙◌, inl, inr, le_refl, arith}
use Rattle.std.specs.List.{range_with_len, filter, enumerate_from}
use Rattle.std.proofs.lemmas.List.Sums.{sum_by-cons}
use Rattle.std.proofs.lemmas.Bool.{cases_lt, cases_order, lt-ltb, le-ltb, eq-eqb, ne_eqb}
use Rattle.shapes.specs.declared.dims.Dim.{Dim}
use Rattle.shapes.specs.Arrays.{numbers, dim}
use Rattle.plans.specs.Plans.{slack, plan_place, Order, RisingSlack}
use Rattle.plans.proofs.Sums.{total, total_plus, total_le, all_counting}

count_is : (b : ℕ → Bool) (xs : List ℕ) → count_by b xs ≡ total (λ x. cond (b x) 1 0) xs
unfolding total
count_is b [] = refl
count_is b (x ∷ xs) = sum_by-cons (λ k. cond (b k) 1 0) x xs ∙ ap (λ k. cond (b x) 1 0 + k) (count_is b xs)

-- one if j comes before i: less slack, or equal slack and a lower number
pub counts : (ℕ → ℕ) → ℕ → ℕ → ℕ
counts s i j = cond (ltb (s j) (s i)) 1 0 + cond (eqb (s j) (s i) && ltb j i) 1 0

Before : (ℕ → ℕ) → ℕ → ℕ → Type 0
Before s j i = (s j < s i) ⊎ ((s j ≡ s i) × (j < i))

counts_yes : (s : ℕ → ℕ) (i j : ℕ) → Before s j i → counts s i j ≡ 1
unfolding counts Before
counts_yes s i j (inl h) = rw (lt-ltb (s j) (s i) h, ne_eqb (s j) (s i) (λ e. omega arith))
counts_yes s i j (inr h) = rw (le-ltb (s j) (s i) (omega (arith, h.0)), eq-eqb (s j) (s i) h.0, lt-ltb j i h.1)

counts_no : (s : ℕ → ℕ) (i j : ℕ) → (s i < s j) ⊎ ((s i ≡ s j) × (i ≤ j)) → counts s i j ≡ 0
unfolding counts
counts_no s i j (inl h) = rw (le-ltb (s j) (s i) (omega arith), ne_eqb (s j) (s i) (λ e. omega arith))
counts_no s i j (inr h) = rw (le-ltb (s j) (s i) (omega (arith, h.0)), le-ltb j i h.1) (go (eqb (s j) (s i)))
  where
    go : (b : Bool) → 0 + cond (b && false) 1 0 ≡ 0
    go true = refl
    go false = refl

pub place_is : (ds : List Dim) (i : ℕ) → plan_place ds i ≡ 1 + total (counts (slack ds) i) (numbers ds)
unfolding counts
place_is ds i =
    omega (
      arith,
      count_is (λ j. ltb (slack ds j) (slack ds i)) (numbers ds),
      count_is (λ j. eqb (slack ds j) (slack ds i) && ltb j i) (numbers ds),
      total_plus (λ j. cond (ltb (slack ds j) (slack ds i)) 1 0) (λ j. cond (eqb (slack ds j) (slack ds i) && ltb j i) 1 0) (numbers ds),
    )

-- i comes before j, or not
decide : (s : ℕ → ℕ) (i j : ℕ) → Before s i j ⊎ ((s j < s i) ⊎ ((s j ≡ s i) × (j ≤ i)))
unfolding Before
decide s i j = go (cases_order (s i) (s j)) (cases_lt i j)
  where
    go : (s i ≡ s j) ⊎ ((s i < s j) ⊎ (s j < s i)) → (i < j) ⊎ (j ≤ i) → Before s i j ⊎ ((s j < s i) ⊎ ((s j ≡ s i) × (j ≤ i)))
    go (inl e) (inl h) = inl (inr (e, h))
    go (inl e) (inr h) = inr (inr (sym e, h))
    go (inr (inl k)) h = inl (inl k)
    go (inr (inr k)) h = inr (inl k)

before_trans : (s : ℕ → ℕ) (k i j : ℕ) → Before s k i → Before s i j → Before s k j
unfolding Before
before_trans s k i j (inl a) (inl b) = inl (omega arith)
before_trans s k i j (inl a) (inr b) = inl (omega (arith, b.0))
before_trans s k i j (inr a) (inl b) = inl (omega (arith, a.0))
before_trans s k i j (inr a) (inr b) = inr (a.0 ∙ b.0, omega (arith, a.1, b.1))

counts_le : (s : ℕ → ℕ) (i j k : ℕ) → Before s i j → counts s i k ≤ counts s j k
counts_le s i j k h = go (decide s k i)
  where
    go : Before s k i ⊎ ((s i < s k) ⊎ ((s i ≡ s k) × (i ≤ k))) → counts s i k ≤ counts s j k
    go (inl b) = omega (arith, counts_yes s i k b, counts_yes s j k (before_trans s k i j b h))
    go (inr b) = omega (arith, counts_no s i k b)

counts_small : (s : ℕ → ℕ) (i k : ℕ) → counts s i k ≤ 1
counts_small s i k = go (decide s k i)
  where
    go : Before s k i ⊎ ((s i < s k) ⊎ ((s i ≡ s k) × (i ≤ k))) → counts s i k ≤ 1
    go (inl b) = omega (arith, counts_yes s i k b)
    go (inr b) = omega (arith, counts_no s i k b)

-- as a test tells
pub counts_when : (s : ℕ → ℕ) (i j : ℕ) → counts s i j ≡ cond (ltb (s j) (s i) || (eqb (s j) (s i) && ltb j i)) 1 0
unfolding Before
counts_when s i j = go (decide s j i)
  where
    go : Before s j i ⊎ ((s i < s j) ⊎ ((s i ≡ s j) × (i ≤ j))) → counts s i j ≡ cond (ltb (s j) (s i) || (eqb (s j) (s i) && ltb j i)) 1 0
    go (inl (inl h)) = counts_yes s i j (inl h) ∙ rw (lt-ltb (s j) (s i) h) refl
    go (inl (inr h)) = counts_yes s i j (inr h) ∙ rw (le-ltb (s j) (s i) (omega (arith, h.0)), eq-eqb (s j) (s i) h.0, lt-ltb j i h.1) refl
    go (inr (inl h)) = counts_no s i j (inl h) ∙ rw (le-ltb (s j) (s i) (omega arith), ne_eqb (s j) (s i) (λ e. omega arith)) refl
    go (inr (inr h)) = counts_no s i j (inr h) ∙ rw (le-ltb (s j) (s i) (omega (arith, h.0)), eq-eqb (s j) (s i) (sym h.0), le-ltb j i h.1) refl

counts_self : (s : ℕ → ℕ) (i : ℕ) → counts s i i ≡ 0
counts_self s i = counts_no s i i (inr (refl, le_refl i))

total_lt : (f g : ℕ → ℕ) (a n e : ℕ) → a ≤ e → e < a + n → ((i : ℕ) → f i ≤ g i) → f e < g e → total f (range_with_len a n) < total g (range_with_len a n)
unfolding total
total_lt f g a zero e l h le lt = absurd (omega arith)
total_lt f g a (suc n) e l h le lt = go (cases_lt a e) (total_lt f g (a + 1) n e)
  where
    go : (a < e) ⊎ (e ≤ a) → (a + 1 ≤ e → e < a + 1 + n → ((i : ℕ) → f i ≤ g i) → f e < g e → total f (range_with_len (a + 1) n) < total g (range_with_len (a + 1) n)) → f a + total f (range_with_len (a + 1) n) < g a + total g (range_with_len (a + 1) n)
    go (inl k) ih = omega (arith, le a, ih (omega arith) (omega arith) le lt)
    go (inr k) ih =
        let q : a ≡ e = omega arith in
        omega (arith, lt, ap f q, ap g q, total_le f g (range_with_len (a + 1) n) (all_counting (λ i. f i ≤ g i) (a + 1) n (λ i _ _. le i)))

total_ones : (a n : ℕ) → total (λ _. 1) (range_with_len a n) ≡ n
unfolding total
total_ones a zero = refl
total_ones a (suc n) = omega (arith, total_ones (a + 1) n)

module _ (ds : List Dim) where
  place_before : (i j : ℕ) → i < length ds → Before (slack ds) i j → plan_place ds i < plan_place ds j
  place_before i j l h =
      rw (place_is ds i, place_is ds j)
      (omega (
        arith,
        total_lt (counts (slack ds) i) (counts (slack ds) j) 0 (length ds) i (omega arith) (omega arith) (λ k. counts_le (slack ds) i j k h)
            (omega (arith, counts_self (slack ds) i, counts_yes (slack ds) j i h)),
      ))

  pub plan_order : Order ds (plan_place ds)
  unfolding Before
  plan_order = record { within = within; distinct = λ i j l k e. apart i j l k e (decide (slack ds) i j) }
    where
      within : (i : ℕ) → i < length ds → (1 ≤ plan_place ds i) × (plan_place ds i ≤ length ds)
      within i l =
          rw (place_is ds i)
          (let small : total (counts (slack ds) i) (range_with_len 0 (length ds)) < total (λ _. 1) (range_with_len 0 (length ds)) = total_lt (counts (slack ds) i) (λ _. 1) 0 (length ds) i (omega arith) (omega arith) (counts_small (slack ds) i) (omega (arith, counts_self (slack ds) i)) in
          (omega arith, omega (arith, total_ones 0 (length ds))))

      apart : (i j : ℕ) → i < length ds → j < length ds → plan_place ds i ≡ plan_place ds j → Before (slack ds) i j ⊎ ((slack ds j < slack ds i) ⊎ ((slack ds j ≡ slack ds i) × (j ≤ i))) → i ≡ j
      apart i j l k e (inl b) = absurd (omega (arith, place_before i j l b))
      apart i j l k e (inr (inl b)) = absurd (omega (arith, place_before j i k (inl b)))
      apart i j l k e (inr (inr b)) = same (cases_lt j i)
        where
          same : (j < i) ⊎ (i ≤ j) → i ≡ j
          same (inl c) = absurd (omega (arith, place_before j i k (inr (b.0, c))))
          same (inr c) = omega (arith, b.1)

  pub plan_rises : RisingSlack ds (plan_place ds)
  unfolding Before
  plan_rises i j l k h = go (cases_lt (slack ds j) (slack ds i))
    where
      go : (slack ds j < slack ds i) ⊎ (slack ds i ≤ slack ds j) → slack ds i ≤ slack ds j
      go (inl b) = absurd (omega (arith, place_before j i k (inl b)))
      go (inr b) = b

-- as many as a filter of the numbered dimensions keeps
count_numbered : (b : ℕ × Dim → Bool) (f : ℕ → ℕ) (ds : List Dim) (a : ℕ) → ((i : ℕ) → i < length ds → f (a + i) ≡ cond (b (a + i, dim ds i)) 1 0) → length (filter b (enumerate_from a ds)) ≡ total f (range_with_len a (length ds))
unfolding total
count_numbered b f [] a h = refl
count_numbered b f (d ∷ ds) a h = go (b (a, d)) refl (count_numbered b f ds (a + 1) (λ i l. let e : a + 1 + i ≡ a + suc i = omega arith in rw e (h (suc i) (omega arith))))
  where
    here : (t : Bool) → b (a, d) ≡ t → f a ≡ cond t 1 0
    here t e = let z : a ≡ a + 0 = omega arith in ap f z ∙ (h 0 (omega arith) ∙ ap (λ k. cond (b (k, d)) 1 0) (sym z)) ∙ ap (λ u. cond u 1 0) e

    go : (t : Bool) → b (a, d) ≡ t → length (filter b (enumerate_from (a + 1) ds)) ≡ total f (range_with_len (a + 1) (length ds))
        → length (cond t ((a, d) ∷ filter b (enumerate_from (a + 1) ds)) (filter b (enumerate_from (a + 1) ds))) ≡ f a + total f (range_with_len (a + 1) (length ds))
    go true e ih = omega (arith, here true e)
    go false e ih = omega (arith, here false e)

pub placed_after : (ds : List Dim) (i k : ℕ) (own : ℕ) → own ≡ slack ds i
    → k ≡ length (filter (λ (p : ℕ × Dim). ltb (p.1.size - p.1.edge) own || (eqb (p.1.size - p.1.edge) own && ltb p.0 i)) (enumerate_from 0 ds)) → 1 + k ≡ plan_place ds i
placed_after ds i k own eo ek =
    let P : (ℕ × Dim) → Bool = λ (p : ℕ × Dim). ltb (p.1.size - p.1.edge) own || (eqb (p.1.size - p.1.edge) own && ltb p.0 i) in
    let one : (j : ℕ) → j < length ds → counts (slack ds) i (0 + j) ≡ cond (P (0 + j, dim ds j)) 1 0 =
    λ j l. let z : 0 + j ≡ j = omega arith in rw z (counts_when (slack ds) i j ∙ ap (λ o. cond (ltb (slack ds j) o || (eqb (slack ds j) o && ltb j i)) 1 0) (sym eo)) in
    omega (arith, place_is ds i, ek, count_numbered P (counts (slack ds) i) ds 0 one)
