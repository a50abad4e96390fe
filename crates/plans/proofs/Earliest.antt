-- A group has its fewest cells where its parent adds the missing dimension of earliest place; the cells of all groups but the root are then `below_root`.
-- D has the sizes, C the edges, p the places of the dimensions below n.
use Rattle.std.proofs.Common.{◌≡◌, ℕ, zero, suc, ◌+◌, ◌-◌, ◌*◌, ◌^◌, ◌<◌, ◌≤◌, Bool, true, false, cond, not, ◌&&◌, ltb, ◌⊎◌, List, [], ◌∷◌, fold, sym, refl, ap, ◌∙◌, inl, inr, le_refl, le_antisymm, mul-zero, zero-mul, arith}
use Rattle.std.specs.List.{range_with_len, prefix_len, AllByRecursion}
use Rattle.std.proofs.lemmas.Bool.{cases_lt, lt-ltb, le-ltb, true≢false}
use Rattle.shapes.specs.Arrays.{Group, group, keeps}
use Rattle.shapes.proofs.Masks.{keeps_root, length-group, lowest_lacks}
use Rattle.plans.specs.Plans.{earliest}
use Rattle.plans.proofs.Sums.{total, times, total_same, times_same, times_le, total_zero, all_counting, counting_all}
use Rattle.plans.proofs.Exchange.{factor, by_earliest, below_root}
use Rattle.plans.proofs.GroupSums.{all_groups, total_swap, total_root}

-- what dimension i brings to a group if e is the earliest that the group lacks: 0 if it cannot be
term : (D C p : ℕ → ℕ) → ℕ → ℕ → Bool → ℕ
term D C p e i b = cond (ltb (p i) (p e)) (cond b (D i) 0) (cond (ltb (p e) (p i)) (cond b (C i) 1) (cond b 0 1))

-- what it brings if the parent adds e
unfoldable pub brings : (D C p : ℕ → ℕ) → Group → ℕ → ℕ → ℕ
brings D C p g e i = cond (keeps g i) (cond (ltb (p i) (p e)) (D i) (C i)) 1

term_factor : (D C p : ℕ → ℕ) (e i : ℕ) → term D C p e i false + term D C p e i true ≡ factor D C p e i
unfolding term factor
term_factor D C p e i = go (ltb (p i) (p e)) (ltb (p e) (p i))
  where
    go : (a b : Bool) → cond a 0 (cond b 1 1) + cond a (D i) (cond b (C i) 0) ≡ cond a (D i) (cond b (1 + C i) 1)
    go true b = omega arith
    go false true = refl
    go false false = refl

-- a sum with one term, a product with a zero
total_one : (f : ℕ → ℕ) (a n e : ℕ) → a ≤ e → e < a + n → ((i : ℕ) → a ≤ i → i < a + n → (i ≡ e → ⊥) → f i ≡ 0) → total f (range_with_len a n) ≡ f e
unfolding total
total_one f a zero e l h z = absurd (omega arith)
total_one f a (suc n) e l h z = go (cases_lt a e) (total_one f (a + 1) n e)
  where
    go : (a < e) ⊎ (e ≤ a) → (a + 1 ≤ e → e < a + 1 + n → ((i : ℕ) → a + 1 ≤ i → i < a + 1 + n → (i ≡ e → ⊥) → f i ≡ 0) → total f (range_with_len (a + 1) n) ≡ f e) → f a + total f (range_with_len (a + 1) n) ≡ f e
    go (inl k) ih = omega (arith, z a (omega arith) (omega arith) (λ q. omega arith), ih (omega arith) (omega arith) (λ i r s t. z i (omega arith) (omega arith) t))
    go (inr k) ih =
        let q : a ≡ e = omega arith in
        let o : total f (range_with_len (a + 1) n) ≡ 0 = total_zero f (range_with_len (a + 1) n) (all_counting (λ i. f i ≡ 0) (a + 1) n (λ i r s. z i (omega arith) (omega arith) (λ t. omega arith))) in
        omega (arith, o, ap f q)

times_none : (f : ℕ → ℕ) (a n e : ℕ) → a ≤ e → e < a + n → f e ≡ 0 → times f (range_with_len a n) ≡ 0
unfolding times
times_none f a zero e l h z = absurd (omega arith)
times_none f a (suc n) e l h z = go (cases_lt a e) (times_none f (a + 1) n e)
  where
    go : (a < e) ⊎ (e ≤ a) → (a + 1 ≤ e → e < a + 1 + n → f e ≡ 0 → times f (range_with_len (a + 1) n) ≡ 0) → f a * times f (range_with_len (a + 1) n) ≡ 0
    go (inl k) ih = rw (ih (omega arith) (omega arith) z) (mul-zero (f a))
    go (inr k) ih =
        let q : a ≡ e = omega arith in
        rw (q, z) (zero-mul (times f (range_with_len (e + 1) n)))

term_kept : (D C p : ℕ → ℕ) (e : ℕ) → term D C p e e true ≡ 0
unfolding term
term_kept D C p e = rw (le-ltb (p e) (p e) (omega arith))

term_later : (D C p : ℕ → ℕ) (e i : ℕ) → p i < p e → term D C p e i false ≡ 0
unfolding term
term_later D C p e i h = rw (lt-ltb (p i) (p e) h)

one_way : (b : Bool) → ◌≡◌ {A = ℕ} (cond b 1 1) 1
one_way true = refl
one_way false = refl

term_brings : (D C p : ℕ → ℕ) (g : Group) (e i : ℕ) → keeps g e ≡ false → (p i ≡ p e → i ≡ e) → (keeps g i ≡ false → p e ≤ p i) → term D C p e i (keeps g i) ≡ brings D C p g e i
unfolding term brings
term_brings D C p g e i lacks one low = go (keeps g i) refl
  where
    kept : keeps g i ≡ true → p i ≡ p e → ⊥
    kept k q = true≢false (sym k ∙ (ap (keeps g) (one q) ∙ lacks))

    true_case : keeps g i ≡ true → (p i < p e) ⊎ (p e ≤ p i) → cond (ltb (p i) (p e)) (D i) (cond (ltb (p e) (p i)) (C i) 0) ≡ cond (ltb (p i) (p e)) (D i) (C i)
    true_case k (inl h) = rw (lt-ltb (p i) (p e) h)
    true_case k (inr h) = rw (le-ltb (p i) (p e) h, lt-ltb (p e) (p i) (omega (arith, kept k)))

    go : (b : Bool) → keeps g i ≡ b → cond (ltb (p i) (p e)) (cond b (D i) 0) (cond (ltb (p e) (p i)) (cond b (C i) 1) (cond b 0 1)) ≡ cond b (cond (ltb (p i) (p e)) (D i) (C i)) 1
    go true k = true_case k (cases_lt (p i) (p e))
    go false k = rw (le-ltb (p i) (p e) (low k)) (one_way (ltb (p e) (p i)))

pub terms : (D C p : ℕ → ℕ) → ℕ → Group → ℕ
terms D C p n g = total (λ e. times (λ i. term D C p e i (keeps g i)) (range_with_len 0 n)) (range_with_len 0 n)

-- over all groups but the root: exchange the sums
pub sum_terms : (D C p : ℕ → ℕ) (n : ℕ) → total (λ m. terms D C p n (group n m)) (range_with_len 0 (2 ^ n - 1)) ≡ below_root D C p (range_with_len 0 n)
unfolding terms below_root by_earliest
sum_terms D C p n = omega (arith, total_root F n, root, whole)
  where
    F : ℕ → ℕ
    F m = terms D C p n (group n m)

    t : ℕ → ℕ → ℕ
    t e m = times (λ i. term D C p e i (keeps (group n m) i)) (range_with_len 0 n)

    root : F (2 ^ n - 1) ≡ 0
    root =
        total_zero (λ e. t e (2 ^ n - 1)) (range_with_len 0 n)
        (all_counting (λ e. t e (2 ^ n - 1) ≡ 0) 0 n
        (λ e l h. times_none (λ i. term D C p e i (keeps (group n (2 ^ n - 1)) i)) 0 n e l h (ap (term D C p e e) (keeps_root n e (omega arith)) ∙ term_kept D C p e)))

    by_first : (e : ℕ) → total (t e) (range_with_len 0 (2 ^ n)) ≡ times (factor D C p e) (range_with_len 0 n)
    by_first e =
        all_groups n (term D C p e)
        ∙ times_same (λ i. term D C p e i false + term D C p e i true) (factor D C p e) (range_with_len 0 n)
        (all_counting (λ i. term D C p e i false + term D C p e i true ≡ factor D C p e i) 0 n (λ i _ _. term_factor D C p e i))

    whole : total F (range_with_len 0 (2 ^ n)) ≡ total (λ e. times (factor D C p e) (range_with_len 0 n)) (range_with_len 0 n)
    whole =
        total_swap (λ m e. t e m) (range_with_len 0 (2 ^ n)) (range_with_len 0 n)
        ∙ total_same (λ e. total (t e) (range_with_len 0 (2 ^ n))) (λ e. times (factor D C p e) (range_with_len 0 n)) (range_with_len 0 n)
        (all_counting (λ e. total (t e) (range_with_len 0 (2 ^ n)) ≡ times (factor D C p e) (range_with_len 0 n)) 0 n (λ e _ _. by_first e))

-- no two dimensions below n have the same place
abbrev pub Distinct : (ℕ → ℕ) → ℕ → Type 0
Distinct p n = (i j : ℕ) → i < n → j < n → p i ≡ p j → i ≡ j

-- e is the earliest dimension that g lacks
pub record Earliest (p : ℕ → ℕ) (n : ℕ) (g : Group) (e : ℕ) : Type 0 where
  pub inside : e < n
  pub lacks : keeps g e ≡ false
  pub low : (i : ℕ) → i < n → keeps g i ≡ false → p e ≤ p i

-- a group's own term is the cells that it has with its earliest missing dimension
pub terms_is : (D C p : ℕ → ℕ) (n : ℕ) → Distinct p n → (g : Group) (e : ℕ) → Earliest p n g e → terms D C p n g ≡ times (brings D C p g e) (range_with_len 0 n)
unfolding terms
terms_is D C p n d g e first =
    total_one (λ x. times (λ i. term D C p x i (keeps g i)) (range_with_len 0 n)) 0 n e (omega arith) (omega (arith, first.inside)) (λ x _ h other. none x h other (keeps g x) refl)
    ∙ times_same (λ i. term D C p e i (keeps g i)) (brings D C p g e) (range_with_len 0 n)
    (all_counting (λ i. term D C p e i (keeps g i) ≡ brings D C p g e i) 0 n
    (λ i _ h. term_brings D C p g e i first.lacks (d i e (omega arith) first.inside) (first.low i (omega arith))))
  where
    none : (x : ℕ) → x < 0 + n → (x ≡ e → ⊥) → (b : Bool) → keeps g x ≡ b → times (λ i. term D C p x i (keeps g i)) (range_with_len 0 n) ≡ 0
    none x h other true k = times_none (λ i. term D C p x i (keeps g i)) 0 n x (omega arith) h (ap (term D C p x x) k ∙ term_kept D C p x)
    none x h other false k =
        times_none (λ i. term D C p x i (keeps g i)) 0 n e (omega arith) (omega (arith, first.inside))
        (ap (term D C p x e) first.lacks ∙ term_later D C p x e (omega (arith, first.low x (omega arith) k, λ (q : p x ≡ p e). other (d x e (omega arith) first.inside q))))

-- adding a dimension of later place only puts sizes for edges
brings_le : (D C p : ℕ → ℕ) (g : Group) (e x i : ℕ) → C i ≤ D i → p e ≤ p x → brings D C p g e i ≤ brings D C p g x i
unfolding brings
brings_le D C p g e x i c h = go (keeps g i) (cases_lt (p i) (p e)) (cases_lt (p i) (p x))
  where
    go : (b : Bool) → (p i < p e) ⊎ (p e ≤ p i) → (p i < p x) ⊎ (p x ≤ p i) → cond b (cond (ltb (p i) (p e)) (D i) (C i)) 1 ≤ cond b (cond (ltb (p i) (p x)) (D i) (C i)) 1
    go false a b = le_refl 1
    go true (inl a) (inl b) = rw (lt-ltb (p i) (p e) a, lt-ltb (p i) (p x) b) (le_refl (D i))
    go true (inl a) (inr b) = absurd (omega arith)
    go true (inr a) (inl b) = rw (le-ltb (p i) (p e) a, lt-ltb (p i) (p x) b) c
    go true (inr a) (inr b) = rw (le-ltb (p i) (p e) a, le-ltb (p i) (p x) b) (le_refl (C i))

pub earliest_le : (D C p : ℕ → ℕ) (n : ℕ) → ((i : ℕ) → i < n → C i ≤ D i) → (g : Group) (e x : ℕ) → p e ≤ p x → times (brings D C p g e) (range_with_len 0 n) ≤ times (brings D C p g x) (range_with_len 0 n)
earliest_le D C p n c g e x h =
    times_le (brings D C p g e) (brings D C p g x) (range_with_len 0 n) (all_counting (λ i. brings D C p g e i ≤ brings D C p g x i) 0 n (λ i _ l. brings_le D C p g e x i (c i (omega arith)) h))

-- the search for the earliest, from any missing dimension
sought : (ℕ → ℕ) → Group → List ℕ → ℕ → ℕ
sought p g xs b = fold (λ e i. cond (not (keeps g i) && ltb (p i) (p e)) i e) b xs

record Sought (p : ℕ → ℕ) (n : ℕ) (g : Group) (xs : List ℕ) (b e : ℕ) : Type 0 where
  inside : e < n
  lacks : keeps g e ≡ false
  below : p e ≤ p b
  low : AllByRecursion (λ i. keeps g i ≡ false → p e ≤ p i) xs

seek : (p : ℕ → ℕ) (n : ℕ) (g : Group) (xs : List ℕ) (b : ℕ) → AllByRecursion (λ i. i < n) xs → b < n → keeps g b ≡ false → Sought p n g xs b (sought p g xs b)
unfolding sought
seek p n g [] b a h k = record { inside = h; lacks = k; below = le_refl (p b); low = tt }
seek p n g (x ∷ xs) b a h k = go (λ c. seek p n g xs c a.1) (keeps g x) refl (cases_lt (p x) (p b))
  where
    go : ((c : ℕ) → c < n → keeps g c ≡ false → Sought p n g xs c (sought p g xs c)) → (t : Bool) → keeps g x ≡ t → (p x < p b) ⊎ (p b ≤ p x) → Sought p n g (x ∷ xs) b (sought p g xs (cond (not t && ltb (p x) (p b)) x b))
    go ih true q c =
        let r = ih b h k in
        record { inside = r.inside; lacks = r.lacks; below = r.below; low = ((λ o. absurd (true≢false (sym q ∙ o))), r.low) }
    go ih false q (inl c) =
        let r = ih x a.0 q in
        rw (lt-ltb (p x) (p b) c) (record { inside = r.inside; lacks = r.lacks; below = omega (arith, r.below); low = ((λ _. r.below), r.low) })
    go ih false q (inr c) =
        let r = ih b h k in
        rw (le-ltb (p x) (p b) c) (record { inside = r.inside; lacks = r.lacks; below = r.below; low = ((λ _. omega (arith, r.below)), r.low) })

sought_earliest : (p : ℕ → ℕ) (n : ℕ) (g : Group) (b : ℕ) → b < n → keeps g b ≡ false → Earliest p n g (sought p g (range_with_len 0 n) b)
sought_earliest p n g b h k =
    let r = seek p n g (range_with_len 0 n) b (all_counting (λ i. i < n) 0 n (λ i _ l. omega arith)) h k in
    record { inside = r.inside; lacks = r.lacks; low = λ i l. counting_all (λ i. keeps g i ≡ false → p (sought p g (range_with_len 0 n) b) ≤ p i) 0 n r.low i (omega arith) (omega arith) }

-- every other group has an earliest missing dimension, and `earliest` finds it
pub earliest_is : (p : ℕ → ℕ) (n m : ℕ) → m + 1 < 2 ^ n → Earliest p n (group n m) (earliest p (group n m))
unfolding sought
earliest_is p n m h =
    let l = lowest_lacks n m h in
    rw (length-group n m) (sought_earliest p n (group n m) (prefix_len (λ kept. kept) (group n m)) l.0 l.1)

-- nothing else is the earliest
pub earliest_one : (p : ℕ → ℕ) (n m e : ℕ) → Distinct p n → m + 1 < 2 ^ n → Earliest p n (group n m) e → e ≡ earliest p (group n m)
earliest_one p n m e d h k =
    let first = earliest_is p n m h in
    d e (earliest p (group n m)) k.inside first.inside (le_antisymm (k.low (earliest p (group n m)) first.inside first.lacks) (first.low e k.inside k.lacks))

-- a search through the dimensions below i has found one that the group lacks, or none yet
pub record Found (p : ℕ → ℕ) (n : ℕ) (g : Group) (most i found lowest : ℕ) : Type 0 where
  pub low : (k : ℕ) → k < i → keeps g k ≡ false → lowest ≤ p k
  pub one : (lowest ≡ most) ⊎ ((found < n) × (keeps g found ≡ false) × (p found ≡ lowest))

pub found_none : (p : ℕ → ℕ) (n : ℕ) (g : Group) (most found : ℕ) → Found p n g most 0 found most
found_none p n g most found = record { low = λ k l. absurd (omega arith); one = inl refl }

pub found_same : (p : ℕ → ℕ) (n : ℕ) (g : Group) (most i found lowest found' lowest' : ℕ) → (keeps g i ≡ false → lowest ≤ p i) → found' ≡ found → lowest' ≡ lowest
    → Found p n g most i found lowest → Found p n g most (i + 1) found' lowest'
found_same p n g most i found lowest found' lowest' s ef el h = rw (ef, el) (record { low = λ k l. low k (cases_lt k i) l; one = h.one })
  where
    low : (k : ℕ) → (k < i) ⊎ (i ≤ k) → k < i + 1 → keeps g k ≡ false → lowest ≤ p k
    low k (inl a) l = h.low k a
    low k (inr a) l = let e : i ≡ k = omega arith in rw e at s

pub found_new : (p : ℕ → ℕ) (n : ℕ) (g : Group) (most i found lowest found' lowest' : ℕ) → i < n → keeps g i ≡ false → p i < lowest → found' ≡ i → lowest' ≡ p i
    → Found p n g most i found lowest → Found p n g most (i + 1) found' lowest'
found_new p n g most i found lowest found' lowest' l k s ef el h = rw (ef, el) (record { low = λ j b. low j (cases_lt j i) b; one = inr (l, k, refl) })
  where
    low : (j : ℕ) → (j < i) ⊎ (i ≤ j) → j < i + 1 → keeps g j ≡ false → p i ≤ p j
    low j (inl a) b q = omega (arith, h.low j a q)
    low j (inr a) b q = let e : i ≡ j = omega arith in omega (arith, ap p e)

pub found_all : (p : ℕ → ℕ) (n m : ℕ) (most i found lowest : ℕ) → Distinct p n → ((k : ℕ) → k < n → p k < most) → m + 1 < 2 ^ n → n ≤ i → Found p n (group n m) most i found lowest → (found < n) × (found ≡ earliest p (group n m))
found_all p n m most i found lowest d small h end f = go f.one
  where
    go : (lowest ≡ most) ⊎ ((found < n) × (keeps (group n m) found ≡ false) × (p found ≡ lowest)) → (found < n) × (found ≡ earliest p (group n m))
    go (inl e) =
        let first = lowest_lacks n m h in
        let l = prefix_len (λ kept. kept) (group n m) in
        absurd (omega (arith, small l first.0, f.low l (omega (arith, first.0)) first.1))
    go (inr e) = (e.0, earliest_one p n m found d h (record { inside = e.0; lacks = e.1; low = λ k l q. omega (arith, e.2, f.low k (omega arith) q) }))

-- no missing dimension gives fewer cells than the group's own term, and the earliest gives as many
module _ (D C p : ℕ → ℕ) (n : ℕ) (d : Distinct p n) (c : (i : ℕ) → i < n → C i ≤ D i) where
  pub terms_le : (g : Group) (x : ℕ) → x < n → keeps g x ≡ false → terms D C p n g ≤ times (brings D C p g x) (range_with_len 0 n)
  terms_le g x h k =
      let first = sought_earliest p n g x h k in
      rw (terms_is D C p n d g (sought p g (range_with_len 0 n) x) first) (earliest_le D C p n c g (sought p g (range_with_len 0 n) x) x (first.low x h k))

  pub terms_best : (m e : ℕ) → m + 1 < 2 ^ n → e < n → keeps (group n m) e ≡ false
      → ((x : ℕ) → x < n → keeps (group n m) x ≡ false → times (brings D C p (group n m) e) (range_with_len 0 n) ≤ times (brings D C p (group n m) x) (range_with_len 0 n))
      → times (brings D C p (group n m) e) (range_with_len 0 n) ≡ terms D C p n (group n m)
  terms_best m e h l k best =
      let first = earliest_is p n m h in
      le_antisymm (rw (terms_is D C p n d (group n m) (earliest p (group n m)) first) (best (earliest p (group n m)) first.inside first.lacks)) (terms_le (group n m) e l k)
