-- The cells of all groups but the root, where each parent adds the missing dimension of earliest place, as a sum over that dimension; and which order makes them fewest.
-- D has the sizes, C the edges, p the places.
use Rattle.std.proofs.Common.{◌≡◌, ℕ, ◌+◌, ◌*◌, ◌<◌, ◌≤◌, cond, ltb, ◌⊎◌, List, [], ◌∷◌, sym, refl, ap, ◌∙◌, inl, inr, mul-le-mul_right, le_antisymm, mul-le-mul_left, one-mul, le_of_mul-le-mul_right, mul_left_comm, arith}
use native.Mathlib.Nat.{le_of_mul-le-mul_left}
use Rattle.std.specs.List.{AllByRecursion}
use Rattle.std.proofs.lemmas.Bool.{cases_lt, lt-ltb, le-ltb}
use Rattle.plans.proofs.Sums.{total, times, total_nil, times_cons, total_same, times_same, total_scaled, times_pos, Reordered, reordered_back, total_reordered, times_reordered, all_reordered, Pairs, pairs_reordered, every, all_weak, all_both, Sorted, sort}

-- the factor of dimension i in the groups whose earliest missing dimension is e: kept if it is placed before e, kept or not if after
unfoldable pub factor : (D C p : ℕ → ℕ) → ℕ → ℕ → ℕ
factor D C p e i = cond (ltb (p i) (p e)) (D i) (cond (ltb (p e) (p i)) (1 + C i) 1)

pub factor_before : (D C p : ℕ → ℕ) (e i : ℕ) → p i < p e → factor D C p e i ≡ D i
unfolding factor
factor_before D C p e i h = rw (lt-ltb (p i) (p e) h)

pub factor_after : (D C p : ℕ → ℕ) (e i : ℕ) → p e < p i → factor D C p e i ≡ 1 + C i
unfolding factor
factor_after D C p e i h = rw (le-ltb (p i) (p e) (omega arith), lt-ltb (p e) (p i) h)

pub factor_self : (D C p : ℕ → ℕ) (e : ℕ) → factor D C p e e ≡ 1
unfolding factor
factor_self D C p e = rw (le-ltb (p e) (p e) (omega arith))

-- the cells of the groups whose earliest missing dimension is e
unfoldable pub by_earliest : (D C p : ℕ → ℕ) → List ℕ → ℕ → ℕ
by_earliest D C p xs e = times (factor D C p e) xs

-- the cells of all groups but the root
unfoldable pub below_root : (D C p : ℕ → ℕ) → List ℕ → ℕ
below_root D C p xs = total (by_earliest D C p xs) xs

-- the cells of all groups but the root of the dimensions m and xs, when m is moved before xs, and as it is placed
pub moved_first : (D C p : ℕ → ℕ) → ℕ → List ℕ → ℕ
moved_first D C p m xs = times (λ i. 1 + C i) xs + D m * below_root D C p xs

pub as_placed : (D C p : ℕ → ℕ) → ℕ → List ℕ → ℕ
as_placed D C p m xs = by_earliest D C p xs m + total (λ e. factor D C p e m * by_earliest D C p xs e) xs

below_root_reordered : (D C p : ℕ → ℕ) {xs ys : List ℕ} → Reordered xs ys → below_root D C p xs ≡ below_root D C p ys
unfolding below_root by_earliest
below_root_reordered D C p {xs} {ys} m =
    total_reordered (λ e. times (factor D C p e) xs) m
    ∙ total_same (λ e. times (factor D C p e) xs) (λ e. times (factor D C p e) ys) ys (every (λ e. times (factor D C p e) xs ≡ times (factor D C p e) ys) (λ e. times_reordered (factor D C p e) m) ys)

moved_first_reordered : (D C p : ℕ → ℕ) (m : ℕ) {xs ys : List ℕ} → Reordered xs ys → moved_first D C p m xs ≡ moved_first D C p m ys
unfolding moved_first
moved_first_reordered D C p m h = rw (times_reordered (λ i. 1 + C i) h, below_root_reordered D C p h) refl

as_placed_reordered : (D C p : ℕ → ℕ) (m : ℕ) {xs ys : List ℕ} → Reordered xs ys → as_placed D C p m xs ≡ as_placed D C p m ys
unfolding as_placed by_earliest
as_placed_reordered D C p m {xs} {ys} h =
    omega (
      arith,
      times_reordered (factor D C p m) h,
      total_reordered (λ e. factor D C p e m * times (factor D C p e) xs) h,
      total_same (λ e. factor D C p e m * times (factor D C p e) xs) (λ e. factor D C p e m * times (factor D C p e) ys) ys (every (λ e. factor D C p e m * times (factor D C p e) xs ≡ factor D C p e m * times (factor D C p e) ys) (λ e. ap (λ k. factor D C p e m * k) (times_reordered (factor D C p e) h)) ys),
    )

-- a dimension in front splits off
below_root_cons : (D C p : ℕ → ℕ) (m : ℕ) (xs : List ℕ) → below_root D C p (m ∷ xs) ≡ as_placed D C p m xs
unfolding below_root as_placed by_earliest total times
below_root_cons D C p m xs = rw (factor_self D C p m, one-mul) refl

times_after : (D C p : ℕ → ℕ) (m : ℕ) (xs : List ℕ) → AllByRecursion (λ i. p m < p i) xs → times (factor D C p m) xs ≡ times (λ i. 1 + C i) xs
times_after D C p m xs h = times_same (factor D C p m) (λ i. 1 + C i) xs (all_weak (λ i. p m < p i) (λ i. factor D C p m i ≡ 1 + C i) (λ i. factor_after D C p m i) xs h)

-- moved in front of all the others it is as if placed there
as_placed_first : (D C p : ℕ → ℕ) (m : ℕ) (xs : List ℕ) → AllByRecursion (λ i. p m < p i) xs → as_placed D C p m xs ≡ moved_first D C p m xs
unfolding as_placed moved_first below_root by_earliest
as_placed_first D C p m xs h =
    omega (
      arith,
      times_after D C p m xs h,
      total_scaled (D m) (λ e. factor D C p e m * times (factor D C p e) xs) (λ e. times (factor D C p e) xs) xs
          (all_weak (λ i. p m < p i) (λ e. factor D C p e m * times (factor D C p e) xs ≡ D m * times (factor D C p e) xs) (λ e l. ap (λ k. k * times (factor D C p e) xs) (factor_before D C p e m l)) xs h),
    )

below_root_first : (D C p : ℕ → ℕ) (m : ℕ) (xs : List ℕ) → AllByRecursion (λ i. p m < p i) xs → below_root D C p (m ∷ xs) ≡ times (λ i. 1 + C i) xs + D m * below_root D C p xs
unfolding moved_first
below_root_first D C p m xs h = below_root_cons D C p m xs ∙ as_placed_first D C p m xs h

-- a dimension placed before m and before xs splits off
moved_first_cons : (D C p : ℕ → ℕ) (m a : ℕ) (xs : List ℕ) → AllByRecursion (λ i. p a < p i) xs → moved_first D C p m (a ∷ xs) ≡ (1 + C a) * times (λ i. 1 + C i) xs + D m * (times (λ i. 1 + C i) xs + D a * below_root D C p xs)
unfolding moved_first
moved_first_cons D C p m a xs h = rw (times_cons (λ i. 1 + C i) a xs, below_root_first D C p a xs h) refl

as_placed_cons : (D C p : ℕ → ℕ) (m a : ℕ) (xs : List ℕ) → p a < p m → AllByRecursion (λ i. p a < p i) xs → as_placed D C p m (a ∷ xs) ≡ (1 + C m) * times (λ i. 1 + C i) xs + D a * as_placed D C p m xs
unfolding as_placed by_earliest total times
as_placed_cons D C p m a xs l h =
    rw (factor_before D C p m a l, factor_after D C p a m l, factor_self D C p a, times_after D C p a xs h)
    (omega (
      arith,
      total_scaled (D a) (λ e. factor D C p e m * (factor D C p e a * times (factor D C p e) xs)) (λ e. factor D C p e m * times (factor D C p e) xs) xs
          (all_weak (λ i. p a < p i) (λ e. factor D C p e m * (factor D C p e a * times (factor D C p e) xs) ≡ D a * (factor D C p e m * times (factor D C p e) xs))
          (λ e k. rw (factor_before D C p e a k) (mul_left_comm (factor D C p e m) (D a) (times (factor D C p e) xs))) xs h),
    ))

-- slack m is at most slack i: D m - C m ≤ D i - C i
abbrev pub SlackLe : (D C : ℕ → ℕ) → ℕ → ℕ → Type 0
SlackLe D C m i = C i + D m ≤ C m + D i

step_le : (T H W c d c' d' : ℕ) → c + d' ≤ c' + d → T + d' * H ≤ W → (1 + c) * T + d' * (T + d * H) ≤ (1 + c') * T + d * W
step_le T H W c d c' d' s ih = omega (arith, mul-le-mul_left d ih, mul-le-mul_right T s)

step_eq_slack : (T H W c d c' d' : ℕ) → 1 ≤ T → T + d' * H ≤ W → (1 + c') * T + d * W ≡ (1 + c) * T + d' * (T + d * H) → c' + d ≤ c + d'
step_eq_slack T H W c d c' d' t ih e =
    let k : (c' + d) * T ≤ (c + d') * T = omega (arith, mul-le-mul_left d ih) in le_of_mul-le-mul_right k t

step_eq_rest : (T H W c d c' d' : ℕ) → 1 ≤ d → c + d' ≤ c' + d → T + d' * H ≤ W → (1 + c') * T + d * W ≡ (1 + c) * T + d' * (T + d * H) → W ≡ T + d' * H
step_eq_rest T H W c d c' d' t s ih e =
    let k : d * W ≤ d * (T + d' * H) = omega (arith, mul-le-mul_right T s) in le_antisymm (le_of_mul-le-mul_left k t) ih

first_when : (p : ℕ → ℕ) (m x : ℕ) (xs : List ℕ) → AllByRecursion (λ i. p x < p i) xs → (p m ≡ p x → ⊥) → p m ≤ p x → AllByRecursion (λ i. p m < p i) (x ∷ xs)
first_when p m x xs r a h = let k : p m < p x = omega arith in (k, all_weak (λ i. p x < p i) (λ i. p m < p i) (λ i l. omega arith) xs r)

-- moving m, of least slack, before all the others takes no more cells
first_sorted : (D C p : ℕ → ℕ) (m : ℕ) (xs : List ℕ) → Pairs (λ x y. p x < p y) xs → AllByRecursion (λ i. p m ≡ p i → ⊥) xs → AllByRecursion (SlackLe D C m) xs → moved_first D C p m xs ≤ as_placed D C p m xs
unfolding moved_first
first_sorted D C p m [] r a s = omega (arith, as_placed_first D C p m [] tt)
first_sorted D C p m (x ∷ xs) r a s = go (cases_lt (p x) (p m)) (first_sorted D C p m xs r.1 a.1 s.1)
  where
    go : (p x < p m) ⊎ (p m ≤ p x) → moved_first D C p m xs ≤ as_placed D C p m xs → moved_first D C p m (x ∷ xs) ≤ as_placed D C p m (x ∷ xs)
    go (inl h) ih =
        rw (moved_first_cons D C p m x xs r.0, as_placed_cons D C p m x xs h r.0)
        (step_le (times (λ i. 1 + C i) xs) (below_root D C p xs) (as_placed D C p m xs) (C x) (D x) (C m) (D m) s.0 ih)
    go (inr h) ih = omega (arith, as_placed_first D C p m (x ∷ xs) (first_when p m x xs r.0 a.0 h))

-- and just as many only if no dimension placed before it has more slack
first_sorted_only : (D C p : ℕ → ℕ) (m : ℕ) (xs : List ℕ) → Pairs (λ x y. p x < p y) xs → AllByRecursion (λ i. p m ≡ p i → ⊥) xs → AllByRecursion (SlackLe D C m) xs → AllByRecursion (λ i. 1 ≤ D i) xs
    → as_placed D C p m xs ≡ moved_first D C p m xs → AllByRecursion (λ i. p i < p m → SlackLe D C i m) xs
unfolding moved_first
first_sorted_only D C p m [] r a s o e = tt
first_sorted_only D C p m (x ∷ xs) r a s o e = go (cases_lt (p x) (p m)) (first_sorted_only D C p m xs r.1 a.1 s.1 o.1)
  where
    go : (p x < p m) ⊎ (p m ≤ p x) → (as_placed D C p m xs ≡ moved_first D C p m xs → AllByRecursion (λ i. p i < p m → SlackLe D C i m) xs) → AllByRecursion (λ i. p i < p m → SlackLe D C i m) (x ∷ xs)
    go (inl h) ih =
        let T : ℕ = times (λ i. 1 + C i) xs in
        let H : ℕ = below_root D C p xs in
        let W : ℕ = as_placed D C p m xs in
        let below : T + D m * H ≤ W = first_sorted D C p m xs r.1 a.1 s.1 in
        let same : (1 + C m) * T + D x * W ≡ (1 + C x) * T + D m * (T + D x * H) = sym (as_placed_cons D C p m x xs h r.0) ∙ (e ∙ moved_first_cons D C p m x xs r.0) in (
          (λ _. step_eq_slack T H W (C x) (D x) (C m) (D m) (times_pos (λ i. 1 + C i) xs (every (λ i. 1 ≤ 1 + C i) (λ i. omega arith) xs)) below same),
          ih (step_eq_rest T H W (C x) (D x) (C m) (D m) o.0 s.0 below same),
        )
    go (inr h) ih = all_weak (λ i. p m < p i) (λ i. p i < p m → SlackLe D C i m) (λ i l k. omega arith) (x ∷ xs) (first_when p m x xs r.0 a.0 h)

abbrev pub Apart : (ℕ → ℕ) → List ℕ → Type 0
Apart p xs = Pairs (λ x y. p x ≡ p y → ⊥) xs

first_le : (D C p : ℕ → ℕ) (m : ℕ) (xs : List ℕ) → Apart p xs → AllByRecursion (λ i. p m ≡ p i → ⊥) xs → AllByRecursion (SlackLe D C m) xs → moved_first D C p m xs ≤ as_placed D C p m xs
first_le D C p m xs u a s = go (sort p xs u)
  where
    go : Sorted p xs → moved_first D C p m xs ≤ as_placed D C p m xs
    go l =
        rw (moved_first_reordered D C p m l.reordered, as_placed_reordered D C p m l.reordered)
        (first_sorted D C p m l.list l.rises (all_reordered (λ i. p m ≡ p i → ⊥) l.reordered a) (all_reordered (SlackLe D C m) l.reordered s))

first_le_only : (D C p : ℕ → ℕ) (m : ℕ) (xs : List ℕ) → Apart p xs → AllByRecursion (λ i. p m ≡ p i → ⊥) xs → AllByRecursion (SlackLe D C m) xs → AllByRecursion (λ i. 1 ≤ D i) xs
    → as_placed D C p m xs ≡ moved_first D C p m xs → AllByRecursion (λ i. p i < p m → SlackLe D C i m) xs
first_le_only D C p m xs u a s o e = go (sort p xs u)
  where
    go : Sorted p xs → AllByRecursion (λ i. p i < p m → SlackLe D C i m) xs
    go l =
        all_reordered (λ i. p i < p m → SlackLe D C i m) (reordered_back l.reordered)
        (first_sorted_only D C p m l.list l.rises (all_reordered (λ i. p m ≡ p i → ⊥) l.reordered a) (all_reordered (SlackLe D C m) l.reordered s) (all_reordered (λ i. 1 ≤ D i) l.reordered o)
        (sym (as_placed_reordered D C p m l.reordered) ∙ (e ∙ moved_first_reordered D C p m l.reordered)))

-- q rises with the slack along xs
least_sorted : (D C p q : ℕ → ℕ) (xs : List ℕ) → Pairs (λ x y. q x < q y) xs → Pairs (SlackLe D C) xs → Apart p xs → below_root D C q xs ≤ below_root D C p xs
unfolding below_root moved_first
least_sorted D C p q [] r s u = omega (arith, total_nil (by_earliest D C p []), total_nil (by_earliest D C q []))
least_sorted D C p q (x ∷ xs) r s u =
    let ih = least_sorted D C p q xs r.1 s.1 u.1 in
    omega (arith, below_root_first D C q x xs r.0, below_root_cons D C p x xs, mul-le-mul_left (D x) ih, first_le D C p x xs u.1 u.0 s.0)

-- then p rises with the slack too
abbrev pub FollowsSlack : (D C p : ℕ → ℕ) → ℕ → ℕ → Type 0
FollowsSlack D C p x y = (p x < p y → SlackLe D C x y) × (p y < p x → SlackLe D C y x)

least_sorted_only : (D C p q : ℕ → ℕ) (xs : List ℕ) → Pairs (λ x y. q x < q y) xs → Pairs (SlackLe D C) xs → Apart p xs → AllByRecursion (λ i. 1 ≤ D i) xs → below_root D C p xs ≡ below_root D C q xs → Pairs (FollowsSlack D C p) xs
unfolding moved_first
least_sorted_only D C p q [] r s u o e = tt
least_sorted_only D C p q (x ∷ xs) r s u o e = (now_so, least_sorted_only D C p q xs r.1 s.1 u.1 o.1 rest)
  where
    low : below_root D C q xs ≤ below_root D C p xs
    low = least_sorted D C p q xs r.1 s.1 u.1

    same : as_placed D C p x xs ≡ times (λ i. 1 + C i) xs + D x * below_root D C q xs
    same = sym (below_root_cons D C p x xs) ∙ (e ∙ below_root_first D C q x xs r.0)

    over : times (λ i. 1 + C i) xs + D x * below_root D C p xs ≤ as_placed D C p x xs
    over = first_le D C p x xs u.1 u.0 s.0

    rest : below_root D C p xs ≡ below_root D C q xs
    rest = let k : D x * below_root D C p xs ≤ D x * below_root D C q xs = omega (arith, same, over) in le_antisymm (le_of_mul-le-mul_left k o.0) low

    now_so : AllByRecursion (FollowsSlack D C p x) xs
    now_so = all_both (SlackLe D C x) (λ i. p i < p x → SlackLe D C i x) (FollowsSlack D C p x) (λ i a b. ((λ _. a), b)) xs s.0
        (first_le_only D C p x xs u.1 u.0 s.0 o.1 (same ∙ rw rest refl))

-- the same along any list of dimensions
module _ (D C p q : ℕ → ℕ) (xs : List ℕ) (up : Apart p xs) (uq : Apart q xs) (mono : Pairs (FollowsSlack D C q) xs) where
  slacks : (ys : List ℕ) → Pairs (λ x y. q x < q y) ys → Pairs (FollowsSlack D C q) ys → Pairs (SlackLe D C) ys
  slacks [] r a = tt
  slacks (y ∷ ys) r a = (all_both (λ z. q y < q z) (FollowsSlack D C q y) (SlackLe D C y) (λ z l k. k.0 l) ys r.0 a.0, slacks ys r.1 a.1)

  pub least_below_root : below_root D C q xs ≤ below_root D C p xs
  least_below_root = go (sort q xs uq)
    where
      go : Sorted q xs → below_root D C q xs ≤ below_root D C p xs
      go l =
          rw (below_root_reordered D C q l.reordered, below_root_reordered D C p l.reordered)
          (least_sorted D C p q l.list l.rises (slacks l.list l.rises (pairs_reordered (FollowsSlack D C q) (λ x y a. (a.1, a.0)) l.reordered mono)) (pairs_reordered (λ x y. p x ≡ p y → ⊥) (λ x y a e. a (sym e)) l.reordered up))

  pub least_below_root_only : AllByRecursion (λ i. 1 ≤ D i) xs → below_root D C p xs ≡ below_root D C q xs → Pairs (FollowsSlack D C p) xs
  least_below_root_only o e = go (sort q xs uq)
    where
      go : Sorted q xs → Pairs (FollowsSlack D C p) xs
      go l =
          pairs_reordered (FollowsSlack D C p) (λ x y a. (a.1, a.0)) (reordered_back l.reordered)
          (least_sorted_only D C p q l.list l.rises (slacks l.list l.rises (pairs_reordered (FollowsSlack D C q) (λ x y a. (a.1, a.0)) l.reordered mono)) (pairs_reordered (λ x y. p x ≡ p y → ⊥) (λ x y a k. a (sym k)) l.reordered up)
          (all_reordered (λ i. 1 ≤ D i) l.reordered o) (sym (below_root_reordered D C p l.reordered) ∙ (e ∙ below_root_reordered D C q l.reordered)))
