-- The plan needs the fewest cells of all orders and parents.
use Rattle.std.proofs.Common.{◌≡◌, ℕ, suc, ◌+◌, ◌-◌, ◌*◌, ◌^◌, ◌<◌, ◌≤◌, Bool, true, false, cond, ltb, ◌⊎◌, List, [], ◌∷◌, map, length, sum, sym, refl, ap, ◌∙◌, inl, inr, suc-mul, arith}
use native.Mathlib.Nat.{one-le-pow}
use Rattle.std.specs.List.{range_with_len, AllByRecursion}
use Rattle.std.proofs.lemmas.List.Sums.{sum_by-cons}
use Rattle.std.proofs.ByRecursion.{All-get_or, All-map}
use Rattle.std.proofs.lemmas.Bool.{cases_order}
use Rattle.shapes.specs.declared.dims.Dim.{Dim}
use Rattle.shapes.specs.Arrays.{Group, product, volume, extent, none_dim, dim, numbers, keeps, group}
use Rattle.plans.specs.Plans.{Edged, Lacks, others, Order, Parents, share, cells, need, Best, slack, RisingSlack, plan_place, earliest, plan_adds, plan_need, Bounded, Least}
use Rattle.plans.proofs.Sums.{total, times, total_same, total_le, times_le, total_at_most, product_is, all_counting, counting_all, Pairs, pairs_counting, counting_pairs}
use Rattle.plans.proofs.Exchange.{below_root, FollowsSlack, Apart, least_below_root, least_below_root_only}
use Rattle.plans.proofs.GroupSums.{times_shift}
use Rattle.plans.proofs.Earliest.{brings, terms, sum_terms, Distinct, earliest_le, earliest_is, terms_le, terms_best}
use Rattle.plans.proofs.Places.{plan_order, plan_rises}

sum_maps : (f : Group → ℕ) (h : ℕ → Group) (xs : List ℕ) → sum (map f (map h xs)) ≡ total (λ m. f (h m)) xs
unfolding total
sum_maps f h [] = refl
sum_maps f h (x ∷ xs) = sum_by-cons (λ k. k) (f (h x)) (map f (map h xs)) ∙ ap (λ k. f (h x) + k) (sum_maps f h xs)

one_less : (a s : ℕ) → 1 ≤ a → (a - 1) * s + s ≡ a * s
one_less a s h = let e : suc (a - 1) ≡ a = omega arith in sym (suc-mul (a - 1) s) ∙ ap (λ k. k * s) e

map_all : (P : Group → Type 0) (h : ℕ → Group) (xs : List ℕ) → AllByRecursion P (map h xs) → AllByRecursion (λ m. P (h m)) xs
map_all P h [] a = tt
map_all P h (x ∷ xs) a = (a.0, map_all P h xs a.1)

module _ (ds : List Dim) (edged : Edged ds) where
  n : ℕ
  n = length ds

  D : ℕ → ℕ
  D i = (dim ds i).size

  C : ℕ → ℕ
  C i = (dim ds i).edge

  fits : (i : ℕ) → i < n → C i ≤ D i
  unfolding n D C
  fits i l = (All-get_or (λ (d : Dim). (1 ≤ d.edge) × (d.edge ≤ d.size)) ds i none_dim l edged).1

  sized : (i : ℕ) → i < n → 1 ≤ D i
  unfolding n D C
  sized i l = let h = All-get_or (λ (d : Dim). (1 ≤ d.edge) × (d.edge ≤ d.size)) ds i none_dim l edged in omega (arith, h.0, h.1)

  of_others : (P : Group → Type 0) → AllByRecursion P (others ds) → (m : ℕ) → m + 1 < 2 ^ n → P (group n m)
  unfolding n
  of_others P a m h = counting_all (λ m. P (group n m)) 0 (2 ^ length ds - 1) (map_all P (group n) (range_with_len 0 (2 ^ length ds - 1)) a) m (omega arith) (omega arith)

  to_others : (P : Group → Type 0) → ((m : ℕ) → m + 1 < 2 ^ n → P (group n m)) → AllByRecursion P (others ds)
  unfolding n
  to_others P f = All-map P (group n) (range_with_len 0 (2 ^ length ds - 1)) (all_counting (λ m. P (group n m)) 0 (2 ^ length ds - 1) (λ m _ l. f m (omega arith)))

  cells_is : (place : ℕ → ℕ) (g : Group) (e : ℕ) → cells ds place g e ≡ times (brings D C place g e) (range_with_len 0 n)
  unfolding n D C brings
  cells_is place g e = product_is (share ds place g e) (numbers ds)

  pub need_is : (place : ℕ → ℕ) (adds : Group → ℕ) → need ds place adds ≡ volume ds + total (λ m. cells ds place (group (length ds) m) (adds (group (length ds) m))) (range_with_len 0 (2 ^ length ds - 1))
  unfolding n
  need_is place adds = ap (λ k. volume ds + k) (sum_maps (λ g. cells ds place g (adds g)) (group n) (range_with_len 0 (2 ^ n - 1)))

  distinct : (place : ℕ → ℕ) → Order ds place → Distinct place n
  unfolding n
  distinct place o = o.distinct

  -- with any parents at least as many cells as with the earliest ones
  need_low : (place : ℕ → ℕ) (adds : Group → ℕ) → Order ds place → Parents ds adds → volume ds + below_root D C place (range_with_len 0 n) ≤ need ds place adds
  unfolding n
  need_low place adds o ps =
      omega (
        arith,
        need_is place adds,
        sum_terms D C place n,
        total_le (λ m. terms D C place n (group n m)) (λ m. cells ds place (group n m) (adds (group n m))) (range_with_len 0 (2 ^ n - 1))
            (all_counting (λ m. terms D C place n (group n m) ≤ cells ds place (group n m) (adds (group n m))) 0 (2 ^ n - 1)
            (λ m _ l. let q = of_others (λ g. Lacks ds g (adds g)) ps m (omega arith) in
            rw (cells_is place (group n m) (adds (group n m))) (terms_le D C place n (distinct place o) fits (group n m) (adds (group n m)) q.0 q.1))),
      )

  -- with best parents just as many
  need_best : (place : ℕ → ℕ) (adds : Group → ℕ) → Order ds place → Parents ds adds → Best ds place adds → need ds place adds ≡ volume ds + below_root D C place (range_with_len 0 n)
  unfolding n
  need_best place adds o ps best =
      need_is place adds ∙ ap (λ k. volume ds + k)
      (total_same (λ m. cells ds place (group n m) (adds (group n m))) (λ m. terms D C place n (group n m)) (range_with_len 0 (2 ^ n - 1))
      (all_counting (λ m. cells ds place (group n m) (adds (group n m)) ≡ terms D C place n (group n m)) 0 (2 ^ n - 1)
      (λ m _ l. one m (omega arith)))
      ∙ sum_terms D C place n)
    where
      one : (m : ℕ) → m + 1 < 2 ^ n → cells ds place (group n m) (adds (group n m)) ≡ terms D C place n (group n m)
      one m h =
          let q = of_others (λ g. Lacks ds g (adds g)) ps m h in
          let b = of_others (λ g. (e : ℕ) → Lacks ds g e → cells ds place g (adds g) ≤ cells ds place g e) best m h in
          cells_is place (group n m) (adds (group n m))
          ∙ terms_best D C place n (distinct place o) fits m (adds (group n m)) h q.0 q.1
          (λ x l k. rw (← (cells_is place (group n m) (adds (group n m))), ← (cells_is place (group n m) x)) (b x (l, k)))

  early_parents : (place : ℕ → ℕ) → Parents ds (earliest place)
  unfolding n
  early_parents place = to_others (λ g. Lacks ds g (earliest place g)) (λ m h. let q = earliest_is place n m h in (q.inside, q.lacks))

  early_first : (place : ℕ → ℕ) → AllByRecursion (λ g. (e : ℕ) → Lacks ds g e → place (earliest place g) ≤ place e) (others ds)
  unfolding n
  early_first place = to_others (λ g. (e : ℕ) → Lacks ds g e → place (earliest place g) ≤ place e) (λ m h e k. (earliest_is place n m h).low e k.0 k.1)

  early_best : (place : ℕ → ℕ) → Best ds place (earliest place)
  unfolding n
  early_best place =
      to_others (λ g. (e : ℕ) → Lacks ds g e → cells ds place g (earliest place g) ≤ cells ds place g e)
      (λ m h e k. rw (cells_is place (group n m) (earliest place (group n m)), cells_is place (group n m) e)
      (earliest_le D C place n fits (group n m) (earliest place (group n m)) e ((earliest_is place n m h).low e k.0 k.1)))

  plan_need_is : plan_need ds ≡ volume ds + below_root D C (plan_place ds) (range_with_len 0 n)
  plan_need_is = need_best (plan_place ds) (plan_adds ds) (plan_order ds) (early_parents (plan_place ds)) (early_best (plan_place ds))

  apart : (place : ℕ → ℕ) → Order ds place → Apart place (range_with_len 0 n)
  unfolding n
  apart place o = pairs_counting (λ i j. place i ≡ place j → ⊥) 0 n (λ i j _ l h e. omega (arith, o.distinct i j (omega arith) (omega arith) e))

  follows_slack : (place : ℕ → ℕ) → RisingSlack ds place → Pairs (FollowsSlack D C place) (range_with_len 0 n)
  unfolding n D C
  follows_slack place r =
      pairs_counting (FollowsSlack D C place) 0 n
      (λ i j _ l h.
      let ci : C i ≤ D i = fits i (omega arith) in
      let cj : C j ≤ D j = fits j (omega arith) in
      ((λ k. omega (arith, r i j (omega arith) (omega arith) k)), (λ k. omega (arith, r j i (omega arith) (omega arith) k))))

  rises : (place : ℕ → ℕ) → Pairs (FollowsSlack D C place) (range_with_len 0 n) → RisingSlack ds place
  unfolding n D C
  rises place a i j l k h = go (cases_order i j)
    where
      go : (i ≡ j) ⊎ ((i < j) ⊎ (j < i)) → slack ds i ≤ slack ds j
      go (inl e) = absurd (omega (arith, ap place e))
      go (inr (inl q)) = omega (arith, (counting_pairs (FollowsSlack D C place) 0 n a i j (omega arith) q (omega arith)).0 h)
      go (inr (inr q)) = omega (arith, (counting_pairs (FollowsSlack D C place) 0 n a j i (omega arith) q (omega arith)).1 h)

  plan_follows_slack : Pairs (FollowsSlack D C (plan_place ds)) (range_with_len 0 n)
  plan_follows_slack = follows_slack (plan_place ds) (plan_rises ds)

  pub least_need : Least ds
  unfolding n
  least_need = record {
    early = λ place o. (early_parents place, early_best place);
    order = plan_order ds;
    parents = early_parents (plan_place ds);
    first = early_first (plan_place ds);
    best = early_best (plan_place ds);
    rising = plan_rises ds;
    least = λ place adds o ps. omega (arith, plan_need_is, need_low place adds o ps, low place o);
    only = λ place adds o ps b. (
      (λ e. rises place (least_below_root_only D C place (plan_place ds) (range_with_len 0 n) (apart place o) (apart (plan_place ds) (plan_order ds)) plan_follows_slack (all_counting (λ i. 1 ≤ D i) 0 n (λ i _ l. sized i (omega arith))) (omega (arith, e, plan_need_is, need_best place adds o ps b)))),
      (λ r. omega (arith, plan_need_is, need_best place adds o ps b, low place o, high place o r)),
    );
  }
    where
      low : (place : ℕ → ℕ) → Order ds place → below_root D C (plan_place ds) (range_with_len 0 n) ≤ below_root D C place (range_with_len 0 n)
      low place o = least_below_root D C place (plan_place ds) (range_with_len 0 n) (apart place o) (apart (plan_place ds) (plan_order ds)) plan_follows_slack

      high : (place : ℕ → ℕ) → Order ds place → RisingSlack ds place → below_root D C place (range_with_len 0 n) ≤ below_root D C (plan_place ds) (range_with_len 0 n)
      high place o r = least_below_root D C (plan_place ds) place (range_with_len 0 n) (apart (plan_place ds) (plan_order ds)) (apart place o) (follows_slack place r)

  -- every group has at most as many cells as the array
  sizes_is : (f : Dim → ℕ) (es : List Dim) → product (map f es) ≡ times (λ i. f (dim es i)) (range_with_len 0 (length es))
  unfolding times
  sizes_is f [] = refl
  sizes_is f (e ∷ es) = ap (λ k. f e * k) (sizes_is f es ∙ sym (times_shift (λ i. f (dim (e ∷ es) i)) 0 (length es)))

  brings_at_most : (place : ℕ → ℕ) (g : Group) (e i : ℕ) → i < n → brings D C place g e i ≤ D i
  unfolding brings
  brings_at_most place g e i l = go (keeps g i) (ltb (place i) (place e))
    where
      go : (b c : Bool) → cond b (cond c (D i) (C i)) 1 ≤ D i
      go true true = omega arith
      go true false = fits i l
      go false c = sized i l

  pub cells_at_most : (place : ℕ → ℕ) (g : Group) (e : ℕ) → cells ds place g e ≤ extent ds
  unfolding n D
  cells_at_most place g e =
      rw (cells_is place g e, sizes_is (λ (d : Dim). d.size) ds)
      (times_le (brings D C place g e) D (range_with_len 0 n) (all_counting (λ i. brings D C place g e i ≤ D i) 0 n (λ i _ l. brings_at_most place g e i (omega arith))))

  pub volume_at_most : volume ds ≤ extent ds
  unfolding n D C
  volume_at_most =
      rw (sizes_is (λ (d : Dim). d.edge) ds, sizes_is (λ (d : Dim). d.size) ds)
      (times_le C D (range_with_len 0 n) (all_counting (λ i. C i ≤ D i) 0 n (λ i _ l. fits i (omega arith))))

  pub need_bounded : Bounded ds
  unfolding n
  need_bounded place adds =
      let S : ℕ = extent ds in
      let k : (2 ^ n - 1) * S + S ≡ 2 ^ n * S = one_less (2 ^ n) S (one-le-pow n 2 (omega arith)) in
      omega (arith, need_is place adds, volume_at_most, k, total_at_most S (λ m. cells ds place (group n m) (adds (group n m))) 0 (2 ^ n - 1) (λ m. cells_at_most place (group n m) (adds (group n m))))
