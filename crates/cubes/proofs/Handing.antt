-- The laws of the handing order: the levels cut nothing off, each group is handed out in scan order, no block twice, and how many blocks.
use Rattle.std.proofs.Common.{◌≡◌, ℕ, zero, suc, ◌+◌, ◌-◌, ◌*◌, ◌/◌, ◌<◌, ◌≤◌, cond, List, [], ◌∷◌, ◌++◌, map, length, take, drop, sum, filter, sym, refl, ap, ◌∙◌, subst, le_trans, mul-le-mul_right, le-div_iff_mul-le, div-mul-le_self, add-one, arith}
use mathlib.Core.Path.{fun_ext}
use mathlib.Core.List.{map-map}
use Rattle.std.specs.List.{range_with_len, flat_map, ContainsAt as Has, AllByRecursion}
use Rattle.std.proofs.ByRecursion.{All-weaker, all_kept_by, all_has_itself}
use Rattle.std.proofs.lemmas.Bool.{true≢false}
use Rattle.std.proofs.lemmas.List.{length-map, take-map, take-append-drop, take_all}
use Rattle.std.proofs.lemmas.List.FromFn.{length-map-range_with_len, take-map-range_with_len}
use Rattle.shapes.specs.declared.dims.Dim.{Dim}
use Rattle.shapes.specs.Arrays.{Group, chunks, counts, product, radix, root, total_chunks}
use Rattle.cubes.specs.Scans.{scan_digits}
use Rattle.cubes.specs.Handing.{Block, Distinct, Scan, block_count, blocks, blocks_of, child, children, completes, handing, of_group, parent, region, release, release_of, released_by, same_group, tally}
use Rattle.cubes.specs.Control.{Numbered, Table, WithinDue, due_by, numbered_block, tree}
use Rattle.cubes.proofs.Completions.{all_due}
use Rattle.cubes.proofs.Listing.{all_always, all_cond, all_from_kept, all_joined, counting_append, distinct_cond, distinct_counting, distinct_map, joined_append, joined_like, joined_same, kept_map}
use Rattle.cubes.proofs.Machine.{Settled, Under, release_numbers, same_group_refl}
use Rattle.cubes.proofs.States.{due_by_is, is_of, numbered, numbered_by, state_all, state_front, state_none}
use Rattle.cubes.proofs.Totals.{counts_once, every_group, every_group_are, every_group_once, sum_over, sum_over_is, sum_over_like, tally_total, total_products}
use Rattle.cubes.proofs.Trees.{ChildOf, children_are, inside, is_child, lacks_keeps, laws, level, level_le, level_root, level_set, placed, radix_root_counts, release_is, scan_digits_same, sized}
use Rattle.plans.proofs.Sums.{all_counting}

-- what the first chunks release comes first
pub released_first : (ds : List Dim) (place : ℕ → ℕ) (adds : Group → ℕ) (all : List Group) (t : ℕ) → t ≤ total_chunks ds → (rest : List Block)
    × (handing ds place adds all ≡ released_by ds place adds all t ++ rest)
released_first ds place adds all t l = (
  flat_map (release_of ds place adds all) (range_with_len (0 + t) (total_chunks ds - t)),
  ap (λ n. flat_map (release_of ds place adds all) (range_with_len 0 n)) size
      ∙ (ap (flat_map (release_of ds place adds all)) (counting_append 0 t (total_chunks ds - t))
      ∙ joined_append (release_of ds place adds all) (range_with_len 0 t) (range_with_len (0 + t) (total_chunks ds - t))),
)
  where
    size : total_chunks ds ≡ t + (total_chunks ds - t)
    size = omega arith

module _ (ds : List Dim) (place : ℕ → ℕ) (adds : Group → ℕ) (all : List Group) (S : Scan ds place adds all) where
  -- the order by blocks is the order by numbers
  pub released_is : (t : ℕ) → t ≤ total_chunks ds → released_by ds place adds all t
      ≡ map (numbered_block ds place) (numbered_by (tree ds place adds all) (root (length ds)) (level (root (length ds))) t)
  released_is t l = joined_like (release_of ds place adds all) (numbered_block ds place)
      (λ s. release_numbers (tree ds place adds all) (suc (level (root (length ds)))) (root (length ds)) (s ∷ [])) (range_with_len 0 t)
      (all_counting (λ s. release_of ds place adds all s
      ≡ map (numbered_block ds place) (release_numbers (tree ds place adds all) (suc (level (root (length ds)))) (root (length ds)) (s ∷ []))) 0 t
      (λ s a b. one s (omega arith)))
    where
      one : (s : ℕ) → s < total_chunks ds → release_of ds place adds all s
          ≡ map (numbered_block ds place) (release_numbers (tree ds place adds all) (suc (level (root (length ds)))) (root (length ds)) (s ∷ []))
      one s below =
          ap (λ rs. release ds place adds all (suc (length ds)) (root (length ds)) (scan_digits place rs s ∷ [])) (sym (radix_root_counts ds))
          ∙ (release_is ds place adds all S (suc (length ds)) (root (length ds)) (s ∷ []) (subst (λ rs. s < product rs) (sym (radix_root_counts ds)) below, tt)
          ∙ ap (λ m. map (numbered_block ds place) (release_numbers (tree ds place adds all) (suc m) (root (length ds)) (s ∷ []))) (sym (level_root (length ds))))

  -- a group's counts after t chunks, at most and at the end
  pub counts_le : (t : ℕ) → t ≤ total_chunks ds → (d : Table) → d (root (length ds)) ≡ t → Settled (tree ds place adds all) (ChildOf adds all) d (root (length ds))
      → (j : ℕ) (h : Group) → Under (tree ds place adds all) (ChildOf adds all) j (root (length ds)) h → d h ≤ product (radix h (counts ds))
  counts_le t l d e r zero h u = omega (arith, ap d u, e, ap (λ g. product (radix g (counts ds))) u, ap product (radix_root_counts ds))
  counts_le t l d e r (suc j) h u =
      subst (λ x. x ≤ product (radix h (counts ds))) (sym (r j h u))
      (le_trans (mul-le-mul_right ((tree ds place adds all).share h)
      (div_le (d (parent adds h)) (product (radix (parent adds h) (counts ds))) ((tree ds place adds all).period h)
      ((laws ds place adds all S).period_some h u.0) (counts_le t l d e r j (parent adds h) u.1)))
      (omega (
        arith,
        all_due ds place S.edged S.order adds h (sized ds place adds all S h u.0.0) (inside ds place adds all S h u.0)
            (lacks_keeps h (adds h) u.0.1),
      )))
    where
      div_le : (a b m : ℕ) → 0 < m → a ≤ b → a / m ≤ b / m
      div_le a b m pos k = (le-div_iff_mul-le pos).1 (le_trans (div-mul-le_self a m) k)

  counts_all : (d : Table) → d (root (length ds)) ≡ total_chunks ds → Settled (tree ds place adds all) (ChildOf adds all) d (root (length ds)) → (j : ℕ) (h : Group)
      → Under (tree ds place adds all) (ChildOf adds all) j (root (length ds)) h → d h ≡ product (radix h (counts ds))
  counts_all d e r zero h u = ap d u ∙ (e ∙ (sym (ap product (radix_root_counts ds)) ∙ sym (ap (λ g. product (radix g (counts ds))) u)))
  counts_all d e r (suc j) h u = r j h u
      ∙ (ap (λ n. (n / (tree ds place adds all).period h) * (tree ds place adds all).share h) (counts_all d e r j (parent adds h) u.1)
      ∙ all_due ds place S.edged S.order adds h (sized ds place adds all S h u.0.0) (inside ds place adds all S h u.0)
      (lacks_keeps h (adds h) u.0.1))

  -- every group is below the root, by as many steps as it lacks dimensions at most
  pub under_root : (h : Group) → Has all h → (j : ℕ) × (j ≤ length ds) × Under (tree ds place adds all) (ChildOf adds all) j (root (length ds)) h
  under_root h l = let (j, b, u) = placed ds place adds all S (length ds - level h) h l (omega (arith, level_le h, sized ds place adds all S h l)) in
      (j, omega arith, u)

  pub of_blocks : (h : Group) (xs : List Numbered) → filter (of_group h) (map (numbered_block ds place) xs) ≡ map (numbered_block ds place) (filter (is_of h) xs)
  of_blocks h xs = kept_map (of_group h) (numbered_block ds place) xs

  blocks_numbered : (h : Group) (m : ℕ) → m ≤ product (radix h (counts ds)) → map (numbered_block ds place) (map (numbered h) (range_with_len 0 m))
      ≡ take m (blocks_of ds place h)
  blocks_numbered h m l = map-map (numbered_block ds place) (numbered h) (range_with_len 0 m)
      ∙ (sym (take-map-range_with_len (λ s. record { of = h; at = scan_digits place (radix h (counts ds)) s }) 0 (product (radix h (counts ds))) m l)
      ∙ ap (take m) (sym (map-map (λ c. record { of = h; at = c }) (scan_digits place (radix h (counts ds))) (range_with_len 0 (product (radix h (counts ds)))))))

  length_blocks : (h : Group) → length (blocks_of ds place h) ≡ product (radix h (counts ds))
  length_blocks h = length-map (blocks ds place h) (λ c. record { of = h; at = c })
      ∙ length-map-range_with_len (scan_digits place (radix h (counts ds))) 0 (product (radix h (counts ds)))

  -- after t chunks, the blocks of a group that were handed out are as many as are due, the first ones, in scan order
  pub released_in_order : (t : ℕ) → t ≤ total_chunks ds → (h : Group) → Has all h → filter (of_group h) (released_by ds place adds all t)
      ≡ take (due_by (tree ds place adds all) t (length ds) h) (blocks_of ds place h)
  released_in_order t l h lh =
      let (d, s) = state_all (tree ds place adds all) (root (length ds)) (ChildOf adds all) level (laws ds place adds all S) t in
      let (e, dt, r) = state_none (tree ds place adds all) (root (length ds)) (ChildOf adds all) level (laws ds place adds all S) t _ _ d s in
      let (j, b, u) = under_root h lh in
      ap (filter (of_group h)) (released_is t l)
      ∙ (of_blocks h (numbered_by (tree ds place adds all) (root (length ds)) (level (root (length ds))) t)
      ∙ (ap (map (numbered_block ds place)) (s.counts h)
      ∙ (blocks_numbered h (d h) (counts_le t l d dt r j h u)
      ∙ ap (λ m. take m (blocks_of ds place h))
      (sym (due_by_is (tree ds place adds all) (root (length ds)) (ChildOf adds all) level (laws ds place adds all S) t d dt r j
      (length ds) h u b)))))

  pub due_by_at_most : (t : ℕ) → t ≤ total_chunks ds → (h : Group) → Has all h → due_by (tree ds place adds all) t (length ds) h ≤ length (blocks_of ds place h)
  due_by_at_most t l h lh =
      let (d, s) = state_all (tree ds place adds all) (root (length ds)) (ChildOf adds all) level (laws ds place adds all S) t in
      let (e, dt, r) = state_none (tree ds place adds all) (root (length ds)) (ChildOf adds all) level (laws ds place adds all S) t _ _ d s in
      let (j, b, u) = under_root h lh in
      omega (
        arith,
        counts_le t l d dt r j h u,
        due_by_is (tree ds place adds all) (root (length ds)) (ChildOf adds all) level (laws ds place adds all S) t d dt r j
            (length ds) h u b,
        length_blocks h,
      )

  pub due_by_all : (h : Group) → Has all h → due_by (tree ds place adds all) (total_chunks ds) (length ds) h ≡ product (radix h (counts ds))
  due_by_all h lh =
      let (d, s) = state_all (tree ds place adds all) (root (length ds)) (ChildOf adds all) level (laws ds place adds all S) (total_chunks ds) in
      let (e, dt, r) = state_none (tree ds place adds all) (root (length ds)) (ChildOf adds all) level (laws ds place adds all S) (total_chunks ds) _ _ d s in
      let (j, b, u) = under_root h lh in
      due_by_is (tree ds place adds all) (root (length ds)) (ChildOf adds all) level (laws ds place adds all S) (total_chunks ds) d dt r j (length ds) h u b
      ∙ counts_all d dt r j h u

  -- the blocks of a group are handed out in scan order, each once
  pub handed_in_order : (h : Group) → Has all h → filter (of_group h) (handing ds place adds all) ≡ blocks_of ds place h
  handed_in_order h lh = released_in_order (total_chunks ds) (omega arith) h lh
      ∙ take_all (due_by (tree ds place adds all) (total_chunks ds) (length ds) h) (blocks_of ds place h) (omega (arith, due_by_all h lh, length_blocks h))

  -- at every moment a group has handed out no more than is due of it; it lags by a region at most, and its parent does not go on meanwhile
  pub always_within_due : (i : ℕ) (h : Group) → Has all h → (h ≡ root (length ds) → ⊥)
      → WithinDue (tree ds place adds all) (tally (take i (handing ds place adds all))) h
  always_within_due i h lh n =
      let (u, rest, o, d, s) = state_front (tree ds place adds all) (root (length ds)) (ChildOf adds all) level (laws ds place adds all S) (total_chunks ds)
      (take i whole) (drop i whole) (sym (take-append-drop i whole)) in
      subst (λ c. WithinDue (tree ds place adds all) c h)
      (fun_ext (λ g. sym (ap (λ xs. length (filter (of_group g) (take i xs))) (released_is (total_chunks ds) (omega arith))
      ∙ (ap (λ xs. length (filter (of_group g) xs)) (take-map (numbered_block ds place) i whole)
      ∙ (ap length (of_blocks g (take i whole) ∙ ap (map (numbered_block ds place)) (s.counts g))
      ∙ (length-map (map (numbered g) (range_with_len 0 (d g))) (numbered_block ds place) ∙ length-map-range_with_len (numbered g) 0 (d g)))))))
      (s.within_due h (is_child ds place adds all S h lh n))
    where
      whole : List Numbered
      whole = numbered_by (tree ds place adds all) (root (length ds)) (level (root (length ds))) (total_chunks ds)

  of_release : (f : ℕ) (g : Group) (bs : List (List ℕ)) → Has all g → AllByRecursion (λ x. Has all x.of) (release ds place adds all f g bs)
  unfolding release
  of_release zero g bs l = tt
  of_release (suc f) g bs l = all_joined (λ x. Has all x.of)
      (λ b. record { of = g; at = b } ∷ flat_map (λ h. cond (completes ds place adds h b) (release ds place adds all f h (region ds place adds h b)) [])
      (children adds all g)) bs (all_always _
      (λ b. (
        l,
        all_joined (λ x. Has all x.of) (λ h. cond (completes ds place adds h b) (release ds place adds all f h (region ds place adds h b)) [])
            (children adds all g) (All-weaker (λ h. Has all h)
            (λ h. AllByRecursion (λ x. Has all x.of) (cond (completes ds place adds h b) (release ds place adds all f h (region ds place adds h b)) []))
            (λ h lh. all_cond (λ x. Has all x.of) (completes ds place adds h b) (release ds place adds all f h (region ds place adds h b))
            (of_release f h (region ds place adds h b) lh)) (children adds all g)
            (all_kept_by (child adds g) (λ h. Has all h) all (all_has_itself all))),
      )) bs)

  -- every block handed out is a group's
  pub released_of_groups : (t : ℕ) → AllByRecursion (λ x. Has all x.of) (released_by ds place adds all t)
  released_of_groups t = all_joined (λ x. Has all x.of) (release_of ds place adds all) (range_with_len 0 t)
      (all_always (λ s. AllByRecursion (λ x. Has all x.of) (release_of ds place adds all s))
      (λ s. of_release (suc (length ds)) (root (length ds)) (scan_digits place (counts ds) s ∷ []) S.grouped.has_root) (range_with_len 0 t))

  blocks_distinct : (h : Group) → Has all h → Distinct (blocks_of ds place h)
  blocks_distinct h k = subst Distinct
      (sym (map-map (λ c. record { of = h; at = c }) (scan_digits place (radix h (counts ds))) (range_with_len 0 (product (radix h (counts ds))))))
      (distinct_map (λ s. record { of = h; at = scan_digits place (radix h (counts ds)) s }) (λ s. s < product (radix h (counts ds)))
      (λ s u l m e. scan_digits_same ds place S.order h (sized ds place adds all S h k) s u l m (ap (λ b. b.at) e))
      (range_with_len 0 (product (radix h (counts ds))))
      (all_counting (λ s. s < product (radix h (counts ds))) 0 (product (radix h (counts ds))) (λ s a b. omega arith))
      (distinct_counting 0 (product (radix h (counts ds)))))

  -- no block is handed out twice
  pub handed_once : Distinct (handing ds place adds all)
  handed_once = distinct_from_groups (handing ds place adds all) (released_of_groups (total_chunks ds))
      (λ h l. subst Distinct (sym (handed_in_order h l)) (blocks_distinct h l))
    where
      distinct_from_groups : (xs : List Block) → AllByRecursion (λ x. Has all x.of) xs → ((h : Group) → Has all h → Distinct (filter (of_group h) xs)) → Distinct xs
      distinct_from_groups [] v a = tt
      distinct_from_groups (x ∷ xs) v a = (
        all_from_kept (of_group x.of) (λ y. y ≡ x → ⊥)
            (λ y e p. true≢false (sym (same_group_refl x.of) ∙ (ap (λ z. same_group z.of x.of) (sym p) ∙ e))) xs here.0,
        distinct_from_groups xs v.1
            (λ h l. distinct_cond (of_group h x) x (filter (of_group h) xs) (a h l)),
      )
        where
          here : Distinct (x ∷ filter (of_group x.of) xs)
          here = subst (λ b. Distinct (cond b (x ∷ filter (of_group x.of) xs) (filter (of_group x.of) xs))) (same_group_refl x.of) (a x.of v.0)

  -- how many blocks are handed out: those of each group
  pub handed_counts : length (handing ds place adds all) ≡ sum (map (λ h. product (radix h (counts ds))) all)
  handed_counts =
      sym (tally_total all (handing ds place adds all) (All-weaker (λ x. Has all x.of) (λ x. sum_over (λ h. cond (same_group x.of h) 1 0) all ≡ 1)
      (λ x k. counts_once all x.of S.grouped.once k) (handing ds place adds all) (released_of_groups (total_chunks ds))))
      ∙ (sum_over_like (tally (handing ds place adds all)) (λ h. product (radix h (counts ds))) all
      (All-weaker (λ h. Has all h) (λ h. tally (handing ds place adds all) h ≡ product (radix h (counts ds))) (λ h l. ap length (handed_in_order h l)
      ∙ length_blocks h) all (all_has_itself all))
      ∙ sum_over_is (λ h. product (radix h (counts ds))) all)

  -- of all groups there are as many blocks as the product of the chunk counts, each plus 1
  pub handed_length : ((h : Group) → length h ≡ length ds → Has all h) → length (handing ds place adds all) ≡ block_count ds
  handed_length whole =
      sym (tally_total (every_group (length ds)) (handing ds place adds all)
      (All-weaker (λ x. Has all x.of) (λ x. sum_over (λ h. cond (same_group x.of h) 1 0) (every_group (length ds)) ≡ 1)
      (λ x k. every_group_once (length ds) x.of (sized ds place adds all S x.of k)) (handing ds place adds all) (released_of_groups (total_chunks ds))))
      ∙ (sum_over_like (tally (handing ds place adds all)) (λ h. product (radix h (counts ds))) (every_group (length ds))
      (All-weaker (λ h. length h ≡ length ds) (λ h. tally (handing ds place adds all) h ≡ product (radix h (counts ds)))
      (λ h l. ap length (handed_in_order h (whole h l)) ∙ length_blocks h) (every_group (length ds)) (every_group_are (length ds)))
      ∙ (ap (λ n. sum_over (λ h. product (radix h (counts ds))) (every_group n)) (sym (length-map ds chunks)) ∙ (total_products (counts ds) ∙ ap product (more ds))))
    where
      more : (ds : List Dim) → map suc (counts ds) ≡ map (λ d. chunks d + 1) ds
      more [] = refl
      more (d ∷ ds) = ap (λ n. n ∷ map suc (counts ds)) (sym (add-one (chunks d))) ∙ ap (λ ns. (chunks d + 1) ∷ ns) (more ds)

  release_levels : (f f' : ℕ) (g : Group) (bs : List (List ℕ)) → level g < f → level g < f' → release ds place adds all f g bs ≡ release ds place adds all f' g bs
  unfolding release
  release_levels zero f' g bs l l' = absurd (omega arith)
  release_levels (suc f) zero g bs l l' = absurd (omega arith)
  release_levels (suc f) (suc f') g bs l l' =
      joined_same _ _ bs (all_always _
      (λ b. ap (λ ys. record { of = g; at = b } ∷ ys)
      (joined_same (λ h. cond (completes ds place adds h b) (release ds place adds all f h (region ds place adds h b)) [])
      (λ h. cond (completes ds place adds h b) (release ds place adds all f' h (region ds place adds h b)) []) (children adds all g)
      (All-weaker (λ h. ChildOf adds all h × (parent adds h ≡ g))
      (λ h. cond (completes ds place adds h b) (release ds place adds all f h (region ds place adds h b)) []
      ≡ cond (completes ds place adds h b) (release ds place adds all f' h (region ds place adds h b)) [])
      (λ h k. ap (λ ys. cond (completes ds place adds h b) ys [])
      (release_levels f f' h (region ds place adds h b) (omega (arith, level_set h (adds h) k.0.1, ap level k.1))
      (omega (arith, level_set h (adds h) k.0.1, ap level k.1)))) (children adds all g)
      (children_are ds place adds all S g)))) bs)

  pub release_unrolls : (g : Group) (bs : List (List ℕ)) → Has all g → release ds place adds all (suc (length ds)) g bs
      ≡ flat_map (λ b. record { of = g; at = b } ∷ flat_map
      (λ h. cond (completes ds place adds h b) (release ds place adds all (suc (length ds)) h (region ds place adds h b)) []) (children adds all g)) bs
  unfolding release
  release_unrolls g bs l = joined_same _ _ bs
      (all_always _ (λ b. ap (λ ys. record { of = g; at = b } ∷ ys)
      (joined_same (λ h. cond (completes ds place adds h b) (release ds place adds all (length ds) h (region ds place adds h b)) [])
      (λ h. cond (completes ds place adds h b) (release ds place adds all (suc (length ds)) h (region ds place adds h b)) []) (children adds all g)
      (All-weaker (λ h. ChildOf adds all h × (parent adds h ≡ g))
      (λ h. cond (completes ds place adds h b) (release ds place adds all (length ds) h (region ds place adds h b)) []
      ≡ cond (completes ds place adds h b) (release ds place adds all (suc (length ds)) h (region ds place adds h b)) [])
      (λ h k. ap (λ ys. cond (completes ds place adds h b) ys [])
      (release_levels (length ds) (suc (length ds)) h (region ds place adds h b)
      (omega (arith, level_le g, sized ds place adds all S g l, level_set h (adds h) k.0.1, ap level k.1))
      (omega (arith, level_le g, sized ds place adds all S g l, level_set h (adds h) k.0.1, ap level k.1))))
      (children adds all g) (children_are ds place adds all S g)))) bs)
