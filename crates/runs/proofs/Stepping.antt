-- The control of a run, from step to step.
use Rattle.std.proofs.Common.{◌≡◌, ℕ, suc, ◌+◌, ◌-◌, ◌*◌, ◌^◌, ◌<◌, ◌≤◌, Bool, true, false, not, ◌&&◌, eqb, ltb, ◌⊎◌, ◌↔◌, List, [], ◌∷◌, ◌++◌, length, get_or, set, Some, None, Option, sym, refl, ap, ◌∙◌, subst, inl, inr, ⊎_elim, arith, pow_mono}
use native.Mathlib.Nat.{pow-succ'}
use Rattle.std.proofs.lemmas.Nat.{mul-le}
use Rattle.std.specs.List.{ContainsAt as Has}
use Rattle.std.proofs.ByRecursion.{All-get_or}
use Rattle.std.proofs.lemmas.List.{length-append, get_or_default}
use Rattle.std.proofs.lemmas.Bool.{ltb-false, le-ltb, eqb-true, eqb-false, cases_Bool, cases_eq, true≢false}
use Rattle.shapes.specs.declared.dims.Dim.{Dim}
use Rattle.shapes.specs.Arrays.{Group, Below, number, radix, counts, chunks, total_chunks, mask, group, groups}
use Rattle.shapes.specs.Limits.{Limits}
use Rattle.shapes.specs.Views.{six}
use Rattle.shapes.proofs.Masks.{length-group, mask-group}
use Rattle.plans.specs.Plans.{Edged}
use Rattle.cubes.specs.Scans.{scan_digits}
use Rattle.cubes.specs.Handing.{Block, named, released, released_by, handing, block_count}
use Rattle.cubes.specs.Control.{tree, next_from}
use Rattle.cubes.specs.Turns.{next_group}
use Rattle.cubes.specs.Progress.{Progress, Counted, MaskWithin, IsNext, group_at, table_of}
use Rattle.cubes.proofs.Cells.{chunks_positive}
use Rattle.cubes.proofs.Counting.{progress_laws}
use Rattle.cubes.proofs.Reaching.{progress_is_counted}
use Rattle.cubes.proofs.Groups.{groups_have, mask_back, mask_within, limits_edged}
use Rattle.cubes.proofs.Handing.{released_first, released_of_groups, handed_length}
use Rattle.cubes.proofs.Trees.{sized}
use Rattle.cubes.proofs.Naming.{block_within}
use Rattle.runs.specs.declared.control.Control.{Control}
use Rattle.runs.specs.Trees.{Grown}
use Rattle.runs.specs.Controls.{handed_at, counts_in, next_seen, Seen, Controls, DoneExactly}
use Rattle.runs.proofs.Growing.{chunks_few}
use Rattle.runs.proofs.Naming.{block_radix_small}
use Rattle.runs.proofs.Waiting.{length-counts, count_is, counts_more}
use Rattle.runs.proofs.Steering.{scanned, same_groups}

-- each chunk count plus 1 is at most twice the count
pub blocks_double : (ds : List Dim) → Edged ds → block_count ds ≤ 2 ^ length ds * total_chunks ds
blocks_double [] edged = omega arith
blocks_double (d ∷ ds) edged =
    let some : 0 < chunks d = chunks_positive (d ∷ ds) 0 edged (omega arith) in
    let step = mul-le (chunks d + 1) (block_count ds) (2 * chunks d) (2 ^ length ds * total_chunks ds) (omega arith) (blocks_double ds edged.1) in
    let two : 2 ^ suc (length ds) ≡ 2 * 2 ^ length ds = pow-succ' 2 (length ds) in
    let turn : 2 * chunks d * (2 ^ length ds * total_chunks ds) ≡ 2 * 2 ^ length ds * (chunks d * total_chunks ds) = omega arith in
    let same : 2 ^ suc (length ds) * (chunks d * total_chunks ds) ≡ 2 * 2 ^ length ds * (chunks d * total_chunks ds) = ap (λ k. k * (chunks d * total_chunks ds)) two in
    omega arith

-- all chunks and all blocks are counted in 64 bits
pub blocks_few : (ds : List Dim) → Limits ds → block_count ds ≤ 2 ^ 40
blocks_few ds l =
    let groups_few : 2 ^ length ds ≤ 2 ^ 6 = pow_mono l.few_dims in
    omega (arith, blocks_double ds (limits_edged ds l), mul-le (2 ^ length ds) (total_chunks ds) 64 (2 ^ 34) (omega arith) (chunks_few ds l))

pub all_fit : (ds : List Dim) → Limits ds → total_chunks ds + block_count ds < 2 ^ 64
all_fit ds l = omega (arith, chunks_few ds l, blocks_few ds l)

-- from the handing order to what a program goes by, and back
module _ (ds : List Dim) (place : ℕ → ℕ) (adds : Group → ℕ) (c : Control) (s : Controls ds place adds c) where
  pub released_few : released ds place adds (groups (length ds)) c.passed ≤ length (handing ds place adds (groups (length ds)))
  released_few = front (released_first ds place adds (groups (length ds)) c.passed s.within)
    where
      front : ((rest : List Block) × (handing ds place adds (groups (length ds)) ≡ released_by ds place adds (groups (length ds)) c.passed ++ rest))
          → released ds place adds (groups (length ds)) c.passed ≤ length (handing ds place adds (groups (length ds)))
      front (rest, e) = omega (arith, ap length e, length-append (released_by ds place adds (groups (length ds)) c.passed) rest)

  -- the group that is next, from its mask
  next_long : c.handed < length (handing ds place adds (groups (length ds))) → length (next_group ds place adds (groups (length ds)) c.handed) ≡ length ds
  next_long l = sized ds place adds (groups (length ds)) (scanned ds place adds c.tree s.grown) (next_group ds place adds (groups (length ds)) c.handed)
      (All-get_or (λ x. Has (groups (length ds)) x.of) (handing ds place adds (groups (length ds))) c.handed (record { of = []; at = [] }) l
      (released_of_groups ds place adds (groups (length ds)) (scanned ds place adds c.tree s.grown) (total_chunks ds)))

  next_among : (m : ℕ) → c.next ≡ Some m → c.handed < length (handing ds place adds (groups (length ds)))
  next_among m e = omega (arith, s.next_waits m e, released_few)

  next_mask : (m : ℕ) → c.next ≡ Some m → m < 2 ^ length ds
  next_mask m e = subst (λ k. k < 2 ^ length ds) (s.next_of m e) (mask_within (length ds) (next_group ds place adds (groups (length ds)) c.handed) (next_long (next_among m e)))

  next_of_all : (m : ℕ) → c.next ≡ Some m → (b : Block) → (get_or (handing ds place adds (groups (length ds))) c.handed b).of ≡ group (length ds) m
  next_of_all m e b = ap (λ x. x.of) (get_or_default (handing ds place adds (groups (length ds))) c.handed b (record { of = []; at = [] }) (next_among m e))
      ∙ (sym (mask_back (length ds) (next_group ds place adds (groups (length ds)) c.handed) (next_long (next_among m e))) ∙ ap (group (length ds)) (s.next_of m e))

  pub next_is : (o : Option ℕ) → c.next ≡ o → IsNext ds place adds (groups (length ds)) c.passed c.handed o
  next_is None e = s.idle e
  next_is (Some m) e = (next_mask m e, s.next_waits m e, next_of_all m e)

  pub counted : Counted ds place adds (groups (length ds)) c.passed c.handed c.next (counts_in (length ds) c.progress.counts)
  counted = record {
    within = s.within;
    since = s.since;
    until = s.until;
    tallies = λ m l. count_is (length ds) c.progress.counts m l ∙ s.tallies m l;
    all_counts = length-counts (length ds) c.progress.counts;
    next = next_is c.next refl;
  }

  pub progress : Progress ds place adds (groups (length ds)) c.passed c.handed c.next (counts_in (length ds) c.progress.counts)
  progress = ((progress_is_counted ds place adds (groups (length ds)) (scanned ds place adds c.tree s.grown) c.passed c.handed c.next
      (counts_in (length ds) c.progress.counts)).1 counted).2

  pub all_blocks : length (handing ds place adds (groups (length ds))) ≡ block_count ds
  all_blocks = handed_length ds place adds (groups (length ds)) (scanned ds place adds c.tree s.grown) (groups_have (length ds))

  pub handed_few : c.handed ≤ 2 ^ 40
  handed_few = omega (arith, s.until, released_few, all_blocks, blocks_few ds s.grown.limits)

pub controls_from : (ds : List Dim) (place : ℕ → ℕ) (adds : Group → ℕ) (c : Control) → Grown ds place adds c.tree → c.passed ≤ total_chunks ds
    → MaskWithin (length ds) c.next → Progress ds place adds (groups (length ds)) c.passed c.handed c.next (counts_in (length ds) c.progress.counts) → Controls ds place adds c
controls_from ds place adds c g l w p = record {
  grown = g;
  within = it.within;
  since = it.since;
  until = it.until;
  tallies = λ m b. sym (count_is (length ds) c.progress.counts m b) ∙ it.tallies m b;
  idle = λ e. subst (IsNext ds place adds (groups (length ds)) c.passed c.handed) e it.next;
  next_waits = λ m e. (at m e).1;
  next_of = λ m e. ap mask ((at m e).2 (record { of = []; at = [] })) ∙ mask-group (length ds) m (at m e).0;
}
  where
    it : Counted ds place adds (groups (length ds)) c.passed c.handed c.next (counts_in (length ds) c.progress.counts)
    it = (progress_is_counted ds place adds (groups (length ds)) (scanned ds place adds c.tree g) c.passed c.handed c.next (counts_in (length ds) c.progress.counts)).0 (l, w, p)

    at : (m : ℕ) → c.next ≡ Some m → IsNext ds place adds (groups (length ds)) c.passed c.handed (Some m)
    at m e = subst (IsNext ds place adds (groups (length ds)) c.passed c.handed) e it.next

-- the same counts by other names
counted_as : (ds : List Dim) (place : ℕ → ℕ) (adds : Group → ℕ) (t u k l : ℕ) (o p : Option ℕ) (xs ys : List ℕ) → t ≡ u → k ≡ l → o ≡ p → xs ≡ ys
    → Progress ds place adds (groups (length ds)) t k o xs → Progress ds place adds (groups (length ds)) u l p ys
counted_as ds place adds t u k l o p xs ys et ek eo ex here =
    subst (λ n. Progress ds place adds (groups (length ds)) n l p ys) et (subst (λ n. Progress ds place adds (groups (length ds)) t n p ys) ek
    (subst (λ n. Progress ds place adds (groups (length ds)) t k n ys) eo (subst (Progress ds place adds (groups (length ds)) t k o) ex here)))

-- a chunk is passed: the root is next
pub controls_pass : (ds : List Dim) (place : ℕ → ℕ) (adds : Group → ℕ) (c a : Control) (r : ℕ) → Controls ds place adds c → c.next ≡ None → c.passed < c.tree.total
    → r + 1 ≡ 2 ^ c.tree.n → a.tree ≡ c.tree → a.progress.counts ≡ c.progress.counts → a.passed ≡ c.passed + 1 → a.handed ≡ c.handed → a.next ≡ Some r → Controls ds place adds a
controls_pass ds place adds c a r s e l q tree_is counts_are passed_is handed_is next_is = controls_from ds place adds a (subst (Grown ds place adds) (sym tree_is) s.grown)
    (omega (arith, s.grown.total)) (subst (MaskWithin (length ds)) (sym next_is) (omega (arith, same_groups ds place adds c.tree s.grown)))
    (counted_as ds place adds (suc c.passed) a.passed c.handed a.handed (Some (2 ^ length ds - 1)) a.next (counts_in (length ds) c.progress.counts) (counts_in (length ds) a.progress.counts)
    (omega arith) (sym handed_is) (ap Some root ∙ sym next_is) (ap (counts_in (length ds)) (sym counts_are))
    ((progress_laws ds place adds (groups (length ds)) (scanned ds place adds c.tree s.grown)).pass c.passed c.handed (counts_in (length ds) c.progress.counts)
    (subst (λ o. Progress ds place adds (groups (length ds)) c.passed c.handed o (counts_in (length ds) c.progress.counts)) e (progress ds place adds c s))))
  where
    root : 2 ^ length ds - 1 ≡ r
    root = omega (arith, same_groups ds place adds c.tree s.grown)

-- a block waits
module _ (ds : List Dim) (place : ℕ → ℕ) (adds : Group → ℕ) (c : Control) (s : Controls ds place adds c) (m : ℕ) (e : c.next ≡ Some m) where
  is_next : IsNext ds place adds (groups (length ds)) c.passed c.handed (Some m)
  is_next = next_is ds place adds c s (Some m) e

  waits_now : Progress ds place adds (groups (length ds)) c.passed c.handed (Some m) (counts_in (length ds) c.progress.counts)
  waits_now = subst (λ o. Progress ds place adds (groups (length ds)) c.passed c.handed o (counts_in (length ds) c.progress.counts)) e (progress ds place adds c s)

  pub next_below : m < 2 ^ c.tree.n
  next_below = c.in_tree m e

  pub mask_small : m < 64
  mask_small = omega (arith, next_below, c.tree.few)

  count_now : get_or (counts_in (length ds) c.progress.counts) m 0 ≡ handed_at c.progress.counts m
  count_now = count_is (length ds) c.progress.counts m is_next.0

  pub count_small : handed_at c.progress.counts m < 2 ^ 34
  count_small = omega (
    arith,
    count_now,
    ((progress_laws ds place adds (groups (length ds)) (scanned ds place adds c.tree s.grown)).next_is c.passed c.handed m (counts_in (length ds) c.progress.counts)
        is_next.0 s.within waits_now).1,
    block_radix_small ds place adds c.tree s.grown m,
  )

  pub some_released : c.handed < released ds place adds (groups (length ds)) c.passed
  some_released = is_next.1

  pub block_is : (k : ℕ) → k ≡ handed_at c.progress.counts m → (b : Block) → get_or (handing ds place adds (groups (length ds))) c.handed b
      ≡ record { of = group (length ds) m; at = scan_digits place (radix (group (length ds) m) (counts ds)) k }
  block_is k q b = (progress_laws ds place adds (groups (length ds)) (scanned ds place adds c.tree s.grown)).next c.passed c.handed m
      (counts_in (length ds) c.progress.counts) is_next.0 s.within waits_now b
      ∙ ap (λ x. record { of = group (length ds) m; at = scan_digits place (radix (group (length ds) m) (counts ds)) x }) (count_now ∙ sym q)

  pub coordinates_next : (k : ℕ) (r : List ℕ) → k ≡ handed_at c.progress.counts m → r ≡ six 0 (scan_digits place (radix (group (length ds) m) (counts ds)) k) → (b : Block)
      → ((get_or (handing ds place adds (groups (length ds))) c.handed b).of ≡ group (length ds) m)
      × (r ≡ six 0 (get_or (handing ds place adds (groups (length ds))) c.handed b).at)
  coordinates_next k r q is b = (ap (λ x. x.of) (block_is k q b), is ∙ ap (six 0) (sym (ap (λ x. x.at) (block_is k q b))))

  pub next_within : Below (radix (group (length ds) m) (counts ds)) (scan_digits place (radix (group (length ds) m) (counts ds)) (handed_at c.progress.counts m))
  next_within = block_within ds place (limits_edged ds s.grown.limits) s.grown.order (group (length ds) m) (length-group (length ds) m) (handed_at c.progress.counts m)

  pub next_filled : (r : List ℕ) → ((b : Block) → ((get_or (handing ds place adds (groups (length ds))) c.handed b).of ≡ group (length ds) m)
      × (r ≡ six 0 (get_or (handing ds place adds (groups (length ds))) c.handed b).at))
      → r ≡ six 0 (scan_digits place (radix (group (length ds) m) (counts ds)) (handed_at c.progress.counts m))
  next_filled r is = let b : Block = record { of = []; at = [] } in (is b).1 ∙ ap (λ x. six 0 x.at) (block_is (handed_at c.progress.counts m) refl b)

  pub named_next : (k : ℕ) → k ≡ number (radix (group (length ds) m) (counts ds)) (scan_digits place (radix (group (length ds) m) (counts ds)) (handed_at c.progress.counts m))
      → (b : Block) → (m, k) ≡ named ds (get_or (handing ds place adds (groups (length ds))) c.handed b)
  named_next k q b =
      let pair : ℕ → ℕ → ℕ × ℕ = λ x y. (x, y) in
      ap (pair m) q
      ∙ (ap (λ x. pair x (number (radix (group (length ds) m) (counts ds)) (scan_digits place (radix (group (length ds) m) (counts ds)) (handed_at c.progress.counts m))))
      (sym (mask-group (length ds) m is_next.0))
      ∙ ap (named ds) (sym (block_is (handed_at c.progress.counts m) refl b)))

  -- it is handed out
  pub controls_hand : (a : Control) → a.tree ≡ c.tree → a.progress.counts ≡ set c.progress.counts m (get_or c.progress.counts m 0 + 1) → a.passed ≡ c.passed → a.handed ≡ c.handed + 1
      → Seen c.tree c.passed a.progress.counts m a.next → Controls ds place adds a
  unfolding next_seen
  controls_hand a tree_is counts_are passed_is handed_is (inside, is) = controls_from ds place adds a (subst (Grown ds place adds) (sym tree_is) s.grown)
      (omega (arith, s.within)) (subst (λ k. MaskWithin k a.next) s.grown.dimensions inside)
      (counted_as ds place adds c.passed a.passed (suc c.handed) a.handed a.next a.next (set cs m (suc (get_or cs m 0))) (counts_in (length ds) a.progress.counts)
      (sym passed_is) (omega arith) refl moved
      ((progress_laws ds place adds (groups (length ds)) (scanned ds place adds c.tree s.grown)).hand c.passed c.handed m cs a.next is_next.0 waits_now
      (subst (λ xs. group_at (length ds) a.next ≡ seen_with xs) (sym moved) (is ds place adds s.grown))))
    where
      cs : List ℕ
      cs = counts_in (length ds) c.progress.counts

      seen_with : List ℕ → Option Group
      seen_with xs = next_from (tree ds place adds (groups (length ds))) c.passed (suc (length ds)) (table_of xs) (group (length ds) m)

      moved : set cs m (suc (get_or cs m 0)) ≡ counts_in (length ds) a.progress.counts
      moved = counts_more (length ds) c.progress.counts m is_next.0 (omega (arith, mask_small, c.all_counts)) ∙ ap (counts_in (length ds)) (sym counts_are)

-- done
module _ (ds : List Dim) (place : ℕ → ℕ) (adds : Group → ℕ) (c : Control) (s : Controls ds place adds c) where
  done_then : (w : Bool) → c.passed ≡ c.tree.total → w ≡ ltb c.handed (released ds place adds (groups (length ds)) c.passed)
      → (not w ≡ true) ↔ ((c.passed ≡ total_chunks ds) × (c.handed ≡ released ds place adds (groups (length ds)) c.passed))
  done_then w e is = (
    λ r. (e ∙ s.grown.total, omega (arith, s.until, ltb-false c.handed (released ds place adds (groups (length ds)) c.passed) (sym is ∙ off w r))),
    λ p. ap not (is ∙ le-ltb c.handed (released ds place adds (groups (length ds)) c.passed) (omega (arith, p.1))),
  )
    where
      off : (b : Bool) → not b ≡ true → b ≡ false
      off true q = sym q
      off false q = refl

  done_else : (c.passed ≡ c.tree.total → ⊥)
      → (eqb c.passed c.tree.total ≡ true) ↔ ((c.passed ≡ total_chunks ds) × (c.handed ≡ released ds place adds (groups (length ds)) c.passed))
  done_else d = (λ r. absurd (d (eqb-true c.passed c.tree.total r)), λ p. absurd (d (p.0 ∙ sym s.grown.total)))

  pub done_is : (w r : Bool) → w ≡ ltb c.handed (released ds place adds (groups (length ds)) c.passed) → r ≡ (eqb c.passed c.tree.total && not w)
      → (r ≡ true) ↔ ((c.passed ≡ total_chunks ds) × (c.handed ≡ released ds place adds (groups (length ds)) c.passed))
  done_is w r waits is = by (cases_Bool (eqb c.passed c.tree.total))
    where
      goal : Bool → Type 0
      goal z = (z ≡ true) ↔ ((c.passed ≡ total_chunks ds) × (c.handed ≡ released ds place adds (groups (length ds)) c.passed))

      by : (eqb c.passed c.tree.total ≡ true) ⊎ (eqb c.passed c.tree.total ≡ false) → goal r
      by (inl t) = subst goal (sym (is ∙ ap (λ z. z && not w) t)) (done_then w (eqb-true c.passed c.tree.total t) waits)
      by (inr f) = subst goal (sym (is ∙ ap (λ z. z && not w) f ∙ sym f)) (done_else (eqb-false c.passed c.tree.total f))

  all_released : c.passed ≡ total_chunks ds → released ds place adds (groups (length ds)) c.passed ≡ block_count ds
  all_released e = ap (released ds place adds (groups (length ds))) e
      ∙ handed_length ds place adds (groups (length ds)) (scanned ds place adds c.tree s.grown) (groups_have (length ds))

  pub done_all : (r : Bool) → (r ≡ true) ↔ ((c.passed ≡ total_chunks ds) × (c.handed ≡ released ds place adds (groups (length ds)) c.passed))
      → (r ≡ true) ↔ (c.passed + c.handed ≡ total_chunks ds + block_count ds)
  done_all r (to, from) = (
    λ q. let p = to q in omega (arith, p.0, p.1, all_released p.0),
    λ q. let full : c.passed ≡ total_chunks ds = omega (arith, s.within, s.until, released_few ds place adds c s, all_blocks ds place adds c s) in from (full, omega (arith, s.within, s.until, released_few ds place adds c s, all_blocks ds place adds c s, all_released full)),
  )

  pub done_fits : (c.passed + c.handed ≤ total_chunks ds + block_count ds) × (total_chunks ds + block_count ds < 2 ^ 64)
  done_fits = (omega (arith, s.within, s.until, released_few ds place adds c s, all_blocks ds place adds c s), all_fit ds s.grown.limits)

pub done_exactly : (c : Control) (r : Bool) → ((ds : List Dim) (place : ℕ → ℕ) (adds : Group → ℕ) → Controls ds place adds c
    → (r ≡ true) ↔ ((c.passed ≡ total_chunks ds) × (c.handed ≡ released ds place adds (groups (length ds)) c.passed))) → DoneExactly c r
done_exactly c r when = record {
  when = when;
  all = λ ds place adds s. done_all ds place adds c s r (when ds place adds s);
  fits = λ ds place adds s. done_fits ds place adds c s;
}

-- where no block waits and not all is done, a chunk is left to be passed
module _ (ds : List Dim) (place : ℕ → ℕ) (adds : Group → ℕ) (c : Control) (s : Controls ds place adds c) where
  pub chunk_left : (r w : Bool) → DoneExactly c r → r ≡ false → w ≡ ltb c.handed (released ds place adds (groups (length ds)) c.passed) → w ≡ false
      → c.passed < c.tree.total
  chunk_left r w done off is rests = ⊎_elim
      (λ e. absurd (true≢false (sym ((done.when ds place adds s).1
      (e, omega (arith, s.until, ltb-false c.handed (released ds place adds (groups (length ds)) c.passed) (sym is ∙ rests)))) ∙ off)))
      (λ d. omega (arith, s.within, s.grown.total)) (cases_eq c.passed (total_chunks ds))
