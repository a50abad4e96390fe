-- A block handed out: it is written as the direct summaries, and every meaning that was represented is represented afterwards.
use Rattle.std.proofs.Common.{◌≡◌, ℕ, zero, suc, ◌+◌, ◌-◌, ◌^◌, ◌<◌, ◌≤◌, Bool, true, false, cond, not, ◌&&◌, ltb, List, length, get_or, take, drop, Some, None, Option, sym, refl, ap, ◌∙◌, subst, ap₂, inr, ⊎_elim, arith}
use Rattle.std.proofs.lemmas.List.{get_or_default, get_or_past, get_or-drop, length-drop, ext_get_or}
use Rattle.std.proofs.lemmas.Bool.{cases_lt, lt-ltb, le-ltb}
use Rattle.shapes.specs.declared.dims.Dim.{Dim}
use Rattle.shapes.specs.Arrays.{Group, Below, radix, volume, counts, group, groups, root}
use Rattle.shapes.specs.Views.{dims_of, six}
use Rattle.shapes.proofs.Held.{limits}
use Rattle.shapes.proofs.Masks.{length-group}
use Rattle.measures.specs.Laws.{Lawful}
use Rattle.sources.specs.Meanings.{Chunk, faulty, Meaning}
use Rattle.cubes.specs.Meanings.{meaning}
use Rattle.plans.specs.Plans.{need}
use Rattle.cubes.specs.Summaries.{Divided, block}
use Rattle.cubes.specs.Scans.{scan_digits}
use Rattle.cubes.specs.Handing.{Scan, released, handing, tally}
use Rattle.cubes.specs.Turns.{next_group, regions_over, in_release}
use Rattle.cubes.specs.Progress.{IsNext}
use Rattle.cubes.proofs.Groups.{groups_have, root_of, not_root_of}
use Rattle.cubes.proofs.Trees.{radix_root_counts}
use Rattle.cubes.proofs.Complete.{of_a_group, at_is}
use Rattle.cubes.proofs.HandSteps.{between_hands}
use Rattle.runs.specs.declared.layouts.Layout.{Layout}
use Rattle.runs.specs.declared.state.State.{State}
use Rattle.runs.specs.declared.steps.NextBlock.{NextBlock}
use Rattle.runs.specs.Controls.{Controls}
use Rattle.runs.specs.Layouts.{standing}
use Rattle.runs.specs.Grids.{LaidOut, Bases, region_by, child_at, block_cells, block_joined, children_joined}
use Rattle.runs.specs.Contents.{CompleteBlock, SameRegion, EmptyRegion}
use Rattle.runs.specs.Planned.{places_of, adds_of, need_of, scanned_chunk, released_after, none_block}
use Rattle.runs.specs.Answers.{passed}
use Rattle.runs.specs.Holdings.{Moment, dims_in, view, root_mask, Clean, Represents}
use Rattle.runs.specs.Steps.{IsNextBlock}
use Rattle.runs.specs.Calls.{PastStay, next_block}
use Rattle.runs.specs.Emptying.{block_in, release_over, EmptiedOver, joined_on, PassesBlock}
use Rattle.runs.proofs.RegionBases.{region_within, standing_within}
use Rattle.runs.proofs.HeldRegions.{held_block}
use Rattle.runs.proofs.BlockSteps.{written_block, length_joined, joined_outside}
use Rattle.runs.proofs.ChildSteps.{child_differs, length_children, children_keep}
use Rattle.runs.proofs.HandCells.{all_held}
use Rattle.runs.proofs.Stepping.{released_few, next_is}
use Rattle.runs.proofs.PlannedScans.{planned_scan, need_is, handing_is, released_is}
use Rattle.runs.proofs.FromState.{divided_in, controls_in, laid_in, same_top, top_is, adding_in, based_in}
use Rattle.runs.proofs.Holding.{Holds, holds_of, represents_of, of_shape, root_empty_is}
use Rattle.runs.proofs.NextReleases.{of_release_is, release_root, next_release, root_count}

-- a block joined into the regions of all children leaves the cells past the need
module _ (ds : List Dim) (place : ℕ → ℕ) (adds : Group → ℕ) (divided : Divided ds) (y : Layout) (laid : LaidOut ds place y) (table : List ℕ) (root : ℕ)
    (is_root : root + 1 ≡ 2 ^ length ds) (adding : (m : ℕ) → m < root → (get_or table m 0 ≡ adds (group (length ds) m)) × (get_or table m 0 < length ds))
    (bases : List ℕ) (based : Bases y table root (volume ds) bases) (p : ℕ) (lp : p ≤ root) (c : List ℕ) (below_c : Below (radix (group (length ds) p) (counts ds)) c)
    {M : Type 0} (empty : M) (op : M → M → M) (lawful : Lawful empty op) (mean : ℕ → Chunk M) (s : List M) (enough : need ds place adds ≤ length s) where
  abbrev after : ℕ → List M
  after k = children_joined empty op s y table bases root p (six 0 c) k

  children_past : (k q : ℕ) → need ds place adds ≤ q → get_or (after k) q empty ≡ get_or s q empty
  children_past zero q l = refl
  children_past (suc k) q l = by (child_at table p k) (children_past k q l)
    where
      long : length (after k) ≡ length s
      long = length_children ds place adds divided y laid table root is_root adding bases based p lp c below_c empty op lawful mean s enough k

      next : List M
      next = block_joined empty op (after k) y (region_by y table bases root p) (region_by y table bases root (p - 2 ^ k)) (six 0 c)

      more : length next ≡ length (after k)
      more = length_joined ds place adds divided y laid table root is_root adding bases based p lp c below_c empty op lawful mean (after k) (p - 2 ^ k)

      step : get_or next q empty ≡ get_or (after k) q empty
      step = ⊎_elim
          (λ m. joined_outside ds place adds divided y laid table root is_root adding bases based p lp c below_c empty op lawful mean (after k) (p - 2 ^ k) q (omega arith) m
          (inr (omega (arith, region_within ds place adds (p - 2 ^ k) (omega arith)))))
          (λ m. get_or_past next q empty (omega (arith, more)) ∙ sym (get_or_past (after k) q empty m)) (cases_lt q (length (after k)))

      by : (b : Bool) → get_or (after k) q empty ≡ get_or s q empty → get_or (cond b next (after k)) q empty ≡ get_or s q empty
      by true ih = step ∙ ih
      by false ih = ih

-- lists as long as each other that have the same from d on
pub same_drops : {X : Type 0} (e : X) (xs ys : List X) (d : ℕ) → length xs ≡ length ys → ((q : ℕ) → d ≤ q → get_or xs q e ≡ get_or ys q e) → drop d xs ≡ drop d ys
same_drops e xs ys d long same = ext_get_or e (drop d xs) (drop d ys) (omega (arith, length-drop d xs, length-drop d ys))
    (λ q l. get_or-drop d xs q e ∙ same (d + q) (omega arith) ∙ sym (get_or-drop d ys q e))

module _ {M : Type 0} (empty : M) (op : M → M → M) (lawful : Lawful empty op) (b : Moment M) (x : NextBlock) (next : IsNextBlock b.state x) where
  abbrev s : State
  s = b.state

  abbrev ds : List Dim
  ds = dims_in b

  abbrev n : ℕ
  n = length ds

  abbrev place : ℕ → ℕ
  place = places_of ds

  abbrev adds : Group → ℕ
  adds = adds_of ds

  abbrev all : List Group
  all = groups n

  abbrev top : ℕ
  top = root_mask ds

  abbrev i : ℕ
  i = s.control.handed

  abbrev p : ℕ
  p = x.mask

  -- the chunk coordinates of the block
  abbrev c : List ℕ
  c = (next_block b).at

  S : Scan ds place adds all
  S = planned_scan ds (limits s.shape)

  ctl : Controls ds place adds s.control
  ctl = controls_in s

  is_now : IsNext ds place adds all s.control.passed i (Some p)
  is_now = next_is ds place adds s.control ctl (Some p) next.next

  pub mask_within : p ≤ top
  mask_within = omega (arith, is_now.0)

  pub among : i < length (handing ds place adds all)
  among = omega (arith, is_now.1, released_few ds place adds s.control ctl)

  is : get_or (handing ds place adds all) i (next_block b) ≡ next_block b
  is = get_or_default (handing ds place adds all) i (next_block b) none_block among ∙ ap (λ hs. get_or hs i none_block) (sym (handing_is ds))

  pub block_below : Below (radix (group n p) (counts ds)) c
  block_below = subst (λ g. Below (radix g (counts ds)) c) next.of (of_a_group ds place adds all S i (next_block b) among is).1

  passes : passed (view b) ≡ s.control.passed
  passes = s.passes

  waits_now : ltb i (released_after ds (passed (view b))) ≡ true
  waits_now = lt-ltb i (released_after ds (passed (view b))) (omega (arith, is_now.1, released_is ds (passed (view b)), ap (released_after ds) passes, released_is ds s.control.passed))

  -- a block of the root is the chunk that was passed last
  chunk_is : p ≡ top → scanned_chunk ds (passed (view b) - 1) ≡ c
  unfolding scanned_chunk
  chunk_is e = ap (λ k. scan_digits place (counts ds) (k - 1)) passes
      ∙ ap (scan_digits place (counts ds)) (sym (root_count ds place adds s.control ctl p next.next is_top))
      ∙ ap (λ ks. scan_digits place ks (tally (take i (handing ds place adds all)) (root n))) (sym (radix_root_counts ds))
      ∙ ap (λ g. scan_digits place (radix g (counts ds)) (tally (take i (handing ds place adds all)) g)) (sym (next.of ∙ root_of n p is_top))
      ∙ sym (at_is ds place adds all S i (next_block b) among is)
    where
      is_top : p + 1 ≡ 2 ^ n
      is_top = omega (arith, e, is_now.0)

  -- its cells are the direct summaries
  whole : (f : ℕ → Chunk M) → Holds empty op ds f (passed (view b)) i b.cells → CompleteBlock empty op (meaning ds f) (group n p) c (standing ds place adds p) b.cells
  whole f holds = ⊎_elim
      (λ l. held_block empty op lawful (meaning ds f) place adds all (divided_in s) S p l (groups_have n (group n p) (length-group n p)) i (next_block b) among is b.cells next.of
      (holds.regions p l))
      (λ l. let e : top ≡ p = omega (arith, is_now.0) in
      subst (λ k. CompleteBlock empty op (meaning ds f) (group n k) c (standing ds place adds k) b.cells) e
      (subst (λ z. CompleteBlock empty op (meaning ds f) (group n top) z (standing ds place adds top) b.cells) (chunk_is (sym e)) (holds.chunk waits_now)))
      (cases_lt (p + 1) (2 ^ n))

  -- the block is written as the direct summaries
  pub hand_written : (σ : Meaning M) → Represents empty op σ b
      → block_in empty b.cells s x ≡ block empty op σ (next_block b).of c
  hand_written σ r = ap (λ k. block_cells empty b.cells s.regions.layout (region_by s.regions.layout s.regions.layout.adds s.regions.bases k p) x.at) (same_top s)
      ∙ ap (block_cells empty b.cells s.regions.layout (region_by s.regions.layout s.regions.layout.adds s.regions.bases top p)) next.at
      ∙ written_block ds place adds (divided_in s) s.regions.layout (laid_in s) s.regions.layout.adds top (top_is s) (adding_in s) s.regions.bases (based_in s) p mask_within c block_below empty op lawful σ.chunk b.cells
      (whole σ.chunk (holds_of empty op b σ r))
      ∙ ap₂ (λ τ g. block empty op τ g c) (of_shape empty op b σ r.same_shape) (sym next.of)

  module _ (a : Moment M) (on : PassesBlock empty op b x a) (enough : need_of ds ≤ length b.cells) where
    many : need ds place adds ≤ length b.cells
    many = omega (arith, need_is ds)

    dims_same : dims_in a ≡ ds
    dims_same = ap dims_of on.goes_on.plan.shape

    same_passed : passed (view a) ≡ passed (view b)
    same_passed = ap₂ ◌+◌ on.goes_on.taken on.goes_on.skipped

    ctl_after : Controls ds place adds a.state.control
    ctl_after = subst (λ d. Controls d (places_of d) (adds_of d) a.state.control) dims_same (controls_in a.state)

    -- the cells after the join
    abbrev joined : List M
    joined = children_joined empty op b.cells s.regions.layout s.regions.layout.adds s.regions.bases top p (six 0 c) 6

    joined_is : joined_on empty op b x ≡ joined
    joined_is = ap (λ k. children_joined empty op b.cells s.regions.layout s.regions.layout.adds s.regions.bases k p x.at 6) (same_top s)
        ∙ ap (λ z. children_joined empty op b.cells s.regions.layout s.regions.layout.adds s.regions.bases top p z 6) next.at

    emptied : EmptiedOver empty ds p a.state.control.next joined a.cells
    emptied = subst (λ z. EmptiedOver empty ds p a.state.control.next z a.cells) joined_is on.emptied

    -- what the source means does not matter for the cells alone
    nothing : ℕ → Chunk M
    nothing k = faulty 0 0

    long_joined : length joined ≡ length b.cells
    long_joined = length_children ds place adds (divided_in s) s.regions.layout (laid_in s) s.regions.layout.adds top (top_is s) (adding_in s) s.regions.bases (based_in s) p mask_within c block_below empty op lawful
        nothing b.cells many 6

    pub hand_length : length a.cells ≡ length b.cells
    hand_length = emptied.long ∙ long_joined

    -- the cells past the need stay
    pub hand_past : PastStay b a
    hand_past = same_drops empty a.cells b.cells (need_of ds) hand_length
        (λ q l. emptied.past q l
        ∙ children_past ds place adds (divided_in s) s.regions.layout (laid_in s) s.regions.layout.adds top (top_is s) (adding_in s) s.regions.bases (based_in s) p mask_within c block_below empty op lawful
        nothing b.cells many 6 q (omega (arith, need_is ds)))

    -- a turn ends exactly where a release is over
    over_is : (m : ℕ) → m < top
        → release_over ds adds p a.state.control.next m ≡ (in_release ds adds (group n m) (next_group ds place adds all i) && not (in_release ds adds (group n m) (next_group ds place adds all (i + 1))))
    over_is m l = ap₂ (λ u v. u && not v)
        (of_release_is ds adds m p ∙ ap (in_release ds adds (group n m)) (sym (is_now.2 none_block)))
        (sym (next_release ds place adds a.state.control ctl_after m (omega (arith, top_is s))) ∙ ap (λ k. in_release ds adds (group n m) (next_group ds place adds all k)) on.goes_on.handed)

    ends : (f : ℕ → Chunk M) (m : ℕ) → m < top
        → regions_over ds place adds all (group n m) (i + 1) ≡ regions_over ds place adds all (group n m) i + cond (release_over ds adds p a.state.control.next m) 1 0
    ends f m l = (between_hands empty op lawful (meaning ds f) place adds all (divided_in s) S (group n m) (groups_have n (group n m) (length-group n m))
        (not_root_of n m (omega (arith, top_is s)))).turns.ends i among
        ∙ ap (λ t. regions_over ds place adds all (group n m) i + cond t 1 0) (sym (over_is m l))

    goes_on : (t : Bool) (u v : ℕ) → u ≡ v + cond t 1 0 → u ≡ v → t ≡ false
    goes_on true u v e z = absurd (omega arith)
    goes_on false u v e z = refl

    is_over : (t : Bool) (u v : ℕ) → u ≡ v + cond t 1 0 → u ≡ v + 1 → t ≡ true
    is_over true u v e z = refl
    is_over false u v e z = absurd (omega arith)

    -- the root's release is over where no block waits
    root_over : release_over ds adds p a.state.control.next top ≡ not (ltb (i + 1) (released_after ds (passed (view b))))
    root_over = by a.state.control.next refl
      where
        so_many : a.state.control.handed ≡ i + 1
        so_many = on.goes_on.handed

        passed_is : released_after ds (passed (view b)) ≡ released ds place adds all a.state.control.passed
        passed_is = ap (released_after ds) (sym same_passed ∙ a.state.passes) ∙ released_is ds a.state.control.passed

        by : (o : Option ℕ) → a.state.control.next ≡ o → release_over ds adds p o top ≡ not (ltb (i + 1) (released_after ds (passed (view b))))
        by None e = ap (λ t. t && true) (release_root ds place adds S top p (top_is s))
            ∙ ap not (sym (le-ltb (i + 1) (released_after ds (passed (view b))) (omega (arith, ctl_after.idle e, so_many, passed_is))))
        by (Some m) e = ap₂ (λ t u. t && not u) (release_root ds place adds S top p (top_is s)) (release_root ds place adds S top m (top_is s))
            ∙ ap not (sym (lt-ltb (i + 1) (released_after ds (passed (view b))) (omega (arith, ctl_after.next_waits m e, so_many, passed_is))))

    top_below : top < 2 ^ n
    top_below = omega (arith, top_is s)

    root_gone : ltb (i + 1) (released_after ds (passed (view b))) ≡ false → EmptyRegion empty ds place adds top a.cells
    root_gone w = emptied.over top top_below (root_over ∙ ap not w)

    root_stays : ltb (i + 1) (released_after ds (passed (view b))) ≡ true → SameRegion empty ds place adds top b.cells a.cells
    root_stays w q lo hi = emptied.others top top_below (root_over ∙ ap not w) q lo hi
        ∙ children_keep ds place adds (divided_in s) s.regions.layout (laid_in s) s.regions.layout.adds top (top_is s) (adding_in s) s.regions.bases (based_in s) p mask_within c block_below empty op lawful nothing
        b.cells many 6 top (omega arith) (omega arith)
        (λ e l t z. child_differs ds place adds (divided_in s) s.regions.layout (laid_in s) s.regions.layout.adds top (top_is s) (adding_in s) s.regions.bases (based_in s) p mask_within e l t (omega (arith, mask_within))) q lo hi

    hand_holds : (f : ℕ → Chunk M) → Holds empty op ds f (passed (view b)) i b.cells → Holds empty op ds f (passed (view b)) (i + 1) a.cells
    hand_holds f holds = record {
      regions = λ k l. all_held empty op lawful (meaning ds f) place adds (divided_in s) S s.regions.layout (laid_in s) s.regions.layout.adds top (top_is s) (adding_in s) s.regions.bases (based_in s)
          i (next_block b) among is p mask_within next.of b.cells a.cells many (whole f holds)
          (λ m lm z. emptied.others m (omega arith) (goes_on (release_over ds adds p a.state.control.next m) _ _ (ends f m lm) z))
          (λ m lm z. emptied.over m (omega arith) (is_over (release_over ds adds p a.state.control.next m) _ _ (ends f m lm) z))
          (λ m lm. holds.regions m (omega arith)) k (omega (arith, top_is s));
      chunk = λ w y below at. let inside = standing_within ds place adds top y (divided_in s) below in
          root_stays w (standing ds place adds top y) inside.0 inside.1 ∙ holds.chunk waits_now y below at;
      none = root_gone;
    }

    -- each meaning that was represented is represented afterwards
    pub hand_represents : (σ : Meaning M) → Represents empty op σ b → Represents empty op σ a
    hand_represents σ r = represents_of empty op a σ (r.same_shape ∙ sym dims_same) (subst (λ d. need_of d ≤ length a.cells) (sym dims_same) (omega (arith, hand_length)))
        (subst (λ d. Holds empty op d σ.chunk (passed (view a)) a.state.control.handed a.cells) (sym dims_same)
        (subst (λ t. Holds empty op ds σ.chunk t a.state.control.handed a.cells) (sym same_passed)
        (subst (λ k. Holds empty op ds σ.chunk (passed (view b)) k a.cells) (sym on.goes_on.handed)
        (hand_holds σ.chunk (holds_of empty op b σ r)))))

    -- where no block waits afterwards, the root's region is empty
    pub hand_clean : Clean empty a
    hand_clean many-after w = root_empty_is empty op a (subst (λ d. EmptyRegion empty d (places_of d) (adds_of d) (root_mask d) a.cells) (sym dims_same) (root_gone rests))
      where
        rests : ltb (i + 1) (released_after ds (passed (view b))) ≡ false
        rests = ap₂ ltb (sym on.goes_on.handed) (ap₂ released_after (sym dims_same) (sym same_passed)) ∙ w
