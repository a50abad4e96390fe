-- What a run's state answers, from what its control says.
use Rattle.std.specs.Prelude.{MatchOption, MatchResult}
use Rattle.std.proofs.Common.{get_or, Some, None, Option, Result, [], ◌∷◌, ◌≡◌, ℕ, ◌+◌, ◌^◌, ◌<◌, Bool, true, false, cond, not, eqb, ltb, List, length, Ok, Err, sym, refl, ap, ◌∙◌, arith}
use Rattle.std.proofs.lemmas.Bool.{cond-true, cond-false, eq-eqb, ne_eqb}
use Rattle.std.proofs.lemmas.Bool.Decides.{same_from_decides, Decides-eqb, Decides-ltb, Decides-not, Decides-and, Decides-like}
use Rattle.shapes.specs.declared.dims.Dim.{Dim}
use Rattle.shapes.specs.declared.shape.Shape.{Shape}
use Rattle.shapes.specs.Arrays.{Below, counts, group, groups, number, radix, total_chunks}
use Rattle.shapes.specs.Views.{dims_of, six, same_dims}
use Rattle.shapes.proofs.Masks.{length-group}
use Rattle.cubes.specs.Handing.{released}
use Rattle.cubes.specs.Scans.{scan_digits}
use Rattle.cubes.proofs.Groups.{limits_edged, root_of}
use Rattle.cubes.proofs.Naming.{block_within}
use Rattle.cubes.proofs.Trees.{radix_root_counts}
use Rattle.shapes.specs.Limits.{Refusal, refused_if}
use Rattle.plans.specs.declared.refusals.TooFewCells.{TooFewCells}
use Rattle.plans.specs.Refusals.{check_fault, too_few as too_few_refusal}
use Rattle.runs.specs.declared.state.State.{State}
use Rattle.runs.specs.Controls.{WaitsExactly, DoneExactly}
use Rattle.runs.specs.Trees.{CoordinatesOf, NumberOf}
use Rattle.runs.specs.Planned.{places_of, adds_of, need_of, released_after, scanned_chunk, scanned_storage}
use Rattle.runs.specs.declared.refusals.RunRefusal.TheVariants.{BlockWaits, AllPassed, OtherShape}
use Rattle.runs.specs.Answers.{waits, done, too_few, next_chunk}
use Rattle.runs.specs.Holdings.{state_view}
use Rattle.runs.proofs.PlannedScans.{released_is}
use Rattle.runs.proofs.FromState.{ds, controls_in, grown_in, needs}

module _ (s : State) where
  -- how many blocks the chunks passed release
  abbrev freed : ℕ
  freed = released (ds s) (places_of (ds s)) (adds_of (ds s)) (groups (length (ds s))) s.control.passed

  pub freed_is : released_after (ds s) (s.taken + s.skipped) ≡ freed
  freed_is = released_is (ds s) (s.taken + s.skipped) ∙ ap (released (ds s) (places_of (ds s)) (adds_of (ds s)) (groups (length (ds s)))) s.passes

  pub waits_is : (r : Bool) → WaitsExactly s.control r → (lent : ℕ) → r ≡ waits (state_view s lent)
  waits_is r exactly lent = exactly (ds s) (places_of (ds s)) (adds_of (ds s)) (controls_in s) ∙ ap (ltb s.control.handed) (sym freed_is)

  pub done_is : (r : Bool) → DoneExactly s.control r → (lent : ℕ) → r ≡ done (state_view s lent)
  done_is r exactly lent = same_from_decides r (done (state_view s lent)) (exactly.when (ds s) (places_of (ds s)) (adds_of (ds s)) (controls_in s))
      (Decides-and (eqb (s.taken + s.skipped) (total_chunks (ds s))) (not (waits (state_view s lent)))
      (Decides-like (eqb (s.taken + s.skipped) (total_chunks (ds s))) (λ e. sym s.passes ∙ e) (λ e. s.passes ∙ e) (Decides-eqb (s.taken + s.skipped) (total_chunks (ds s))))
      (Decides-like (not (waits (state_view s lent))) all_handed still (Decides-not (waits (state_view s lent)) (Decides-ltb s.control.handed (released_after (ds s) (s.taken + s.skipped))))))
    where
      all_handed : (s.control.handed < released_after (ds s) (s.taken + s.skipped) → ⊥) → s.control.handed ≡ freed
      all_handed no_more = omega (arith, s.controls.until, freed_is, no_more)

      still : s.control.handed ≡ freed → s.control.handed < released_after (ds s) (s.taken + s.skipped) → ⊥
      still e l = omega (arith, freed_is)

-- the chunk with the scan number k is the root's block with this number in scan order
scanned_is : (ds : List Dim) (m k : ℕ) → m + 1 ≡ 2 ^ length ds → number (radix (group (length ds) m) (counts ds)) (scan_digits (places_of ds) (radix (group (length ds) m) (counts ds)) k) ≡ scanned_storage ds k
unfolding scanned_chunk
scanned_is ds m k is_root = ap (λ ks. number ks (scan_digits (places_of ds) ks k)) (ap (λ g. radix g (counts ds)) (root_of (length ds) m is_root) ∙ radix_root_counts ds)

module _ (s : State) (m : ℕ) (is_root : m + 1 ≡ 2 ^ length (ds s)) (at : List ℕ) (is : CoordinatesOf s.control.tree m s.control.passed at) where
  abbrev chunk_at : List ℕ
  chunk_at = scan_digits (places_of (ds s)) (radix (group (length (ds s)) m) (counts (ds s))) s.control.passed

  chunk_below : Below (radix (group (length (ds s)) m) (counts (ds s))) chunk_at
  chunk_below = block_within (ds s) (places_of (ds s)) (limits_edged (ds s) (grown_in s).limits) (grown_in s).order (group (length (ds s)) m) (length-group (length (ds s)) m) s.control.passed

  chunk_filled : at ≡ six 0 chunk_at
  chunk_filled = is (ds s) (places_of (ds s)) (adds_of (ds s)) (grown_in s)

  pub storage_is : (r : ℕ) → NumberOf s.control.tree m at r → r ≡ scanned_storage (ds s) (s.taken + s.skipped)
  storage_is r numbered = numbered (ds s) (places_of (ds s)) (adds_of (ds s)) (grown_in s) chunk_at chunk_below chunk_filled
      ∙ (scanned_is (ds s) m s.control.passed is_root ∙ ap (scanned_storage (ds s)) (sym s.passes))

-- whether enough cells were lent, by the plan
fewer : (b : Bool) (x : Refusal) (o : Option Refusal) → refused_if b x ≡ o → MatchOption o (b ≡ false) (λ y. (b ≡ true) × (x ≡ y))
fewer true x None e = cc
fewer true x (Some y) e = (refl, cc)
fewer false x None e = refl
fewer false x (Some y) e = absurd cc

pub lent_is : (s : State) (lent : ℕ) (r : Result (Unit {0}) TooFewCells)
    → MatchResult r (λ _. check_fault lent s.plan.need ≡ None) (λ e. check_fault lent s.plan.need ≡ Some (too_few_refusal e))
    → MatchResult r (λ _. too_few (state_view s lent) ≡ false) (λ e. (too_few (state_view s lent) ≡ true) × (e.need ≡ need_of (ds s)))
lent_is s lent (Ok x) e = ap (ltb lent) (sym (needs s)) ∙ fewer (ltb lent s.plan.need) (17, s.plan.need ∷ []) None e
lent_is s lent (Err f) e =
    let it = fewer (ltb lent s.plan.need) (17, s.plan.need ∷ []) (Some (too_few_refusal f)) e in
    (ap (ltb lent) (sym (needs s)) ∙ it.0, sym (ap (λ (x : Refusal). get_or x.1 0 0) it.1) ∙ needs s)

-- as two shapes are, by !=
pub compared : (x r b : Bool) → r ≡ not x → r ≡ b → x ≡ not b
compared x r b e v = twice x ∙ ap not (sym e ∙ v)
  where
    twice : (z : Bool) → z ≡ not (not z)
    twice true = refl
    twice false = refl

-- what is answered for the chunk that is next
module _ (s : State) (lent : ℕ) (other : Shape) (enough : too_few (state_view s lent) ≡ false) where
  pub waits_first : waits (state_view s lent) ≡ true → Err BlockWaits ≡ next_chunk (state_view s lent) (dims_of other)
  waits_first w = sym (cond-false (too_few (state_view s lent)) _ _ enough ∙ cond-true (waits (state_view s lent)) _ _ w)

  module _ (idle : waits (state_view s lent) ≡ false) where
    abbrev all_passed : Bool
    all_passed = eqb (s.taken + s.skipped) (total_chunks (ds s))

    pub all_were_passed : s.control.passed ≡ s.control.tree.total → Err AllPassed ≡ next_chunk (state_view s lent) (dims_of other)
    all_were_passed e = sym (cond-false (too_few (state_view s lent)) _ _ enough ∙ (cond-false (waits (state_view s lent)) _ _ idle
        ∙ cond-true all_passed _ _ (eq-eqb (s.taken + s.skipped) (total_chunks (ds s)) (s.passes ∙ (e ∙ s.controls.grown.total)))))

    module _ (left : s.control.passed ≡ s.control.tree.total → ⊥) where
      chunk_left : next_chunk (state_view s lent) (dims_of other) ≡ cond (same_dims (ds s) (dims_of other)) (Ok (scanned_storage (ds s) (s.taken + s.skipped))) (Err OtherShape)
      chunk_left = cond-false (too_few (state_view s lent)) _ _ enough ∙ (cond-false (waits (state_view s lent)) _ _ idle
          ∙ cond-false all_passed _ _ (ne_eqb (s.taken + s.skipped) (total_chunks (ds s)) (λ e. left (sym s.passes ∙ (e ∙ sym s.controls.grown.total)))))

      pub other_shape : same_dims (ds s) (dims_of other) ≡ false → Err OtherShape ≡ next_chunk (state_view s lent) (dims_of other)
      other_shape d = sym (chunk_left ∙ cond-false (same_dims (ds s) (dims_of other)) _ _ d)

      pub next_chunk_is : (r : ℕ) → same_dims (ds s) (dims_of other) ≡ true → r ≡ scanned_storage (ds s) (s.taken + s.skipped) → Ok r ≡ next_chunk (state_view s lent) (dims_of other)
      next_chunk_is r d e = ap Ok e ∙ sym (chunk_left ∙ cond-true (same_dims (ds s) (dims_of other)) _ _ d)
