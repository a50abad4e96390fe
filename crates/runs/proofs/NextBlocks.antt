-- The block that is next, from a run's state.
use Rattle.std.proofs.Common.{◌≡◌, ℕ, ◌+◌, ◌<◌, ◌≤◌, true, false, ltb, List, length, get_or, Some, None, Ok, Err, sym, ap, ◌∙◌, arith}
use Rattle.std.proofs.lemmas.Bool.{cond-true, cond-false, lt-ltb, le-ltb}
use Rattle.shapes.specs.declared.dims.Dim.{Dim}
use Rattle.shapes.specs.Arrays.{Below, counts, edges, group, groups, product, radix}
use Rattle.shapes.specs.Views.{six}
use Rattle.cubes.specs.Handing.{handing, named}
use Rattle.cubes.specs.Scans.{scan_digits}
use Rattle.runs.specs.declared.state.State.{State}
use Rattle.runs.specs.declared.refusals.RunRefusal.TheVariants.{NoBlock, ShortBuffer}
use Rattle.runs.specs.Trees.{NumberOf}
use Rattle.runs.specs.Controls.{NextAt, handed_at}
use Rattle.runs.specs.Planned.{places_of, adds_of, released_after, none_block, block_after, block_size}
use Rattle.runs.specs.Answers.{waits, too_few, hand_name, hand_answer}
use Rattle.runs.specs.Holdings.{state_view}
use Rattle.runs.specs.Steps.{IsNextBlock}
use Rattle.runs.proofs.PlannedScans.{handing_is}
use Rattle.runs.proofs.Stepping.{next_within, next_filled, named_next}
use Rattle.runs.proofs.FromState.{ds, controls_in, grown_in}
use Rattle.runs.proofs.StateAnswers.{freed_is}

-- by the handing order of the plan
after_is : (ds : List Dim) (i : ℕ) → get_or (handing ds (places_of ds) (adds_of ds) (groups (length ds))) i none_block ≡ block_after ds i
after_is ds i = ap (λ bs. get_or bs i none_block) (sym (handing_is ds))

module _ (s : State) (m : ℕ) (e : s.control.next ≡ Some m) (at : List ℕ) (is : NextAt s.control m at) where
  next_coordinates : List ℕ
  next_coordinates = scan_digits (places_of (ds s)) (radix (group (length (ds s)) m) (counts (ds s))) (handed_at s.control.progress.counts m)

  coordinates_below : Below (radix (group (length (ds s)) m) (counts (ds s))) next_coordinates
  unfolding next_coordinates
  coordinates_below = next_within (ds s) (places_of (ds s)) (adds_of (ds s)) s.control (controls_in s) m e

  coordinates_filled : at ≡ six 0 next_coordinates
  unfolding next_coordinates
  coordinates_filled = next_filled (ds s) (places_of (ds s)) (adds_of (ds s)) s.control (controls_in s) m e at (is (ds s) (places_of (ds s)) (adds_of (ds s)) (controls_in s))

  group_is : (block_after (ds s) s.control.handed).of ≡ group (length (ds s)) m
  group_is = ap (λ x. x.of) (sym (after_is (ds s) s.control.handed)) ∙ (is (ds s) (places_of (ds s)) (adds_of (ds s)) (controls_in s) none_block).0

  at_is : at ≡ six 0 (block_after (ds s) s.control.handed).at
  at_is = (is (ds s) (places_of (ds s)) (adds_of (ds s)) (controls_in s) none_block).1 ∙ ap (λ x. six 0 x.at) (after_is (ds s) s.control.handed)

  pub is_next : (k z : ℕ) → IsNextBlock s (record { mask = m; at = at; number = k; cells = z })
  is_next k z = record { next = e; of = group_is; at = at_is }

  -- its mask, its number and its cells
  pub name_is : (k z : ℕ) → NumberOf s.control.tree m at k → z ≡ product (radix (group (length (ds s)) m) (edges (ds s)))
      → (m, k, z) ≡ hand_name (ds s) (block_after (ds s) s.control.handed)
  unfolding next_coordinates
  name_is k z numbered sized =
      let triple : ℕ × ℕ → ℕ → ℕ × ℕ × ℕ = λ x y. (x.0, x.1, y) in
      ap (λ x. triple x z) (mask_and_number ∙ ap (named (ds s)) (after_is (ds s) s.control.handed))
      ∙ ap (triple (named (ds s) (block_after (ds s) s.control.handed))) (sized ∙ ap (λ g. product (radix g (edges (ds s)))) (sym group_is))
    where
      mask_and_number : (m, k) ≡ named (ds s) (get_or (handing (ds s) (places_of (ds s)) (adds_of (ds s)) (groups (length (ds s)))) s.control.handed none_block)
      mask_and_number = named_next (ds s) (places_of (ds s)) (adds_of (ds s)) s.control (controls_in s) m e k
          (numbered (ds s) (places_of (ds s)) (adds_of (ds s)) (grown_in s) next_coordinates coordinates_below coordinates_filled) none_block

-- whether it is handed out
module _ (s : State) (lent room : ℕ) (enough : too_few (state_view s lent) ≡ false) where
  abbrev next_size : ℕ
  next_size = block_size (ds s) (block_after (ds s) s.control.handed)

  pub none_next : s.control.next ≡ None → hand_answer (state_view s lent) room ≡ Err NoBlock
  none_next e = cond-false (too_few (state_view s lent)) _ _ enough
      ∙ cond-false (waits (state_view s lent)) _ _ (le-ltb s.control.handed (released_after (ds s) (s.taken + s.skipped)) (omega (arith, s.controls.idle e, freed_is s)))

  module _ (m : ℕ) (e : s.control.next ≡ Some m) (x : ℕ × ℕ × ℕ) (is : x ≡ hand_name (ds s) (block_after (ds s) s.control.handed)) where
    waits_now : waits (state_view s lent) ≡ true
    waits_now = lt-ltb s.control.handed (released_after (ds s) (s.taken + s.skipped)) (omega (arith, s.controls.next_waits m e, freed_is s))

    pub too_short : room < x.2 → hand_answer (state_view s lent) room ≡ Err (ShortBuffer x.2)
    too_short l = cond-false (too_few (state_view s lent)) _ _ enough ∙ (cond-true (waits (state_view s lent)) _ _ waits_now
        ∙ (cond-true (ltb room next_size) _ _ (lt-ltb room next_size (omega (arith, ap (λ y. y.2) is))) ∙ ap (λ y. Err (ShortBuffer y.2)) (sym is)))

    pub long_enough : x.2 ≤ room → hand_answer (state_view s lent) room ≡ Ok x
    long_enough l = cond-false (too_few (state_view s lent)) _ _ enough ∙ (cond-true (waits (state_view s lent)) _ _ waits_now
        ∙ (cond-false (ltb room next_size) _ _ (le-ltb room next_size (omega (arith, ap (λ y. y.2) is))) ∙ ap Ok (sym is)))
