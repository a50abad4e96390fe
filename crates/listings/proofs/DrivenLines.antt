-- The lines that a driven run brings.
use Rattle.std.proofs.Common.{◌≡◌, ℕ, ◌+◌, ◌-◌, ◌<◌, ◌≤◌, false, cond, List, ◌++◌, length, take, is_ok, Ok, Result, sym, refl, ap, ◌∙◌, subst, ap₂, arith}
use Rattle.std.proofs.lemmas.List.{append-nil}
use Rattle.std.proofs.lemmas.Bool.{le-ltb, ltb-true}
use Rattle.shapes.specs.declared.dims.Dim.{Dim}
use Rattle.shapes.specs.Arrays.{volume}
use Rattle.sources.specs.Meanings.{Meaning}
use Rattle.runs.specs.declared.refusals.RunRefusal.{RunRefusal}
use Rattle.runs.specs.Planned.{handing_order, block_after, released_after}
use Rattle.runs.specs.Answers.{View, passed, waits, hand_name, one_handed}
use Rattle.runs.specs.Holdings.{Moment, dims_in, view}
use Rattle.runs.specs.Calls.{Hands, next_block}
use Rattle.listings.specs.Listings.{block_lines, cell_lines}
use Rattle.listings.specs.Making.{Driven, GoesOn, Rests, lines_upto}
use Rattle.listings.proofs.DrivenAnswers.{handed_lines, lines_more, next_within}
use Rattle.listings.proofs.DrivenSteps.{driven_hand, driven_idle}
use Rattle.runs.proofs.LivingAnswers.{hand_granted}
use Rattle.runs.proofs.LivingScans.{passed_within}

module _ {M : Type 0} (empty : M) (op : M → M → M) (b : Moment M) (old : List M) (r : Result (ℕ × ℕ × ℕ) RunRefusal) (new : List M) (a : Moment M) (hands : Hands empty op b old r new a) where
  -- fewer blocks are left
  pub fewer_left : (x : ℕ × ℕ × ℕ) → r ≡ Ok x → length (handing_order (dims_in a)) - (view a).handed < length (handing_order (dims_in b)) - (view b).handed
  fewer_left x e =
      let g = hand_granted (view b) (length old) x (sym e ∙ hands.answers) in
      let goes : view a ≡ one_handed (view b) = hands.counts ∙ ap (λ t. cond t (one_handed (view b)) (view b)) (ap is_ok e) in
      let dims = ap (λ (w : View). length (handing_order w.dims)) goes in
      let one = ap (λ (w : View). w.handed) goes in
      omega (arith, next_within (view b) (passed_within b.state (length b.cells)) g.0)

module _ {M : Type 0} (empty : M) (columns : M → List ℕ) (op : M → M → M) (σ : Meaning M) (s : Moment M) (before : List ℕ) (driven : Driven empty op σ s) where
  pub goes_nowhere : GoesOn empty columns op σ s before s before
  goes_nowhere = record { driven = driven; passes_none = refl; lines = λ head e. e }

  module _ (b : Moment M) (was : List ℕ) (so_far : GoesOn empty columns op σ s before b was) (old : List M) (r : Result (ℕ × ℕ × ℕ) RunRefusal) (new : List M) (a : Moment M)
      (hands : Hands empty op b old r new a) (room : volume (dims_in s) ≤ length old) where
    same : σ.dims ≡ dims_in b
    same = so_far.driven.represents.same_shape

    roomy : volume (dims_in b) ≤ length old
    roomy = omega (arith, ap volume (sym same ∙ driven.represents.same_shape))

    -- one block more
    pub goes_on_more : (x : ℕ × ℕ × ℕ) → r ≡ Ok x → (after : List ℕ) → after ≡ was ++ cell_lines empty columns x.0 x.1 0 (take x.2 new) → GoesOn empty columns op σ s before a after
    goes_on_more x e after then =
        let h = driven_hand empty op σ b so_far.driven old r new a hands roomy x e in
        let goes = h.1 in
        let name : x ≡ hand_name σ.dims (next_block b) = h.3 ∙ ap (λ ds. hand_name ds (next_block b)) (sym same) in
        let bs = handing_order σ.dims in
        let f = block_lines empty columns op σ in
        let inside : (view b).handed < length bs = omega (arith, next_within (view b) (passed_within b.state (length b.cells)) (ltb-true (view b).handed (released_after (dims_in b) (passed (view b))) h.2), ap (λ ds. length (handing_order ds)) same) in
        let written : cell_lines empty columns x.0 x.1 0 (take x.2 new) ≡ f (block_after σ.dims (view b).handed) =
        ap (λ (y : ℕ × ℕ × ℕ). cell_lines empty columns y.0 y.1 0 (take x.2 new)) name
        ∙ (handed_lines empty op columns σ (next_block b) (take x.2 new) h.4 ∙ ap (λ ds. f (block_after ds (view b).handed)) (sym same)) in
        let one : (view a).handed ≡ (view b).handed + 1 = ap (λ (w : View). w.handed) goes in
        record {
          driven = h.0;
          passes_none = ap passed goes ∙ so_far.passes_none;
          lines = λ head start.
              then
              ∙ (ap₂ (λ (ts us : List ℕ). ts ++ us) (so_far.lines head start) written
              ∙ (lines_more f bs (view b).handed head inside ∙ ap (λ n. head ++ lines_upto empty columns op σ n) (sym one)));
        }

    -- no block waits any more, and the run is as it was
    pub goes_on_idle : is_ok r ≡ false → (waits (view a) ≡ false) × GoesOn empty columns op σ s before a was
    goes_on_idle no-hand =
        let i = driven_idle empty op σ b so_far.driven old r new a hands roomy no-hand in
        (ap (λ (m : Moment M). waits (view m)) i.1 ∙ i.0, subst (λ (m : Moment M). GoesOn empty columns op σ s before m was) (sym i.1) so_far)

-- From chunk to chunk

none_released : (ds : List Dim) → released_after ds 0 ≡ 0
unfolding released_after
none_released ds = refl

module _ {M : Type 0} (empty : M) (columns : M → List ℕ) (op : M → M → M) (σ : Meaning M) (before : List ℕ) where
  pub rests_first : (m : Moment M) → Driven empty op σ m → passed (view m) ≡ 0 → (view m).handed ≡ 0 → Rests empty columns op σ before m before
  rests_first m driven none_passed none_handed = record {
    driven = driven;
    idle = le-ltb (view m).handed (released_after (dims_in m) (passed (view m))) (omega (arith, ap (released_after (dims_in m)) none_passed, none_released (dims_in m)));
    lines = sym (append-nil before) ∙ ap (λ n. before ++ lines_upto empty columns op σ n) (sym none_handed);
  }

  -- a chunk was passed, and the blocks that waited were handed out
  pub rests_next : (b n a : Moment M) (was text : List ℕ) → Rests empty columns op σ before b was → (view n).handed ≡ (view b).handed → waits (view a) ≡ false → GoesOn empty columns op σ n was a text
      → Rests empty columns op σ before a text
  rests_next b n a was text rests same idle goes = record {
    driven = goes.driven;
    idle = idle;
    lines = goes.lines before (rests.lines ∙ ap (λ i. before ++ lines_upto empty columns op σ i) (sym same));
  }
