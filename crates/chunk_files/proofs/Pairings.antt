-- Bodies of kind 0: the check pair by pair, and what the pairs hold.
use Rattle.std.proofs.Common.{◌≡◌, ℕ, ◌+◌, ◌*◌, ◌<◌, ◌≤◌, Bool, true, false, cond, eqb, ◌≢◌, List, [], ◌∷◌, ◌++◌, map, length, get_or, take, drop, set, replicate, Some, None, Option, sym, refl, ap, ◌∙◌, inl, inr, arith}
use Rattle.std.specs.List.{range_with_len}
use Rattle.std.proofs.lemmas.Bool.{eq-eqb, ne_eqb, cond-true, cond-false, cases_eq}
use Rattle.std.proofs.lemmas.List.{at_drop_more, at_drop_all, take_more, take_all, get_or-set_same, get_or-set_other, get_or-replicate}
use Rattle.std.proofs.lemmas.List.FromFn.{length-map-range_with_len, get_or-map-range_with_len, fill_by_all}
use Rattle.shapes.specs.declared.readings.Reading.{Reading}
use Rattle.shapes.specs.Limits.{or_else}
use Rattle.sources.proofs.Lifting.{reading_some}
use Rattle.chunk_files.specs.Layouts.{half, word}
use Rattle.chunk_files.specs.Bodies.{Fault, Pair, pair_at, pairs_in, held, pair_fault, pairs_fault, sparse_cells}
use Rattle.chunk_files.specs.Contents.{lift_or, cell_value}
use mathlib.Core.List.{map-map}

or_else_none : {X : Type 0} (o : Option X) → or_else o None ≡ o
or_else_none (Some x) = refl
or_else_none None = refl

held_push : (ps : List Pair) (p : Pair) (x : ℕ) → held (ps ++ p ∷ []) x ≡ or_else (held ps x) (cond (eqb p.offset x) (Some p.reading) None)
held_push [] p x = refl
held_push (q ∷ ps) p x = go (eqb q.offset x) (held_push ps p x)
  where
    go : (b : Bool) → held (ps ++ p ∷ []) x ≡ or_else (held ps x) (cond (eqb p.offset x) (Some p.reading) None)
        → cond b (Some q.reading) (held (ps ++ p ∷ []) x) ≡ or_else (cond b (Some q.reading) (held ps x)) (cond (eqb p.offset x) (Some p.reading) None)
    go true ih = refl
    go false ih = ih

module _ (b : List ℕ) (n v : ℕ) where
  length_pairs : length (pairs_in b n) ≡ n
  length_pairs = length-map-range_with_len (λ k. pair_at b (6 * k)) 0 n

  pair_here : (k : ℕ) → k < n → (d : Pair) → get_or (pairs_in b n) k d ≡ pair_at b (6 * k)
  pair_here k l d = get_or-map-range_with_len (λ k. pair_at b (6 * k)) 0 n k k d l (omega arith)

  -- what the check finds from pair k on
  abbrev Found : ℕ → ℕ → Option Fault
  Found k low = pairs_fault v k low (drop k (pairs_in b n))

  pub pairs_none : (k low : ℕ) → n ≤ k → Found k low ≡ None
  pairs_none k low l = let len = length_pairs in at_drop_all (pairs_fault v k low) (pairs_in b n) k (omega arith)

  -- a turn of the loop that reads the pairs
  module _ (k low : ℕ) (l : k < n) where
    step : Found k low ≡ or_else (pair_fault v k low (pair_at b (6 * k))) (Found (k + 1) (half b (6 * k) + 1))
    step =
        let p : Pair = pair_at b (6 * k) in
        let len = length_pairs in
        at_drop_more (pairs_fault v k low) (pairs_in b n) k p (omega arith)
        ∙ ap (λ (q : Pair). or_else (pair_fault v k low q) (Found (k + 1) (q.offset + 1))) (pair_here k l p)

    pub pair_bad : (f : Fault) → pair_fault v k low (pair_at b (6 * k)) ≡ Some f → Found k low ≡ Some f
    pair_bad f e = step ∙ ap (λ o. or_else o (Found (k + 1) (half b (6 * k) + 1))) e

    -- a pair that was read
    module _ (o : ℕ) (r : Reading) (at : o ≡ half b (6 * k)) (is : r.value ≡ word b (6 * k + 2)) where
      pub pair_good : pair_fault v k low (pair_at b (6 * k)) ≡ None → Found (k + 1) (o + 1) ≡ Found k low
      pair_good e = ap (λ x. Found (k + 1) (x + 1)) at ∙ sym (step ∙ ap (λ o. or_else o (Found (k + 1) (half b (6 * k) + 1))) e)

      held_now : (x : ℕ) → held (take (k + 1) (pairs_in b n)) x ≡ or_else (held (take k (pairs_in b n)) x) (cond (eqb o x) (Some r.value) None)
      held_now x =
          let p : Pair = pair_at b (6 * k) in
          let len = length_pairs in
          ap (λ ps. held ps x) (take_more (pairs_in b n) k p (omega arith))
          ∙ (ap (λ (q : Pair). held (take k (pairs_in b n) ++ q ∷ []) x) (pair_here k l p) ∙ (held_push (take k (pairs_in b n)) p x
          ∙ (λ i. or_else (held (take k (pairs_in b n)) x) (cond (eqb (sym at i) x) (Some (sym is i)) None))))

      module _ (rises : low ≤ o) (above : (x : ℕ) → low ≤ x → held (take k (pairs_in b n)) x ≡ None) where
        held_here : held (take (k + 1) (pairs_in b n)) o ≡ Some r.value
        held_here = held_now o ∙ (ap (λ h. or_else h (cond (eqb o o) (Some r.value) None)) (above o rises) ∙ cond-true (eqb o o) (Some r.value) None (eq-eqb o o refl))

        held_else : (x : ℕ) → x ≢ o → held (take (k + 1) (pairs_in b n)) x ≡ held (take k (pairs_in b n)) x
        held_else x ne =
            held_now x ∙ (ap (or_else (held (take k (pairs_in b n)) x)) (cond-false (eqb o x) (Some r.value) None (ne_eqb o x (λ e. ne (sym e))))
            ∙ or_else_none (held (take k (pairs_in b n)) x))

        pub held_above : (x : ℕ) → o + 1 ≤ x → held (take (k + 1) (pairs_in b n)) x ≡ None
        held_above x g = let ne : x ≢ o = omega arith in held_else x ne ∙ above x (omega arith)

        -- the cells, once the pair's lift is set
        pub held_set : {M : Type 0} (empty : M) (lifted : Reading → M) (cs : List M) (y : M) → y ≡ lifted r → o < length cs
            → ((x : ℕ) → x < length cs → get_or cs x empty ≡ cell_value empty lifted (held (take k (pairs_in b n)) x))
            → (x : ℕ) → x < length cs → get_or (set cs o y) x empty ≡ cell_value empty lifted (held (take (k + 1) (pairs_in b n)) x)
        held_set empty lifted cs y e lt h x g = elim (cases_eq x o) [
          | inl same ↦ ap (λ z. get_or (set cs o y) z empty) same ∙ (get_or-set_same cs o y empty lt ∙ (e
              ∙ (sym (ap (cell_value empty lifted) held_here ∙ ap (lift_or empty lifted) (reading_some r.value r refl)) ∙ ap (λ z. cell_value empty lifted (held (take (k + 1) (pairs_in b n)) z)) (sym same))))
          | inr ne ↦ get_or-set_other cs o x y empty ne ∙ (h x g ∙ ap (cell_value empty lifted) (sym (held_else x ne)))
        ]

  -- before the first pair, and once all are read
  module _ {M : Type 0} (empty : M) (lifted : Reading → M) where
    pub held_first : (cs : List M) → cs ≡ replicate (length cs) empty → (x : ℕ) → x < length cs → get_or cs x empty ≡ empty
    held_first cs e x l = ap (λ ys. get_or ys x empty) e ∙ get_or-replicate (length cs) x empty empty l

    pub held_all : (k : ℕ) → n ≤ k → (cs : List M) → length cs ≡ v → ((x : ℕ) → x < length cs → get_or cs x empty ≡ cell_value empty lifted (held (take k (pairs_in b n)) x))
        → cs ≡ map (cell_value empty lifted) (sparse_cells v n b)
    held_all k l cs e h =
        let len = length_pairs in
        fill_by_all (λ x. cell_value empty lifted (held (pairs_in b n) x)) cs v empty e
        (λ x g. h x (omega arith) ∙ ap (λ ps. cell_value empty lifted (held ps x)) (take_all k (pairs_in b n) (omega arith)))
        ∙ sym (map-map (cell_value empty lifted) (held (pairs_in b n)) (range_with_len 0 v))
