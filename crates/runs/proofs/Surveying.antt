-- What a run that is driven through a source keeps, and that it comes to an end.
use Rattle.std.proofs.Common.{◌≡◌, ℕ, ◌+◌, ◌-◌, ◌<◌, ◌≤◌, Bool, true, false, cond, ltb, List, [], ◌∷◌, ◌++◌, length, drop, replicate, is_ok, Some, None, Ok, Err, Option, Result, sym, refl, ap, ◌∙◌, subst, arith}
use Rattle.std.proofs.lemmas.List.{drop-drop, length-replicate}
use Rattle.std.proofs.lemmas.Slice.{drop-append-drop}
use Rattle.std.proofs.lemmas.Bool.{lt-ltb, le-ltb, le-leb, true≢false}
use Rattle.shapes.specs.declared.dims.Dim.{Dim}
use Rattle.shapes.specs.Arrays.{volume, total_chunks}
use Rattle.shapes.specs.Limits.{Limits, Refusal, refused_if}
use Rattle.shapes.proofs.Held.{limits}
use Rattle.plans.specs.declared.refusals.TooFewCells.{TooFewCells}
use Rattle.plans.specs.Plans.{plan_need}
use Rattle.plans.specs.Refusals.{too_few, check_fault}
use Rattle.sources.specs.Meanings.{Meaning}
use Rattle.cubes.specs.Handing.{block_count}
use Rattle.runs.specs.declared.refusals.RunRefusal.{RunRefusal}
use Rattle.runs.specs.declared.refusals.RunRefusal.TheVariants.{TooFew, ShortBuffer}
use Rattle.runs.specs.declared.counts.Counts.{Counts}
use Rattle.runs.specs.Planned.{places_of, adds_of, need_of, block_after, block_size}
use Rattle.runs.specs.Answers.{View, take_answer, skip_answer, hand_answer, count_answer, one_taken, one_skipped, one_handed}
use Rattle.runs.specs.Holdings.{Moment, dims_in, view, first_emptied}
use Rattle.runs.specs.Calls.{Makes, Takes, Skips, Hands, PastStay, next_block}
use Rattle.runs.specs.Lives.{Event, take as taking, skip as skipping, hand as handing, made, took, skipped, handed, one_if, just_one, History, Kept}
use Rattle.runs.specs.Surveys.{survey_counts, lent_answer, accepted, OneNext, GoesOn}
use Rattle.runs.proofs.FromState.{controls_in}
use Rattle.runs.proofs.Stepping.{done_fits}
use Rattle.runs.proofs.RunMade.{emptied_length}
use Rattle.runs.proofs.LivingScans.{block_fits}
use Rattle.runs.proofs.LivingSteps.{fits_itself}
use Rattle.runs.proofs.LivingRuns.{done_told}
use Rattle.shapes.proofs.Limited.{off_by}

-- The checks of what is lent

abbrev needed_in : Option Refusal → List ℕ
needed_in (Some r) = r.1
needed_in None = []

few_by : (b : Bool) (n : ℕ) (e : TooFewCells) → refused_if b (17, n ∷ []) ≡ Some (too_few e) → (b ≡ true) × (e.need ≡ n)
few_by true n e h = let is : n ∷ [] ≡ e.need ∷ [] = ap needed_in h in (refl, cc)
few_by false n e h = let z : ◌≡◌ {A = ℕ} 0 1 = cc in absurd (omega arith)

module _ (ds : List Dim) (lent room needed : ℕ) (is : needed ≡ plan_need ds) where
  as_needed : needed ≡ need_of ds
  unfolding need_of
  as_needed = is

  abbrev by_room : Result (Unit {0}) RunRefusal
  by_room = cond (ltb room (volume ds)) (Err (ShortBuffer (volume ds))) (Ok tt)

  pub few_lent : (e : TooFewCells) → check_fault lent needed ≡ Some (too_few e) → lent_answer {A = Unit {0}} ds lent room tt ≡ Err (TooFew e.need)
  few_lent e h =
      let p = few_by (ltb lent needed) needed e h in
      ap (λ n. cond (ltb lent n) (Err (TooFew n)) by_room) (sym as_needed) ∙ ap (λ b. cond b (Err (TooFew needed)) by_room) p.0 ∙ ap (λ n. Err (TooFew n)) (sym p.1)

  module _ (fine : check_fault lent needed ≡ None) (cells : ℕ) (v : cells ≡ volume ds) where
    enough_lent : lent_answer {A = Unit {0}} ds lent room tt ≡ by_room
    enough_lent = ap (λ b. cond b (Err (TooFew (need_of ds))) by_room) (sym (ap (ltb lent) as_needed) ∙ off_by (ltb lent needed) (17, needed ∷ []) fine)

    pub short_lent : room < cells → Err (ShortBuffer cells) ≡ lent_answer {A = Unit {0}} ds lent room tt
    short_lent l = ap (λ n. Err (ShortBuffer n)) v ∙ sym (enough_lent ∙ ap (λ b. cond b (Err (ShortBuffer (volume ds))) (Ok tt)) (lt-ltb room (volume ds) (omega arith)))

    pub all_lent : cells ≤ room → Ok tt ≡ lent_answer {A = Unit {0}} ds lent room tt
    all_lent l = sym (enough_lent ∙ ap (λ b. cond b (Err (ShortBuffer (volume ds))) (Ok tt)) (le-ltb room (volume ds) (omega arith)))

-- What each call adds

-- what the counts say, whether a call was accepted or not
module _ {M : Type 0} (b a : Moment M) where
  counted : (v : View) → v.dims ≡ dims_in b → v.lent ≡ length b.cells → accepted v ≡ accepted (view b) + 1 → (c : Bool) → view a ≡ cond c v (view b)
      → (dims_in a ≡ dims_in b) × (length a.cells ≡ length b.cells) × (accepted (view a) ≡ accepted (view b) + cond c 1 0)
  counted v d l n true is = (ap (λ w. w.dims) is ∙ d, ap (λ w. w.lent) is ∙ l, ap accepted is ∙ n)
  counted v d l n false is = (ap (λ w. w.dims) is, ap (λ w. w.lent) is, ap accepted is ∙ omega arith)

module _ {M : Type 0} (empty : M) (op : M → M → M) (σ : Meaning M) where
  pub take_goes : (b a : Moment M) (r : Result (Unit {0}) RunRefusal) → Takes empty op σ b r a → GoesOn empty op σ (one_if r) b a
  take_goes b a r t =
      let n = counted b a (one_taken (view b)) refl refl (omega arith) (is_ok r) t.counts in
      record { same_shape = n.0; same_lent = n.1; more = n.2; past_stay = t.fetches.past_stay; lives = λ es h. (es ++ (taking r ∷ []), took h (fits_itself empty op σ) t) }

  pub skip_goes : (b a : Moment M) (r : Result (Unit {0}) RunRefusal) → Skips empty op σ b r a → GoesOn empty op σ (one_if r) b a
  skip_goes b a r t =
      let n = counted b a (one_skipped (view b)) refl refl (omega arith) (is_ok r) t.counts in
      record { same_shape = n.0; same_lent = n.1; more = n.2; past_stay = t.fetches.past_stay; lives = λ es h. (es ++ (skipping r ∷ []), skipped h (fits_itself empty op σ) t) }

  pub hand_goes : (b a : Moment M) (old new : List M) (r : Result (ℕ × ℕ × ℕ) RunRefusal) → Hands empty op b old r new a → GoesOn empty op σ (one_if r) b a
  hand_goes b a old new r t =
      let n = counted b a (one_handed (view b)) refl refl (omega arith) (is_ok r) t.counts in
      record { same_shape = n.0; same_lent = n.1; more = n.2; past_stay = t.past_stay; lives = λ es h. (es ++ (handing old r new ∷ []), handed h t) }

  pub goes_then : (i j : ℕ) (b m a : Moment M) → GoesOn empty op σ i b m → GoesOn empty op σ j m a → GoesOn empty op σ (i + j) b a
  goes_then i j b m a p q = record {
    same_shape = q.same_shape ∙ p.same_shape;
    same_lent = q.same_lent ∙ p.same_lent;
    more = omega (arith, p.more, q.more);
    past_stay = subst (λ ds. drop (need_of ds) a.cells ≡ drop (need_of ds) m.cells) p.same_shape q.past_stay ∙ p.past_stay;
    lives = λ es h. let k = p.lives es h in q.lives k.0 k.1;
  }

  -- The step: a hand; where it is refused, a take; where that is refused too, a skip

  last_one : (x y z : Bool) → just_one x y z ≡ true → x ≡ false → z ≡ false → y ≡ true
  last_one true y z h p q = absurd (true≢false p)
  last_one false true z h p q = refl
  last_one false false true h p q = absurd (true≢false q)
  last_one false false false h p q = h

  module _ (b handed_on : Moment M) (old new : List M) (r : Result (ℕ × ℕ × ℕ) RunRefusal) (hands : Hands empty op b old r new handed_on) where
    pub handed_first : is_ok r ≡ true → GoesOn empty op σ 1 b handed_on
    handed_first ok = subst (λ c. GoesOn empty op σ (cond c 1 0) b handed_on) ok (hand_goes b handed_on old new r hands)

    -- the buffer past the cells of a chunk is as it was: no block has more
    pub buffer_stays : drop (volume (dims_in b)) new ≡ drop (volume (dims_in b)) old
    buffer_stays = further (volume (dims_in b)) (block_size (dims_in b) (next_block b)) (block_fits (dims_in b) (limits b.state.shape) (next_block b)) hands.rest_stays.1
      where
        further : (n k : ℕ) → k ≤ n → drop k new ≡ drop k old → drop n new ≡ drop n old
        further n k l e =
            let sum : k + (n - k) ≡ n = omega arith in
            subst (λ j. drop j new ≡ drop j old) sum (sym (drop-drop (n - k) k new) ∙ ap (drop (n - k)) e ∙ drop-drop (n - k) k old)

    module _ (no : is_ok r ≡ false) where
      as_before : view handed_on ≡ view b
      as_before = hands.counts ∙ ap (λ c. cond c (one_handed (view b)) (view b)) no

      module _ (taken_on : Moment M) (s : Result (Unit {0}) RunRefusal) (takes : Takes empty op σ handed_on s taken_on) where
        both : GoesOn empty op σ (one_if r + one_if s) b taken_on
        both = goes_then (one_if r) (one_if s) b handed_on taken_on (hand_goes b handed_on old new r hands) (take_goes handed_on taken_on s takes)

        pub taken_second : is_ok s ≡ true → GoesOn empty op σ 1 b taken_on
        taken_second ok = subst (λ n. GoesOn empty op σ n b taken_on) (ap (λ c. cond c 1 0 + one_if s) no ∙ ap (λ c. 0 + cond c 1 0) ok) both

        pub skipped_last : OneNext σ (view b) (length old) → is_ok s ≡ false → (τ : Meaning M) → τ ≡ σ → (skipped_on : Moment M) (t : Result (Unit {0}) RunRefusal)
            → Skips empty op τ taken_on t skipped_on → GoesOn empty op σ 1 b skipped_on
        unfolding OneNext
        skipped_last next refused τ same skipped_on t skips =
            subst (λ n. GoesOn empty op σ n b skipped_on) one (goes_then (one_if r + one_if s) (one_if t) b taken_on skipped_on both (skip_goes taken_on skipped_on t over))
          where
            over : Skips empty op σ taken_on t skipped_on
            over = subst (λ m. Skips empty op m taken_on t skipped_on) same skips

            still : view taken_on ≡ view b
            still = takes.counts ∙ ap (λ c. cond c (one_taken (view handed_on)) (view handed_on)) refused ∙ as_before

            accepts : is_ok t ≡ true
            accepts = ap is_ok (over.answers ∙ ap (skip_answer σ) still)
                ∙ last_one (is_ok (take_answer σ (view b))) (is_ok (skip_answer σ (view b))) (is_ok (hand_answer (view b) (length old))) next
                (sym (ap is_ok (takes.answers ∙ ap (take_answer σ) as_before)) ∙ refused) (sym (ap is_ok hands.answers) ∙ no)

            one : one_if r + one_if s + one_if t ≡ 1
            one = ap (λ c. cond c 1 0 + one_if s + one_if t) no ∙ ap (λ c. 0 + cond c 1 0 + one_if t) refused ∙ ap (λ c. 0 + 0 + cond c 1 0) accepts

-- The whole run

-- What it keeps from its making on. It has a life over what the source means: the calls made of it are the events.
pub record Driven {M : Type 0} (empty : M) (op : M → M → M) (σ : Meaning M) (b a : Moment M) : Type 0 where
  pub same_shape : dims_in a ≡ dims_in b
  pub same_lent : length a.cells ≡ length b.cells
  pub past_stay : PastStay b a
  pub lives : (es : List (Event M)) × History empty op σ es a

-- the cells that were emptied as the run was made are emptied again, and the others never changed
module _ {M : Type 0} (empty : M) (n : ℕ) (lent : List M) (enough : n ≤ length lent) where
  front_emptied : (xs : List M) → length xs ≡ length lent → first_emptied empty n xs ≡ replicate n empty ++ drop n xs
  front_emptied xs long = ap (λ b. cond b (replicate n empty ++ drop n xs) xs) (le-leb n (length xs) (omega arith))

  pub emptied_again : (xs ys : List M) → xs ≡ first_emptied empty n lent → length ys ≡ length xs → drop n ys ≡ drop n xs → first_emptied empty n ys ≡ first_emptied empty n lent
  emptied_again xs ys is long same =
      front_emptied ys (long ∙ ap length is ∙ emptied_length empty n lent)
      ∙ ap (λ zs. replicate n empty ++ zs) (same ∙ ap (drop n) (is ∙ front_emptied lent refl) ∙ drop-append-drop n lent (replicate n empty) n (omega arith) (length-replicate n empty))
      ∙ sym (front_emptied lent refl)

module _ {M : Type 0} (empty : M) (op : M → M → M) (σ : Meaning M) where
  pub driven_made : (ds : List Dim) (lent : List M) (m : Moment M) → ds ≡ σ.dims → need_of ds ≤ length lent → Makes empty op ds lent m → Driven empty op σ m m
  driven_made ds lent m same enough makes = record {
    same_shape = refl;
    same_lent = refl;
    past_stay = refl;
    lives = ([], made (subst (λ es. need_of es ≤ length lent) same enough) (subst (λ es. Makes empty op es lent m) same makes));
  }

  pub driven_on : (b m a : Moment M) → Driven empty op σ b m → (τ : Meaning M) → τ ≡ σ → (n : ℕ) → GoesOn empty op τ n m a → Driven empty op σ b a
  driven_on b m a it τ same n goes = record {
    same_shape = goes.same_shape ∙ it.same_shape;
    same_lent = goes.same_lent ∙ it.same_lent;
    past_stay = subst (λ ds. drop (need_of ds) a.cells ≡ drop (need_of ds) m.cells) it.same_shape goes.past_stay ∙ it.past_stay;
    lives = (subst (λ μ. GoesOn empty op μ n m a) same goes).lives it.lives.0 it.lives.1;
  }

  module _ (m : Moment M) (es : List (Event M)) (told : Counts) (kept : Kept empty op σ es m told) (on : told.done ≡ false) where
    -- until it is done a call is next, and a buffer with the cells of a chunk is long enough for it
    pub call_next : Limits σ.dims → (room : ℕ) → volume σ.dims ≤ room → OneNext σ (view m) room
    unfolding OneNext
    call_next l room enough = kept.one_is_next on room (omega (arith, block_fits σ.dims l (block_after σ.dims told.handed)))

    -- and calls are left that will be accepted
    pub calls_left : told ≡ count_answer (view m) → σ.dims ≡ dims_in m → accepted (view m) < total_chunks (dims_in m) + block_count (dims_in m)
    calls_left is same = omega (arith, (done_fits (dims_in m) (places_of (dims_in m)) (adds_of (dims_in m)) m.state.control (controls_in m.state)).0, m.state.passes, apart)
      where
        apart : accepted (view m) ≡ total_chunks (dims_in m) + block_count (dims_in m) → ⊥
        apart e = true≢false (sym (kept.all_done.1 (omega (
          arith,
          kept.taken,
          kept.skipped,
          kept.handed,
          ap (λ c. c.taken) is,
          ap (λ c. c.skipped) is,
          ap (λ c. c.handed) is,
          ap total_chunks same,
          ap block_count same,
        ))) ∙ on)

  -- fewer after each turn
  pub fewer_left : (m a : Moment M) → GoesOn empty op σ 1 m a → accepted (view m) < total_chunks (dims_in m) + block_count (dims_in m)
      → (total_chunks (dims_in a) + block_count (dims_in a)) - accepted (view a) < (total_chunks (dims_in m) + block_count (dims_in m)) - accepted (view m)
  fewer_left m a goes l = omega (arith, goes.more, ap total_chunks goes.same_shape, ap block_count goes.same_shape)

  -- at the end
  pub all_told : (m : Moment M) (es : List (Event M)) (told : Counts) → told ≡ count_answer (view m) → History empty op σ es m → told.done ≡ true → told ≡ survey_counts σ
  unfolding survey_counts
  all_told m es told is h d =
      let t = done_told empty op σ es m told is h d in
      cc (t.0, t.1, t.2)
