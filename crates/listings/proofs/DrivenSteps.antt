-- How a driven run goes on.
use Rattle.std.proofs.Common.{◌≡◌, ℕ, ◌+◌, ◌<◌, ◌≤◌, Bool, true, false, cond, List, length, take, drop, is_ok, Ok, count_by, Result, sym, refl, ap, ◌∙◌, subst, arith}
use Rattle.std.specs.List.{range_with_len}
use Rattle.std.proofs.lemmas.Bool.{not_from_false, both_ways}
use Rattle.shapes.specs.declared.dims.Dim.{Dim}
use Rattle.shapes.specs.Arrays.{total_chunks, volume}
use Rattle.shapes.specs.Limits.{Limits}
use Rattle.shapes.proofs.Held.{limits}
use Rattle.sources.specs.Meanings.{Meaning}
use Rattle.cubes.specs.Meanings.{is_readable}
use Rattle.cubes.specs.Summaries.{block}
use Rattle.runs.specs.declared.refusals.RunRefusal.{RunRefusal}
use Rattle.runs.specs.Planned.{need_of, scanned_storage, block_size}
use Rattle.runs.specs.Answers.{View, passed, waits, take_answer, hand_name, one_taken, one_skipped, one_handed}
use Rattle.runs.specs.Holdings.{Moment, view, dims_in}
use Rattle.runs.specs.Calls.{Makes, Takes, Skips, Hands, next_block}
use Rattle.listings.specs.Making.{Driven}
use Rattle.listings.proofs.Counting.{counted_more}
use Rattle.listings.proofs.DrivenAnswers.{is_taken, is_skipped, none_handed, handed_block}
use Rattle.runs.proofs.LivingAnswers.{hand_comes}
use Rattle.runs.proofs.LivingScans.{block_fits}

module _ {M : Type 0} (empty : M) (op : M → M → M) (σ : Meaning M) where
  -- a run that begins
  pub driven_first : (ds : List Dim) (cells : List M) (m : Moment M) → Makes empty op ds cells m → ds ≡ σ.dims → need_of σ.dims ≤ length cells
      → Driven empty op σ m × (passed (view m) ≡ 0) × ((view m).handed ≡ 0)
  driven_first ds cells m makes same enough = (driven_made, ap passed makes.begins, ap (λ (v : View). v.handed) makes.begins) where
    driven_made : Driven empty op σ m
    driven_made = record {
      represents = makes.represents (subst (λ es. need_of es ≤ length cells) (sym same) enough) σ (sym same);
      taken = ap (λ (v : View). v.taken) makes.begins ∙ sym (ap (λ (v : View). count_by (λ s. is_readable (σ.chunk (scanned_storage σ.dims s))) (range_with_len 0 (passed v))) makes.begins);
    }

  module _ (b : Moment M) (driven : Driven empty op σ b) where
    abbrev v : View
    v = view b

    abbrev test : ℕ → Bool
    test s = is_readable (σ.chunk (scanned_storage σ.dims s))

    same : σ.dims ≡ v.dims
    same = driven.represents.same_shape

    enough : need_of v.dims ≤ v.lent
    enough = driven.represents.enough

    bounds : Limits v.dims
    bounds = limits b.state.shape

    readable_next : test (passed v) ≡ is_readable (σ.chunk (scanned_storage v.dims (passed v)))
    readable_next = ap (λ ds. is_readable (σ.chunk (scanned_storage ds (passed v)))) same

    -- the next chunk is taken
    pub driven_take : (r : Result (Unit {0}) RunRefusal) (a : Moment M) → Takes empty op σ b r a → waits v ≡ false → passed v < total_chunks v.dims → is_ok r ≡ true
        → Driven empty op σ a × (view a ≡ one_taken v)
    driven_take r a takes idle more ok = (
      record {
        represents = takes.represents σ (λ _. refl) driven.represents;
        taken = counted_more test (passed v) v.taken (view a).taken true driven.taken (readable_next ∙ (sym (is_taken σ v same enough idle more) ∙ (sym (ap is_ok takes.answers) ∙ ok))) (ap (λ (w : View). w.taken) goes)
            ∙ sym (ap (λ n. count_by test (range_with_len 0 n)) further);
      },
      goes,
    )
      where
        goes : view a ≡ one_taken v
        goes = takes.counts ∙ ap (λ t. cond t (one_taken v) v) ok

        further : passed (view a) ≡ passed v + 1
        further = let p = ap passed goes in omega arith

    -- it can't be read, so it is not taken, and nothing changes
    pub driven_refused : (r : Result (Unit {0}) RunRefusal) (a : Moment M) → Takes empty op σ b r a → is_ok r ≡ false → Driven empty op σ a × (view a ≡ v)
    driven_refused r a takes no-take = (
      record {
        represents = takes.represents σ (λ _. refl) driven.represents;
        taken = ap (λ (w : View). w.taken) stays ∙ (driven.taken ∙ sym (ap (λ (w : View). count_by test (range_with_len 0 (passed w))) stays));
      },
      stays,
    )
      where
        stays : view a ≡ v
        stays = takes.counts ∙ ap (λ t. cond t (one_taken v) v) no-take

    -- then it is skipped
    pub driven_skip : (r : Result (Unit {0}) RunRefusal) (a : Moment M) → Skips empty op σ b r a → waits v ≡ false → passed v < total_chunks v.dims → is_ok (take_answer σ v) ≡ false
        → Driven empty op σ a × (view a ≡ one_skipped v)
    driven_skip r a skips idle more no-take = (
      record {
        represents = skips.represents σ (λ _. unreadable) driven.represents;
        taken = counted_more test (passed v) v.taken (view a).taken false driven.taken (readable_next ∙ unreadable) (ap (λ (w : View). w.taken) goes ∙ omega arith)
            ∙ sym (ap (λ n. count_by test (range_with_len 0 n)) further);
      },
      goes,
    )
      where
        unreadable : is_readable (σ.chunk (scanned_storage v.dims (passed v))) ≡ false
        unreadable = sym (is_taken σ v same enough idle more) ∙ no-take

        ok : is_ok r ≡ true
        ok = ap is_ok skips.answers ∙ (is_skipped σ v same enough idle more ∙ not_from_false (is_readable (σ.chunk (scanned_storage v.dims (passed v)))) unreadable)

        goes : view a ≡ one_skipped v
        goes = skips.counts ∙ ap (λ t. cond t (one_skipped v) v) ok

        further : passed (view a) ≡ passed v + 1
        further = let p = ap passed goes in omega arith

    module _ (old : List M) (r : Result (ℕ × ℕ × ℕ) RunRefusal) (new : List M) (a : Moment M) (hands : Hands empty op b old r new a) (room : volume v.dims ≤ length old) where
      fits : block_size v.dims (next_block b) ≤ length old
      fits = omega (arith, block_fits v.dims bounds (next_block b))

      -- a block waited, and was handed out
      pub driven_hand : (x : ℕ × ℕ × ℕ) → r ≡ Ok x
          → Driven empty op σ a × (view a ≡ one_handed v) × (waits v ≡ true) × (x ≡ hand_name v.dims (next_block b)) × (take x.2 new ≡ block empty op σ (next_block b).of (next_block b).at)
      driven_hand x e = (
        record {
          represents = hands.represents σ driven.represents;
          taken = ap (λ (w : View). w.taken) goes ∙ (driven.taken ∙ sym (ap (λ (w : View). count_by test (range_with_len 0 (passed w))) goes));
        },
        goes,
        waiting,
        name,
        ap (λ (y : ℕ × ℕ × ℕ). take y.2 new) name ∙ (ap (λ ds. take (block_size ds (next_block b)) new) (sym same) ∙ handed_block empty op σ (next_block b) new (drop (block_size (dims_in b) (next_block b)) old) (hands.wrote ok σ driven.represents)),
      )
        where
          ok : is_ok r ≡ true
          ok = ap is_ok e

          goes : view a ≡ one_handed v
          goes = hands.counts ∙ ap (λ t. cond t (one_handed v) v) ok

          waits_or_not : (t : Bool) → waits v ≡ t → t ≡ true
          waits_or_not true is = refl
          waits_or_not false is = absurd (both_ways (is_ok r) (ap is_ok hands.answers ∙ none_handed σ v same enough (length old) is) ok)

          waiting : waits v ≡ true
          waiting = let w = waits v in let is : waits v ≡ w = refl in waits_or_not w is

          name : x ≡ hand_name v.dims (next_block b)
          name = let h : Ok x ≡ Ok (hand_name v.dims (next_block b)) = sym e ∙ (hands.answers ∙ hand_comes σ v (sym same) enough waiting (length old) fits) in cc

      -- no block waits
      pub driven_idle : is_ok r ≡ false → (waits v ≡ false) × (a ≡ b)
      driven_idle no-hand = (idle (waits v) refl, (hands.refused no-hand).0) where
        idle : (t : Bool) → waits v ≡ t → t ≡ false
        idle false is = refl
        idle true is = absurd (both_ways (is_ok r) no-hand (ap is_ok (hands.answers ∙ hand_comes σ v (sym same) enough is (length old) fits)))

  -- a chunk is passed: it is taken, or refused and then skipped
  module _ (b : Moment M) (driven : Driven empty op σ b) (idle : waits (view b) ≡ false) (more : passed (view b) < total_chunks σ.dims) where
    there : (m : Moment M) → view m ≡ view b → passed (view m) < total_chunks (view m).dims
    there m e = subst (λ (w : View). passed w < total_chunks w.dims) (sym e) (subst (λ ds. passed (view b) < total_chunks ds) driven.represents.same_shape more)

    pub chunk_taken : (r : Result (Unit {0}) RunRefusal) (a : Moment M) → Takes empty op σ b r a → is_ok r ≡ true
        → Driven empty op σ a × (passed (view a) ≡ passed (view b) + 1) × ((view a).handed ≡ (view b).handed)
    chunk_taken r a takes ok =
        let t = driven_take b driven r a takes idle (there b refl) ok in
        let p = ap passed t.1 in
        (t.0, omega arith, ap (λ (w : View). w.handed) t.1)

    pub chunk_skipped : (τ : Meaning M) → τ ≡ σ → (r s : Result (Unit {0}) RunRefusal) (n a : Moment M) → Takes empty op σ b r n → is_ok r ≡ false → Skips empty op τ n s a
        → Driven empty op σ a × (passed (view a) ≡ passed (view b) + 1) × ((view a).handed ≡ (view b).handed)
    chunk_skipped τ e r s n a takes no-take skips =
        let d = driven_refused b driven r n takes no-take in
        let stays = d.1 in
        let none : is_ok (take_answer σ (view n)) ≡ false = ap (λ (w : View). is_ok (take_answer σ w)) stays ∙ (sym (ap is_ok takes.answers) ∙ no-take) in
        let t = driven_skip n d.0 s a (subst (λ (ρ : Meaning M). Skips empty op ρ n s a) e skips) (ap waits stays ∙ idle) (there n stays) none in
        let p = ap passed t.1 in
        let q = ap passed stays in
        (t.0, omega arith, ap (λ (w : View). w.handed) t.1 ∙ ap (λ (w : View). w.handed) stays)
