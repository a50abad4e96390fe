-- What every life of a run keeps.
use Rattle.std.proofs.Common.{◌≡◌, ℕ, ◌+◌, ◌≤◌, true, false, not, eqb, ◌↔◌, List, map, length, is_ok, count_by, sym, ap, ◌∙◌, subst, ap₂, arith}
use Rattle.std.specs.List.{range_with_len}
use Rattle.std.proofs.lemmas.Bool.{eqb-true, and_parts}
use Rattle.shapes.specs.Arrays.{total_chunks}
use Rattle.shapes.specs.Limits.{Limits}
use Rattle.shapes.proofs.Held.{limits}
use Rattle.sources.specs.Meanings.{Meaning}
use Rattle.cubes.specs.Handing.{Distinct, block_count}
use Rattle.runs.specs.declared.counts.Counts.{Counts}
use Rattle.runs.specs.Planned.{handing_order, block_after, block_size}
use Rattle.runs.specs.Answers.{passed, waits, done, take_answer, skip_answer, hand_answer, count_answer}
use Rattle.runs.specs.Holdings.{Moment, dims_in, view}
use Rattle.runs.specs.Lives.{Event, made, took, skipped, handed, counted, just_one, named_block, History, takes_in, skips_in, hands_in, Kept}
use Rattle.runs.specs.Surveys.{readable_chunks, unreadable_chunks}
use Rattle.runs.proofs.LivingEvents.{hands_once}
use Rattle.runs.proofs.LivingAnswers.{one_accepted, none_accepted}
use Rattle.runs.proofs.LivingScans.{blocks_once, done_counts}
use Rattle.runs.proofs.LivingChunks.{reads, all_readable, all_unreadable}
use Rattle.runs.proofs.LivingSteps.{Living, living_made, living_take, living_skip, living_hand, living_count}

pub living : {M : Type 0} (empty : M) (op : M → M → M) (μ : Meaning M) (es : List (Event M)) (m : Moment M) → History empty op μ es m → Living empty op μ es m
living empty op μ es m (made {cells} enough makes) = living_made empty op μ cells m enough makes
living empty op μ es m (took {es = before} {b} {a} {r} {σ} h fits t) = living_take empty op μ before b a (living empty op μ before b h) σ fits r t
living empty op μ es m (skipped {es = before} {b} {a} {r} {σ} h fits t) = living_skip empty op μ before b a (living empty op μ before b h) σ fits r t
living empty op μ es m (handed {es = before} {b} {a} {old} {new} {r} h t) = living_hand empty op μ before b a (living empty op μ before b h) old new r t
living empty op μ es m (counted {es = before} {m = now} {r} h is) = living_count empty op μ before now r (living empty op μ before now h)

module _ {M : Type 0} (empty : M) (op : M → M → M) (μ : Meaning M) (es : List (Event M)) (m : Moment M) (it : Living empty op μ es m) where
  same : μ.dims ≡ dims_in m
  same = it.represents.same_shape

  pub limits_held : Limits μ.dims
  limits_held = subst Limits (sym same) (limits m.state.shape)

  once : Distinct (map named_block (hands_in es))
  once = hands_once empty op μ (hands_in es) (handing_order μ.dims) it.in_order (blocks_once μ.dims limits_held)

  one_next : done (view m) ≡ false → (room : ℕ) → block_size μ.dims (block_after μ.dims m.state.control.handed) ≤ room
      → just_one (is_ok (take_answer μ (view m))) (is_ok (skip_answer μ (view m))) (is_ok (hand_answer (view m) room)) ≡ true
  one_next h room l = one_accepted μ (view m) (sym same) it.represents.enough h room
      (subst (λ ds. block_size ds (block_after ds m.state.control.handed) ≤ room) same l)

  none_next : done (view m) ≡ true → (room : ℕ)
      → (is_ok (take_answer μ (view m)) ≡ false) × (is_ok (skip_answer μ (view m)) ≡ false) × (is_ok (hand_answer (view m) room) ≡ false)
  none_next h room = none_accepted μ (view m) (sym same) it.represents.enough h room

  -- the counts of the state are those of the events
  together : m.state.taken + m.state.skipped + m.state.control.handed ≡ takes_in es + skips_in es + length (hands_in es)
  together = ap₂ ◌+◌ (ap₂ ◌+◌ it.taken it.skipped) it.handed

  all : total_chunks (dims_in m) + block_count (dims_in m) ≡ total_chunks μ.dims + block_count μ.dims
  all = ap (λ ds. total_chunks ds + block_count ds) (sym same)

  all_counted : (done (view m) ≡ true) ↔ (takes_in es + skips_in es + length (hands_in es) ≡ total_chunks μ.dims + block_count μ.dims)
  all_counted =
      let d = done_counts m.state (length m.cells) in
      (λ h. sym together ∙ d.0 h ∙ all, λ h. d.1 (together ∙ h ∙ sym all))

  kept_now : Kept empty op μ es m (count_answer (view m))
  kept_now = record {
    in_order = it.in_order;
    each_once = once;
    one_is_next = one_next;
    none_is_next = none_next;
    taken = it.taken;
    skipped = it.skipped;
    handed = it.handed;
    all_done = all_counted;
  }

-- every life of a run keeps what `Kept` says
pub life_kept : {M : Type 0} (empty : M) (op : M → M → M) (μ : Meaning M) (es : List (Event M)) (m : Moment M) (told : Counts) → told ≡ count_answer (view m) → History empty op μ es m
    → Kept empty op μ es m told
life_kept empty op μ es m told is h = subst (Kept empty op μ es m) (sym is) (kept_now empty op μ es m (living empty op μ es m h))

-- once all chunks were passed, those were taken that can be read, and the others were skipped
pub all_chunks_told : {M : Type 0} (empty : M) (op : M → M → M) (μ : Meaning M) (es : List (Event M)) (m : Moment M) → History empty op μ es m
    → passed (view m) ≡ total_chunks μ.dims → (takes_in es ≡ readable_chunks μ) × (skips_in es ≡ unreadable_chunks μ)
all_chunks_told empty op μ es m h e =
    let it = living empty op μ es m h in (
      it.read ∙ ap (λ n. count_by (reads μ) (range_with_len 0 n)) e ∙ all_readable μ (limits_held empty op μ es m it),
      it.unread ∙ ap (λ n. count_by (λ s. not (reads μ s)) (range_with_len 0 n)) e ∙ all_unreadable μ (limits_held empty op μ es m it),
    )

-- and once count tells that the run is done: so many chunks could be read and so many not, and every block was handed out
pub done_told : {M : Type 0} (empty : M) (op : M → M → M) (μ : Meaning M) (es : List (Event M)) (m : Moment M) (told : Counts) → told ≡ count_answer (view m)
    → History empty op μ es m → told.done ≡ true
    → (told.taken ≡ readable_chunks μ) × (told.skipped ≡ unreadable_chunks μ) × (told.handed ≡ block_count μ.dims)
done_told empty op μ es m told is h d = (kept.taken ∙ counts.0, kept.skipped ∙ counts.1, kept.handed ∙ blocks)
  where
    kept : Kept empty op μ es m told
    kept = life_kept empty op μ es m told is h

    it : Living empty op μ es m
    it = living empty op μ es m h

    full : passed (view m) ≡ total_chunks μ.dims
    full = eqb-true (passed (view m)) (total_chunks (dims_in m))
        (and_parts (eqb (passed (view m)) (total_chunks (dims_in m))) (not (waits (view m))) (sym (ap (λ c. c.done) is) ∙ d)).0
        ∙ ap total_chunks (sym it.represents.same_shape)

    counts : (takes_in es ≡ readable_chunks μ) × (skips_in es ≡ unreadable_chunks μ)
    counts = all_chunks_told empty op μ es m h full

    blocks : length (hands_in es) ≡ block_count μ.dims
    blocks = omega (arith, kept.all_done.0 d, full, it.taken, it.skipped)
