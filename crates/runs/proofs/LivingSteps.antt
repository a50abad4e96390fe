-- What holds of a run between two calls, and that each call keeps it.
use Rattle.std.proofs.Common.{◌≡◌, ℕ, ◌+◌, ◌<◌, ◌≤◌, Bool, true, false, cond, not, List, [], ◌∷◌, ◌++◌, length, drop, Ok, Err, count_by, Result, sym, refl, ap, ◌∙◌, subst, ap₂, arith}
use Rattle.std.specs.List.{range_with_len}
use Rattle.std.proofs.lemmas.List.{length_push, append-nil}
use Rattle.std.proofs.lemmas.Bool.{true≢false}
use Rattle.shapes.specs.declared.dims.Dim.{Dim}
use Rattle.shapes.specs.Arrays.{total_chunks}
use Rattle.shapes.proofs.Held.{limits}
use Rattle.sources.specs.Meanings.{Meaning, Alike}
use Rattle.cubes.specs.Meanings.{is_readable}
use Rattle.cubes.specs.Summaries.{block}
use Rattle.runs.specs.declared.refusals.RunRefusal.{RunRefusal}
use Rattle.runs.specs.declared.counts.Counts.{Counts}
use Rattle.runs.specs.Planned.{need_of, handing_order, released_after, scanned_storage, none_block, block_after, block_size}
use Rattle.runs.specs.Answers.{passed, hand_name, one_handed}
use Rattle.runs.specs.Holdings.{Moment, dims_in, view, Represents}
use Rattle.runs.specs.Calls.{Makes, Takes, Skips, Hands}
use Rattle.runs.specs.Lives.{Event, Handed, take as taking, skip as skipping, hand as handing, count as counting_up, Fits, takes_in, skips_in, hands_in, HandOut}
use Rattle.runs.proofs.LivingEvents.{takes_push, skips_push, hands_push, hand_out_push}
use Rattle.runs.proofs.NextChunk.{Ready}
use Rattle.runs.proofs.LivingAnswers.{take_granted, skip_granted, hand_granted}
use Rattle.runs.proofs.LivingScans.{storage_below, passed_within, waiting_among}
use Rattle.runs.proofs.LivingChunks.{reads, count_more}

-- The cells represent μ; the counts are those of the events; the accepted hands handed out the first blocks of the handing order; of the chunks passed those
-- were taken that can be read, and the others were skipped.
pub record Living {M : Type 0} (empty : M) (op : M → M → M) (μ : Meaning M) (es : List (Event M)) (m : Moment M) : Type 0 where
  pub represents : Represents empty op μ m
  pub taken : m.state.taken ≡ takes_in es
  pub skipped : m.state.skipped ≡ skips_in es
  pub handed : m.state.control.handed ≡ length (hands_in es)
  pub in_order : HandOut empty op μ (hands_in es) (handing_order μ.dims)
  pub read : takes_in es ≡ count_by (reads μ) (range_with_len 0 (passed (view m)))
  pub unread : skips_in es ≡ count_by (λ s. not (reads μ s)) (range_with_len 0 (passed (view m)))

module _ {M : Type 0} (empty : M) (op : M → M → M) (μ : Meaning M) where
  pub living_made : (cells : List M) (m : Moment M) → need_of μ.dims ≤ length cells → Makes empty op μ.dims cells m → Living empty op μ [] m
  living_made cells m enough made = record {
    represents = made.represents enough μ refl;
    taken = ap (λ v. v.taken) made.begins;
    skipped = ap (λ v. v.skipped) made.begins;
    handed = ap (λ v. v.handed) made.begins;
    in_order = tt;
    read = sym (ap (λ n. count_by (reads μ) (range_with_len 0 n)) none);
    unread = sym (ap (λ n. count_by (λ s. not (reads μ s)) (range_with_len 0 n)) none);
  }
    where
      none : passed (view m) ≡ 0
      none = ap passed made.begins

  module _ (es : List (Event M)) (b a : Moment M) (it : Living empty op μ es b) (kept : Represents empty op μ a) where
    -- a call that is refused, or only counts
    pub living_same : (e : Event M) → view a ≡ view b → takes_in (e ∷ []) ≡ 0 → skips_in (e ∷ []) ≡ 0 → hands_in (e ∷ []) ≡ [] → Living empty op μ (es ++ (e ∷ [])) a
    living_same e same t s h = record {
      represents = kept;
      taken = omega (arith, ap (λ v. v.taken) same, it.taken, takes);
      skipped = omega (arith, ap (λ v. v.skipped) same, it.skipped, skips);
      handed = ap (λ v. v.handed) same ∙ it.handed ∙ ap length (sym hands);
      in_order = subst (λ hs. HandOut empty op μ hs (handing_order μ.dims)) (sym hands) it.in_order;
      read = takes ∙ it.read ∙ ap (λ v. count_by (reads μ) (range_with_len 0 (passed v))) (sym same);
      unread = skips ∙ it.unread ∙ ap (λ v. count_by (λ s. not (reads μ s)) (range_with_len 0 (passed v))) (sym same);
    }
      where
        takes : takes_in (es ++ (e ∷ [])) ≡ takes_in es
        takes = omega (arith, takes_push es e)

        skips : skips_in (es ++ (e ∷ [])) ≡ skips_in es
        skips = omega (arith, skips_push es e)

        hands : hands_in (es ++ (e ∷ [])) ≡ hands_in es
        hands = hands_push es e ∙ ap (λ hs. hands_in es ++ hs) h ∙ append-nil (hands_in es)

    -- a chunk is taken if it can be read, and skipped if it can't
    pub living_passed : (e : Event M) (c : Bool) → reads μ (passed (view b)) ≡ c → a.state.taken ≡ b.state.taken + cond c 1 0
        → a.state.skipped ≡ b.state.skipped + cond (not c) 1 0 → a.state.control.handed ≡ b.state.control.handed
        → takes_in (e ∷ []) ≡ cond c 1 0 → skips_in (e ∷ []) ≡ cond (not c) 1 0 → hands_in (e ∷ []) ≡ [] → Living empty op μ (es ++ (e ∷ [])) a
    living_passed e c is more-taken more-skipped same t s h = record {
      represents = kept;
      taken = omega (arith, it.taken, takes_push es e);
      skipped = omega (arith, it.skipped, skips_push es e);
      handed = same ∙ it.handed ∙ ap length (sym hands);
      in_order = subst (λ hs. HandOut empty op μ hs (handing_order μ.dims)) (sym hands) it.in_order;
      read = takes_push es e ∙ ap₂ ◌+◌ it.read (t ∙ ap (λ d. cond d 1 0) (sym is)) ∙ sym (one_more (reads μ));
      unread = skips_push es e ∙ ap₂ ◌+◌ it.unread (s ∙ ap (λ d. cond (not d) 1 0) (sym is)) ∙ sym (one_more (λ k. not (reads μ k)));
    }
      where
        hands : hands_in (es ++ (e ∷ [])) ≡ hands_in es
        hands = hands_push es e ∙ ap (λ hs. hands_in es ++ hs) h ∙ append-nil (hands_in es)

        one : (d : Bool) → cond d 1 0 + cond (not d) 1 0 ≡ 1
        one true = refl
        one false = refl

        more : passed (view a) ≡ passed (view b) + 1
        more = omega (arith, one c)

        one_more : (p : ℕ → Bool) → count_by p (range_with_len 0 (passed (view a))) ≡ count_by p (range_with_len 0 (passed (view b))) + cond (p (passed (view b))) 1 0
        one_more p = ap (λ n. count_by p (range_with_len 0 n)) more ∙ count_more p (passed (view b))

    -- a block is handed out
    pub living_handed : (old : List M) (x : ℕ × ℕ × ℕ) (new : List M) → view a ≡ one_handed (view b) → b.state.control.handed < length (handing_order μ.dims)
        → x ≡ hand_name μ.dims (block_after μ.dims b.state.control.handed)
        → new ≡ block empty op μ (block_after μ.dims b.state.control.handed).of (block_after μ.dims b.state.control.handed).at
        ++ drop (block_size μ.dims (block_after μ.dims b.state.control.handed)) old
        → Living empty op μ (es ++ (handing old (Ok x) new ∷ [])) a
    living_handed old x new moved among is wrote = record {
      represents = kept;
      taken = omega (arith, ap (λ v. v.taken) moved, it.taken, takes);
      skipped = omega (arith, ap (λ v. v.skipped) moved, it.skipped, skips);
      handed = ap (λ v. v.handed) moved ∙ ap (λ n. n + 1) it.handed ∙ sym (ap length hands ∙ length_push (hands_in es) h);
      in_order = subst (λ hs. HandOut empty op μ hs (handing_order μ.dims)) (sym hands)
          (hand_out_push empty op μ (hands_in es) (handing_order μ.dims) h none_block (subst (λ n. n < length (handing_order μ.dims)) it.handed among) it.in_order
          (is ∙ ap (λ n. hand_name μ.dims (block_after μ.dims n)) it.handed) (wrote ∙ ap written it.handed));
      read = takes ∙ it.read ∙ ap (λ v. count_by (reads μ) (range_with_len 0 (passed v))) (sym moved);
      unread = skips ∙ it.unread ∙ ap (λ v. count_by (λ s. not (reads μ s)) (range_with_len 0 (passed v))) (sym moved);
    }
      where
        h : Handed M
        h = record { name = x; old = old; new = new }

        written : ℕ → List M
        written n = block empty op μ (block_after μ.dims n).of (block_after μ.dims n).at ++ drop (block_size μ.dims (block_after μ.dims n)) old

        takes : takes_in (es ++ (handing old (Ok x) new ∷ [])) ≡ takes_in es
        takes = omega (arith, takes_push es (handing old (Ok x) new))

        skips : skips_in (es ++ (handing old (Ok x) new ∷ [])) ≡ skips_in es
        skips = omega (arith, skips_push es (handing old (Ok x) new))

        hands : hands_in (es ++ (handing old (Ok x) new ∷ [])) ≡ hands_in es ++ (h ∷ [])
        hands = hands_push es (handing old (Ok x) new)

  -- a source that means μ
  pub fits_itself : Fits μ μ
  fits_itself same = record { same_dims = refl; same_chunks = λ k l. refl }

  -- the source has the shape of the run, so it means what μ means: the chunk that is next is that of μ
  module _ (b : Moment M) (σ : Meaning M) (same : μ.dims ≡ dims_in b) (fits : Fits μ σ) (next : Ready (view b) σ.dims (scanned_storage (dims_in b) (passed (view b)))) where
    abbrev pub next_storage : ℕ
    next_storage = scanned_storage (dims_in b) (passed (view b))

    alike : Alike σ μ
    alike = fits (sym next.same ∙ sym same)

    pub same_chunk : σ.chunk next_storage ≡ μ.chunk next_storage
    same_chunk = alike.same_chunks next_storage (subst (λ ds. next_storage < total_chunks ds) next.same
        (storage_below (dims_in b) (limits b.state.shape) (passed (view b)) left))
      where
        left : passed (view b) < total_chunks (dims_in b)
        left = omega (arith, passed_within b.state (length b.cells), next.left)

    pub next_reads : (c : Bool) → is_readable (σ.chunk next_storage) ≡ c → reads μ (passed (view b)) ≡ c
    next_reads c is = ap (λ ds. is_readable (μ.chunk (scanned_storage ds (passed (view b))))) same ∙ ap is_readable (sym same_chunk) ∙ is

  -- Each call

  module _ (es : List (Event M)) (b a : Moment M) (it : Living empty op μ es b) where
    pub living_take : (σ : Meaning M) → Fits μ σ → (r : Result (Unit {0}) RunRefusal) → Takes empty op σ b r a → Living empty op μ (es ++ (taking r ∷ [])) a
    living_take σ fits (Ok tt) t = living_passed es b a it (t.represents μ (λ _. sym (same_chunk b σ same fits g.0)) it.represents) (taking (Ok tt)) true
        (next_reads b σ same fits g.0 true g.1) (ap (λ v. v.taken) t.counts) (omega (arith, ap (λ v. v.skipped) t.counts)) (ap (λ v. v.handed) t.counts) refl refl refl
      where
        same : μ.dims ≡ dims_in b
        same = it.represents.same_shape

        g : Ready (view b) σ.dims (scanned_storage (dims_in b) (passed (view b))) × (is_readable (σ.chunk (scanned_storage (dims_in b) (passed (view b)))) ≡ true)
        g = take_granted σ (view b) t.answers
    living_take σ fits (Err e) t = living_same es b a it (t.represents μ (λ h. absurd (true≢false (sym h))) it.represents) (taking (Err e)) t.counts refl refl refl

    pub living_skip : (σ : Meaning M) → Fits μ σ → (r : Result (Unit {0}) RunRefusal) → Skips empty op σ b r a → Living empty op μ (es ++ (skipping r ∷ [])) a
    living_skip σ fits (Ok tt) t = living_passed es b a it (t.represents μ (λ _. ap is_readable (sym (same_chunk b σ same fits g.0)) ∙ g.1) it.represents) (skipping (Ok tt)) false
        (next_reads b σ same fits g.0 false g.1) (omega (arith, ap (λ v. v.taken) t.counts)) (ap (λ v. v.skipped) t.counts) (ap (λ v. v.handed) t.counts) refl refl refl
      where
        same : μ.dims ≡ dims_in b
        same = it.represents.same_shape

        g : Ready (view b) σ.dims (scanned_storage (dims_in b) (passed (view b))) × (is_readable (σ.chunk (scanned_storage (dims_in b) (passed (view b)))) ≡ false)
        g = skip_granted σ (view b) t.answers
    living_skip σ fits (Err e) t = living_same es b a it (t.represents μ (λ h. absurd (true≢false (sym h))) it.represents) (skipping (Err e)) t.counts refl refl refl

    pub living_hand : (old new : List M) (r : Result (ℕ × ℕ × ℕ) RunRefusal) → Hands empty op b old r new a → Living empty op μ (es ++ (handing old r new ∷ [])) a
    living_hand old new (Ok x) t = living_handed es b a it (t.represents μ it.represents) old x new t.counts
        (subst (λ ds. b.state.control.handed < length (handing_order ds)) (sym same) (waiting_among b.state (length b.cells) g.0))
        (g.1 ∙ ap (λ ds. hand_name ds (block_after ds b.state.control.handed)) (sym same))
        (t.wrote refl μ it.represents ∙ ap written (sym same))
      where
        same : μ.dims ≡ dims_in b
        same = it.represents.same_shape

        written : List Dim → List M
        written ds = block empty op μ (block_after ds b.state.control.handed).of (block_after ds b.state.control.handed).at
            ++ drop (block_size ds (block_after ds b.state.control.handed)) old

        g : (b.state.control.handed < released_after (dims_in b) (passed (view b))) × (x ≡ hand_name (dims_in b) (block_after (dims_in b) b.state.control.handed))
        g = let granted = hand_granted (view b) (length old) x t.answers in (granted.0, granted.1)
    living_hand old new (Err e) t = living_same es b a it (t.represents μ it.represents) (handing old (Err e) new) t.counts refl refl refl

  pub living_count : (es : List (Event M)) (m : Moment M) (r : Counts) → Living empty op μ es m → Living empty op μ (es ++ (counting_up r ∷ [])) m
  living_count es m r it = living_same es m m it it.represents (counting_up r) refl refl refl refl
