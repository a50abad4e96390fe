-- A driven run at its end, and the whole listing.
use Rattle.std.proofs.Common.{◌≡◌, ℕ, false, List, ◌++◌, length, count_by, sym, ap, ◌∙◌, subst, ap₂, arith}
use Rattle.std.specs.List.{range_with_len, flat_map}
use Rattle.std.proofs.lemmas.List.{append_assoc}
use Rattle.shapes.specs.Arrays.{total_chunks}
use Rattle.shapes.specs.Limits.{Limits}
use Rattle.shapes.proofs.Held.{limits}
use Rattle.sources.specs.Meanings.{Meaning}
use Rattle.cubes.specs.Meanings.{is_readable}
use Rattle.runs.specs.Planned.{need_of, handing_order}
use Rattle.runs.specs.declared.counts.Closed.{Closed}
use Rattle.runs.specs.Answers.{close_answer, passed, waits}
use Rattle.runs.specs.Holdings.{Moment, view, dims_in}
use Rattle.listings.specs.Making.{Driven, Ends, lines_upto}
use Rattle.listings.specs.Lines.{dims_line, cells_line, end_line}
use Rattle.runs.specs.Surveys.{readable_chunks, unreadable_chunks}
use Rattle.listings.specs.Listings.{block_lines, summary_lines}
use Rattle.listings.proofs.Counting.{count_both}
use Rattle.listings.proofs.DrivenAnswers.{all_handed, lines_all}
use Rattle.runs.proofs.LivingChunks.{reads, all_readable}
use Rattle.runs.proofs.LivingScans.{handed_within}

module _ {M : Type 0} (empty : M) (op : M → M → M) (σ : Meaning M) (m : Moment M) (driven : Driven empty op σ m) where
  same : σ.dims ≡ dims_in m
  same = driven.represents.same_shape

  bounds : Limits σ.dims
  bounds = subst Limits (sym same) (limits m.state.shape)

  module _ (whole : passed (view m) ≡ total_chunks (dims_in m)) (idle : waits (view m) ≡ false) where
    pub end_taken : (view m).taken ≡ readable_chunks σ
    end_taken =
        driven.taken
        ∙ (ap (λ n. count_by (reads σ) (range_with_len 0 n)) (whole ∙ ap total_chunks (sym same)) ∙ all_readable σ bounds)

    pub end_skipped : (view m).skipped ≡ unreadable_chunks σ
    unfolding readable_chunks unreadable_chunks
    end_skipped =
        let both = count_both (λ k. is_readable (σ.chunk k)) (total_chunks σ.dims) in
        let t = end_taken in
        omega (arith, ap total_chunks same)

    pub end_handed : (view m).handed ≡ length (handing_order σ.dims)
    end_handed = all_handed (view m) whole idle (handed_within m.state (length m.cells)) ∙ ap (λ ds. length (handing_order ds)) (sym same)

    -- the last line
    pub end_text : end_line (view m).taken (view m).skipped (view m).handed ≡ end_line (readable_chunks σ) (unreadable_chunks σ) (length (handing_order σ.dims))
    end_text = ap₂ (λ a b. end_line a b (view m).handed) end_taken end_skipped ∙ ap (end_line (readable_chunks σ) (unreadable_chunks σ)) end_handed

    -- the whole text
    pub whole_text : (columns : M → List ℕ) (head text : List ℕ) → head ≡ dims_line σ.dims ++ cells_line (need_of σ.dims) (unreadable_chunks σ)
        → text ≡ head ++ lines_upto empty columns op σ (view m).handed
        → text ++ end_line (view m).taken (view m).skipped (view m).handed ≡ summary_lines empty columns op σ
    unfolding summary_lines
    whole_text columns head text first blocks =
        let last = end_line (readable_chunks σ) (unreadable_chunks σ) (length (handing_order σ.dims)) in
        let all = flat_map (block_lines empty columns op σ) (handing_order σ.dims) in
        let dims = dims_line σ.dims in
        let cells = cells_line (need_of σ.dims) (unreadable_chunks σ) in
        ap₂ (λ (a b : List ℕ). a ++ b) (blocks ∙ (lines_all (block_lines empty columns op σ) (handing_order σ.dims) (view m).handed head end_handed ∙ ap (λ h. h ++ all) first)) end_text
        ∙ (append_assoc (dims ++ cells) all last ∙ append_assoc dims cells (all ++ last))

-- from what a run tells as it is closed
pub listed_whole : {M : Type 0} (empty : M) (columns : M → List ℕ) (op : M → M → M) (σ τ : Meaning M) (m : Moment M) (head text after : List ℕ) (closed : Closed)
    → τ ≡ σ → Ends empty columns op τ head m text → closed ≡ close_answer (view m) → head ≡ dims_line σ.dims ++ cells_line (need_of σ.dims) (unreadable_chunks σ)
    → after ≡ text ++ end_line closed.taken closed.skipped closed.handed → after ≡ summary_lines empty columns op σ
listed_whole {M} empty columns op σ τ m head text after closed same ends told first then =
    let e : Ends empty columns op σ head m text = subst (λ (ρ : Meaning M). Ends empty columns op ρ head m text) same ends in
    let d = e.rests.driven in
    let whole : passed (view m) ≡ total_chunks (dims_in m) = e.whole ∙ ap total_chunks d.represents.same_shape in
    then ∙ (ap (λ (k : Closed). text ++ end_line k.taken k.skipped k.handed) told ∙ whole_text empty op σ m d whole e.rests.idle columns head text first e.rests.lines)
