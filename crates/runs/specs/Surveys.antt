-- How many chunks of a meaning can be read, and how many can't; and what a survey, a run through all of a source, does and answers. Assumes nothing.
use Rattle.std.specs.Prelude.{◌≡◌, ℕ, ◌+◌, true, cond, not, List, ◌++◌, length, drop, replicate, is_ok, Ok, Err, count_by, Result, nat_lt}
use Rattle.std.specs.List.{range_with_len}
use Rattle.shapes.specs.declared.dims.Dim.{Dim}
use Rattle.shapes.specs.Arrays.{total_chunks, volume}
use Rattle.sources.specs.Meanings.{Meaning}
use Rattle.cubes.specs.Handing.{block_count}
use Rattle.cubes.specs.Meanings.{is_readable}
use Rattle.runs.specs.declared.counts.Counts.{Counts}
use Rattle.runs.specs.declared.refusals.RunRefusal.{RunRefusal}
use Rattle.runs.specs.declared.refusals.RunRefusal.TheVariants.{TooFew, ShortBuffer}
use Rattle.runs.specs.Planned.{need_of}
use Rattle.runs.specs.Answers.{View, passed, take_answer, skip_answer, hand_answer}
use Rattle.runs.specs.Holdings.{Moment, dims_in, view}
use Rattle.runs.specs.Calls.{PastStay}
use Rattle.runs.specs.Lives.{Event, History, just_one}

-- of the storage numbers below T those whose chunk can be read
unfoldable pub readable_chunks : {M : Type 0} → Meaning M → ℕ
readable_chunks μ = count_by (λ k. is_readable (μ.chunk k)) (range_with_len 0 (total_chunks μ.dims))

-- and those whose chunk has a fault
unfoldable pub unreadable_chunks : {M : Type 0} → Meaning M → ℕ
unreadable_chunks μ = count_by (λ k. not (is_readable (μ.chunk k))) (range_with_len 0 (total_chunks μ.dims))

-- what a survey counts: the chunks that can be read and those that can't, and all blocks
unfoldable pub survey_counts : {M : Type 0} → Meaning M → Counts
survey_counts σ = record { taken = readable_chunks σ; skipped = unreadable_chunks σ; handed = block_count σ.dims; done = true }

-- so many cells for the run and so many for the blocks: 17, then 23
abbrev pub lent_answer : {A : Type 0} → List Dim → ℕ → ℕ → A → Result A RunRefusal
lent_answer ds lent room x =
    cond (nat_lt lent (need_of ds)) (Err (TooFew (need_of ds)))
    (cond (nat_lt room (volume ds)) (Err (ShortBuffer (volume ds))) (Ok x))

-- what a survey answers, over so many cells and with a buffer of so many
abbrev pub survey_answer : {M : Type 0} → Meaning M → ℕ → ℕ → Result Counts RunRefusal
survey_answer σ lent room = lent_answer σ.dims lent room (survey_counts σ)

-- a buffer whose first V cells were emptied
abbrev pub chunk_emptied : {M : Type 0} → M → List Dim → List M → List M
chunk_emptied empty ds xs = replicate (volume ds) empty ++ drop (volume ds) xs

-- the takes, skips and hands that were accepted
abbrev pub accepted : View → ℕ
accepted v = passed v + v.handed

-- of take, skip and hand, with a buffer of so many cells, just one would be accepted
unfoldable pub OneNext : {M : Type 0} → Meaning M → View → ℕ → Type 0
OneNext σ v room = just_one (is_ok (take_answer σ v)) (is_ok (skip_answer σ v)) (is_ok (hand_answer v room)) ≡ true

-- A run goes on over a source that means σ: n calls more were accepted; each life that it had over σ is longer now; the cells past the need are as they were
pub record GoesOn {M : Type 0} (empty : M) (op : M → M → M) (σ : Meaning M) (n : ℕ) (b a : Moment M) : Type 0 where
  pub same_shape : dims_in a ≡ dims_in b
  pub same_lent : length a.cells ≡ length b.cells
  pub more : accepted (view a) ≡ accepted (view b) + n
  pub past_stay : PastStay b a
  pub lives : (es : List (Event M)) → History empty op σ es b → (after : List (Event M)) × History empty op σ after a
