-- How a listing is made: what is written, counted and held on the way. Assumes nothing.
use Rattle.std.specs.Prelude.{◌≡◌, ℕ, false, List, ◌++◌, take, is_err, count_by, Result, OnOk, String, string_bytes}
use Rattle.std.specs.List.{range_with_len, flat_map}
use Rattle.shapes.specs.Arrays.{total_chunks}
use Rattle.sources.specs.Meanings.{Meaning, fetch_answer}
use Rattle.cubes.specs.Meanings.{is_readable}
use Rattle.runs.specs.Planned.{handing_order, scanned_storage}
use Rattle.runs.specs.Answers.{passed, waits}
use Rattle.runs.specs.Holdings.{Moment, view, Represents}
use Rattle.listings.specs.Listings.{block_lines}

-- what a call that writes behind a text leaves of it, unless memory is wanting
abbrev pub Writes : {E Z : Type 0} → Result (Unit {0}) E → String Z → String Z → List ℕ → Type 0
Writes r before after lines = OnOk r (string_bytes after ≡ string_bytes before ++ lines)

-- how many chunks can't be fetched into so many cells: where V cells fit, the unreadable ones, else all
abbrev pub unfetched_count : {M : Type 0} → Meaning M → ℕ → ℕ
unfetched_count σ room = count_by (λ k. is_err (fetch_answer σ k room)) (range_with_len 0 (total_chunks σ.dims))

-- a run over σ: its cells hold what they must, and it took the readable ones of the chunks passed
pub record Driven {M : Type 0} (empty : M) (op : M → M → M) (σ : Meaning M) (m : Moment M) : Type 0 where
  pub represents : Represents empty op σ m
  pub taken : (view m).taken ≡ count_by (λ s. is_readable (σ.chunk (scanned_storage σ.dims s))) (range_with_len 0 (passed (view m)))

-- the lines of the first i blocks of the handing order
abbrev pub lines_upto : {M : Type 0} → M → (M → List ℕ) → (M → M → M) → Meaning M → ℕ → List ℕ
lines_upto empty columns op σ i = flat_map (block_lines empty columns op σ) (take i (handing_order σ.dims))

-- a run over σ went on from one moment to another, at which as many chunks are passed; behind the lines of the blocks handed out before now stand those of all handed out
pub record GoesOn {M : Type 0} (empty : M) (columns : M → List ℕ) (op : M → M → M) (σ : Meaning M) (b : Moment M) (before : List ℕ) (a : Moment M) (after : List ℕ) : Type 0 where
  pub driven : Driven empty op σ a
  pub passes_none : passed (view a) ≡ passed (view b)
  pub lines : (head : List ℕ) → before ≡ head ++ lines_upto empty columns op σ (view b).handed → after ≡ head ++ lines_upto empty columns op σ (view a).handed

-- a run over σ between two chunks: no block waits, and the lines of all blocks handed out stand behind the text
pub record Rests {M : Type 0} (empty : M) (columns : M → List ℕ) (op : M → M → M) (σ : Meaning M) (before : List ℕ) (m : Moment M) (text : List ℕ) : Type 0 where
  pub driven : Driven empty op σ m
  pub idle : waits (view m) ≡ false
  pub lines : text ≡ before ++ lines_upto empty columns op σ (view m).handed

-- at its end: all chunks were passed
pub record Ends {M : Type 0} (empty : M) (columns : M → List ℕ) (op : M → M → M) (σ : Meaning M) (before : List ℕ) (m : Moment M) (text : List ℕ) : Type 0 where
  pub rests : Rests empty columns op σ before m text
  pub whole : passed (view m) ≡ total_chunks σ.dims
