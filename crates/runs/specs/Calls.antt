-- What each call of a run does, on every input: its answer, what the run and its cells are afterwards, and what the buffer is. Assumes nothing.
use Rattle.std.specs.Prelude.{◌≡◌, ℕ, ◌≤◌, Bool, true, false, cond, List, ◌++◌, length, drop, is_ok, Result}
use Rattle.shapes.specs.declared.dims.Dim.{Dim}
use Rattle.sources.specs.Meanings.{Meaning}
use Rattle.cubes.specs.Meanings.{is_readable}
use Rattle.cubes.specs.Summaries.{block}
use Rattle.cubes.specs.Handing.{Block}
use Rattle.runs.specs.declared.refusals.RunRefusal.{RunRefusal}
use Rattle.runs.specs.Planned.{need_of, scanned_storage, block_after, block_size}
use Rattle.runs.specs.Answers.{passed, next_chunk, take_answer, skip_answer, hand_answer, one_taken, one_skipped, one_handed, fresh_view}
use Rattle.runs.specs.Holdings.{Moment, dims_in, view, planned_emptied, OthersStay, Clean, Represents}

-- the cells past the need are as they were
abbrev pub PastStay : {M : Type 0} → Moment M → Moment M → Type 0
PastStay b a = drop (need_of (dims_in b)) a.cells ≡ drop (need_of (dims_in b)) b.cells

-- the block that is next
abbrev pub next_block : {M : Type 0} → Moment M → Block
next_block m = block_after (dims_in m) m.state.control.handed

-- A run is made over cells: nothing was passed or handed out; the planned cells are empty, over too few cells none was touched; every meaning is represented
pub record Makes {M : Type 0} (empty : M) (op : M → M → M) (ds : List Dim) (cells : List M) (r : Moment M) : Type 0 where
  pub begins : view r ≡ fresh_view ds (length cells)
  pub emptied : r.cells ≡ planned_emptied empty ds cells
  pub clean : Clean empty r
  pub represents : need_of ds ≤ length cells → (σ : Meaning M) → σ.dims ≡ ds → Represents empty op σ r

-- What take and skip leave. Refused, the run is as it was, and so are its cells where the chunk was not fetched; where it was, they are if the run was clean.
-- At most the root's region changes.
pub record Fetches {M : Type 0} (empty : M) (ds : List Dim) (b : Moment M) (accepted : Bool) (a : Moment M) : Type 0 where
  pub state_stays : accepted ≡ false → a.state ≡ b.state
  pub unfetched : is_ok (next_chunk (view b) ds) ≡ false → a.cells ≡ b.cells
  pub cells_stay : accepted ≡ false → Clean empty b → a.cells ≡ b.cells
  pub others_stay : OthersStay empty b a
  pub past_stay : PastStay b a
  pub clean : Clean empty b → Clean empty a

-- Take, over a source that means σ: afterwards each meaning is represented that was, and that has the chunk taken as σ has it
pub record Takes {M : Type 0} (empty : M) (op : M → M → M) (σ : Meaning M) (b : Moment M) (r : Result (Unit {0}) RunRefusal) (a : Moment M) : Type 0 where
  pub answers : r ≡ take_answer σ (view b)
  pub counts : view a ≡ cond (is_ok r) (one_taken (view b)) (view b)
  pub fetches : Fetches empty σ.dims b (is_ok r) a
  pub represents : (τ : Meaning M)
      → (is_ok r ≡ true → τ.chunk (scanned_storage (dims_in b) (passed (view b))) ≡ σ.chunk (scanned_storage (dims_in b) (passed (view b))))
      → Represents empty op τ b → Represents empty op τ a

-- Skip: afterwards each meaning is represented that was, and in which the chunk skipped can't be read
pub record Skips {M : Type 0} (empty : M) (op : M → M → M) (σ : Meaning M) (b : Moment M) (r : Result (Unit {0}) RunRefusal) (a : Moment M) : Type 0 where
  pub answers : r ≡ skip_answer σ (view b)
  pub counts : view a ≡ cond (is_ok r) (one_skipped (view b)) (view b)
  pub fetches : Fetches empty σ.dims b (is_ok r) a
  pub represents : (τ : Meaning M) → (is_ok r ≡ true → is_readable (τ.chunk (scanned_storage (dims_in b) (passed (view b)))) ≡ false)
      → Represents empty op τ b → Represents empty op τ a

-- Hand, into a buffer that holds `old` before and `new` after: the block that is next, by offset, its direct summaries over every meaning that is
-- represented; the buffer's rest stays; afterwards each meaning is represented that was
pub record Hands {M : Type 0} (empty : M) (op : M → M → M) (b : Moment M) (old : List M) (r : Result (ℕ × ℕ × ℕ) RunRefusal) (new : List M) (a : Moment M) : Type 0 where
  pub answers : r ≡ hand_answer (view b) (length old)
  pub counts : view a ≡ cond (is_ok r) (one_handed (view b)) (view b)
  pub refused : is_ok r ≡ false → (a ≡ b) × (new ≡ old)
  pub wrote : is_ok r ≡ true → (σ : Meaning M) → Represents empty op σ b
      → new ≡ block empty op σ (next_block b).of (next_block b).at ++ drop (block_size (dims_in b) (next_block b)) old
  pub rest_stays : (length new ≡ length old) × (drop (block_size (dims_in b) (next_block b)) new ≡ drop (block_size (dims_in b) (next_block b)) old)
  pub past_stay : PastStay b a
  pub clean : Clean empty b → Clean empty a
  pub represents : (σ : Meaning M) → Represents empty op σ b → Represents empty op σ a
