-- What the cells of a live run hold. Assumes nothing.
-- The planned cells are the first of the lent ones, as many as the need. Each region stands somewhere among them: where, the run's own table tells.
use Rattle.std.specs.Prelude.{◌≡◌, ℕ, ◌+◌, ◌-◌, ◌^◌, ◌<◌, ◌≤◌, true, false, cond, ◌⊎◌, List, ◌++◌, length, drop, replicate, ◌≢◌, nat_le, slice_index, slice_index_or}
use Rattle.shapes.specs.declared.dims.Dim.{Dim}
use Rattle.shapes.specs.Arrays.{Below, volume, sizes, chunk_of, group, groups, root}
use Rattle.shapes.specs.Views.{dims_of}
use Rattle.sources.specs.Meanings.{Meaning}
use Rattle.cubes.specs.Summaries.{direct}
use Rattle.cubes.specs.BetweenHands.{AtTurn, region_holds}
use Rattle.runs.specs.declared.state.State.{State}
use Rattle.runs.specs.declared.run.Run.{Run}
use Rattle.runs.specs.Layouts.{mask_cells, cell_number, lacked_place}
use Rattle.runs.specs.Planned.{places_of, adds_of, need_of, scanned_chunk}
use Rattle.runs.specs.Answers.{View, passed, waits}

-- a run at a moment: what it keeps, and its cells
pub record Moment (M : Type 0) : Type 0 where
  pub state : State
  pub cells : List M

abbrev pub moment_of : {M : Type 0} → State → List M → Moment M
moment_of s xs = record { state = s; cells = xs }

abbrev pub moment : {M : Type 0} → Run M → Moment M
moment r = moment_of r.state r.cells.now

abbrev pub dims_in : {M : Type 0} → Moment M → List Dim
dims_in m = dims_of m.state.shape

-- what its user knows of it
abbrev pub state_view : State → ℕ → View
state_view s lent = record { dims = dims_of s.shape; lent = lent; taken = s.taken; skipped = s.skipped; handed = s.control.handed }

abbrev pub view : {M : Type 0} → Moment M → View
view m = state_view m.state (length m.cells)

-- the first n cells emptied, where there are so many; else all as they were
abbrev pub first_emptied : {M : Type 0} → M → ℕ → List M → List M
first_emptied empty n xs = cond (nat_le n (length xs)) (replicate n empty ++ drop n xs) xs

-- the planned cells emptied, where enough were lent
abbrev pub planned_emptied : {M : Type 0} → M → List Dim → List M → List M
planned_emptied empty ds xs = first_emptied empty (need_of ds) xs

-- Regions: that of the group with mask k begins at its start, and has as many cells as the plan counts for the group

abbrev pub region_start : State → ℕ → ℕ
region_start s k = slice_index s.regions.bases k

abbrev pub region_size : List Dim → ℕ → ℕ
region_size ds k = mask_cells ds (places_of ds) (adds_of ds) k

-- where the cell x of that group stands: by its coordinates
abbrev pub cell_place : State → ℕ → List ℕ → ℕ
cell_place s k x =
    region_start s k + cell_number (dims_of s.shape) (places_of (dims_of s.shape)) (group (length (dims_of s.shape)) k)
    (lacked_place (dims_of s.shape) (places_of (dims_of s.shape)) (adds_of (dims_of s.shape)) k) x

abbrev pub root_mask : List Dim → ℕ
root_mask ds = 2 ^ length ds - 1

-- the root's region is empty: it has V cells
abbrev pub RootEmpty : {M : Type 0} → M → Moment M → Type 0
RootEmpty empty m = (q : ℕ) → region_start m.state (root_mask (dims_in m)) ≤ q → q < region_start m.state (root_mask (dims_in m)) + volume (dims_in m)
    → slice_index_or m.cells q empty ≡ empty

-- no cell outside the root's region differs
abbrev pub OthersStay : {M : Type 0} → M → Moment M → Moment M → Type 0
OthersStay empty b a = (q : ℕ)
    → (q < region_start b.state (root_mask (dims_in b))) ⊎ (region_start b.state (root_mask (dims_in b)) + volume (dims_in b) ≤ q)
    → slice_index_or a.cells q empty ≡ slice_index_or b.cells q empty

-- where enough cells were lent and no block waits, the root's region is empty
abbrev pub Clean : {M : Type 0} → M → Moment M → Type 0
Clean empty m = need_of (dims_in m) ≤ length m.cells → waits (view m) ≡ false → RootEmpty empty m

-- The cells hold what they must over a meaning: each region stands within the need and apart from the others; the region of a group that is at its turn
-- holds what the blocks of its parent handed out so far contribute; the root's holds the chunk passed last until all that it releases was handed out, and is
-- empty then.
pub record Represents {M : Type 0} (empty : M) (op : M → M → M) (σ : Meaning M) (m : Moment M) : Type 0 where
  pub same_shape : σ.dims ≡ dims_in m
  pub enough : need_of (dims_in m) ≤ length m.cells
  pub inside : (k : ℕ) → k < 2 ^ length (dims_in m) → region_start m.state k + region_size (dims_in m) k ≤ need_of (dims_in m)
  pub apart : (j k : ℕ) → j < 2 ^ length (dims_in m) → k < 2 ^ length (dims_in m) → (j ≢ k)
      → (region_start m.state j + region_size (dims_in m) j ≤ region_start m.state k) ⊎ (region_start m.state k + region_size (dims_in m) k ≤ region_start m.state j)
  pub held : (k : ℕ) → k + 1 < 2 ^ length (dims_in m) → (x : List ℕ) → Below (sizes (dims_in m)) x
      → AtTurn (dims_in m) (places_of (dims_in m)) (adds_of (dims_in m)) (groups (length (dims_in m))) (group (length (dims_in m)) k) m.state.control.handed x
      → slice_index_or m.cells (cell_place m.state k x) empty
      ≡ region_holds empty op σ (places_of (dims_in m)) (adds_of (dims_in m)) (groups (length (dims_in m))) (group (length (dims_in m)) k) m.state.control.handed x
  pub chunk_held : waits (view m) ≡ true → (x : List ℕ) → Below (sizes (dims_in m)) x → chunk_of (dims_in m) x ≡ scanned_chunk (dims_in m) (passed (view m) - 1)
      → slice_index_or m.cells (cell_place m.state (root_mask (dims_in m)) x) empty ≡ direct empty op σ (root (length (dims_in m))) x
  pub chunk_gone : waits (view m) ≡ false → RootEmpty empty m
