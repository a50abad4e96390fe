-- Which regions are emptied when a block is handed out: those whose release is over. Assumes nothing.
use Rattle.std.specs.Prelude.{◌≡◌, ℕ, ◌^◌, ◌<◌, ◌≤◌, Bool, true, false, not, ◌&&◌, List, length, Some, None, Option, ◌≢◌, slice_index_or}
use Rattle.shapes.specs.declared.dims.Dim.{Dim}
use Rattle.shapes.specs.Arrays.{Group, group}
use Rattle.cubes.specs.Turns.{in_release}
use Rattle.runs.specs.declared.state.State.{State}
use Rattle.runs.specs.declared.tree.Tree.{Tree}
use Rattle.runs.specs.declared.steps.NextBlock.{NextBlock}
use Rattle.runs.specs.Trees.{Grown}
use Rattle.runs.specs.Grids.{block_cells}
use Rattle.runs.specs.Standing.{all_joined, region_in}
use Rattle.runs.specs.Contents.{SameRegion, EmptyRegion}
use Rattle.runs.specs.Planned.{places_of, adds_of, need_of}
use Rattle.runs.specs.Holdings.{Moment, dims_in}
use Rattle.runs.specs.Steps.{HandsOn}

-- Releases by masks

-- a block of the mask j is of the release of the mask k: k is j, or stands above it
unfoldable pub of_release : List Dim → (Group → ℕ) → ℕ → ℕ → Bool
of_release ds adds k j = in_release ds adds (group (length ds) k) (group (length ds) j)

-- the block that is next is of the release of the mask k
abbrev pub next_of_release : List Dim → (Group → ℕ) → ℕ → Option ℕ → Bool
next_of_release ds adds k None = false
next_of_release ds adds k (Some m) = of_release ds adds k m

-- a block of the mask j was the last of the release of the mask k
abbrev pub release_over : List Dim → (Group → ℕ) → ℕ → Option ℕ → ℕ → Bool
release_over ds adds j next k = of_release ds adds k j && not (next_of_release ds adds k next)

-- the same of a tree that was made for some scan
abbrev pub IsUnder : Tree → ℕ → ℕ → Bool → Type 0
IsUnder tr below above r = (ds : List Dim) (place : ℕ → ℕ) (adds : Group → ℕ) → Grown ds place adds tr → r ≡ of_release ds adds above below

-- the region of the mask j is empty, and nothing else changed
pub record EmptiedMask {M : Type 0} (empty : M) (ds : List Dim) (j : ℕ) (before after : List M) : Type 0 where
  pub own : EmptyRegion empty ds (places_of ds) (adds_of ds) j after
  pub others : (k : ℕ) → k < 2 ^ length ds → (j ≢ k) → SameRegion empty ds (places_of ds) (adds_of ds) k before after
  pub past : (q : ℕ) → need_of ds ≤ q → slice_index_or after q empty ≡ slice_index_or before q empty
  pub long : length after ≡ length before

-- after a block of the mask j, with what is next then: the regions whose release is over are empty, and nothing else changed
pub record EmptiedOver {M : Type 0} (empty : M) (ds : List Dim) (j : ℕ) (next : Option ℕ) (before after : List M) : Type 0 where
  pub over : (k : ℕ) → k < 2 ^ length ds → release_over ds (adds_of ds) j next k ≡ true → EmptyRegion empty ds (places_of ds) (adds_of ds) k after
  pub others : (k : ℕ) → k < 2 ^ length ds → release_over ds (adds_of ds) j next k ≡ false → SameRegion empty ds (places_of ds) (adds_of ds) k before after
  pub past : (q : ℕ) → need_of ds ≤ q → slice_index_or after q empty ≡ slice_index_or before q empty
  pub long : length after ≡ length before

-- the cells of the block x in its region, by offset
abbrev pub block_in : {M : Type 0} → M → List M → State → NextBlock → List M
block_in empty cells s x =
    block_cells empty cells s.regions.layout (region_in s.regions x.mask) x.at

-- the cells after the block x, which is next, is joined into the regions of all children
abbrev pub joined_on : {M : Type 0} → M → (M → M → M) → Moment M → NextBlock → List M
joined_on empty op b x =
    all_joined empty op b.cells b.state.regions x.mask x.at 6

-- the block x is handed out: it is joined into the regions of all children, the state goes on, and the regions whose release is over are emptied
pub record PassesBlock {M : Type 0} (empty : M) (op : M → M → M) (b : Moment M) (x : NextBlock) (a : Moment M) : Type 0 where
  pub goes_on : HandsOn b.state a.state
  pub emptied : EmptiedOver empty (dims_in b) x.mask a.state.control.next (joined_on empty op b x) a.cells
