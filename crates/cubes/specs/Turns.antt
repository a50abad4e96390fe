-- Which region of a group is at its turn between two hands. Assumes nothing.
use Rattle.std.specs.Prelude.{◌≡◌, ℕ, zero, suc, ◌+◌, ◌-◌, ◌*◌, ◌/◌, ◌<◌, ◌≤◌, Bool, false, cond, not, ◌&&◌, ◌||◌, List, [], length, take, slice_index_or}
use Rattle.shapes.specs.declared.dims.Dim.{Dim}
use Rattle.shapes.specs.Arrays.{Group, chunks, dim}
use Rattle.cubes.specs.Handing.{same_group, lacks, parent, region_blocks, handing, tally}

-- the group z stands below h: h is its parent, or its parent stands below h; it is enough to look up as many levels as there are
abbrev pub stands_below : (Group → ℕ) → ℕ → Group → Group → Bool
stands_below adds zero z h = false
stands_below adds (suc levels) z h = lacks z (adds z) && (same_group (parent adds z) h || stands_below adds levels (parent adds z) h)

-- how many blocks of a group are among the first i that are handed out
abbrev pub handed_of : List Dim → (ℕ → ℕ) → (Group → ℕ) → List Group → Group → ℕ → ℕ
handed_of ds place adds all h i = tally (take i (handing ds place adds all)) h

-- the group of the block that comes after the first i
abbrev pub next_group : List Dim → (ℕ → ℕ) → (Group → ℕ) → List Group → ℕ → Group
next_group ds place adds all i = (slice_index_or (handing ds place adds all) i (record { of = []; at = [] })).of

-- how many blocks of h are over after the first i: they were handed out, and all that they release; the last one's release goes on while the next block is of a group below h
abbrev pub blocks_over : List Dim → (ℕ → ℕ) → (Group → ℕ) → List Group → Group → ℕ → ℕ
blocks_over ds place adds all h i = handed_of ds place adds all h i - cond (stands_below adds (length ds) (next_group ds place adds all i) h) 1 0

-- how many regions of h are over: the next is at its turn
abbrev pub regions_over : List Dim → (ℕ → ℕ) → (Group → ℕ) → List Group → Group → ℕ → ℕ
regions_over ds place adds all h i = blocks_over ds place adds all h i / region_blocks ds place adds h

-- the blocks of h's parent that go into one region of h
abbrev pub parent_blocks : List Dim → (ℕ → ℕ) → (Group → ℕ) → Group → ℕ
parent_blocks ds place adds h = region_blocks ds place adds h * chunks (dim ds (adds h))

-- a block of the group k is of the release of h: k is h or stands below it
abbrev pub in_release : List Dim → (Group → ℕ) → Group → Group → Bool
in_release ds adds h k = same_group k h || stands_below adds (length ds) k h

-- the regions of a group h have their turns one after another
pub record Turns (ds : List Dim) (place : ℕ → ℕ) (adds : Group → ℕ) (all : List Group) (h : Group) : Type 0 where
  pub start : regions_over ds place adds all h 0 ≡ 0
  -- of the parent's blocks all that go into the regions before were handed out, and none that go into those after
  pub between : (i : ℕ) → (regions_over ds place adds all h i * parent_blocks ds place adds h ≤ handed_of ds place adds all (parent adds h) i)
      × (handed_of ds place adds all (parent adds h) i ≤ (regions_over ds place adds all h i + 1) * parent_blocks ds place adds h)
  -- a block of h that is handed out is of the region that is at its turn, and of the parent's blocks all that go into it were handed out
  pub own : (i : ℕ) → i < length (handing ds place adds all) → next_group ds place adds all i ≡ h
      → (handed_of ds place adds all h i / region_blocks ds place adds h ≡ regions_over ds place adds all h i)
      × (handed_of ds place adds all (parent adds h) i ≡ (regions_over ds place adds all h i + 1) * parent_blocks ds place adds h)
  -- a block of the parent that is handed out goes into the region that is at its turn, which stays
  pub joined : (i : ℕ) → i < length (handing ds place adds all) → next_group ds place adds all i ≡ parent adds h
      → (handed_of ds place adds all (parent adds h) i / parent_blocks ds place adds h ≡ regions_over ds place adds all h i)
      × (regions_over ds place adds all h (i + 1) ≡ regions_over ds place adds all h i)
  -- the turn ends with the last block of the region's release, and only then
  pub ends : (i : ℕ) → i < length (handing ds place adds all)
      → regions_over ds place adds all h (i + 1)
      ≡ regions_over ds place adds all h i + cond
      (in_release ds adds h (next_group ds place adds all i) && not (in_release ds adds h (next_group ds place adds all (i + 1)))) 1 0
