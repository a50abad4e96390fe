-- A run's progress as a program keeps it: the number of chunks passed, the number of blocks handed out, the mask of the group that is next, and a count for each mask. Assumes nothing.
use Rattle.std.specs.Prelude.{◌≡◌, ℕ, suc, ◌+◌, ◌-◌, ◌*◌, ◌/◌, ◌^◌, ◌<◌, ◌≤◌, Bool, true, false, ◌&&◌, ltb, ◌↔◌, List, length, get_or, take, replicate, Some, None, Option, ◌==◌, nat_lt, slice_index, slice_index_or, slice_set}
use Rattle.std.specs.List.{ContainsAt as Has}
use Rattle.shapes.specs.declared.dims.Dim.{Dim}
use Rattle.shapes.specs.Arrays.{Group, product, radix, counts, total_chunks, mask, group, groups}
use Rattle.cubes.specs.Scans.{scan_digits}
use Rattle.cubes.specs.Handing.{Block, parent, child, children, released, handing, tally}
use Rattle.cubes.specs.Control.{Numbered, Table, tree, waits, first, next_step, next_from, Reached}

-- a table from a list of counts by mask
abbrev pub table_of : List ℕ → Table
table_of cs h = slice_index cs (mask h)

-- the group that is next, of its mask
abbrev pub group_at : ℕ → Option ℕ → Option Group
group_at n None = None
group_at n (Some m) = Some (group n m)

-- the counts of a program after t chunks and k blocks: a state with them is reached
pub record Progress (ds : List Dim) (place : ℕ → ℕ) (adds : Group → ℕ) (all : List Group) (t k : ℕ) (at : Option ℕ) (cs : List ℕ) : Type 0 where
  pub sequence : List Numbered
  pub table : Table
  pub reached : Reached ds place adds all sequence t (group_at (length ds) at) table
  pub handed : length sequence ≡ k
  pub counted : (h : Group) → length h ≡ length ds → table h ≡ table_of cs h
  pub all_counts : length cs ≡ 2 ^ length ds

-- what a program goes by
pub record ProgressLaws (ds : List Dim) (place : ℕ → ℕ) (adds : Group → ℕ) (all : List Group) : Type 0 where
  pub start : Progress ds place adds all 0 0 None (replicate (2 ^ length ds) 0)
  -- a chunk is passed where no block waits: the root is next
  pub pass : (t k : ℕ) (cs : List ℕ) → Progress ds place adds all t k None cs → Progress ds place adds all (suc t) k (Some (2 ^ length ds - 1)) cs
  -- a block is handed out: one more is counted, and what is next is seen from its group
  pub hand : (t k m : ℕ) (cs : List ℕ) (at : Option ℕ) → m < 2 ^ length ds → Progress ds place adds all t k (Some m) cs
      → group_at (length ds) at ≡ next_from (tree ds place adds all) t (suc (length ds)) (table_of (slice_set cs m (suc (slice_index cs m)))) (group (length ds) m)
      → Progress ds place adds all t (suc k) at (slice_set cs m (suc (slice_index cs m)))
  -- the next block of the group that is next is the next in the handing order
  pub next : (t k m : ℕ) (cs : List ℕ) → m < 2 ^ length ds → t ≤ total_chunks ds → Progress ds place adds all t k (Some m) cs → (b : Block)
      → slice_index_or (handing ds place adds all) k b ≡ record { of = group (length ds) m; at = scan_digits place (radix (group (length ds) m) (counts ds)) (slice_index cs m) }
  pub next_is : (t k m : ℕ) (cs : List ℕ) → m < 2 ^ length ds → t ≤ total_chunks ds → Progress ds place adds all t k (Some m) cs
      → Has all (group (length ds) m) × (slice_index cs m < product (radix (group (length ds) m) (counts ds)))
  -- a block waits while the chunks passed release more than was handed out
  pub some_wait : (t k m : ℕ) (cs : List ℕ) → t ≤ total_chunks ds → Progress ds place adds all t k (Some m) cs → k < released ds place adds all t
  pub none_waits : (t k : ℕ) (cs : List ℕ) → t ≤ total_chunks ds → Progress ds place adds all t k None cs → released ds place adds all t ≡ k

-- the tree by masks: the mask of the parent has the bit of the dimension added
pub record MaskTree (ds : List Dim) (place : ℕ → ℕ) (adds : Group → ℕ) (all : List Group) : Type 0 where
  pub parent_mask : (m : ℕ) → m + 1 < 2 ^ length ds → Has all (group (length ds) m)
      → (m + 2 ^ adds (group (length ds) m) < 2 ^ length ds) × (parent adds (group (length ds) m) ≡ group (length ds) (m + 2 ^ adds (group (length ds) m)))
  pub child_mask : (p m : ℕ) → p < 2 ^ length ds → m + 1 < 2 ^ length ds → Has all (group (length ds) m)
      → child adds (group (length ds) p) (group (length ds) m) ≡ (m + 2 ^ adds (group (length ds) m) == p)
  -- the root is no child
  pub root_mask : (p m : ℕ) → m + 1 ≡ 2 ^ length ds → child adds (group (length ds) p) (group (length ds) m) ≡ false
  -- which groups wait
  pub waits_mask : (t m : ℕ) (cs : List ℕ) → m + 1 < 2 ^ length ds → Has all (group (length ds) m)
      → waits (tree ds place adds all) t (table_of cs) (group (length ds) m)
      ≡ ltb (slice_index cs m) ((slice_index cs (m + 2 ^ adds (group (length ds) m)) / (tree ds place adds all).period (group (length ds) m)) * (tree ds place adds all).share
      (group (length ds) m))
  pub waits_root : (t m : ℕ) (cs : List ℕ) → m + 1 ≡ 2 ^ length ds → waits (tree ds place adds all) t (table_of cs) (group (length ds) m) ≡ nat_lt (slice_index cs m) t
  -- what is next, seen from a group
  pub seen_from : (t m : ℕ) (d : Table) → Has all (group (length ds) m)
      → next_from (tree ds place adds all) t (suc (length ds)) d (group (length ds) m)
      ≡ next_step (tree ds place adds all) t d (next_from (tree ds place adds all) t (suc (length ds)) d (parent adds (group (length ds) m))) (group (length ds) m)
  pub not_root : (m : ℕ) → m + 1 < 2 ^ length ds → (tree ds place adds all).is_root (group (length ds) m) ≡ false
  pub is_root : (m : ℕ) → m + 1 ≡ 2 ^ length ds → (tree ds place adds all).is_root (group (length ds) m) ≡ true

-- the first child that passes a test, of all groups: the lowest mask of a child that passes, if there is one
pub record FirstByMask (n : ℕ) (adds : Group → ℕ) : Type 0 where
  pub hit : (g : Group) (p : Group → Bool) (m : ℕ) → m < 2 ^ n → ((k : ℕ) → k < m → (child adds g (group n k) && p (group n k)) ≡ false)
      → (child adds g (group n m) && p (group n m)) ≡ true → first p (children adds (groups n) g) ≡ Some (group n m)
  pub miss : (g : Group) (p : Group → Bool) → ((k : ℕ) → k < 2 ^ n → (child adds g (group n k) && p (group n k)) ≡ false) → first p (children adds (groups n) g)
      ≡ None

-- The same in the words of the handing order

-- which group is next: that of the next block of the handing order, while the chunks passed release more blocks than were handed out
abbrev pub IsNext : List Dim → (ℕ → ℕ) → (Group → ℕ) → List Group → ℕ → ℕ → Option ℕ → Type 0
IsNext ds place adds all t k None = k ≡ released ds place adds all t
IsNext ds place adds all t k (Some m) =
    (m < 2 ^ length ds) × (k < released ds place adds all t) × ((b : Block) → (get_or (handing ds place adds all) k b).of ≡ group (length ds) m)

-- each group's count is the number of its blocks among the first k of the handing order; a chunk is passed where no block waits
pub record Counted (ds : List Dim) (place : ℕ → ℕ) (adds : Group → ℕ) (all : List Group) (t k : ℕ) (at : Option ℕ) (cs : List ℕ) : Type 0 where
  pub within : t ≤ total_chunks ds
  pub since : (u : ℕ) → suc u ≡ t → released ds place adds all u ≤ k
  pub until : k ≤ released ds place adds all t
  pub tallies : (m : ℕ) → m < 2 ^ length ds → slice_index cs m ≡ tally (take k (handing ds place adds all)) (group (length ds) m)
  pub all_counts : length cs ≡ 2 ^ length ds
  pub next : IsNext ds place adds all t k at

-- the mask of the group that is next is a mask
abbrev pub MaskWithin : ℕ → Option ℕ → Type 0
MaskWithin n None = Unit {0}
MaskWithin n (Some m) = m < 2 ^ n

-- a program's progress is what the handing order says
abbrev pub ProgressIsCounted : List Dim → (ℕ → ℕ) → (Group → ℕ) → List Group → Type 0
ProgressIsCounted ds place adds all = (t k : ℕ) (at : Option ℕ) (cs : List ℕ)
    → ((t ≤ total_chunks ds) × MaskWithin (length ds) at × Progress ds place adds all t k at cs) ↔ Counted ds place adds all t k at cs
