-- Which block a run hands out next, from counts by mask. Assumes nothing.
-- A scan goes by its dimensions, an order and a choice of parents; all groups are summarised.
use Rattle.std.specs.Prelude.{◌≡◌, ℕ, suc, ◌+◌, ◌*◌, ◌/◌, ◌^◌, ◌<◌, ◌≤◌, Bool, true, false, cond, ◌⊎◌, ◌↔◌, List, map, length, get_or, take, is_some, Some, None, Option, ◌==◌, nat_lt, slice_index, slice_index_or}
use Rattle.std.specs.List.{range_with_len}
use Rattle.shapes.specs.declared.dims.Dim.{Dim}
use Rattle.shapes.specs.Arrays.{Group, total_chunks, mask, group, groups}
use Rattle.shapes.specs.Views.{six}
use Rattle.cubes.specs.Handing.{Block, released, handing, named, tally, block_count}
use Rattle.cubes.specs.Control.{tree, next_from}
use Rattle.cubes.specs.Progress.{table_of, group_at, MaskWithin}
use Rattle.cubes.specs.Turns.{next_group}
use Rattle.runs.specs.declared.tree.Tree.{Tree}
use Rattle.runs.specs.declared.control.Control.{Control}
use Rattle.runs.specs.Trees.{Grown, node}

-- The counts by mask

abbrev pub handed_at : List ℕ → ℕ → ℕ
handed_at tb m = slice_index tb m

-- the counts of the groups of n dimensions
unfoldable pub counts_in : ℕ → List ℕ → List ℕ
counts_in n tb = map (handed_at tb) (range_with_len 0 (2 ^ n))

-- What is next, by masks

-- a group but the root waits while its parent's blocks make more of its blocks due than were handed out
abbrev pub waiting : Tree → List ℕ → ℕ → Bool
waiting tr tb m = nat_lt (handed_at tb m) ((handed_at tb (node tr m).up / (node tr m).period) * (node tr m).share)

-- whether a group waits: the root while fewer of its blocks were handed out than the t chunks passed
abbrev pub is_waiting : Tree → ℕ → List ℕ → ℕ → Bool
is_waiting tr t tb g = cond (g + 1 == 2 ^ tr.n) (nat_lt (handed_at tb g) t) (waiting tr tb g)

-- the first child of a group that waits, by rising mask
abbrev pub FirstChild : Tree → List ℕ → ℕ → Option ℕ → Type 0
FirstChild tr tb g None = (k : ℕ) → k < g → (node tr k).up ≡ g → waiting tr tb k ≡ false
FirstChild tr tb g (Some m) = (m < g) × ((node tr m).up ≡ g) × (waiting tr tb m ≡ true) × ((k : ℕ) → k < m → (node tr k).up ≡ g → waiting tr tb k ≡ false)

-- the first child of a group that waits, else the group if it waits
abbrev pub Here : Tree → ℕ → List ℕ → ℕ → Option ℕ → Type 0
Here tr t tb g None = FirstChild tr tb g None × (is_waiting tr t tb g ≡ false)
Here tr t tb g (Some m) = FirstChild tr tb g (Some m) ⊎ ((m ≡ g) × FirstChild tr tb g None × (is_waiting tr t tb g ≡ true))

-- what is next, seen from a group, after t chunks
unfoldable pub next_seen : List Dim → (ℕ → ℕ) → (Group → ℕ) → ℕ → List ℕ → ℕ → Option Group
next_seen ds place adds t tb m =
    next_from (tree ds place adds (groups (length ds))) t (suc (length ds)) (table_of (counts_in (length ds) tb)) (group (length ds) m)

abbrev pub Seen : Tree → ℕ → List ℕ → ℕ → Option ℕ → Type 0
Seen tr t tb g r = MaskWithin tr.n r × ((ds : List Dim) (place : ℕ → ℕ) (adds : Group → ℕ) → Grown ds place adds tr
    → group_at (length ds) r ≡ next_seen ds place adds t tb g)

-- The control of a run

-- each group's count is the number of its blocks among the first of the handing order, as many as were handed out; a chunk is passed where no block waits;
-- and which group is next
pub record Controls (ds : List Dim) (place : ℕ → ℕ) (adds : Group → ℕ) (c : Control) : Type 0 where
  pub grown : Grown ds place adds c.tree
  pub within : c.passed ≤ total_chunks ds
  pub since : (u : ℕ) → suc u ≡ c.passed → released ds place adds (groups (length ds)) u ≤ c.handed
  pub until : c.handed ≤ released ds place adds (groups (length ds)) c.passed
  pub tallies : (m : ℕ) → m < 2 ^ length ds
      → handed_at c.progress.counts m ≡ tally (take c.handed (handing ds place adds (groups (length ds)))) (group (length ds) m)
  pub idle : c.next ≡ None → c.handed ≡ released ds place adds (groups (length ds)) c.passed
  pub next_waits : (m : ℕ) → c.next ≡ Some m → c.handed < released ds place adds (groups (length ds)) c.passed
  pub next_of : (m : ℕ) → c.next ≡ Some m → mask (next_group ds place adds (groups (length ds)) c.handed) ≡ m

-- for some scan
pub record IsControlled (c : Control) : Type 0 where
  pub dims : List Dim
  pub place : ℕ → ℕ
  pub adds : Group → ℕ
  pub controls : Controls dims place adds c

-- what holds of the control for a scan holds of the control after a step
abbrev pub Keeps : Control → Control → Type 0
Keeps b a = (ds : List Dim) (place : ℕ → ℕ) (adds : Group → ℕ) → Controls ds place adds b → Controls ds place adds a

-- at the start
pub record Starts (tr : Tree) (c : Control) : Type 0 where
  pub same_tree : c.tree ≡ tr
  pub none_passed : c.passed ≡ 0
  pub none_handed : c.handed ≡ 0
  pub none_waits : c.next ≡ None
  pub controls : (ds : List Dim) (place : ℕ → ℕ) (adds : Group → ℕ) → Grown ds place adds tr → Controls ds place adds c

-- a chunk is passed
pub record Passes (b a : Control) : Type 0 where
  pub same_tree : a.tree ≡ b.tree
  pub one_passed : a.passed ≡ b.passed + 1
  pub same_handed : a.handed ≡ b.handed
  pub waits : is_some a.next ≡ true
  pub controls : Keeps b a

-- a block is handed out
pub record Advances (b a : Control) : Type 0 where
  pub same_tree : a.tree ≡ b.tree
  pub same_passed : a.passed ≡ b.passed
  pub one_handed : a.handed ≡ b.handed + 1
  pub controls : Keeps b a

-- a block waits while the chunks passed release more blocks than were handed out
abbrev pub WaitsExactly : Control → Bool → Type 0
WaitsExactly c r = (ds : List Dim) (place : ℕ → ℕ) (adds : Group → ℕ) → Controls ds place adds c
    → r ≡ nat_lt c.handed (released ds place adds (groups (length ds)) c.passed)

-- the block that is next is the one after those handed out in the handing order: of the group with mask m, at the chunk coordinates r, as six
abbrev pub NextAt : Control → ℕ → List ℕ → Type 0
NextAt c m r = (ds : List Dim) (place : ℕ → ℕ) (adds : Group → ℕ) → Controls ds place adds c → (b : Block)
    → ((get_or (handing ds place adds (groups (length ds))) c.handed b).of ≡ group (length ds) m)
    × (r ≡ six 0 (get_or (handing ds place adds (groups (length ds))) c.handed b).at)

-- the same by its mask and its block number; none, where all that was released was handed out
abbrev pub NamedNext : List Dim → (ℕ → ℕ) → (Group → ℕ) → Control → Option (ℕ × ℕ) → Type 0
NamedNext ds place adds c None = c.handed ≡ released ds place adds (groups (length ds)) c.passed
NamedNext ds place adds c (Some x) = (c.handed < released ds place adds (groups (length ds)) c.passed)
    × ((b : Block) → x ≡ named ds (slice_index_or (handing ds place adds (groups (length ds))) c.handed b))

abbrev pub NextBlock : Control → Option (ℕ × ℕ) → Type 0
NextBlock c r = (ds : List Dim) (place : ℕ → ℕ) (adds : Group → ℕ) → Controls ds place adds c → NamedNext ds place adds c r

-- done: all chunks were passed and all blocks were handed out; there is no other moment at which so many were
pub record DoneExactly (c : Control) (r : Bool) : Type 0 where
  pub when : (ds : List Dim) (place : ℕ → ℕ) (adds : Group → ℕ) → Controls ds place adds c
      → (r ≡ true) ↔ ((c.passed ≡ total_chunks ds) × (c.handed ≡ released ds place adds (groups (length ds)) c.passed))
  pub all : (ds : List Dim) (place : ℕ → ℕ) (adds : Group → ℕ) → Controls ds place adds c
      → (r ≡ true) ↔ (c.passed + c.handed ≡ total_chunks ds + block_count ds)
  pub fits : (ds : List Dim) (place : ℕ → ℕ) (adds : Group → ℕ) → Controls ds place adds c
      → (c.passed + c.handed ≤ total_chunks ds + block_count ds) × (total_chunks ds + block_count ds < 2 ^ 64)
