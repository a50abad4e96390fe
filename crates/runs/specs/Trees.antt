-- The tree of groups as a program keeps it. Assumes nothing.
use Rattle.std.specs.Prelude.{◌≡◌, ℕ, ◌+◌, ◌^◌, ◌<◌, List, length, slice_index, slice_index_or}
use Rattle.shapes.specs.declared.dims.Dim.{Dim}
use Rattle.shapes.specs.Arrays.{Group, counts, total_chunks, group, groups, mask, radix, number, Below}
use Rattle.shapes.specs.Limits.{Limits}
use Rattle.shapes.specs.Views.{six}
use Rattle.plans.specs.Plans.{Order, Parents}
use Rattle.plans.specs.Views.{place_in}
use Rattle.cubes.specs.Scans.{width, scan_digits}
use Rattle.cubes.specs.Control.{tree}
use Rattle.runs.specs.declared.tree.Node.{Node}
use Rattle.runs.specs.declared.tree.Tree.{Tree}
use Rattle.runs.specs.Nodes.{no_node}

-- the dimension that a group's parent adds, from a table by mask
abbrev pub adds_in : List ℕ → Group → ℕ
adds_in adds g = slice_index adds (mask g)

abbrev pub node : Tree → ℕ → Node
node tr m = slice_index_or tr.nodes m no_node

-- the node of the group with mask m, whose parent adds the dimension e: from six chunk counts, 1 past the last dimension
abbrev pub node_of : List ℕ → List ℕ → ℕ → ℕ → Node
node_of chunks places m e = record {
  up = m + 2 ^ e;
  period = width (place_in places) (radix (group 6 (m + 2 ^ e)) chunks) (place_in places e + 1);
  share = width (place_in places) (radix (group 6 m) chunks) (place_in places e + 1);
}

-- the tree of a scan of all groups, for an order and a choice of parents
pub record Grown (ds : List Dim) (place : ℕ → ℕ) (adds : Group → ℕ) (tr : Tree) : Type 0 where
  pub limits : Limits ds
  pub order : Order ds place
  pub parents : Parents ds adds
  pub dimensions : tr.n ≡ length ds
  pub total : tr.total ≡ total_chunks ds
  pub chunks : tr.chunks.each ≡ six 1 (counts ds)
  pub places : (i : ℕ) → i < length ds → place_in tr.places i ≡ place i
  pub added : (m : ℕ) → m + 1 < 2 ^ length ds → slice_index tr.adds m ≡ adds (group (length ds) m)
  pub ups : (m : ℕ) → m + 1 < 2 ^ length ds → (node tr m).up ≡ m + 2 ^ adds (group (length ds) m)
  pub periods : (m : ℕ) → m + 1 < 2 ^ length ds → (node tr m).period ≡ (tree ds place adds (groups (length ds))).period (group (length ds) m)
  pub shares : (m : ℕ) → m + 1 < 2 ^ length ds → (node tr m).share ≡ (tree ds place adds (groups (length ds))).share (group (length ds) m)

-- a tree of some scan
pub record IsGrown (tr : Tree) : Type 0 where
  pub dims : List Dim
  pub place : ℕ → ℕ
  pub adds : Group → ℕ
  pub grown : Grown dims place adds tr

-- the chunk coordinates, as six, of the block of the group with mask m that has the number s in the group's scan order
abbrev pub CoordinatesOf : Tree → ℕ → ℕ → List ℕ → Type 0
CoordinatesOf tr m s r = (ds : List Dim) (place : ℕ → ℕ) (adds : Group → ℕ) → Grown ds place adds tr
    → r ≡ six 0 (scan_digits place (radix (group (length ds) m) (counts ds)) s)

-- the number of the block of the group with mask m that has these chunk coordinates, as six
abbrev pub NumberOf : Tree → ℕ → List ℕ → ℕ → Type 0
NumberOf tr m xs r = (ds : List Dim) (place : ℕ → ℕ) (adds : Group → ℕ) → Grown ds place adds tr
    → (cs : List ℕ) → Below (radix (group (length ds) m) (counts ds)) cs → xs ≡ six 0 cs → r ≡ number (radix (group (length ds) m) (counts ds)) cs
