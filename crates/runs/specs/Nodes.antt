-- The nodes of the groups, by mask. Assumes nothing.
use Rattle.std.specs.Prelude.{ℕ, ◌+◌, ◌^◌, ◌<◌, ◌≤◌, List, slice_index_or}
use Rattle.runs.specs.declared.tree.Node.{Node}

abbrev pub no_node : Node
no_node = record { up = 0; period = 0; share = 0 }

-- of n dimensions each group but the root has a parent of higher mask, and of the parent's blocks at least as many complete a region as the region has blocks
abbrev pub Climbs : ℕ → List Node → Type 0
Climbs n nodes = (m : ℕ) → m + 1 < 2 ^ n
    → (m < (slice_index_or nodes m no_node).up) × ((slice_index_or nodes m no_node).up < 2 ^ n)
    × (0 < (slice_index_or nodes m no_node).period) × ((slice_index_or nodes m no_node).share ≤ (slice_index_or nodes m no_node).period)
