use Rattle.std.proofs.Common.{◌≡◌, ℕ, ◌<◌, length, get_or}
use Rattle.runs.specs.Nodes.{no_node}
use Rattle.runs.specs.Trees.{node_of}
use Rattle.runs.proofs.tree.Tree.of.Given as goal

abbrev pub invariant-loop-mask : goal.invariant-loop-mask
invariant-loop-mask l = (length l.nodes ≡ 64) × ((k : ℕ) → k < l.mask → get_or l.nodes k no_node ≡ node_of l.chunks.each l.places k (get_or l.adds k 0))
