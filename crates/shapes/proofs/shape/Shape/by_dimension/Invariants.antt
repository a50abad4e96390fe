use Rattle.std.proofs.Common.{◌≡◌, ℕ, ◌<◌, ◌≤◌, slice_index, length}
use Rattle.shapes.specs.Arrays.{dim}
use Rattle.shapes.specs.Views.{dims_of}
use Rattle.shapes.proofs.shape.Shape.by_dimension.Given as goal

abbrev pub invariant-loop-i : goal.invariant-loop-i
invariant-loop-i g l =
    (length l.made ≡ 6)
    × ((k : ℕ) → k < l.i → goal.F-post g l.of (slice_index l.at k) (dim (dims_of l.self) k) (slice_index l.made k))
    × ((k : ℕ) → l.i ≤ k → slice_index l.made k ≡ 0)
