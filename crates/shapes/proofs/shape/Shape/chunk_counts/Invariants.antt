use Rattle.std.proofs.Common.{◌≡◌, take}
use Rattle.shapes.specs.Arrays.{counts}
use Rattle.shapes.specs.Views.{dims_of, six}
use Rattle.shapes.proofs.shape.Shape.chunk_counts.Given as goal

abbrev pub invariant-loop-i : goal.invariant-loop-i
invariant-loop-i l = l.counts ≡ six 1 (take l.i (counts (dims_of l.self)))
