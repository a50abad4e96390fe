use Rattle.std.proofs.Common.{◌-◌, ◌^◌, ◌<◌, length}
use Rattle.shapes.specs.Views.{dims_of}
use Rattle.runs.proofs.ReleasesOver.{EmptiedBelow}
use Rattle.runs.proofs.emptying.empty_over.Given as goal

abbrev pub invariant-climb : goal.invariant-climb
invariant-climb g l = (l.mask < 2 ^ length (dims_of l.state.shape))
    × EmptiedBelow g.M.Measure.empty (dims_of l.state.shape) l.from l.state.control.next l.mask l.initial.cells l.cells

abbrev pub decreases-climb : goal.decreases-climb
decreases-climb g l = 2 ^ length (dims_of l.state.shape) - l.mask
