use Rattle.std.proofs.Common.{◌≡◌, drop}
use Rattle.shapes.specs.Limits.{dims_fault}
use Rattle.shapes.proofs.checks.check_dims.Given as goal

abbrev pub invariant-loop-i : goal.invariant-loop-i
invariant-loop-i l = dims_fault l.i (drop l.i l.dims) ≡ dims_fault 0 l.dims
