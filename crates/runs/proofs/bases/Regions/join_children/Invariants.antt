use Rattle.std.proofs.Common.{◌≡◌}
use Rattle.runs.specs.Standing.{all_joined}
use Rattle.runs.proofs.bases.Regions.join_children.Given as goal

abbrev pub invariant-loop-e : goal.invariant-loop-e
invariant-loop-e g l = l.cells ≡ all_joined g.M.Measure.empty g.M.Measure.op l.initial.cells l.self l.mask l.block l.e
