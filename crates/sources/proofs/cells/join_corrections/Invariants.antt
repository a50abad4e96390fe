use Rattle.std.proofs.Common.{◌≡◌}
use Rattle.sources.specs.Corrected.{correction_value}
use Rattle.sources.specs.Joins.{joined_with}
use Rattle.sources.proofs.cells.join_corrections.Given as goal

abbrev pub invariant-loop-correction : goal.invariant-loop-correction
invariant-loop-correction g l =
    let m = g.M.Measure in
    l.cells ≡ joined_with m.empty m.op (correction_value m.empty m.op m.lifted l.yielded l.number) l.initial.cells
