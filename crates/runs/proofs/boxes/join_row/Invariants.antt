use Rattle.std.proofs.Common.{◌+◌, ◌*◌}
use Rattle.cubes.proofs.Blocks.{Accumulated}
use Rattle.runs.proofs.Joining.{read_from}
use Rattle.runs.proofs.boxes.join_row.Given as goal

abbrev pub invariant-loop-l : goal.invariant-loop-l
invariant-loop-l g l =
    let m = g.M.Measure in
    Accumulated m.empty m.op m.lawful (λ o. l.to + o * l.to_stride)
    (read_from m.empty m.op m.lawful l.initial.cells (λ o. l.to + o * l.to_stride) (λ o. l.from + o * l.from_stride)) l.initial.cells l.cells l.l
