use Rattle.std.proofs.Common.{◌≡◌, cond, get_or}
use Rattle.shapes.specs.Arrays.{edges, digits}
use Rattle.shapes.specs.Views.{dims_of, six}
use Rattle.cubes.specs.Summaries.{big}
use Rattle.summaries.specs.Cells.{agrees_at}
use Rattle.summaries.proofs.cell.SummaryCell.sum_where.Given as goal

abbrev pub invariant-loop-offset : goal.invariant-loop-offset
invariant-loop-offset g l =
    l.sum ≡ big g.M.Measure.empty g.M.Measure.op (λ o. cond (agrees_at l.self l.chunk (digits (six 1 (edges (dims_of l.self.shape))) o)) (get_or l.cells o g.M.Measure.empty) g.M.Measure.empty) l.offset
