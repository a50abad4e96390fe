use Rattle.std.proofs.Common.{◌≡◌, drop}
use Rattle.shapes.specs.Arrays.{volume}
use Rattle.sources.specs.Meanings.{means}
use Rattle.cubes.specs.Summaries.{big}
use Rattle.summaries.specs.Answers.{brings}
use Rattle.summaries.specs.Cells.{group_at}
use Rattle.summaries.proofs.cell.SummaryCell.sum_of_chunks.Given as goal

abbrev pub invariant-loop-number : goal.invariant-loop-number
invariant-loop-number g l = record {
  same : means g.S.Shaped.told g.S.Source.contents l.source ≡ means g.S.Shaped.told g.S.Source.contents l.initial.source;
  sum : l.sum ≡ big g.M.Measure.empty g.M.Measure.op (λ k. big g.M.Measure.empty g.M.Measure.op (brings g.M.Measure.empty (means g.S.Shaped.told g.S.Source.contents l.initial.source) (group_at l.self) l.self.at k) (volume (g.S.Shaped.told l.initial.source))) l.number;
  rest : drop (volume (g.S.Shaped.told l.initial.source)) l.cells ≡ drop (volume (g.S.Shaped.told l.initial.source)) l.initial.cells;
}
