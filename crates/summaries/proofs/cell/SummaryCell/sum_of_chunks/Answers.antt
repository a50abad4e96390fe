use Rattle.std.proofs.Common.{◌≡◌, sym, ap, ◌∙◌, subst, arith}
use Rattle.shapes.specs.Arrays.{volume, total_chunks}
use Rattle.shapes.specs.Views.{dims_of}
use Rattle.shapes.proofs.Held.{limits}
use Rattle.sources.specs.Meanings.{means}
use Rattle.cubes.specs.Summaries.{Divided, big}
use Rattle.cubes.proofs.Groups.{limits_divided}
use Rattle.summaries.specs.Answers.{brings}
use Rattle.summaries.specs.Cells.{group_at}
use Rattle.summaries.proofs.Chunkwise.{direct_chunkwise}
use Rattle.summaries.proofs.cell.SummaryCell.sum_of_chunks.Goals as goal

pub returns-clause-sum : goal.returns-clause-sum
returns-clause-sum g c =
    let empty = g.M.Measure.empty in
    let op = g.M.Measure.op in
    let s = c.args.self.now in
    let m = means g.S.Shaped.told g.S.Source.contents c.args.source.now in
    let divided : Divided m.dims = subst Divided c.requires.shaped (limits_divided (dims_of s.shape) (limits s.shape)) in
    let all : c.loop-number.number ≡ total_chunks m.dims = omega (arith, c.total_chunks-number-end.ensures, ap total_chunks c.requires.shaped) in
    c.loop-number.invariant.sum
    ∙ (ap (big empty op (λ j. big empty op (brings empty m (group_at s) s.at j) (volume m.dims))) all ∙ sym (direct_chunkwise empty op g.M.Measure.lawful m (group_at s) s.at divided))
