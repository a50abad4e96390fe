use Rattle.std.proofs.Common.{◌≡◌, ℕ, ◌+◌, Bool, true, false, cond, get_or, sym, ap, ◌∙◌, ap₂}
use Rattle.std.proofs.lemmas.List.{get_or_read}
use Rattle.shapes.specs.Arrays.{edges, digits}
use Rattle.shapes.specs.Views.{dims_of, six}
use Rattle.cubes.specs.Summaries.{big}
use Rattle.cubes.proofs.Joins.{big_last}
use Rattle.measures.proofs.Totalled.{neutral_right}
use Rattle.summaries.specs.Cells.{agrees_at}
use Rattle.summaries.proofs.cell.SummaryCell.sum_where.Goals as goal
use Rattle.summaries.proofs.cell.SummaryCell.sum_where.Goals.{then-agrees, else-agrees}

pub loop-offset-preserved : goal.loop-offset-preserved
loop-offset-preserved g c =
    let empty = g.M.Measure.empty in
    let op = g.M.Measure.op in
    let s = c.args.self.now in
    let o = c.loop-offset.offset in
    let test : ℕ → Bool = λ p. agrees_at s c.args.chunk (digits (six 1 (edges (dims_of s.shape))) p) in
    let tested : c.agrees.result ≡ test o =
    c.agrees.ensures ∙ ap (agrees_at s c.args.chunk) (c.digits.ensures ∙ ap (λ ks. digits ks o) c.edge_radices-edges.ensures) in
    let item : c.index-cells-offset.result ≡ get_or c.args.cells.now o empty = get_or_read c.args.cells.now o c.index-cells-offset.result c.loop-offset-test.true c.index-cells-offset.is empty in
    let joined : (t : Bool) → c.if-agrees.sum ≡ op c.loop-offset.sum (cond t c.index-cells-offset.result empty) → t ≡ test o → c.if-agrees.sum ≡ big empty op (λ p. cond (test p) (get_or c.args.cells.now p empty) empty) (o + 1) =
    λ t then is. then ∙ (ap₂ op c.loop-offset.invariant (ap₂ (λ u v. cond u v empty) is item) ∙ sym (big_last empty op g.M.Measure.lawful (λ p. cond (test p) (get_or c.args.cells.now p empty) empty) o)) in
    elim c.if-agrees.branch [
      | then-agrees w ↦ joined true (w.sum-is ∙ w.join-sum.ensures) (sym w.if-agrees.true ∙ tested)
      | else-agrees w ↦ joined false (w.sum-is ∙ sym (neutral_right g.M.Measure.lawful c.loop-offset.sum)) (sym w.if-agrees.false ∙ tested)
    ]
