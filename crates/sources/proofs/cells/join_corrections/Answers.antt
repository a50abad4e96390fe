use Rattle.std.proofs.Common.{sym, ◌∙◌}
use Rattle.sources.proofs.Joining.{joined_nothing}
use Rattle.sources.proofs.Correcting.{correction_more, correction_elsewhere, correction_here}
use Rattle.sources.proofs.cells.join_corrections.Goals as goal

pub loop-correction-init : goal.loop-correction-init
loop-correction-init g c = sym (joined_nothing g.M.Measure.lawful c.args.cells.now)

pub loop-correction-preserved-then-correction-number : goal.loop-correction-preserved-then-correction-number
loop-correction-preserved-then-correction-number g c =
    let m = g.M.Measure in
    correction_more m.lawful m.lifted c.loop-correction.yielded c.in-Some.correction c.args.number c.args.cells.now c.loop-correction.cells _ c.loop-correction.invariant
    (c.join_reading.ensures ∙ correction_here m.lawful m.lifted c.in-Some.correction c.args.number c.loop-correction.cells c.if-correction-number.true)

pub loop-correction-preserved : goal.loop-correction-preserved
loop-correction-preserved g c =
    let m = g.M.Measure in
    correction_more m.lawful m.lifted c.loop-correction.yielded c.in-Some.correction c.args.number c.args.cells.now c.loop-correction.cells _ c.loop-correction.invariant
    (correction_elsewhere m.lawful m.lifted c.in-Some.correction c.args.number c.loop-correction.cells c.if-correction-number.false)
