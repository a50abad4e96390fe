use Rattle.std.proofs.Common.{set, ap, ◌∙◌, ap₂}
use Rattle.std.proofs.lemmas.List.{get_or_read}
use Rattle.sources.proofs.Joining.{no_reading, no_cell, one_reading}
use Rattle.sources.proofs.cells.join_reading.Goals as goal

pub returns-in_default : goal.returns-in_default
returns-in_default g c = no_reading g.M.Measure.lawful g.M.Measure.lifted c.args.cells.now c.args.offset c.args.reading c.in_default.ensures

pub returns-else-at-cells : goal.returns-else-at-cells
returns-else-at-cells g c = no_cell g.M.Measure.lawful g.M.Measure.lifted c.args.cells.now c.args.offset c.args.reading c.if-at-cells.false

pub returns-then-at-cells : goal.returns-then-at-cells
returns-then-at-cells g c =
    let m = g.M.Measure in
    let cells = c.args.cells.now in
    let read = get_or_read cells c.args.offset _ c.if-at-cells.true c.index-cells-at.is m.empty in
    ap (set cells c.args.offset) (c.join.ensures ∙ ap₂ m.op read c.lift.ensures)
    ∙ one_reading m.lawful m.lifted cells c.args.offset c.args.reading c.in-Some.reading c.in-Some.ensures
