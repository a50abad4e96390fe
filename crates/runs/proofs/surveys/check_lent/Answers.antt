use Rattle.std.proofs.Common.{sym}
use Rattle.std.proofs.lemmas.Result.{err_from_is_err_and}
use Rattle.shapes.specs.Views.{dims_of}
use Rattle.runs.proofs.Surveying.{few_lent, short_lent, all_lent}
use Rattle.runs.proofs.surveys.check_lent.Goals as goal

pub returns-in_err-check : goal.returns-in_err-check
returns-in_err-check c =
    let p = err_from_is_err_and c.from_residual.result c.from_residual.ensures.1 in
    rw (p.1, p.2) (sym (few_lent (dims_of c.args.shape.now) c.args.lent c.args.room c.of.result.need c.of.ensures.planned.needing c.in_err-check.field-0.0 c.in_err-check.ensures))

pub returns-then-room-cells : goal.returns-then-room-cells
returns-then-room-cells c = short_lent (dims_of c.args.shape.now) c.args.lent c.args.room c.of.result.need c.of.ensures.planned.needing c.in_ok-check.ensures
    c.chunk_cells-cells.result c.chunk_cells-cells.ensures c.if-room-cells.true

pub returns : goal.returns
returns c = all_lent (dims_of c.args.shape.now) c.args.lent c.args.room c.of.result.need c.of.ensures.planned.needing c.in_ok-check.ensures
    c.chunk_cells-cells.result c.chunk_cells-cells.ensures c.if-room-cells.false
