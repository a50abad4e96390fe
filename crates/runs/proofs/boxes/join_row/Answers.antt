use Rattle.std.proofs.Common.{ℕ, ◌+◌, ◌*◌, sym, arith}
use Rattle.runs.proofs.Joining.{turn_more, row_all}
use Rattle.runs.proofs.boxes.join_row.Goals as goal

pub loop-l-preserved : goal.loop-l-preserved
loop-l-preserved g c =
    let m = g.M.Measure in
    let l = c.loop-l.l in
    let t : ℕ → ℕ = λ o. c.args.to + o * c.args.to_stride in
    let f : ℕ → ℕ = λ o. c.args.from + o * c.args.from_stride in
    turn_more m.empty m.op m.lawful c.args.cells.now t f c.loop-l.cells l c.index-cells-from.result c.index-cells-to.result c.join.result
    (c.requires.from_within l (omega arith)) (c.requires.to_within l (omega arith)) (λ k q e. c.requires.apart l k (omega arith) (omega arith) (sym e))
    c.loop-l.invariant c.index-cells-from.is c.index-cells-to.is c.join.ensures

pub returns : goal.returns
returns g c =
    let m = g.M.Measure in
    row_all m.empty m.op m.lawful c.args.cells.now c.loop-l.cells c.args.count c.args.from c.args.from_stride c.args.to c.args.to_stride c.loop-l.l (omega arith) c.loop-l.invariant
