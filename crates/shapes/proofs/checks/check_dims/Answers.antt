use Rattle.std.proofs.Common.{◌+◌, drop, sym, ap, ◌∙◌, arith}
use Rattle.std.proofs.lemmas.List.{at_drop_more, at_drop_all}
use Rattle.std.proofs.lemmas.Result.{err_from_is_err_and}
use Rattle.shapes.specs.Limits.{or_else, dims_fault}
use Rattle.shapes.specs.declared.dims.Dim.{Dim}
use Rattle.shapes.proofs.checks.check_dims.Goals as goal

no_dim : Dim
no_dim = record { size = 0; edge = 0 }

pub returns-in_err-check_dim : goal.returns-in_err-check_dim
unfolding no_dim
returns-in_err-check_dim c =
    let ds = c.args.dims.now in
    let i = c.loop-i.i in
    let p = err_from_is_err_and c.from_residual.result c.from_residual.ensures.1 in rw (p.1, p.2)
    (sym c.loop-i.invariant ∙ (at_drop_more (dims_fault i) ds i no_dim c.loop-i-test.true
    ∙ ap (λ o. or_else o (dims_fault (i + 1) (drop (i + 1) ds))) c.in_err-check_dim.ensures))

pub loop-i-preserved : goal.loop-i-preserved
unfolding no_dim
loop-i-preserved c =
    let ds = c.args.dims.now in
    let i = c.loop-i.i in
    sym (ap (λ o. or_else o (dims_fault (i + 1) (drop (i + 1) ds))) c.in_ok-check_dim.ensures)
    ∙ (sym (at_drop_more (dims_fault i) ds i no_dim c.loop-i-test.true) ∙ c.loop-i.invariant)

pub returns : goal.returns
returns c = sym c.loop-i.invariant ∙ at_drop_all (dims_fault c.loop-i.i) c.args.dims.now c.loop-i.i (omega arith)
