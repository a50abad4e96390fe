use Rattle.std.proofs.Common.{◌≡◌, take, ap, ◌∙◌, arith}
use Rattle.std.proofs.lemmas.Result.{err_from_is_err_and}
use Rattle.chunk_files.specs.Layouts.{dims_from}
use Rattle.chunk_files.proofs.Opening.{rest_whole}
use Rattle.chunk_files.proofs.checks.read_shape.Goals as goal

pub returns-in_err-shape : goal.returns-in_err-shape
returns-in_err-shape c =
    let p = err_from_is_err_and c.from_residual.result c.from_residual.ensures.1 in
    let n = c.from-n.ensures in
    let d : take c.from-n.result c.read_dims-dims.result ≡ dims_from c.args.rest.now 0 c.args.n = c.read_dims-dims.ensures c.from-n.result (omega arith) ∙ ap (dims_from c.args.rest.now 0) n in
    rw (p.1, p.2) (rest_whole c.args.rest.now c.args.n _ (omega arith) (omega arith) (omega arith) d ∙ c.in_err-shape.ensures.answer)

pub returns : goal.returns
returns c =
    let n = c.from-n.ensures in
    let d : take c.from-n.result c.read_dims-dims.result ≡ dims_from c.args.rest.now 0 c.args.n = c.read_dims-dims.ensures c.from-n.result (omega arith) ∙ ap (dims_from c.args.rest.now 0) n in
    let h = c.in_ok-shape.ensures.answer in
    (rest_whole c.args.rest.now c.args.n _ (omega arith) (omega arith) (omega arith) d ∙ h.0, h.1 ∙ d)
