use Rattle.std.proofs.Common.{◌∙◌}
use Rattle.std.proofs.lemmas.Result.{err_from_is_err_and}
use Rattle.shapes.specs.Views.{dims_of}
use Rattle.shapes.proofs.Held.{limits}
use Rattle.chunk_files.proofs.Opening.{file_unmarked, file_ill_shaped, file_shaped, dims_read}
use Rattle.chunk_files.proofs.checks.check_file.Goals as goal

pub returns-in_err-n : goal.returns-in_err-n
returns-in_err-n c =
    let p = err_from_is_err_and c.from_residual.result c.from_residual.ensures.1 in
    rw (p.1, p.2) (file_unmarked c.args.bytes.now _ c.in_err-n.ensures)

pub returns-in_err-shape : goal.returns-in_err-shape
returns-in_err-shape c =
    let p = err_from_is_err_and c.from_residual-in_err-shape.result c.from_residual-in_err-shape.ensures.1 in
    let m = c.in_ok-n.ensures in
    rw (p.1, p.2) (file_ill_shaped c.args.bytes.now m.0 c.in_ok-n.n c.in_ok-n.rest.now m.1 m.2 _ c.in_err-shape.ensures)

pub returns-in_err-check_directory : goal.returns-in_err-check_directory
returns-in_err-check_directory c =
    let p = err_from_is_err_and c.from_residual-in_err-check_directory.result c.from_residual-in_err-check_directory.ensures.1 in
    let m = c.in_ok-n.ensures in
    rw (p.1, p.2)
    (file_shaped c.args.bytes.now m.0 c.in_ok-n.n c.in_ok-n.rest.now m.1 m.2 (dims_of c.in_ok-shape.shape) c.in_ok-shape.ensures ∙ c.in_err-check_directory.ensures)

pub returns : goal.returns
returns c =
    let m = c.in_ok-n.ensures in
    let s = c.in_ok-shape.shape in (
      file_shaped c.args.bytes.now m.0 c.in_ok-n.n c.in_ok-n.rest.now m.1 m.2 (dims_of s) c.in_ok-shape.ensures ∙ c.in_ok-check_directory.ensures,
      dims_read c.args.bytes.now m.0 c.in_ok-n.n c.in_ok-n.rest.now m.1 m.2 (dims_of s) c.in_ok-shape.ensures (limits s),
    )
