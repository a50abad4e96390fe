use Rattle.std.proofs.Common.{length, ◌∙◌, arith}
use Rattle.shapes.specs.Arrays.{group}
use Rattle.shapes.specs.Views.{dims_of}
use Rattle.shapes.proofs.Held.{limits}
use Rattle.runs.proofs.Growing.{cells_are, cells_few}
use Rattle.runs.proofs.numbering.block_cells.Goals as goal

pub overflow_cast-result : goal.overflow_cast-result
overflow_cast-result c =
    let s = c.args.shape.now in
    omega (
      arith,
      c.product.ensures ∙ cells_are (dims_of s) c.args.mask c.edge_radices.result.each c.radices_of.result.each (limits s) c.edge_radices.ensures c.radices_of.ensures,
      cells_few (dims_of s) (group (length (dims_of s)) c.args.mask) (limits s),
    )

pub returns : goal.returns
returns c =
    let s = c.args.shape.now in
    c.product.ensures ∙ cells_are (dims_of s) c.args.mask c.edge_radices.result.each c.radices_of.result.each (limits s) c.edge_radices.ensures c.radices_of.ensures
