use Rattle.std.proofs.Common.{◌++◌, length, drop, ap, ◌∙◌, ap₂, arith}
use Rattle.shapes.specs.Arrays.{product}
use Rattle.runs.specs.Grids.{block_edges, start_of, strides_in}
use Rattle.runs.proofs.Rows.{group_positive}
use Rattle.runs.proofs.Strides.{within_start, within_same, box_cells_same}
use Rattle.runs.proofs.layouts.Layout.write_block.Goals as goal

pub grid-requires : goal.grid-requires
grid-requires g c =
    let y = c.args.self.now in
    let r = c.args.region in
    let b = c.args.block in
    omega (arith, within_start (block_edges y r) (start_of y r b) (strides_in y r) (length c.args.cells.now) (group_positive c.block_edges-edges.result (block_edges y r) c.block_edges-edges.ensures) c.requires.inside)

pub write_box-requires : goal.write_box-requires
write_box-requires g c =
    let y = c.args.self.now in
    let r = c.args.region in
    let b = c.args.block in
    let e = c.block_edges-edges in
    record {
      room = omega (arith, c.requires.room, ap product e.ensures);
      within = within_same e.result.each (block_edges y r) c.grid.result.start (start_of y r b) c.grid.result.strides (strides_in y r) (length c.args.cells.now) e.ensures c.grid.ensures.start c.grid.ensures.strides c.requires.inside;
    }

pub returns : goal.returns
returns g c =
    let y = c.args.self.now in
    let r = c.args.region in
    let b = c.args.block in
    let e = c.block_edges-edges in
    record {
      count = c.product.ensures ∙ ap product e.ensures;
      out = c.write_box.ensures
          ∙ ap₂ (λ xs k. xs ++ drop k c.args.out.now) (box_cells_same g.M.Measure.empty c.args.cells.now e.result.each (block_edges y r) c.grid.result.start (start_of y r b) c.grid.result.strides (strides_in y r) e.ensures c.grid.ensures.start c.grid.ensures.strides) (ap product e.ensures);
    }
