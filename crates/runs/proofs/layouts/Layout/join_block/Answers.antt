use Rattle.std.proofs.Common.{length, ◌∙◌, arith}
use Rattle.runs.specs.Grids.{block_edges, start_of, strides_in}
use Rattle.runs.proofs.Rows.{group_positive}
use Rattle.runs.proofs.Strides.{within_start, within_same, disjoint_same, box_joined_same}
use Rattle.runs.proofs.layouts.Layout.join_block.Goals as goal

pub grid-from-requires : goal.grid-from-requires
grid-from-requires g c =
    let y = c.args.self.now in
    let r = c.args.parent in
    let e = c.block_edges-edges in
    omega (arith, within_start (block_edges y r) (start_of y r c.args.block) (strides_in y r) (length c.args.cells.now) (group_positive e.result (block_edges y r) e.ensures) c.requires.from_inside)

pub grid-to-requires : goal.grid-to-requires
grid-to-requires g c =
    let y = c.args.self.now in
    let r = c.args.parent in
    let u = c.args.child in
    let e = c.block_edges-edges in
    omega (arith, within_start (block_edges y r) (start_of y u c.args.block) (strides_in y u) (length c.args.cells.now) (group_positive e.result (block_edges y r) e.ensures) c.requires.to_inside)

pub join_box-requires : goal.join_box-requires
join_box-requires g c =
    let y = c.args.self.now in
    let r = c.args.parent in
    let u = c.args.child in
    let b = c.args.block in
    let n = length c.args.cells.now in
    let e = c.block_edges-edges in
    let f = c.grid-from in
    let t = c.grid-to in
    record {
      from_within = within_same e.result.each (block_edges y r) f.result.start (start_of y r b) f.result.strides (strides_in y r) n e.ensures f.ensures.start f.ensures.strides c.requires.from_inside;
      to_within = within_same e.result.each (block_edges y r) t.result.start (start_of y u b) t.result.strides (strides_in y u) n e.ensures t.ensures.start t.ensures.strides c.requires.to_inside;
      apart = disjoint_same e.result.each (block_edges y r) f.result.start (start_of y r b) f.result.strides (strides_in y r) t.result.start (start_of y u b) t.result.strides (strides_in y u) e.ensures f.ensures.start f.ensures.strides t.ensures.start t.ensures.strides c.requires.apart;
    }

pub returns : goal.returns
returns g c =
    let y = c.args.self.now in
    let r = c.args.parent in
    let u = c.args.child in
    let b = c.args.block in
    let e = c.block_edges-edges in
    let f = c.grid-from in
    let t = c.grid-to in
    c.join_box.ensures
    ∙ box_joined_same g.M.Measure.empty g.M.Measure.op c.args.cells.now e.result.each (block_edges y r) f.result.start (start_of y r b) f.result.strides (strides_in y r) t.result.start (start_of y u b) t.result.strides (strides_in y u) e.ensures f.ensures.start f.ensures.strides t.ensures.start t.ensures.strides
