use Rattle.std.proofs.Common.{◌≤◌, ◌++◌, length, drop, sym, ap, ◌∙◌, subst, arith}
use Rattle.shapes.specs.Arrays.{product}
use Rattle.runs.specs.declared.layouts.Region.{Region}
use Rattle.runs.specs.Grids.{block_edges, block_cells, Inside, top}
use Rattle.runs.specs.Holdings.{Moment, moment_of}
use Rattle.runs.specs.Emptying.{block_in}
use Rattle.runs.proofs.FromState.{same_top}
use Rattle.runs.proofs.HandReady.{mask_below, block_cells_are, block_within}
use Rattle.runs.proofs.handing.write_next.Goals as goal

pub region-region-requires : goal.region-region-requires
region-region-requires g c =
    let m = g.M.Measure in
    mask_below m.empty m.op m.lawful (moment_of c.args.state.now c.args.cells.now) c.args.block c.requires.next (top c.args.state.now.regions.layout) (same_top c.args.state.now)

pub write_block-requires : goal.write_block-requires
write_block-requires g c =
    let m = g.M.Measure in
    let y = c.args.state.now.regions.layout in
    let b : Moment g.row.M.Denot = moment_of c.args.state.now c.args.cells.now in
    let e = same_top c.args.state.now in
    let P : Region → Type 0 = λ u. (product (block_edges y u) ≤ length c.args.out.now) × Inside y u (block_edges y u) c.args.block.at (length c.args.cells.now) in
    let ready = subst P (sym c.region-region.ensures) (
      omega (arith, block_cells_are m.empty m.op m.lawful b c.args.block c.requires.next (top y) e, c.requires.room),
      block_within m.empty m.op m.lawful b c.args.block c.requires.next (top y) e (length c.args.cells.now) c.requires.enough,
    ) in
    record { room = ready.0; inside = ready.1 }

pub returns : goal.returns
returns g c =
    let m = g.M.Measure in
    let y = c.args.state.now.regions.layout in
    let b : Moment g.row.M.Denot = moment_of c.args.state.now c.args.cells.now in
    c.write_block.ensures.out
    ∙ ap (λ u. block_cells m.empty c.args.cells.now y u c.args.block.at ++ drop (product (block_edges y u)) c.args.out.now) c.region-region.ensures
    ∙ ap (λ k. block_in m.empty c.args.cells.now c.args.state.now c.args.block ++ drop k c.args.out.now)
    (block_cells_are m.empty m.op m.lawful b c.args.block c.requires.next (top y) (same_top c.args.state.now))
