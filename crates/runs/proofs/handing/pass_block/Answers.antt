use Rattle.std.proofs.Common.{◌≡◌, ℕ, ◌^◌, List, length, ap, subst, arith}
use Rattle.shapes.specs.declared.dims.Dim.{Dim}
use Rattle.shapes.specs.Views.{dims_of}
use Rattle.runs.specs.Grids.{top}
use Rattle.runs.specs.Holdings.{Moment, moment_of}
use Rattle.runs.specs.Planned.{need_of}
use Rattle.runs.specs.Emptying.{EmptiedOver}
use Rattle.runs.proofs.FromState.{same_top, top_is}
use Rattle.runs.proofs.HandedOn.{mask_within}
use Rattle.runs.proofs.HandReady.{mask_below, block_within, children_joinable}
use Rattle.runs.proofs.handing.pass_block.Goals as goal

pub join_children-requires : goal.join_children-requires
join_children-requires g c =
    let m = g.M.Measure in
    let s = c.args.state.now in
    let b : Moment g.row.M.Denot = moment_of s c.args.cells.now in
    let r = top s.regions.layout in
    let e = same_top s in
    record {
      below = mask_below m.empty m.op m.lawful b c.args.block c.requires.next r e;
      inside = block_within m.empty m.op m.lawful b c.args.block c.requires.next r e (length c.args.cells.now) c.requires.enough;
      joinable = children_joinable m.empty m.op m.lawful b c.args.block c.requires.next r e (length c.args.cells.now) c.requires.enough;
    }

pub empty_over-requires : goal.empty_over-requires
empty_over-requires g c =
    let m = g.M.Measure in
    let b : Moment g.row.M.Denot = moment_of c.args.state.now c.args.cells.now in
    let same : dims_of c.count_handed.new.self.shape ≡ dims_of c.args.state.now.shape = ap dims_of c.count_handed.ensures.plan.shape in
    record {
      enough = omega (arith, ap need_of same, c.requires.enough, c.join_children.auto.cells);
      below = omega (arith, ap {B = ℕ} (λ d. 2 ^ length d) same, top_is c.args.state.now, mask_within m.empty m.op m.lawful b c.args.block c.requires.next);
    }

pub returns : goal.returns
returns g c =
    let m = g.M.Measure in
    let s = c.args.state.now in
    let x = c.args.block in
    let b : Moment g.row.M.Denot = moment_of s c.args.cells.now in
    let after = c.empty_over.new.cells in
    let next = c.count_handed.new.self.control.next in
    let same : dims_of c.count_handed.new.self.shape ≡ dims_of s.shape = ap dims_of c.count_handed.ensures.plan.shape in
    record {
      goes_on = c.count_handed.ensures;
      emptied = subst (λ xs. EmptiedOver m.empty (dims_of s.shape) x.mask next xs after) c.join_children.ensures
          (subst (λ (d : List Dim). EmptiedOver m.empty d x.mask next c.join_children.new.cells after) same c.empty_over.ensures);
    }
