use Rattle.std.proofs.Common.{sym, subst}
use Rattle.shapes.specs.Views.{dims_of}
use Rattle.runs.specs.Emptying.{EmptiedMask}
use Rattle.runs.proofs.RegionEmptied.{mask_below, mask_ready, mask_emptied}
use Rattle.runs.proofs.emptying.empty_mask.Goals as goal

pub empty-requires : goal.empty-requires
empty-requires g c =
    let e = g.M.Measure.empty in
    record {
      below = mask_below e c.args.state.now c.args.cells.now c.requires.enough c.args.mask c.requires.below;
      room = mask_ready e c.args.state.now c.args.cells.now c.requires.enough c.args.mask c.requires.below;
    }

pub returns : goal.returns
returns g c =
    let e = g.M.Measure.empty in
    let s = c.args.state.now in
    subst (EmptiedMask e (dims_of s.shape) c.args.mask c.args.cells.now) (sym c.empty.ensures) (mask_emptied e s c.args.cells.now c.requires.enough c.args.mask c.requires.below)
