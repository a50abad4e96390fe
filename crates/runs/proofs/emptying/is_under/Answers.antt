use Rattle.std.proofs.Common.{◌∙◌, arith}
use Rattle.runs.proofs.ReleaseMasks.{climb_step, climb_end}
use Rattle.runs.proofs.emptying.is_under.Goals as goal

pub climb-preserved : goal.climb-preserved
climb-preserved c = (
  (c.args.tree.now.climbs c.climb.mask (omega arith)).1,
  λ ds place adds h. climb_step ds place adds c.args.tree.now h c.args.above c.climb.mask (omega arith) (omega arith) ∙ c.climb.invariant.1 ds place adds h,
)

pub returns : goal.returns
returns c = λ ds place adds h. climb_end ds place adds c.args.tree.now h c.args.above c.climb.mask (omega arith) (omega arith) ∙ c.climb.invariant.1 ds place adds h
