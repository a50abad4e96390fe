use Rattle.runs.proofs.Stepping.{coordinates_next}
use Rattle.std.proofs.Common.{refl}
use Rattle.runs.proofs.control.Control.next_at.Goals as goal

pub returns-clause-at : goal.returns-clause-at
returns-clause-at c = λ ds place adds s. coordinates_next ds place adds c.args.self.now s c.args.mask c.requires _ c.block.result.at refl (c.block.ensures.coordinates ds place adds s.grown)
