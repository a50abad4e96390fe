use Rattle.shapes.proofs.Held.{held_six}
use Rattle.shapes.proofs.shape.Shape.dims.Goals as goal

pub returns : goal.returns
returns c = held_six c.args.self.now
