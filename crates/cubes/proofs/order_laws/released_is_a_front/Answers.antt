use Rattle.cubes.proofs.Handing.{released_first}
use Rattle.cubes.proofs.order_laws.released_is_a_front.Goals as goal

pub returns : goal.returns
returns c = released_first
