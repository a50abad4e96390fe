use Rattle.cubes.proofs.Handing.{release_unrolls}
use Rattle.cubes.proofs.order_laws.release_is_whole.Goals as goal

pub returns : goal.returns
returns c = release_unrolls
