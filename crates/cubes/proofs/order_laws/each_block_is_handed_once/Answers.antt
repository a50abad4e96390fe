use Rattle.cubes.proofs.Handing.{handed_once}
use Rattle.cubes.proofs.Naming.{named_once, numbered_over_kept}
use Rattle.cubes.proofs.order_laws.each_block_is_handed_once.Goals as goal

pub returns : goal.returns
returns c = record { once = λ ds place adds all S. (handed_once ds place adds all S, named_once ds place adds all S); number = numbered_over_kept }
