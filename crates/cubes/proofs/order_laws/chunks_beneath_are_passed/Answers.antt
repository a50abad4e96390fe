use Rattle.cubes.proofs.Passed.{chunks_passed}
use Rattle.cubes.proofs.order_laws.chunks_beneath_are_passed.Goals as goal

pub returns : goal.returns
returns c = chunks_passed
