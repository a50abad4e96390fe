use Rattle.cubes.proofs.SmallArrays.{examples}
use Rattle.cubes.proofs.examples.examples_come_out.Goals as goal

pub returns : goal.returns
returns c = examples
