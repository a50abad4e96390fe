use Rattle.listings.proofs.Worked.{examples}
use Rattle.listings.proofs.examples.examples_are_listed.Goals as goal

pub returns : goal.returns
returns c = examples
