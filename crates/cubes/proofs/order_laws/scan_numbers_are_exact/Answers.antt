use Rattle.cubes.proofs.Naming.{scan_numbers}
use Rattle.cubes.proofs.order_laws.scan_numbers_are_exact.Goals as goal

pub returns : goal.returns
returns c = scan_numbers
