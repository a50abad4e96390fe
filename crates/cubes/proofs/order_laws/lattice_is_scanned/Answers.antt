use Rattle.cubes.proofs.Groups.{lattice_scan}
use Rattle.cubes.proofs.order_laws.lattice_is_scanned.Goals as goal

pub returns : goal.returns
returns c = lattice_scan
