use Rattle.shapes.proofs.Masks.{masks_number}
use Rattle.shapes.proofs.laws.masks_number_groups.Goals as goal

pub returns : goal.returns
returns c = masks_number
