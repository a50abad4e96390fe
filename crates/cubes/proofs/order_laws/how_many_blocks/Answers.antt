use Rattle.std.proofs.Common.{length}
use Rattle.shapes.specs.Arrays.{groups}
use Rattle.cubes.proofs.Groups.{lattice_scan, groups_have}
use Rattle.cubes.proofs.Handing.{handed_counts, handed_length}
use Rattle.cubes.proofs.order_laws.how_many_blocks.Goals as goal

pub returns : goal.returns
returns c = record {
  by_group = handed_counts;
  of_all_groups = λ ds place adds edged order parents.
      handed_length ds place adds (groups (length ds)) (lattice_scan ds place adds edged order parents) (groups_have (length ds));
}
