use mathlib.Core.Path.{refl}
use native.Mathlib.Omega.{arith}
use Rattle.shapes.specs.Arrays.{groups}
use Rattle.plans.specs.Plans.{Edged, plan_place, plan_adds}
use Rattle.plans.proofs.LeastNeed.{least_need}
use Rattle.cubes.proofs.Groups.{plan_scan, groups_have}
use Rattle.cubes.proofs.Handing.{handed_length}
use Rattle.listings.proofs.Worked.{examples}
use Rattle.figures.specs.Figures.{equal}
use Rattle.figures.proofs.worked_figures.Goals as goal

edged : Edged equal
edged = ((omega arith, omega arith), ((omega arith, omega arith), ((omega arith, omega arith), tt)))

pub returns : goal.returns
returns c = record {
  equal_need = refl;
  equal_two_from_six = refl;
  growing_need = refl;
  growing_reversed = refl;
  uneven_need = refl;
  uneven_one_zero = refl;
  uneven_zero_one = refl;
  small_need = refl;
  single_need = refl;
  equal_blocks = handed_length equal (plan_place equal) (plan_adds equal) (groups 3) (plan_scan equal edged (least_need equal edged)) (groups_have 3);
  range_of_seven = refl;
  marks_of_three = refl;
  marks_of_sixty_seven = refl;
  four_of_ten = refl;
  five_of_ten = refl;
  example_length = refl;
  example_listing = examples.totals;
}
