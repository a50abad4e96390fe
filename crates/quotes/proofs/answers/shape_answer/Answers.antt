use Rattle.std.proofs.Common.{arith}
use Rattle.shapes.specs.Views.{dims_of}
use Rattle.plans.proofs.Planning.{need_small, edged_dims, few_dims}
use Rattle.quotes.proofs.answers.shape_answer.Goals as goal

pub invariant_of-cells : goal.invariant_of-cells
invariant_of-cells c =
    let s = c.in-Ok.shape in
    record { small = omega (arith, c.need.ensures, c.of.ensures.planned.needing, need_small (dims_of s) (edged_dims s) (few_dims s) s.small_array) }
