use Rattle.std.proofs.Common.{rules, length}
use borrow.Author.Tests.{tests}
use Rattle.plans.specs.Plans.{plan_place}
use Rattle.plans.proofs.Filled.{filled_six}
use Rattle.plans.proofs.making.places_of.Goals as goal

pub returns : goal.returns
returns c =
    let ds = c.args.dims.now in
    filled_six (plan_place ds) (length ds) c.from_fn.result c.from_fn.ensures.items.long
    (λ k l h. let w = c.from_fn.ensures.items.at k 0 l in search (rules, tests))
    (λ k l h. let w = c.from_fn.ensures.items.at k 0 l in search (rules, tests))
