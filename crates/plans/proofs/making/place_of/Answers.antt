use Rattle.std.proofs.Common.{rules, ℕ, ◌-◌, Bool, ◌&&◌, ◌||◌, eqb, ltb, ◌∙◌}
use borrow.Author.Tests.{tests}
use Rattle.std.proofs.lemmas.Iterator.{YieldsList-from_slice}
use Rattle.std.proofs.lemmas.Iterator.Consumers.{YieldsList-from_filter, YieldsList-from_enumerate, count_from_yields_List}
use Rattle.shapes.specs.declared.dims.Dim.{Dim}
use Rattle.plans.proofs.Places.{placed_after}
use Rattle.plans.proofs.Dims.{slack_at}
use Rattle.plans.proofs.making.place_of.Goals as goal

pub returns : goal.returns
returns c =
    let ds = c.args.dims.now in
    let own = c.slack.result in
    let before : (ℕ × Dim) → Bool = λ p. ltb (p.1.size - p.1.edge) own || (eqb (p.1.size - p.1.edge) own && ltb p.0 c.args.i) in
    placed_after ds c.args.i c.count-before.result own (c.slack.ensures ∙ slack_at ds c.args.i c.requires.inside)
    (count_from_yields_List _ c.count-before.result c.count-before.ensures.ran
    (YieldsList-from_filter _ before (YieldsList-from_enumerate (YieldsList-from_slice ds cc) cc) c.filter.ensures.closure (λ x r q k. search (rules, tests))))
