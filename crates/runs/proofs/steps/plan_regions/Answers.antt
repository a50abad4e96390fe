use Rattle.std.proofs.Common.{◌∙◌}
use Rattle.runs.proofs.FreshStates.{placed_from, adds_are, adds_few}
use Rattle.runs.proofs.steps.plan_regions.Goals as goal

pub of-requires : goal.of-requires
of-requires c = adds_few c.args.shape.now c.args.plan.now c.requires c.added.result c.added.ensures

pub returns : goal.returns
returns c = record {
  shaped = c.of.ensures.shaped;
  placed = placed_from c.args.shape.now c.args.plan.now c.requires c.of.result.layout.places (c.of.ensures.placed ∙ c.order.ensures);
  adding = adds_are c.args.shape.now c.args.plan.now c.requires c.of.result.layout.adds (c.of.ensures.adding ∙ c.added.ensures);
}
