use Rattle.runs.proofs.FreshStates.{order_in, parents_in, grown_from}
use Rattle.runs.proofs.steps.plan_tree.Goals as goal

pub of-requires : goal.of-requires
of-requires c = record {
  order = order_in c.args.shape.now c.args.plan.now c.requires c.order.result c.order.ensures;
  parents = parents_in c.args.shape.now c.args.plan.now c.requires c.added.result c.added.ensures;
}

pub returns : goal.returns
returns c = grown_from c.args.shape.now c.args.plan.now c.requires c.added.result c.added.ensures c.order.result c.order.ensures c.of.result c.of.ensures
