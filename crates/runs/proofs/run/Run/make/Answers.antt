use Rattle.std.proofs.Common.{refl, ap, ◌∙◌}
use Rattle.runs.specs.Holdings.{first_emptied}
use Rattle.runs.proofs.RunMade.{makes_run}
use Rattle.runs.proofs.run.Run.make.Goals as goal

pub returns : goal.returns
returns g c = record {
  lender = refl;
  makes = makes_run g.M.Measure.empty g.M.Measure.op g.M.Measure.lawful c.args.shape c.args.cells.now c.empty_first.new.cells c.new-state.result c.new-state.ensures
      (c.empty_first.ensures ∙ ap (λ n. first_emptied g.M.Measure.empty n c.args.cells.now) c.need.ensures);
}
