use Rattle.std.proofs.Common.{length, ap, ◌∙◌}
use Rattle.runs.specs.Holdings.{first_emptied}
use Rattle.runs.proofs.FromState.{needs}
use Rattle.runs.proofs.run.Run.close.Goals as goal

pub returns : goal.returns
returns g c = record {
  closed = c.closed.ensures (length c.args.self.cells.now);
  emptied = c.empty_first.ensures ∙ ap (λ n. first_emptied g.M.Measure.empty n c.args.self.cells.now) (c.need.ensures ∙ needs c.args.self.state);
}
