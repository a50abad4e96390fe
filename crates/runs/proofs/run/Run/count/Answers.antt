use Rattle.std.proofs.Common.{length}
use Rattle.shapes.specs.Views.{dims_of}
use Rattle.shapes.proofs.Held.{limits}
use Rattle.runs.specs.Holdings.{moment}
use Rattle.runs.proofs.PlannedScans.{planned_least}
use Rattle.runs.proofs.LivingRuns.{life_kept}
use Rattle.runs.proofs.run.Run.count.Goals as goal

pub returns : goal.returns
returns g c = record {
  counts = c.counts.ensures (length c.args.self.now.cells.now);
  least = planned_least (dims_of c.args.self.now.state.shape) (limits c.args.self.now.state.shape);
  life = λ μ es h. life_kept g.M.Measure.empty g.M.Measure.op μ es (moment c.args.self.now) c.counts.result (c.counts.ensures (length c.args.self.now.cells.now)) h;
}
