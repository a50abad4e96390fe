use Rattle.cubes.proofs.Complete.{complete_when_handed}
use Rattle.cubes.proofs.summary_laws.complete_when_handed.Goals as goal

pub returns : goal.returns
returns g c = complete_when_handed g.M.Measure.empty g.M.Measure.op
    g.M.Measure.lawful
