use Rattle.cubes.proofs.HandSteps.{between_hands}
use Rattle.cubes.proofs.summary_laws.regions_between_hands.Goals as goal

pub returns : goal.returns
returns g c = between_hands g.M.Measure.empty g.M.Measure.op
    g.M.Measure.lawful
