use Rattle.cubes.proofs.RegionContents.{regions_hold}
use Rattle.cubes.proofs.summary_laws.regions_hold.Goals as goal

pub returns : goal.returns
returns g c = regions_hold g.M.Measure.empty g.M.Measure.op
    g.M.Measure.lawful
