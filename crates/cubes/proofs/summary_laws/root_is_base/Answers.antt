use Rattle.cubes.proofs.Summaries.{direct_root}
use Rattle.cubes.proofs.summary_laws.root_is_base.Goals as goal

pub returns : goal.returns
returns g c = λ σ x b. direct_root g.M.Measure.empty g.M.Measure.op
    g.M.Measure.lawful
    σ.dims σ.chunk x b
