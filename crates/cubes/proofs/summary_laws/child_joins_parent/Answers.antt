use Rattle.cubes.proofs.Summaries.{direct_child}
use Rattle.cubes.proofs.summary_laws.child_joins_parent.Goals as goal

pub returns : goal.returns
returns g c = λ σ h e x lh lx lacks. direct_child g.M.Measure.empty g.M.Measure.op
    g.M.Measure.lawful
    σ.dims σ.chunk h x e lh lx lacks.0 lacks.1
