use Rattle.runs.proofs.StateAnswers.{done_is}
use Rattle.runs.proofs.state.State.is_done.Goals as goal

pub returns : goal.returns
returns c = done_is c.args.self.now c.is_done.result c.is_done.ensures
