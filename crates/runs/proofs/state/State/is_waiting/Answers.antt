use Rattle.runs.proofs.StateAnswers.{waits_is}
use Rattle.runs.proofs.state.State.is_waiting.Goals as goal

pub returns : goal.returns
returns c = waits_is c.args.self.now c.waits.result c.waits.ensures.exactly
