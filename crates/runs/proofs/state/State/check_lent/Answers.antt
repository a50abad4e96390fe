use Rattle.runs.proofs.StateAnswers.{lent_is}
use Rattle.runs.proofs.state.State.check_lent.Goals as goal

pub returns : goal.returns
returns c = lent_is c.args.self.now c.args.lent c.check.result c.check.ensures
