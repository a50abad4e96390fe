use Rattle.runs.proofs.MovedStates.{rests}
use Rattle.runs.proofs.state.State.count_skipped.Goals as goal

pub pass-requires-clause-idle : goal.pass-requires-clause-idle
pass-requires-clause-idle c = rests c.args.self.now c.requires.idle
