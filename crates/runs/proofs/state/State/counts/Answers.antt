use Rattle.runs.proofs.state.State.counts.Goals as goal

pub returns : goal.returns
returns c lent = let done = c.is_done.ensures lent in cc
