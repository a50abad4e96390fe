use Rattle.runs.proofs.Stepping.{done_is, done_exactly}
use Rattle.runs.proofs.control.Control.is_done.Goals as goal

pub returns : goal.returns
returns c =
    let self = c.args.self.now in
    done_exactly self c.all_over.result (λ ds place adds s. done_is ds place adds self s c.waits.result c.all_over.result (c.waits.ensures.exactly ds place adds s) c.all_over.ensures)
