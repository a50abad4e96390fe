use Rattle.std.proofs.Common.{rules}
use Rattle.runs.proofs.Steering.{here_is}
use Rattle.runs.proofs.control.Control.next_here.Goals as goal

pub returns : goal.returns
returns c =
    let self = c.args.self.now in
    here_is self.tree self.passed self.progress.counts c.args.mask c.first_child.result c.or_else.result c.first_child.ensures c.or_else.ensures (λ q. search rules)
