use Rattle.std.proofs.Common.{◌^◌, ap, ◌∙◌}
use Rattle.runs.proofs.StateAnswers.{storage_is}
use Rattle.runs.proofs.state.State.next_storage.Goals as goal

pub returns : goal.returns
returns c =
    let s = c.args.self.now in
    storage_is s c.root.result (c.root.ensures ∙ ap (λ n. 2 ^ n) s.controls.grown.dimensions) c.block.result.at c.block.ensures.coordinates c.block.result.number c.block.ensures.number
