use Rattle.runs.proofs.NextBlocks.{is_next, name_is}
use Rattle.runs.proofs.state.State.next_block.Goals as goal

pub returns : goal.returns
returns c =
    let s = c.args.self.now in
    let b = c.next_at-number in
    record {
      next = is_next s c.args.mask c.requires b.result.at b.ensures.at b.result.number c.block_cells.result;
      name = name_is s c.args.mask c.requires b.result.at b.ensures.at b.result.number c.block_cells.result b.ensures.number c.block_cells.ensures;
    }
