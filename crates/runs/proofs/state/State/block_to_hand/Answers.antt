use Rattle.runs.proofs.NextBlocks.{none_next, too_short, long_enough}
use Rattle.runs.proofs.state.State.block_to_hand.Goals as goal

pub returns-in_default : goal.returns-in_default
returns-in_default c = none_next c.args.self.now c.args.lent c.args.room c.in_ok-check_lent.ensures c.in_default.is

pub returns-then-room-block : goal.returns-then-room-block
returns-then-room-block c =
    let b = c.next_block-block in
    too_short c.args.self.now c.args.lent c.args.room c.in_ok-check_lent.ensures c.in-Some.mask c.in-Some.is
    (b.result.mask, b.result.number, b.result.cells) b.ensures.name c.if-room-block.true

pub returns : goal.returns
returns c =
    let b = c.next_block-block in (
      b.ensures.next,
      long_enough c.args.self.now c.args.lent c.args.room c.in_ok-check_lent.ensures c.in-Some.mask c.in-Some.is
          (b.result.mask, b.result.number, b.result.cells) b.ensures.name c.if-room-block.false,
    )
