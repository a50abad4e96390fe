use Rattle.std.proofs.Common.{length, Ok, refl, subst, arith}
use Rattle.runs.specs.Holdings.{Moment, moment_of, dims_in, state_view, root_mask}
use Rattle.runs.specs.Steps.{BlockToHand}
use Rattle.runs.proofs.HandReady.{mask_few}
use Rattle.runs.proofs.HandsMade.{accepted, hands_accepted}
use Rattle.runs.proofs.handing.hand_block.Goals as goal

pub overflow_cast-result : goal.overflow_cast-result
overflow_cast-result g c =
    let m = g.M.Measure in
    let b : Moment g.row.M.Denot = moment_of c.args.state.now c.args.cells.now in
    let x = c.in_ok-block.block in
    let found : BlockToHand c.args.state.now (length c.args.cells.now) (length c.args.buffer.now) (Ok x) = subst (BlockToHand c.args.state.now (length c.args.cells.now) (length c.args.buffer.now)) c.in_ok-block.was c.block_to_hand.ensures in
    omega (arith, mask_few m.empty m.op m.lawful b x found.0 (root_mask (dims_in b)) refl)

pub write_next-requires : goal.write_next-requires
write_next-requires g c =
    let x = c.in_ok-block.block in
    let found : BlockToHand c.args.state.now (length c.args.cells.now) (length c.args.buffer.now) (Ok x) = subst (BlockToHand c.args.state.now (length c.args.cells.now) (length c.args.buffer.now)) c.in_ok-block.was c.block_to_hand.ensures in
    let fits = accepted (state_view c.args.state.now (length c.args.cells.now)) (length c.args.buffer.now) (x.mask, x.number, x.cells) found.1 in
    record { enough = fits.0; next = found.0; room = fits.1 }

pub pass_block-requires : goal.pass_block-requires
pass_block-requires g c =
    let x = c.in_ok-block.block in
    let found : BlockToHand c.args.state.now (length c.args.cells.now) (length c.args.buffer.now) (Ok x) = subst (BlockToHand c.args.state.now (length c.args.cells.now) (length c.args.buffer.now)) c.in_ok-block.was c.block_to_hand.ensures in
    record {
      enough = (accepted (state_view c.args.state.now (length c.args.cells.now)) (length c.args.buffer.now) (x.mask, x.number, x.cells) found.1).0;
      next = found.0;
    }

pub returns : goal.returns
returns g c =
    let m = g.M.Measure in
    let b : Moment g.row.M.Denot = moment_of c.args.state.now c.args.cells.now in
    let x = c.in_ok-block.block in
    let found : BlockToHand c.args.state.now (length c.args.cells.now) (length c.args.buffer.now) (Ok x) = subst (BlockToHand c.args.state.now (length c.args.cells.now) (length c.args.buffer.now)) c.in_ok-block.was c.block_to_hand.ensures in
    hands_accepted m.empty m.op m.lawful b x found.0 c.args.buffer.now (x.mask, x.number, x.cells) found.1 c.write_next.new.out c.write_next.ensures
    (moment_of c.pass_block.new.state c.pass_block.new.cells) c.pass_block.ensures
