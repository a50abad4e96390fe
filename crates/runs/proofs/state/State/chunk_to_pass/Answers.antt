use Rattle.std.proofs.Common.{true, false, sym}
use Rattle.shapes.specs.Views.{same_shape}
use Rattle.runs.proofs.StateAnswers.{compared, waits_first, all_were_passed, other_shape, next_chunk_is}
use Rattle.runs.proofs.state.State.chunk_to_pass.Goals as goal

pub returns-then-is_waiting : goal.returns-then-is_waiting
returns-then-is_waiting c = waits_first c.args.self.now c.args.lent c.args.other.now c.in_ok-check_lent.ensures (sym (c.if-is_waiting.ensures c.args.lent))

pub returns-then-self : goal.returns-then-self
returns-then-self c = all_were_passed c.args.self.now c.args.lent c.args.other.now c.in_ok-check_lent.ensures
    (sym (c.if-is_waiting.ensures c.args.lent)) c.if-self.true

pub returns-then-ne : goal.returns-then-ne
returns-then-ne c = other_shape c.args.self.now c.args.lent c.args.other.now c.in_ok-check_lent.ensures
    (sym (c.if-is_waiting.ensures c.args.lent)) c.if-self.false (compared (same_shape c.args.self.now.shape c.args.other.now) c.ne.result true c.ne.ensures c.if-ne.true)

pub returns : goal.returns
returns c = next_chunk_is c.args.self.now c.args.lent c.args.other.now c.in_ok-check_lent.ensures
    (sym (c.if-is_waiting.ensures c.args.lent)) c.if-self.false c.next_storage.result
    (compared (same_shape c.args.self.now.shape c.args.other.now) c.ne.result false c.ne.ensures c.if-ne.false) c.next_storage.ensures
