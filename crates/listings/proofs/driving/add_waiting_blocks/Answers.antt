use Rattle.std.proofs.Common.{◌≤◌, length, is_ok, string_bytes, ap, ◌∙◌, arith}
use Rattle.shapes.specs.Arrays.{volume}
use Rattle.runs.specs.Holdings.{dims_in, moment}
use Rattle.listings.proofs.DrivenLines.{fewer_left, goes_on_more, goes_on_idle}
use Rattle.listings.proofs.driving.add_waiting_blocks.Goals as goal

pub loop-mask-preserved : goal.loop-mask-preserved
loop-mask-preserved g c = (
  c.hand.ensures.hands.rest_stays.0 ∙ c.loop-mask.invariant.0,
  λ σ driven.
      let empty = g.M.Measure.empty in
      let columns = g.M.Measure.columns in
      let room : volume (dims_in (moment c.args.run.now)) ≤ length c.loop-mask.buffer = omega (arith, c.requires, c.loop-mask.invariant.0) in
      goes_on_more empty columns g.M.Measure.op σ (moment c.args.run.now) (string_bytes c.args.text.now) driven (moment c.loop-mask.run) (string_bytes c.loop-mask.text)
      (c.loop-mask.invariant.1 σ driven) c.loop-mask.buffer c.hand.result c.hand.new.buffer (moment c.hand.new.self) c.hand.ensures.hands room (c.in-Ok.mask, c.in-Ok.number, c.in-Ok.cells) c.in-Ok.is
      (string_bytes c.add_block_lines.new.text)
      c.in_ok-add_block_lines.ensures,
)

pub loop-mask-smaller : goal.loop-mask-smaller
loop-mask-smaller g c =
    fewer_left g.M.Measure.empty g.M.Measure.op (moment c.loop-mask.run) c.loop-mask.buffer c.hand.result c.hand.new.buffer (moment c.hand.new.self) c.hand.ensures.hands
    (c.in-Ok.mask, c.in-Ok.number, c.in-Ok.cells) c.in-Ok.is

pub returns : goal.returns
returns g c = λ σ driven.
    let room : volume (dims_in (moment c.args.run.now)) ≤ length c.loop-mask.buffer = omega (arith, c.requires, c.loop-mask.invariant.0) in
    goes_on_idle g.M.Measure.empty g.M.Measure.columns g.M.Measure.op σ (moment c.args.run.now) (string_bytes c.args.text.now) driven (moment c.loop-mask.run) (string_bytes c.loop-mask.text)
    (c.loop-mask.invariant.1 σ driven) c.loop-mask.buffer c.hand.result c.hand.new.buffer (moment c.hand.new.self) c.hand.ensures.hands room (ap is_ok c.in_default.is)
