use Rattle.std.proofs.Common.{◌≡◌, ◌-◌, length, string_bytes}
use Rattle.sources.specs.Meanings.{Meaning}
use Rattle.runs.specs.Holdings.{dims_in, moment}
use Rattle.runs.specs.Planned.{handing_order}
use Rattle.listings.specs.Making.{Driven, GoesOn}
use Rattle.listings.proofs.driving.add_waiting_blocks.Given as goal

abbrev pub invariant-loop-mask : goal.invariant-loop-mask
invariant-loop-mask g l =
    (length l.buffer ≡ length l.initial.buffer)
    × ((σ : Meaning g.row.M.Denot) → Driven g.M.Measure.empty g.M.Measure.op σ (moment l.initial.run)
    → GoesOn g.M.Measure.empty g.M.Measure.columns g.M.Measure.op σ (moment l.initial.run) (string_bytes l.initial.text) (moment l.run) (string_bytes l.text))

abbrev pub decreases-loop-mask : goal.decreases-loop-mask
decreases-loop-mask g l = length (handing_order (dims_in (moment l.run))) - l.run.state.control.handed
