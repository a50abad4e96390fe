use Rattle.std.proofs.Common.{◌≡◌, ◌+◌, ◌-◌, drop}
use Rattle.shapes.specs.Arrays.{total_chunks, volume}
use Rattle.shapes.specs.Views.{dims_of}
use Rattle.sources.specs.Meanings.{means}
use Rattle.cubes.specs.Handing.{block_count}
use Rattle.runs.specs.Holdings.{moment, view}
use Rattle.runs.specs.Surveys.{accepted}
use Rattle.runs.proofs.Surveying.{Driven}
use Rattle.runs.proofs.surveys.run_through.Given as goal

abbrev pub invariant-turns : goal.invariant-turns
invariant-turns g l =
    (l.run.cells.ghost_name ≡ l.initial.run.cells.ghost_name)
    × (means g.S.Shaped.told g.S.Source.contents l.source ≡ means g.S.Shaped.told g.S.Source.contents l.initial.source)
    × (drop (volume (dims_of l.initial.run.state.shape)) l.buffer ≡ drop (volume (dims_of l.initial.run.state.shape)) l.initial.buffer)
    × Driven g.M.Measure.empty g.M.Measure.op (means g.S.Shaped.told g.S.Source.contents l.initial.source) (moment l.initial.run) (moment l.run)

-- the calls that are still to be accepted
abbrev pub decreases-turns : goal.decreases-turns
decreases-turns g l = (total_chunks (dims_of l.run.state.shape) + block_count (dims_of l.run.state.shape)) - accepted (view (moment l.run))
