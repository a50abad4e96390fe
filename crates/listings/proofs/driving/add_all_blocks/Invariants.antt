use Rattle.std.proofs.Common.{◌≡◌, string_bytes}
use Rattle.sources.specs.Meanings.{means}
use Rattle.runs.specs.Answers.{passed}
use Rattle.runs.specs.Holdings.{moment, view}
use Rattle.listings.specs.Making.{Rests}
use Rattle.listings.proofs.driving.add_all_blocks.Given as goal

abbrev pub invariant-loop-scan : goal.invariant-loop-scan
invariant-loop-scan g l =
    (means g.S.Shaped.told g.S.Source.contents l.source ≡ means g.S.Shaped.told g.S.Source.contents l.initial.source)
    × (passed (view (moment l.run)) ≡ l._scan)
    × Rests g.M.Measure.empty g.M.Measure.columns g.M.Measure.op (means g.S.Shaped.told g.S.Source.contents l.initial.source) (string_bytes l.initial.text) (moment l.run) (string_bytes l.text)
