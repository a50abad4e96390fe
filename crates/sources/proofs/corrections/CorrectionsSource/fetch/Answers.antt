use Rattle.std.proofs.Common.{sym, ap, ◌∙◌}
use Rattle.std.proofs.lemmas.Iterator.{YieldsList-from_slice}
use Rattle.std.proofs.lemmas.Iterator.Consumers.{YieldsList-from_copied}
use Rattle.shapes.specs.Arrays.{volume}
use Rattle.sources.specs.Corrected.{held_in}
use Rattle.sources.specs.Meanings.{Meaning, means}
use Rattle.sources.proofs.Correcting.{over_sized, cells_corrected, drained}
use Rattle.sources.proofs.corrections.CorrectionsSource.fetch.Goals as goal

pub returns-in_err-fetch-clause-sized : goal.returns-in_err-fetch-clause-sized
returns-in_err-fetch-clause-sized g c =
    let m = g.M.Measure in
    over_sized m.lawful m.lifted (held_in c.args.self.now.table) (means g.S.Shaped.told g.S.Source.contents c.args.self.now.below) c.fetch.ensures.sized

pub returns-clause-fills : goal.returns-clause-fills
returns-clause-fills g c =
    let m = g.M.Measure in
    let below : Meaning g.row.M.Denot = means g.S.Shaped.told g.S.Source.contents c.args.self.now.below in
    let cs = held_in c.args.self.now.table in
    let joined = c.join_corrections.ensures in
    cells_corrected m.lawful m.lifted below cs joined.0 c.args.number _ c.args.into.now _ _ c.fetch.ensures.sized (sym c.fetch.ensures.answers ∙ c.in_ok-fetch.was) c.fetch.ensures.fills
    (c.chunk_cells-v.ensures ∙ ap volume (c.shape.ensures ∙ ap (λ (n : Meaning g.row.M.Denot). n.dims) c.fetch.ensures.same))
    (drained joined.0 joined.1 (YieldsList-from_copied (YieldsList-from_slice cs (cc)))) joined.2
