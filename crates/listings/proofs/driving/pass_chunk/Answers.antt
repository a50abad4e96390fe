use Rattle.std.proofs.Common.{not, ap, ◌∙◌}
use Rattle.sources.specs.Meanings.{means}
use Rattle.runs.specs.Holdings.{moment}
use Rattle.listings.proofs.DrivenSteps.{chunk_taken, chunk_skipped}
use Rattle.listings.proofs.driving.pass_chunk.Goals as goal

pub returns-then-is_err : goal.returns-then-is_err
returns-then-is_err g c =
    let σ = means g.S.Shaped.told g.S.Source.contents c.args.source.now in
    let τ = means g.S.Shaped.told g.S.Source.contents c.take.new.source in
    let p = chunk_skipped g.M.Measure.empty g.M.Measure.op σ (moment c.args.run.now) c.requires.driven c.requires.idle c.requires.more τ c.take.ensures.same c.take.result c.skip.result
    (moment c.take.new.self) (moment c.skip.new.self) c.take.ensures.takes (c.is_err.ensures.negation ∙ ap not c.if-is_err.true) c.skip.ensures.skips in
    record { same = c.skip.ensures.same ∙ c.take.ensures.same; driven = p.0; passed = p.1; handed = p.2 }

pub returns-else-is_err : goal.returns-else-is_err
returns-else-is_err g c =
    let σ = means g.S.Shaped.told g.S.Source.contents c.args.source.now in
    let p = chunk_taken g.M.Measure.empty g.M.Measure.op σ (moment c.args.run.now) c.requires.driven c.requires.idle c.requires.more c.take.result (moment c.take.new.self) c.take.ensures.takes
    (c.is_err.ensures.negation ∙ ap not c.if-is_err.false) in
    record { same = c.take.ensures.same; driven = p.0; passed = p.1; handed = p.2 }
