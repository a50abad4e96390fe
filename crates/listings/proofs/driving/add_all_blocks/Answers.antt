use Rattle.std.proofs.Common.{◌+◌, string_bytes, refl, ap, ◌∙◌, subst}
use Rattle.sources.specs.Meanings.{Meaning, means}
use Rattle.runs.specs.Holdings.{moment}
use Rattle.listings.specs.Making.{Driven}
use Rattle.listings.proofs.DrivenLines.{rests_first, rests_next}
use Rattle.listings.proofs.driving.add_all_blocks.Goals as goal

pub loop-scan-init : goal.loop-scan-init
loop-scan-init g c =
    let σ = means g.S.Shaped.told g.S.Source.contents c.args.source.now in (
      refl,
      c.requires.fresh.0,
      rests_first g.M.Measure.empty g.M.Measure.columns g.M.Measure.op σ (string_bytes c.args.text.now) (moment c.args.run.now) c.requires.driven c.requires.fresh.0 c.requires.fresh.1,
    )

pub loop-scan-preserved : goal.loop-scan-preserved
loop-scan-preserved g c =
    let empty = g.M.Measure.empty in
    let op = g.M.Measure.op in
    let σ = means g.S.Shaped.told g.S.Source.contents c.args.source.now in
    let inv = c.loop-scan.invariant in
    let driven : Driven empty op σ (moment c.pass_chunk.new.run) = subst (λ (τ : Meaning g.row.M.Denot). Driven empty op τ (moment c.pass_chunk.new.run)) inv.0 c.pass_chunk.ensures.driven in
    let handed = c.in_ok-add_waiting_blocks.ensures σ driven in (
      c.pass_chunk.ensures.same ∙ inv.0,
      handed.1.passes_none ∙ (c.pass_chunk.ensures.passed ∙ ap (λ n. n + 1) inv.1),
      rests_next empty g.M.Measure.columns op σ (string_bytes c.args.text.now) (moment c.loop-scan.run) (moment c.pass_chunk.new.run) (moment c.add_waiting_blocks.new.run)
          (string_bytes c.loop-scan.text) (string_bytes c.add_waiting_blocks.new.text) inv.2 c.pass_chunk.ensures.handed handed.0 handed.1,
    )
