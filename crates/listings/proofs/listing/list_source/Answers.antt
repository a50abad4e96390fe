use Rattle.std.proofs.Common.{◌≡◌, ℕ, ◌≤◌, ◌++◌, replicate, string_bytes, ap, ◌∙◌, ap₂, arith}
use Rattle.shapes.specs.Arrays.{volume}
use Rattle.shapes.specs.Views.{dims_of}
use Rattle.sources.specs.Meanings.{Meaning, means}
use Rattle.runs.specs.Holdings.{moment}
use Rattle.runs.specs.Planned.{need_of}
use Rattle.runs.specs.Surveys.{unreadable_chunks}
use Rattle.listings.specs.Lines.{dims_line, cells_line}
use Rattle.listings.specs.Listings.{given_cells}
use Rattle.listings.proofs.DrivenAnswers.{volume_needed}
use Rattle.listings.proofs.DrivenEnds.{listed_whole}
use Rattle.listings.proofs.DrivenSteps.{driven_first}
use Rattle.listings.proofs.listing.list_source.Goals as goal

pub add_first_lines-requires : goal.add_first_lines-requires
add_first_lines-requires g c = omega (arith, volume_needed (g.S.Shaped.told c.args.source.now), c.requires.enough)

pub add_all_blocks-listed-requires : goal.add_all_blocks-listed-requires
add_all_blocks-listed-requires g c =
    let τ = means g.S.Shaped.told g.S.Source.contents c.add_first_lines.new.source in
    let same = ap (λ (ρ : Meaning g.row.M.Denot). ρ.dims) c.add_first_lines.ensures.same in
    let enough : need_of τ.dims ≤ given_cells = omega (arith, ap need_of same, c.requires.enough) in
    let d = driven_first g.M.Measure.empty g.M.Measure.op τ (dims_of c.shape.result) (replicate given_cells c.empty-cells.result) (moment c.make-run.result) c.make-run.ensures.makes c.shape.ensures enough in
    record { driven = d.0; fresh = (d.1, d.2); room = omega (arith, ap volume same, volume_needed (g.S.Shaped.told c.args.source.now), c.requires.enough, c.add_first_lines.auto.buffer) }

pub returns : goal.returns
returns g c =
    let σ = means g.S.Shaped.told g.S.Source.contents c.args.source.now in
    let τ = means g.S.Shaped.told g.S.Source.contents c.add_first_lines.new.source in
    let head : string_bytes c.add_first_lines.new.text ≡ dims_line σ.dims ++ cells_line (need_of σ.dims) (unreadable_chunks σ) =
    c.in_ok-add_first_lines.ensures.lines
    ∙ ap₂ (λ ts (n : ℕ). ts ++ (dims_line σ.dims ++ cells_line n (unreadable_chunks σ))) c.new-text.ensures.bytes c.requires.needs in
    listed_whole g.M.Measure.empty g.M.Measure.columns g.M.Measure.op σ τ (moment c.add_all_blocks-listed.new.run) (string_bytes c.add_first_lines.new.text)
    (string_bytes c.add_all_blocks-listed.new.text) (string_bytes c.add_end_line.new.text) c.close-closed.result c.add_first_lines.ensures.same c.in_ok-listed.ensures
    c.close-closed.ensures.closed head c.in_ok-add_end_line.ensures
