use Rattle.std.proofs.Common.{Some, None, sym, ap, ◌∙◌, ap₂}
use Rattle.std.proofs.lemmas.Result.{IfOk-weaker}
use Rattle.chunk_files.specs.Layouts.{file_dims}
use Rattle.chunk_files.specs.Contents.{file_chunk}
use Rattle.cubes.specs.Meanings.{meaning}
use Rattle.listings.specs.Lines.{refused_lines}
use Rattle.listings.specs.Listings.{summary_lines}
use Rattle.listings.specs.Refusals.{list_refusal}
use Rattle.listings.proofs.Answering.{listing_by}
use Rattle.listings.proofs.listing.list_as.Goals as goal

pub returns-in-Ok : goal.returns-in-Ok
returns-in-Ok g c =
    let empty = g.M.Measure.empty in
    let columns = g.M.Measure.columns in
    let op = g.M.Measure.op in
    let lifted = g.M.Measure.lifted in
    let opened = c.in-Ok.ensures in
    IfOk-weaker c.list_source.result _ _
    (λ s h. h ∙ (ap (λ bs. summary_lines empty columns op (meaning (file_dims bs) (file_chunk empty lifted bs))) opened.1
    ∙ sym (listing_by empty op lifted columns c.args.bytes.now None opened.0))) c.list_source.ensures

pub returns-in-Err : goal.returns-in-Err
returns-in-Err g c =
    IfOk-weaker c.refused_lines.result _ _
    (λ s h. h ∙ (ap₂ refused_lines c.number.ensures c.place.ensures
    ∙ sym (listing_by g.M.Measure.empty g.M.Measure.op g.M.Measure.lifted g.M.Measure.columns c.args.bytes.now (Some (list_refusal c.in-Err.e)) c.in-Err.ensures))) c.refused_lines.ensures
