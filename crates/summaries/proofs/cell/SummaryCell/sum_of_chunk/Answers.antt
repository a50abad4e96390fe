use Rattle.std.proofs.Common.{◌≡◌, ◌<◌, cond, length, get_or, take, sym, ap, ◌∙◌, ap₂, arith}
use Rattle.shapes.specs.Arrays.{volume, total_chunks, counts, edges, digits, cell_at, agrees}
use Rattle.cubes.specs.Summaries.{big}
use Rattle.shapes.specs.Views.{dims_of}
use Rattle.shapes.proofs.Held.{dims_few}
use Rattle.shapes.proofs.Masks.{length-group}
use Rattle.sources.specs.Meanings.{means, cells_after}
use Rattle.summaries.specs.Cells.{group_at}
use Rattle.summaries.proofs.Fetched.{sum-six, sum_readable, sum_unreadable, first_long}
use Rattle.summaries.proofs.cell.SummaryCell.sum_of_chunk.Goals as goal

pub returns-in-Ok-clause-sum : goal.returns-in-Ok-clause-sum
returns-in-Ok-clause-sum g c =
    let empty = g.M.Measure.empty in
    let op = g.M.Measure.op in
    let s = c.args.self.now in
    let h = group_at s in
    let ds = dims_of s.shape in
    let m = means g.S.Shaped.told g.S.Source.contents c.args.source.now in
    let e : ds ≡ m.dims = c.requires.shaped in
    let k = c.args.number in
    let xs = c.args.cells.now in
    let ys = take c.chunk_cells-v.result c.fetch.new.into in
    let v : c.chunk_cells-v.result ≡ volume m.dims = c.chunk_cells-v.ensures ∙ ap volume e in
    let first : ys ≡ take (volume m.dims) (cells_after empty m k xs) = ap₂ take v c.fetch.ensures.fills in
    let long : length ys ≡ volume ds = ap length first ∙ (first_long empty m k c.requires.there xs c.requires.room c.fetch.ensures.sized ∙ ap volume (sym e)) in
    let there : k < total_chunks ds = omega (arith, c.requires.there, ap total_chunks e) in
    c.sum_where.ensures
    ∙ (sum-six empty op g.M.Measure.lawful ds h s.kept s.at k ys c.digits.result (dims_few s.shape) (length-group (length ds) s.mask) there long (c.digits.ensures ∙ ap (λ ks. digits ks k) c.count_radices.ensures) s.of_mask
    ∙ (ap (λ es. big empty op (λ o. cond (agrees h s.at (cell_at es (digits (counts es) k) (digits (edges es) o))) (get_or ys o empty) empty) (volume es)) e
    ∙ (ap (λ zs. big empty op (λ o. cond (agrees h s.at (cell_at m.dims (digits (counts m.dims) k) (digits (edges m.dims) o))) (get_or zs o empty) empty) (volume m.dims)) first
    ∙ sum_readable empty op g.M.Measure.lawful m k c.requires.there h s.at xs c.requires.room c.fetch.ensures.sized (sym c.fetch.ensures.answers ∙ c.in-Ok.is))))

pub returns-in-Err-clause-sum : goal.returns-in-Err-clause-sum
returns-in-Err-clause-sum g c =
    let m = means g.S.Shaped.told g.S.Source.contents c.args.source.now in
    let s = c.args.self.now in
    c.empty.ensures ∙ sum_unreadable g.M.Measure.empty g.M.Measure.op g.M.Measure.lawful m c.args.number c.requires.there (group_at s) s.at c.args.cells.now c.requires.room c.in-Err.field-0 (sym c.fetch.ensures.answers ∙ c.in-Err.is)
