use Rattle.std.proofs.Common.{Err, sym, refl, ap, ◌∙◌}
use Rattle.std.proofs.lemmas.Result.{err_from_is_err_and}
use Rattle.shapes.specs.Views.{dims_of}
use Rattle.chunk_files.proofs.Fetching.{meaning, file_sized, refused, answered, filled_up}
use Rattle.chunk_files.proofs.source.ChunkFileSource.fetch.Goals as goal

pub returns-in_err-cells : goal.returns-in_err-cells
returns-in_err-cells g c =
    let m = g.M.Measure in
    let bs = c.args.self.now.bytes.now in
    let refusal = err_from_is_err_and c.from_residual.result c.from_residual.ensures.1 in
    let no = refused m.empty m.lifted bs c.args.number c.args.into.now (dims_of c.args.self.now.shape) c.args.self.now.told _ (sym c.check_room.ensures ∙ c.in_err-cells.was) in
    record {
      same = refl {a = meaning m.empty m.lifted bs};
      sized = file_sized m.empty m.lifted bs;
      answers = refusal.1 ∙ ap Err refusal.2 ∙ sym no.0;
      fills = sym no.1;
    }

pub returns : goal.returns
returns g c =
    let m = g.M.Measure in
    let bs = c.args.self.now.bytes.now in
    let k = c.args.number in
    let xs = c.args.into.now in
    let v = c.in_ok-cells.cells in
    let ds = dims_of c.args.self.now.shape in
    let room = sym c.check_room.ensures ∙ c.in_ok-cells.was in
    record {
      same = refl {a = meaning m.empty m.lifted bs};
      sized = file_sized m.empty m.lifted bs;
      answers = answered m.empty m.lifted bs k xs ds c.args.self.now.told v room c.entry.result c.entry.ensures c.read_chunk.result c.read_chunk.ensures.answers;
      fills = filled_up m.empty m.lifted bs k xs ds c.args.self.now.told v room c.entry.result c.entry.ensures c.read_chunk.new.cells c.read_chunk.ensures.fills;
    }
