use Rattle.std.proofs.Common.{length, sym, refl, ap, ◌∙◌, arith}
use Rattle.std.proofs.lemmas.List.FromFn.{length-map-range_with_len}
use Rattle.shapes.specs.Arrays.{total_chunks}
use Rattle.shapes.specs.Views.{dims_of}
use Rattle.chunk_writers.specs.Tables.{cells_in}
use Rattle.chunk_writers.specs.Written.{in_chunk}
use Rattle.chunk_writers.specs.Answers.{room_answer}
use Rattle.chunk_writers.proofs.Filed.{size_file}
use Rattle.chunk_writers.proofs.Answered.{room_granted, put_file}
use Rattle.chunk_writers.proofs.writer.put_file.Goals as goal

pub put_header-requires : goal.put_header-requires
put_header-requires c =
    let t = c.args.table.now in
    let g = room_granted c.size-size.result (length c.args.out.now) c.in_ok-check_room.ensures in
    let n = c.size-size.ensures in
    let f = size_file t in
    omega arith

pub returns : goal.returns
returns c =
    let t = c.args.table.now in
    let ds = dims_of t.shape in
    let g = room_granted c.size-size.result (length c.args.out.now) c.in_ok-check_room.ensures in
    let n = c.size-size.ensures in
    record {
      answers = sym c.in_ok-check_room.ensures ∙ ap (λ m. room_answer m (length c.args.out.now)) n;
      bytes = put_file ds (cells_in t) c.args.out.now c.put_header.new.out _ c.put_chunks.new.out (length-map-range_with_len (in_chunk ds t.rows.now) 0 (total_chunks ds)) (omega arith) c.put_header.ensures refl c.put_chunks.ensures;
    }
