use Rattle.std.proofs.Common.{◌≡◌, ℕ, ◌+◌, ◌*◌, ◌<◌, List, [], length, drop, Option, sym, ap, ◌∙◌, arith}
use Rattle.std.specs.List.{flat_map}
use Rattle.std.proofs.lemmas.List.{length-append}
use Rattle.shapes.specs.Arrays.{volume, total_chunks}
use Rattle.shapes.specs.Views.{dims_of}
use Rattle.chunk_files.specs.Bodies.{filled}
use Rattle.chunk_files.specs.Layouts.{entry_bytes}
use Rattle.chunk_files.specs.declared.entry.Entry.{Entry}
use Rattle.chunk_writers.specs.Tables.{cells_of, cells_in}
use Rattle.chunk_writers.specs.Written.{put, body_bytes, made_entry, entries_of, in_chunk}
use Rattle.chunk_writers.proofs.Filed.{left_from, all_bodies, size_file, left_more, no_more}
use Rattle.chunk_writers.proofs.Putting.{put_none, both_step}
use Rattle.chunk_writers.proofs.Tabled.{table_begins, table_entries, table_listed}
use Rattle.chunk_writers.proofs.table.Table.put_chunks.Goals as goal

pub loop-chunk-init : goal.loop-chunk-init
loop-chunk-init c =
    let t = c.args.self.now in
    let V = volume (dims_of t.shape) in
    let f = size_file t in
    let s = c.bodies_start-at.ensures.0 in
    let z : c.directory_start-from.result + 0 ≡ c.directory_start-from.result = omega arith in
    record {
      onward = table_begins t;
      past = omega arith;
      left = omega arith;
      written = ap (λ n. put (put c.args.out.now n (flat_map entry_bytes (entries_of V c.bodies_start-at.result (cells_in t)))) c.bodies_start-at.result (left_from (dims_of t.shape) t.rows.now 0)) z;
    }

pub split_body-requires-clause-onward : goal.split_body-requires-clause-onward
split_body-requires-clause-onward c = c.loop-chunk.invariant.onward

pub put-requires : goal.put-requires
put-requires c =
    let t = c.args.self.now in
    let ds = dims_of t.shape in
    let j = c.loop-chunk.chunk in
    let n = c.total_chunks-chunk-end.ensures in
    let l : j < total_chunks ds = omega arith in
    let bytes = body_bytes (volume ds) (in_chunk ds t.rows.now j) in
    let same : body_bytes c.split_body.result.0.cells (cells_of c.split_body.result.0) ≡ bytes = λ i. body_bytes (c.split_body.ensures.cells i) (c.split_body.ensures.body i) in
    let size = ap length same in
    let long = ap length (left_more t j l) ∙ length-append bytes (left_from ds t.rows.now (j + 1)) in
    let was = c.loop-chunk.invariant.left in
    let room = c.requires.fits in
    let wide = c.loop-chunk.auto.out in
    let kept = c.put_entry.auto.out in
    omega arith

pub loop-chunk-preserved : goal.loop-chunk-preserved
loop-chunk-preserved c =
    let t = c.args.self.now in
    let ds = dims_of t.shape in
    let V = volume ds in
    let j = c.loop-chunk.chunk in
    let at = c.loop-chunk.at in
    let from = c.directory_start-from.result in
    let n = c.total_chunks-chunk-end.ensures in
    let l : j < total_chunks ds = omega arith in
    let inv = c.loop-chunk.invariant in
    let past = inv.past in
    let was = inv.left in
    let room = c.requires.fits in
    let wide = c.loop-chunk.auto.out in
    let start = c.directory_start-from.ensures.0 in
    let cells = in_chunk ds t.rows.now j in
    let bytes = body_bytes V cells in
    let same : body_bytes c.split_body.result.0.cells (cells_of c.split_body.result.0) ≡ bytes = λ i. body_bytes (c.split_body.ensures.cells i) (c.split_body.ensures.body i) in
    let size : c.size-at.result ≡ length bytes = c.size-at.ensures.size ∙ ap length same in
    let left = left_more t j l in
    let long = ap length left ∙ length-append bytes (left_from ds t.rows.now (j + 1)) in
    let entry : c.entry.result ≡ made_entry V at (filled cells) = c.entry.ensures ∙ (λ i. made_entry (c.split_body.ensures.cells i) at (filled (c.split_body.ensures.body i))) in
    let wrote_entry = c.put_entry.ensures ∙ ap (λ (e : Entry). put c.loop-chunk.out (from + 8 * j) (entry_bytes e)) entry in
    let wrote_body = c.put.ensures ∙ ap (put c.put_entry.new.out at) same in
    let few = table_listed t (j + 1) (at + length bytes) in
    record {
      onward = c.split_body.ensures.onward;
      past = omega arith;
      left = omega arith;
      written =
          ap (λ m. put (put c.put.new.out (from + 8 * (j + 1)) (flat_map entry_bytes (entries_of V (at + m) (drop (j + 1) (cells_in t))))) (at + m) (left_from ds t.rows.now (j + 1))) size
          ∙ both_step c.loop-chunk.out c.put_entry.new.out c.put.new.out (from + 8 * j) (from + 8 * (j + 1)) at (at + length bytes) (entry_bytes (made_entry V at (filled cells))) (flat_map entry_bytes (entries_of V (at + length bytes) (drop (j + 1) (cells_in t)))) bytes (left_from ds t.rows.now (j + 1)) _ _
          wrote_entry wrote_body (omega arith) (omega arith) (ap (flat_map entry_bytes) (table_entries t j at l)) left (omega arith) (omega arith)
          ∙ inv.written;
    }

pub returns : goal.returns
returns c =
    let t = c.args.self.now in
    let ds = dims_of t.shape in
    let V = volume ds in
    let n = c.total_chunks-chunk-end.ensures in
    let none : drop c.loop-chunk.chunk (cells_in t) ≡ [] = no_more t c.loop-chunk.chunk (omega arith) in
    let a = c.directory_start-from.result + 8 * c.loop-chunk.chunk in
    sym (put_none c.loop-chunk.out c.loop-chunk.at)
    ∙ ap (λ o. put o c.loop-chunk.at []) (sym (put_none c.loop-chunk.out a))
    ∙ ap (λ (css : List (List (Option ℕ))). put (put c.loop-chunk.out a (flat_map entry_bytes (entries_of V c.loop-chunk.at css))) c.loop-chunk.at (all_bodies V css)) (sym none)
    ∙ c.loop-chunk.invariant.written
    ∙ (λ i. put (put c.args.out.now (c.directory_start-from.ensures.0 i) (flat_map entry_bytes (entries_of V (c.bodies_start-at.ensures.0 i) (cells_in t)))) (c.bodies_start-at.ensures.0 i) (all_bodies V (cells_in t)))
