use Rattle.std.proofs.Common.{◌≡◌, ◌+◌, length, ap, ◌∙◌, arith}
use Rattle.std.proofs.lemmas.List.{length-append}
use Rattle.shapes.specs.Arrays.{volume}
use Rattle.shapes.specs.Views.{dims_of}
use Rattle.chunk_writers.specs.Written.{body_bytes, in_chunk}
use Rattle.chunk_writers.proofs.Filed.{left_from, size_file, left_more}
use Rattle.chunk_writers.proofs.Tabled.{first_key, no_key, table_begins, table_next, table_done}
use Rattle.chunk_writers.proofs.table.Table.size.Goals as goal

pub loop-key-init : goal.loop-key-init
loop-key-init c =
    let t = c.args.self.now in
    let f = size_file t in
    let s = c.bodies_start-size.ensures.0 in
    record { chunk = 0; within = omega arith; onward = table_begins t; left = omega arith; bound = omega arith }

pub split_body-requires : goal.split_body-requires
split_body-requires c =
    let t = c.args.self.now in
    let inv = c.loop-key.invariant in
    let first = first_key c.loop-key.keys.now c.in-Some.key.now c.in-Some.ensures.value in
    let next = table_next t inv.chunk c.loop-key.keys.now c.in-Some.key.now inv.onward first.0 first.1 in
    record { within = next.1; onward = next.0 }

pub loop-key-preserved : goal.loop-key-preserved
loop-key-preserved c =
    let t = c.args.self.now in
    let ds = dims_of t.shape in
    let inv = c.loop-key.invariant in
    let j = c.in-Some.key.now.chunk in
    let first = first_key c.loop-key.keys.now c.in-Some.key.now c.in-Some.ensures.value in
    let next = table_next t inv.chunk c.loop-key.keys.now c.in-Some.key.now inv.onward first.0 first.1 in
    let below = next.1 in
    let same = next.2 in
    let was = inv.left in
    let long = ap length (left_more t j next.1) ∙ length-append (body_bytes (volume ds) (in_chunk ds t.rows.now j)) (left_from ds t.rows.now (j + 1)) in
    let size : c.size-size.result ≡ length (body_bytes (volume ds) (in_chunk ds t.rows.now j)) = c.size-size.ensures.size ∙ (λ i. length (body_bytes (c.split_body.ensures.cells i) (c.split_body.ensures.body i))) in
    let bound = inv.bound in
    let few = c.size-size.ensures.bound in
    let all = c.split_body.ensures.all in
    record { chunk = j + 1; within = omega arith; onward = c.split_body.ensures.onward; left = omega arith; bound = omega arith }

pub returns : goal.returns
returns c =
    let inv = c.loop-key.invariant in
    let done = table_done c.args.self.now inv.chunk c.loop-key.keys.now inv.within inv.onward (no_key c.loop-key.keys.now c.in_default.ensures.value) in
    let was = inv.left in
    omega arith
