use Rattle.std.proofs.Common.{◌<◌, length, sym, ap, ◌∙◌, arith}
use Rattle.std.proofs.lemmas.List.{length-map, get_or_default}
use Rattle.shapes.specs.Arrays.{counts, chunks, none_dim}
use Rattle.shapes.specs.Views.{dims_of}
use Rattle.shapes.proofs.Held.{dims_long, held_more, held_all, count_at}
use Rattle.shapes.proofs.shape.Shape.chunk_counts.Goals as goal

pub loop-i-preserved : goal.loop-i-preserved
loop-i-preserved c =
    let s = c.args.self.now in
    let ds = dims_of s in
    let i = c.loop-i.i in
    let here : i < length ds = omega (arith, dims_long s) in
    held_more s 1 (counts ds) (length-map ds chunks) c.loop-i.counts i _ (omega (arith, dims_long s)) c.loop-i.invariant
    (ap chunks (get_or_default ds i (record { size = 0; edge = 0 }) none_dim here) ∙ sym (count_at ds i here))

pub returns : goal.returns
returns c = held_all c.args.self.now 1 (counts (dims_of c.args.self.now)) (length-map (dims_of c.args.self.now) chunks) c.loop-i.counts c.loop-i.i (omega (arith, dims_long c.args.self.now)) c.loop-i.invariant
