use Rattle.std.proofs.Common.{length, get_or, refl, ap, ◌∙◌, arith}
use Rattle.std.proofs.lemmas.List.{length-map}
use Rattle.shapes.specs.Arrays.{counts, chunks}
use Rattle.shapes.specs.Views.{dims_of}
use Rattle.shapes.proofs.Held.{dims_few, chunks_few, held_some, count_some}
use Rattle.shapes.proofs.Insides.{radices-product}
use Rattle.shapes.proofs.Sixes.{length-six}
use Rattle.shapes.proofs.shape.Shape.count_radices.Goals as goal

pub invariant_of-result : goal.invariant_of-result
invariant_of-result c =
    let s = c.args.self.now in
    let ks = counts (dims_of s) in
    let e = c.chunk_counts.ensures in
    record {
      six = ap length e ∙ length-six 1 ks;
      some = λ i l. omega (arith, ap (λ xs. get_or xs i 0) e, held_some s chunks refl count_some i l);
      small = omega (arith, radices-product ks c.chunk_counts.result e (omega (arith, dims_few s, length-map (dims_of s) chunks)), chunks_few s);
    }
