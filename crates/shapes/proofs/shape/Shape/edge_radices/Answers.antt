use Rattle.std.proofs.Common.{length, get_or, refl, ap, ◌∙◌, arith}
use Rattle.std.proofs.lemmas.List.{length-map}
use Rattle.shapes.specs.declared.dims.Dim.{Dim}
use Rattle.shapes.specs.Arrays.{edges}
use Rattle.shapes.specs.Views.{dims_of}
use Rattle.shapes.proofs.Held.{dims_few, held_some}
use Rattle.shapes.proofs.Insides.{radices-product}
use Rattle.shapes.proofs.Sixes.{length-six}
use Rattle.shapes.proofs.shape.Shape.edge_radices.Goals as goal

pub invariant_of-result : goal.invariant_of-result
invariant_of-result c =
    let s = c.args.self.now in
    let ks = edges (dims_of s) in
    let e = c.edges.ensures in
    record {
      six = ap length e ∙ length-six 1 ks;
      some = λ i l. omega (arith, ap (λ xs. get_or xs i 0) e, held_some s (λ (d : Dim). d.edge) refl (λ d f. f.2) i l);
      small = omega (arith, radices-product ks c.edges.result e (omega (arith, dims_few s, length-map (dims_of s) (λ (d : Dim). d.edge))), s.small_chunk);
    }
