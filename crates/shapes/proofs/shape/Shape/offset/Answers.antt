use Rattle.std.proofs.Common.{◌≡◌, ◌≤◌, ℕ, List, length, Option, None, Some, sym, ap, ◌∙◌, arith}
use Rattle.std.proofs.lemmas.List.{length-map}
use Rattle.shapes.specs.Arrays.{edges, numbered}
use Rattle.shapes.specs.Views.{dims_of, six}
use Rattle.shapes.specs.declared.shape.Shape.{Shape}
use Rattle.shapes.specs.declared.dims.Dim.{Dim}
use Rattle.shapes.proofs.Held.{dims_few}
use Rattle.shapes.proofs.Insides.{numbered-six, numbered_below, radices-product}
use Rattle.shapes.proofs.shape.Shape.offset.Goals as goal

-- the six edges number the coordinates as those of the dimensions do
by_dims : (s : Shape) (rs xs : List ℕ) (o : Option ℕ) → rs ≡ six 1 (edges (dims_of s)) → length xs ≡ 6 → o ≡ numbered rs xs → o ≡ numbered (edges (dims_of s)) xs
by_dims s rs xs o e long is =
    is ∙ (ap (λ ks. numbered ks xs) e ∙ numbered-six (edges (dims_of s)) xs (omega (arith, dims_few s, length-map (dims_of s) (λ (d : Dim). d.edge))) long)

pub returns-in_err-offset : goal.returns-in_err-offset
returns-in_err-offset c = c.from_residual.ensures ∙ by_dims c.args.self.now c.edge_radices.result.each c.args.local None c.edge_radices.ensures (omega arith) (sym c.in_err-offset.was ∙ c.number.ensures)

pub overflow_cast-result : goal.overflow_cast-result
overflow_cast-result c =
    let s = c.args.self.now in
    let few : length (edges (dims_of s)) ≤ 6 = omega (arith, dims_few s, length-map (dims_of s) (λ (d : Dim). d.edge)) in
    let at = numbered_below c.edge_radices.result.each c.args.local c.in_ok-offset.offset (omega (arith, c.edge_radices.result.six)) (sym c.number.ensures ∙ c.in_ok-offset.was) in
    omega (arith, at, radices-product (edges (dims_of s)) c.edge_radices.result.each c.edge_radices.ensures few, s.small_chunk)

pub returns : goal.returns
returns c = by_dims c.args.self.now c.edge_radices.result.each c.args.local (Some c.in_ok-offset.offset) c.edge_radices.ensures (omega arith) (sym c.in_ok-offset.was ∙ c.number.ensures)
