use Rattle.std.proofs.Common.{◌≡◌, ◌%◌, get_or, sym, ◌∙◌, arith, rules}
use Rattle.shapes.specs.Arrays.{local_of, dim}
use Rattle.shapes.specs.Views.{dims_of}
use Rattle.shapes.proofs.Held.{dims_long, dims_few, held_by, local_of_long, local_of_at}
use Rattle.shapes.proofs.shape.Shape.local_of.Goals as goal

pub returns : goal.returns
returns c =
    let s = c.args.self.now in
    let ds = dims_of s in
    let few = dims_few s in
    let n = dims_long s in
    let xs = c.args.at in
    held_by s (local_of ds xs) c.by_dimension.result (omega arith) (local_of_long ds xs (omega arith)) (λ i l.
    let e : get_or c.by_dimension.result i 0 ≡ get_or xs i 0 % (dim ds i).edge = search (rules, c.by_dimension.ensures.each i l) in
    e ∙ sym (local_of_at ds xs i (omega arith) (omega arith))) c.by_dimension.ensures.past
