use Rattle.std.proofs.Common.{rules, ap, ◌∙◌, map}
use borrow.Author.Tests.{tests}
use Rattle.shapes.specs.Arrays.{none_dim}
use Rattle.shapes.specs.Views.{dims_of}
use Rattle.shapes.specs.declared.dims.Dim.{Dim}
use Rattle.shapes.proofs.Made.{made_map}
use Rattle.shapes.proofs.Held.{held_six}
use Rattle.shapes.proofs.Sixes.{map-six}
use Rattle.shapes.proofs.shape.Shape.edges.Goals as goal

pub returns : goal.returns
returns c =
    let s = c.args.self.now in
    made_map _ (λ (d : Dim). d.edge) none_dim 0 s.dims c.map.result c.map.ensures.items s.six (λ k y q l b. search (rules, tests))
    ∙ (ap (map (λ (d : Dim). d.edge)) (held_six s) ∙ map-six (λ (d : Dim). d.edge) none_dim (dims_of s))
