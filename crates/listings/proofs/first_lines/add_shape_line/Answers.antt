use Rattle.std.proofs.Common.{◌≡◌, List, length, take, refl, ◌∙◌, ap₂, subst}
use Rattle.shapes.specs.declared.dims.Dim.{Dim}
use Rattle.shapes.specs.Arrays.{none_dim}
use Rattle.shapes.specs.Views.{dims_of}
use Rattle.shapes.proofs.Held.{dims_few}
use Rattle.shapes.proofs.Sixes.{take-six}
use Rattle.listings.specs.Lines.{dims_line}
use Rattle.listings.specs.Making.{Writes}
use Rattle.listings.proofs.first_lines.add_shape_line.Goals as goal

pub returns : goal.returns
returns c =
    let ds = dims_of c.args.shape.now in
    let same : take c.dimensions.result c.dims-dims.result ≡ ds =
    ap₂ take c.dimensions.ensures c.dims-dims.ensures ∙ take-six none_dim ds (length ds) refl (dims_few c.args.shape.now) in
    let written : List Dim → Type 0 = λ xs. Writes c.add_dims_line.result c.args.text.now c.add_dims_line.new.text (dims_line xs) in
    subst written same c.add_dims_line.ensures
