use Rattle.std.proofs.Common.{ap, ◌∙◌, arith}
use Rattle.std.proofs.lemmas.List.{length-map}
use Rattle.shapes.specs.Arrays.{counts, chunks, numbered}
use Rattle.shapes.specs.Views.{dims_of}
use Rattle.shapes.proofs.Held.{dims_few}
use Rattle.shapes.proofs.Insides.{numbered-six}
use Rattle.shapes.proofs.shape.Shape.storage_number.Goals as goal

pub returns : goal.returns
returns c =
    let ds = dims_of c.args.self.now in
    c.number.ensures ∙ (ap (λ ks. numbered ks c.args.chunk) c.count_radices.ensures ∙ numbered-six (counts ds) c.args.chunk (omega (arith, dims_few c.args.self.now, length-map ds chunks)) (omega arith))
