use Rattle.std.proofs.Common.{◌*◌, cond, get_or, sym, ap, ◌∙◌}
use Rattle.std.proofs.lemmas.Bool.{lt-ltb}
use Rattle.shapes.specs.declared.dims.Dim.{Dim}
use Rattle.shapes.specs.Arrays.{dim}
use Rattle.shapes.specs.Views.{dims_of}
use Rattle.runs.proofs.FromShape.{dims_at}
use Rattle.runs.proofs.layouts.Layout.first.Goals as goal

pub returns-then-self-i : goal.returns-then-self-i
returns-then-self-i c =
    let y = c.args.self.now in
    let i = c.args.i in
    let x = get_or c.args.block i 0 in
    ap (λ (e : Dim). x * e.edge) (dims_at y.shape c.dims.result i c.requires c.dims.ensures)
    ∙ sym (ap (λ z. cond z (x * (dim (dims_of y.shape) i).edge) 0) (lt-ltb (get_or y.places i 0) c.args.region.lacked c.if-self-i.true))
