use Rattle.std.proofs.Common.{cond, ltb, get_or, sym, ap, ◌∙◌}
use Rattle.std.proofs.lemmas.Bool.{lt-ltb, le-ltb}
use Rattle.shapes.specs.declared.dims.Dim.{Dim}
use Rattle.shapes.specs.Arrays.{dim}
use Rattle.shapes.specs.Views.{dims_of}
use Rattle.runs.proofs.FromShape.{dims_at}
use Rattle.runs.proofs.layouts.Layout.radix.Goals as goal

pub returns-then-self-i : goal.returns-then-self-i
returns-then-self-i c =
    let y = c.args.self.now in
    let i = c.args.i in
    let d = dim (dims_of y.shape) i in
    ap (λ (e : Dim). e.size) (dims_at y.shape c.dims.result i c.requires c.dims.ensures)
    ∙ sym (ap (λ z. cond z (cond (ltb (get_or y.places i 0) c.args.region.lacked) d.size d.edge) 1) c.if-not-region-i.false
    ∙ ap (λ z. cond z d.size d.edge) (lt-ltb (get_or y.places i 0) c.args.region.lacked c.if-self-i.true))

pub returns-else-self-i : goal.returns-else-self-i
returns-else-self-i c =
    let y = c.args.self.now in
    let i = c.args.i in
    let d = dim (dims_of y.shape) i in
    ap (λ (e : Dim). e.edge) (dims_at y.shape c.dims.result i c.requires c.dims.ensures)
    ∙ sym (ap (λ z. cond z (cond (ltb (get_or y.places i 0) c.args.region.lacked) d.size d.edge) 1) c.if-not-region-i.false
    ∙ ap (λ z. cond z d.size d.edge) (le-ltb (get_or y.places i 0) c.args.region.lacked c.if-self-i.false))
