use Rattle.std.proofs.Common.{rules, ◌≡◌, ◌∙◌, arith}
use borrow.Author.Tests.{tests}
use Rattle.std.proofs.lemmas.Iterator.{YieldsList-from_slice, YieldsList-from_zip}
use Rattle.std.proofs.lemmas.Iterator.Search.{all_from_yields_List}
use Rattle.shapes.specs.declared.dims.Dim.{Dim}
use Rattle.shapes.specs.Views.{same_dim, same_dims}
use Rattle.shapes.proofs.Compared.{all_zip_same, same_six_decides, same_shape_is}
use Rattle.shapes.proofs.compare.ShapePartialEq.eq.Goals as goal

pub returns-then-self-other : goal.returns-then-self-other
returns-then-self-other c =
    let s = c.args.self.now in
    let t = c.args.other.now in
    let same : c.all.result ≡ same_dims s.dims t.dims =
    all_from_yields_List {s = c.zip-pairs.result} (λ (p : Dim × Dim). same_dim p.0 p.1) c.all.new.self _ _ c.all.ensures.ran
    (YieldsList-from_zip {s = c.zip-pairs.result} (YieldsList-from_slice s.dims cc) (YieldsList-from_slice t.dims cc)) (λ x b q k. search (rules, tests))
    ∙ all_zip_same s.dims t.dims (omega (arith, s.six, t.six)) in
    let decides = same_six_decides s t c.all.result c.if-self-other.true same in
    record { value = same_shape_is s t c.all.result decides; decides = decides }
