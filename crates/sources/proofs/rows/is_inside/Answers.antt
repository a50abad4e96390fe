use Rattle.std.proofs.Common.{rules, tests, ◌∙◌, arith}
use Rattle.std.proofs.lemmas.Iterator.{YieldsList-from_slice, YieldsList-from_zip}
use Rattle.std.proofs.lemmas.Iterator.Search.{all_from_yields_List}
use Rattle.shapes.specs.Views.{dims_of}
use Rattle.shapes.proofs.Held.{dims_few}
use Rattle.sources.proofs.Insides.{is_below, six_below}
use Rattle.sources.proofs.rows.is_inside.Goals as goal

pub returns : goal.returns
returns c =
    let s = c.args.shape.now in
    let dims = c.dims-dims.result in
    let at = c.args.at in
    all_from_yields_List is_below c.all.new.self _ _ c.all.ensures.ran (YieldsList-from_zip (YieldsList-from_slice dims (cc)) (YieldsList-from_slice at (cc))) (λ p b f call. search (rules, tests))
    ∙ six_below (dims_of s) dims at c.dims-dims.ensures (omega arith) (dims_few s)
