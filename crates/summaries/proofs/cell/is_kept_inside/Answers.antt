use Rattle.std.proofs.Common.{ℕ, Bool, not, ◌||◌, ltb, ◌∙◌, arith, rules, tests}
use Rattle.std.proofs.lemmas.Iterator.{YieldsList-from_slice, YieldsList-from_zip}
use Rattle.std.proofs.lemmas.Iterator.Consumers.{YieldsList-at}
use Rattle.std.proofs.lemmas.Iterator.Search.{all_from_yields_List}
use Rattle.shapes.specs.declared.dims.Dim.{Dim}
use Rattle.summaries.proofs.Agreeing.{zips_inside}
use Rattle.summaries.proofs.cell.is_kept_inside.Goals as goal

pub returns : goal.returns
returns c =
    let a = c.args in
    all_from_yields_List (λ (t : (Bool × ℕ) × Dim). not t.0.0 || ltb t.0.1 t.1.size) c.all.new.self _ c.all.result c.all.ensures.ran
    (YieldsList-from_zip (YieldsList-at c.zip-2.ensures.first (YieldsList-from_zip (YieldsList-from_slice a.kept cc) (YieldsList-from_slice a.at cc))) (YieldsList-from_slice a.dims cc)) (λ x b q k. search (rules, tests))
    ∙ zips_inside a.kept a.at a.dims (omega arith)
