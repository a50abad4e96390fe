use Rattle.std.proofs.Common.{ℕ, ◌+◌, ◌*◌, Bool, not, ◌||◌, eqb, ap, ◌∙◌, rules, tests}
use Rattle.std.proofs.lemmas.Iterator.{YieldsList-from_slice, YieldsList-from_zip}
use Rattle.std.proofs.lemmas.Iterator.Consumers.{YieldsList-at}
use Rattle.std.proofs.lemmas.Iterator.Search.{all_from_yields_List}
use Rattle.shapes.specs.declared.dims.Dim.{Dim}
use Rattle.shapes.specs.Arrays.{cell_at, agrees}
use Rattle.summaries.proofs.Agreeing.{zips_agree}
use Rattle.summaries.proofs.cell.SummaryCell.agrees.Goals as goal

pub returns : goal.returns
returns c =
    let a = c.args in
    let s = a.self.now in
    let dims = c.dims-dims.result in
    all_from_yields_List (λ (t : (Bool × ℕ) × ((ℕ × Dim) × ℕ)). not t.0.0 || eqb t.0.1 (t.1.0.0 * t.1.0.1.edge + t.1.1)) c.all.new.self _ c.all.result c.all.ensures.ran
    (YieldsList-from_zip (YieldsList-at c.zip-3.ensures.first (YieldsList-from_zip (YieldsList-from_slice s.kept cc) (YieldsList-from_slice s.at cc)))
    (YieldsList-at c.zip-3.ensures.second (YieldsList-from_zip (YieldsList-at c.zip-base.ensures.first (YieldsList-from_zip (YieldsList-from_slice a.chunk cc) (YieldsList-from_slice dims cc))) (YieldsList-from_slice a.local cc)))) (λ x b q k. search (rules, tests))
    ∙ (zips_agree s.kept s.at dims a.chunk a.local ∙ ap (λ ds. agrees s.kept s.at (cell_at ds a.chunk a.local)) c.dims-dims.ensures)
