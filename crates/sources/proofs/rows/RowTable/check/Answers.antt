use Rattle.std.proofs.Common.{not, sym, ap, ◌∙◌, rules, tests}
use Rattle.std.proofs.lemmas.Iterator.{YieldsList-from_slice}
use Rattle.std.proofs.lemmas.Iterator.Search.{position_from_yields_List}
use Rattle.shapes.specs.Views.{dims_of}
use Rattle.sources.specs.Rows.{in_range, refuse_row}
use Rattle.sources.proofs.Tabling.{first_outside_at}
use Rattle.sources.proofs.rows.RowTable.check.Goals as goal

pub returns-in-Some : goal.returns-in-Some
returns-in-Some c =
    let ds = dims_of c.args.self.now.shape in
    let rows = c.args.self.now.rows.now in
    let at = position_from_yields_List (λ r. not (in_range ds r)) c.position.new.self _ _ c.position.ensures.ran (YieldsList-from_slice rows (cc)) (λ r b f call. search (rules, tests)) in
    ap refuse_row (sym c.in-Some.is ∙ at ∙ first_outside_at ds rows)

pub returns-in-None : goal.returns-in-None
returns-in-None c =
    let ds = dims_of c.args.self.now.shape in
    let rows = c.args.self.now.rows.now in
    let at = position_from_yields_List (λ r. not (in_range ds r)) c.position.new.self _ _ c.position.ensures.ran (YieldsList-from_slice rows (cc)) (λ r b f call. search (rules, tests)) in
    ap refuse_row (sym c.in-None.is ∙ at ∙ first_outside_at ds rows)
