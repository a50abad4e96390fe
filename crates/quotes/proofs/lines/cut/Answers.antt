use Rattle.std.proofs.Common.{rules, ◌+◌, eqb, length, take, drop, sym, ap, ◌∙◌, ap₂}
use borrow.Author.Tests.{tests}
use Rattle.std.specs.List.{position_or_len}
use Rattle.std.proofs.lemmas.List.{take_rest}
use Rattle.std.proofs.lemmas.Iterator.{YieldsList-from_slice}
use Rattle.std.proofs.lemmas.Iterator.Search.{position_from_yields_List}
use Rattle.quotes.specs.Lines.{number_of, dim_from}
use Rattle.quotes.proofs.Parting.{field_cut, field_whole, found_at, found_none}
use Rattle.quotes.proofs.lines.cut.Goals as goal

pub returns-in_err-slash : goal.returns-in_err-slash
returns-in_err-slash c =
    let text = c.args.text.now in
    let e = position_from_yields_List (λ b. eqb b 47) _ _ c.position.result c.position.ensures.ran (YieldsList-from_slice text cc) (λ x b q k. search (rules, tests)) in
    let none = field_whole text (found_none c.position.result (position_or_len (λ b. eqb b 47) text) (length text) e c.in_err-slash.was) in
    rw c.from_residual.ensures none

pub returns : goal.returns
returns c =
    let text = c.args.text.now in
    let e = position_from_yields_List (λ b. eqb b 47) _ _ c.position.result c.position.ensures.ran (YieldsList-from_slice text cc) (λ x b q k. search (rules, tests)) in
    let at = found_at c.position.result (position_or_len (λ b. eqb b 47) text) (length text) c.in_ok-slash.slash e c.in_ok-slash.was in
    let i = c.in_ok-slash.slash in
    field_cut text at.1 ∙ ap₂ (λ xs ys. dim_from (number_of xs) (number_of ys)) (ap (λ k. take k text) (sym at.0)) (ap (λ k. drop (k + 1) text) (sym at.0) ∙ sym (take_rest text (i + 1)))
