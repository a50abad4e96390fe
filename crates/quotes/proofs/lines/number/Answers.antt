use Rattle.std.proofs.Common.{◌+◌, get_or, drop, sym, ◌∙◌, arith}
use Rattle.std.proofs.lemmas.List.{at_drop_more, at_drop_all}
use Rattle.quotes.specs.Lines.{digits_after}
use Rattle.quotes.proofs.Parting.{digits_none, digits_some, number_some}
use Rattle.quotes.proofs.lines.number.Goals as goal

pub returns-in_err-n : goal.returns-in_err-n
returns-in_err-n c =
    let xs = c.args.text.now in
    let i = c.loop-b.b-index in
    let n = c.loop-b.n in
    c.from_residual.ensures ∙ sym (number_some xs (sym c.is_empty.ensures ∙ c.if-is_empty.false)
    ∙ (sym c.loop-b.invariant ∙ (at_drop_more (digits_after n) xs i 0 c.loop-b-test.true ∙ digits_none n (get_or xs i 0) (drop (i + 1) xs) (sym c.with_digit.ensures ∙ c.in_err-n.was))))

pub loop-b-preserved : goal.loop-b-preserved
loop-b-preserved c =
    let xs = c.args.text.now in
    let i = c.loop-b.b-index in
    let n = c.loop-b.n in
    sym (at_drop_more (digits_after n) xs i 0 c.loop-b-test.true ∙ digits_some n (get_or xs i 0) (drop (i + 1) xs) c.in_ok-n.n (sym c.with_digit.ensures ∙ c.in_ok-n.was)) ∙ c.loop-b.invariant

pub returns : goal.returns
returns c =
    let xs = c.args.text.now in
    sym (number_some xs (sym c.is_empty.ensures ∙ c.if-is_empty.false) ∙ (sym c.loop-b.invariant ∙ at_drop_all (digits_after c.loop-b.n) xs c.loop-b.b-index (omega arith)))
