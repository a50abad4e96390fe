use Rattle.std.proofs.Common.{rules, ◌≡◌, ◌∷◌, ◌++◌, [], List, ℕ, map, length, eqb, Some, Bor, vec_items, sym, ap, ◌∙◌}
use borrow.Author.Tests.{tests}
use Rattle.std.proofs.lemmas.List.{map-append}
use Rattle.std.proofs.lemmas.Iterator.Splits.{YieldsList-from_slice_split}
use Rattle.std.proofs.lemmas.Iterator.Consumers.{YieldsList-turn, YieldsList-end}
use Rattle.quotes.specs.Lines.{field_of, all_of}
use Rattle.quotes.proofs.Parting.{all_of_push, line_read, line_unread}
use Rattle.quotes.proofs.lines.read_dims.Goals as goal

pub loop-text-preserved : goal.loop-text-preserved
loop-text-preserved c =
    let f = λ (t : Bor (List ℕ)). field_of t.now in
    let ts = c.loop-text.yielded in
    let d = c.in-Some-field.d in
    let read : f c.in-Some.text ≡ Some d = sym c.field.ensures ∙ c.in-Some-field.is in
    ap all_of (map-append f ts (c.in-Some.text ∷ []) ∙ ap (λ o. map f ts ++ o ∷ []) read)
    ∙ (all_of_push (map f ts) (vec_items c.loop-text.dims) d c.loop-text.invariant ∙ ap Some (sym c.in_ok-push.ensures.items))

pub returns-in_default : goal.returns-in_default
returns-in_default c =
    let line = c.args.line.now in
    let turn = YieldsList-turn (YieldsList-from_slice_split _ (λ x. eqb x 32) line (cc) (cc) (cc) (λ x b q k. search (rules, tests))) c.loop-text.yielded c.loop-text.text-iterator c.loop-text.yielded_by c.next.result c.next.new.self c.in-Some.text c.in-Some.is c.next.ensures.steps in
    sym (line_unread line (length c.loop-text.yielded) c.in-Some.text.now turn.0 turn.1 (sym c.field.ensures ∙ c.in_default.is))

pub returns : goal.returns
returns c =
    let line = c.args.line.now in
    let end = YieldsList-end (YieldsList-from_slice_split _ (λ x. eqb x 32) line (cc) (cc) (cc) (λ x b q k. search (rules, tests))) c.loop-text.yielded c.loop-text.text-iterator c.loop-text.yielded_by c.next.result c.next.new.self c.in-None.is c.next.ensures.steps in
    sym (line_read line c.loop-text.yielded end.0 ∙ c.loop-text.invariant)
