use Rattle.std.proofs.Common.{◌≡◌, ◌+◌, ◌*◌, ◌≤◌, ◌^◌, cond, ltb, get_or, sym, ap, ◌∙◌, arith}
use Rattle.std.proofs.lemmas.Bool.{cond-true, cond-false, lt-ltb, le-ltb}
use Rattle.plans.specs.Views.{place_in}
use Rattle.runs.proofs.Widths.{part, part_none, part_all, before_more}
use Rattle.runs.proofs.trees.width_before.Goals as goal
use Rattle.runs.proofs.trees.width_before.Goals.{then-places-i, else-places-i}

factor : (c : goal.After-from-width) → c.if-places-i.factor ≡ cond (ltb (get_or c.args.places c.loop-i.i 0) c.args.place) (get_or c.args.radices.now.each c.loop-i.i 0) 1
factor c = elim c.if-places-i.branch [
  | then-places-i w ↦ w.factor-is ∙ ap (λ xs. get_or xs c.loop-i.i 0) c.each-each.ensures ∙ sym (cond-true (ltb (get_or c.args.places c.loop-i.i 0) c.args.place) _ _ (lt-ltb _ _ w.if-places-i.true))
  | else-places-i w ↦ w.factor-is ∙ sym (cond-false (ltb (get_or c.args.places c.loop-i.i 0) c.args.place) _ _ (le-ltb _ _ w.if-places-i.false))
]

more : (c : goal.After-from-width) → (c.loop-i.width * c.from-width.result ≡ part (place_in c.args.places) c.args.radices.now.each c.args.place (c.loop-i.i + 1)) × (c.loop-i.width * c.from-width.result ≤ 2 ^ 34)
more c = let r = c.args.radices.now in before_more r.each c.args.places c.args.place r.six r.some r.small c.loop-i.i c.loop-i.width c.from-width.result (omega arith) c.loop-i.invariant (c.from-width.ensures ∙ factor c)

pub loop-i-init : goal.loop-i-init
loop-i-init c = sym (part_none (place_in c.args.places) c.args.radices.now.each c.args.place)

pub overflow_mul-width : goal.overflow_mul-width
overflow_mul-width c = omega (arith, (more c).1)

pub loop-i-preserved : goal.loop-i-preserved
loop-i-preserved c = (more c).0

pub returns : goal.returns
returns c = let r = c.args.radices.now in c.loop-i.invariant ∙ part_all (place_in c.args.places) r.each c.args.place c.loop-i.i (omega (arith, r.six))
