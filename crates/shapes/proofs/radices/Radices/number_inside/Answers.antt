use Rattle.std.proofs.Common.{◌≡◌, ◌+◌, ◌*◌, drop, sym, ap, ap₂, ◌∙◌, arith}
use Rattle.std.proofs.lemmas.List.{drop_all}
use Rattle.shapes.specs.Arrays.{number}
use Rattle.shapes.proofs.Insides.{number_back, number_back_below}
use Rattle.shapes.proofs.radices.Radices.number_inside.Goals as goal

pub loop-i-init : goal.loop-i-init
loop-i-init c =
    let ks = c.args.self.now in
    sym (ap (λ ys. number ys (drop 6 c.args.digits)) (drop_all 6 ks.each (omega (arith, ks.six))))

pub overflow_mul-number : goal.overflow_mul-number
overflow_mul-number c =
    let ks = c.args.self.now in
    let i = c.loop-i.i in
    omega (arith, ks.small, ap₂ (λ x k. x + k * c.loop-i.number) c.from.ensures c.from-in-loop-i.ensures, number_back_below ks.each c.args.digits i c.loop-i.number (omega arith) (omega (arith, ks.six)) (omega (arith, ks.six)) c.requires c.loop-i.invariant)

pub overflow_add-number : goal.overflow_add-number
overflow_add-number c =
    let ks = c.args.self.now in
    let i = c.loop-i.i in
    omega (arith, ks.small, ap₂ (λ x k. x + k * c.loop-i.number) c.from.ensures c.from-in-loop-i.ensures, number_back_below ks.each c.args.digits i c.loop-i.number (omega arith) (omega (arith, ks.six)) (omega (arith, ks.six)) c.requires c.loop-i.invariant)

pub loop-i-preserved : goal.loop-i-preserved
loop-i-preserved c =
    let ks = c.args.self.now in
    ap₂ (λ x k. x + k * c.loop-i.number) c.from.ensures c.from-in-loop-i.ensures ∙ number_back ks.each c.args.digits c.loop-i.i c.loop-i.number (omega arith) (omega (arith, ks.six)) (omega arith) c.loop-i.invariant

pub returns : goal.returns
returns c =
    let z : c.loop-i.i ≡ 0 = omega arith in
    c.loop-i.invariant ∙ ap (λ i. number (drop i c.args.self.now.each) (drop i c.args.digits)) z
