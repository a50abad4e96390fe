use Rattle.std.proofs.Common.{◌+◌, ◌*◌, sym, ap₂, ◌∙◌, arith}
use Rattle.shapes.proofs.Products.{product_take_more, product_take_le}
use Rattle.shapes.proofs.Radixes.{all_some}
use Rattle.shapes.proofs.radices.Radices.product.Goals as goal

pub overflow_mul-product : goal.overflow_mul-product
overflow_mul-product c =
    let ks = c.args.self.now in
    omega (arith, ks.small, ks.six, ap₂ (λ p f. p * f) c.loop-radix.invariant c.from-product.ensures ∙ sym (product_take_more ks.each c.loop-radix.radix-index 0 (omega (arith, ks.six))), product_take_le ks.each (c.loop-radix.radix-index + 1) (all_some ks))

pub loop-radix-preserved : goal.loop-radix-preserved
loop-radix-preserved c = ap₂ (λ p f. p * f) c.loop-radix.invariant c.from-product.ensures ∙ sym (product_take_more c.args.self.now.each c.loop-radix.radix-index 0 (omega (arith, c.args.self.now.six)))
