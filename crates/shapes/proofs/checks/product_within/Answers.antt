use Rattle.std.proofs.Common.{ℕ, ◌+◌, ◌*◌, ◌≤◌, sym, ap₂, ◌∙◌, arith}
use Rattle.std.specs.List.{AllByRecursion}
use Rattle.std.proofs.ByRecursion.{All-from_get_or}
use Rattle.shapes.proofs.Products.{product_take_more, product_take_le}
use Rattle.shapes.proofs.checks.product_within.Goals as goal

pub returns-then-p-limit : goal.returns-then-p-limit
returns-then-p-limit c =
    let xs = c.args.factors in
    let positive : AllByRecursion (λ (x : ℕ). 1 ≤ x) xs = All-from_get_or (λ (x : ℕ). 1 ≤ x) xs 0 (λ k h. (c.requires.each k (omega arith)).0) in
    omega (arith, ap₂ (λ p f. p * f) c.loop-factor.invariant.0 c.from-p.ensures ∙ sym (product_take_more xs c.loop-factor.factor-index 0 (omega arith)), product_take_le xs (c.loop-factor.factor-index + 1) positive)

pub loop-factor-preserved : goal.loop-factor-preserved
loop-factor-preserved c = (ap₂ (λ p f. p * f) c.loop-factor.invariant.0 c.from-p.ensures ∙ sym (product_take_more c.args.factors c.loop-factor.factor-index 0 (omega arith)), omega arith)
