use Rattle.std.proofs.Common.{◌≡◌, ◌≤◌, take}
use Rattle.shapes.specs.Arrays.{product}
use Rattle.shapes.proofs.checks.product_within.Given as goal

abbrev pub invariant-loop-factor : goal.invariant-loop-factor
invariant-loop-factor l = (l.p ≡ product (take l.factor-index l.fn.factors)) × (l.p ≤ l.limit)
