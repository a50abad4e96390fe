use Rattle.std.proofs.Common.{◌≡◌, take}
use Rattle.shapes.specs.Arrays.{product}
use Rattle.shapes.proofs.radices.Radices.product.Given as goal

abbrev pub invariant-loop-radix : goal.invariant-loop-radix
invariant-loop-radix l = l.product ≡ product (take l.radix-index l.self.each)
