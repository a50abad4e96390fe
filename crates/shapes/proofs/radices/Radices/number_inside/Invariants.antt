use Rattle.std.proofs.Common.{◌≡◌, drop}
use Rattle.shapes.specs.Arrays.{number}
use Rattle.shapes.proofs.radices.Radices.number_inside.Given as goal

abbrev pub invariant-loop-i : goal.invariant-loop-i
invariant-loop-i l = l.number ≡ number (drop l.i l.self.each) (drop l.i l.digits)
