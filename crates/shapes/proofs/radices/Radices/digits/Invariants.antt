use Rattle.std.proofs.Common.{◌≡◌, ◌++◌, length, take, drop}
use Rattle.shapes.specs.Arrays.{digits}
use Rattle.shapes.proofs.radices.Radices.digits.Given as goal

abbrev pub invariant-loop-i : goal.invariant-loop-i
invariant-loop-i l = (length l.digits ≡ 6) × (take l.i l.digits ++ digits (drop l.i l.self.each) l.rest ≡ digits l.self.each l.number)
