use Rattle.std.proofs.Common.{◌≡◌, ◌+◌, ◌≤◌, ◌++◌, drop, replicate}
use Rattle.runs.specs.Boxes.{dot, next_digits}
use Rattle.runs.proofs.walks.Walk.advance.Given as goal

abbrev pub invariant-loop-i : goal.invariant-loop-i
invariant-loop-i l = (l.self.at ≡ replicate l.i 0 ++ drop l.i l.initial.self.at)
    × (next_digits l.radices l.initial.self.at ≡ replicate l.i 0 ++ next_digits (drop l.i l.radices) (drop l.i l.initial.self.at))
    × (l.self.from + dot l.from l.initial.self.at ≡ l.initial.self.from + dot l.from l.self.at)
    × (l.self.to + dot l.to l.initial.self.at ≡ l.initial.self.to + dot l.to l.self.at)
    × (l.self.from ≤ l.initial.self.from)
    × (l.self.to ≤ l.initial.self.to)
