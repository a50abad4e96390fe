use Rattle.std.proofs.Common.{◌≡◌, ℕ, ◌+◌, ◌<◌, ◌≤◌, length, get_or}
use Rattle.runs.specs.Grids.{cells_below, top}
use Rattle.runs.proofs.layouts.Layout.bases.Given as goal

abbrev pub invariant-loop-mask : goal.invariant-loop-mask
invariant-loop-mask l =
    (length l.bases ≡ 64)
    × ((k : ℕ) → k < l.mask → get_or l.bases k 0 ≡ l.initial.next + cells_below l.self l.self.adds (top l.self) k)
    × ((k : ℕ) → l.mask ≤ k → get_or l.bases k 0 ≡ 0)
    × (l.next ≡ l.initial.next + cells_below l.self l.self.adds (top l.self) l.mask)
