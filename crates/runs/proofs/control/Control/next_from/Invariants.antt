use Rattle.std.proofs.Common.{◌≡◌, ℕ, ◌-◌, ◌^◌, ◌<◌, List}
use Rattle.shapes.specs.declared.dims.Dim.{Dim}
use Rattle.shapes.specs.Arrays.{Group}
use Rattle.runs.specs.Trees.{Grown}
use Rattle.runs.specs.Controls.{next_seen}
use Rattle.runs.proofs.control.Control.next_from.Given as goal

abbrev pub invariant-loop-found : goal.invariant-loop-found
invariant-loop-found l = (l.mask < 2 ^ l.self.tree.n) × ((ds : List Dim) (place : ℕ → ℕ) (adds : Group → ℕ) → Grown ds place adds l.self.tree
    → next_seen ds place adds l.self.passed l.self.progress.counts l.mask ≡ next_seen ds place adds l.self.passed l.self.progress.counts l.from)

abbrev pub decreases-loop-found : goal.decreases-loop-found
decreases-loop-found l = 2 ^ l.self.tree.n - l.mask
