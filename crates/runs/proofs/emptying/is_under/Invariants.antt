use Rattle.std.proofs.Common.{◌≡◌, ℕ, ◌-◌, ◌^◌, ◌<◌, List}
use Rattle.shapes.specs.declared.dims.Dim.{Dim}
use Rattle.shapes.specs.Arrays.{Group}
use Rattle.runs.specs.Trees.{Grown}
use Rattle.runs.specs.Emptying.{of_release}
use Rattle.runs.proofs.emptying.is_under.Given as goal

abbrev pub invariant-climb : goal.invariant-climb
invariant-climb l = (l.mask < 2 ^ l.tree.n)
    × ((ds : List Dim) (place : ℕ → ℕ) (adds : Group → ℕ) → Grown ds place adds l.tree → of_release ds adds l.above l.mask ≡ of_release ds adds l.above l.below)

abbrev pub decreases-climb : goal.decreases-climb
decreases-climb l = 2 ^ l.tree.n - l.mask
