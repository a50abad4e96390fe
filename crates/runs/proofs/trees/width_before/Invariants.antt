use Rattle.std.proofs.Common.{◌≡◌}
use Rattle.plans.specs.Views.{place_in}
use Rattle.runs.proofs.Widths.{part}
use Rattle.runs.proofs.trees.width_before.Given as goal

abbrev pub invariant-loop-i : goal.invariant-loop-i
invariant-loop-i l = l.width ≡ part (place_in l.places) l.radices.each l.place l.i
