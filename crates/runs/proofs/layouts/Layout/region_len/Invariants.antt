use Rattle.std.proofs.Common.{◌≡◌, ◌*◌}
use Rattle.cubes.specs.Summaries.{big}
use Rattle.runs.specs.Grids.{radix_at}
use Rattle.runs.proofs.layouts.Layout.region_len.Given as goal

abbrev pub invariant-loop-i : goal.invariant-loop-i
invariant-loop-i l = l.size ≡ big 1 ◌*◌ (radix_at l.self l.region) l.i
