use Rattle.std.proofs.Common.{◌≡◌, ℕ, ◌+◌, ◌*◌, ◌<◌, length, get_or}
use Rattle.cubes.specs.Summaries.{big}
use Rattle.runs.specs.Grids.{radix_at, stride_at, first_at}
use Rattle.runs.proofs.layouts.Layout.grid.Given as goal

abbrev pub invariant-loop-i : goal.invariant-loop-i
invariant-loop-i l =
    (length l.strides ≡ 6)
    × ((k : ℕ) → k < l.i → get_or l.strides k 0 ≡ stride_at l.self l.region k)
    × (l.start ≡ l.initial.start + big 0 ◌+◌ (λ i. first_at l.self l.region l.block i * stride_at l.self l.region i) l.i)
    × (l.size ≡ big 1 ◌*◌ (radix_at l.self l.region) l.i)
