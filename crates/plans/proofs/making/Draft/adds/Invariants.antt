use Rattle.std.proofs.Common.{◌≡◌, ℕ, ◌-◌, ◌^◌, ◌<◌, length, get_or}
use Rattle.shapes.specs.Arrays.{group}
use Rattle.plans.specs.Plans.{plan_adds}
use Rattle.plans.proofs.making.Draft.adds.Given as goal

abbrev pub invariant-loop-mask : goal.invariant-loop-mask
invariant-loop-mask l =
    let ds = l.self.dims.now in
    (length l.others ≡ 2 ^ length ds - 1) × ((m : ℕ) → m < l.mask → get_or l.others m 0 ≡ plan_adds ds (group (length ds) m))
