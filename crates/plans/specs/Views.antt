-- What a plan holds, and when it is the plan of an array. Assumes nothing.
use Rattle.std.specs.Prelude.{◌≡◌, ℕ, ◌+◌, ◌^◌, ◌<◌, cond, List, map, length, Some, None, Option, nat_lt, slice_index}
use Rattle.shapes.specs.declared.dims.Dim.{Dim}
use Rattle.shapes.specs.Arrays.{numbers, group}
use Rattle.shapes.specs.Views.{six}
use Rattle.plans.specs.declared.plan.Plan.{Plan}
use Rattle.plans.specs.Plans.{plan_place, plan_adds, plan_need}

-- the dimension that the parent of the group with mask m adds
abbrev pub added : Plan → ℕ → ℕ
added p m = slice_index p.adds m

-- the mask of the parent; the root has none, nor has a number that is no mask
abbrev pub parent_of : Plan → ℕ → Option ℕ
parent_of p m = cond (nat_lt (m + 1) (2 ^ p.n)) (Some (m + 2 ^ added p m)) None

-- the place of dimension i
abbrev pub place_in : List ℕ → ℕ → ℕ
place_in places i = slice_index places i

-- the plan of the dimensions
pub record Planned (ds : List Dim) (p : Plan) : Type 0 where
  pub counted : p.n ≡ length ds
  pub placed : p.places ≡ six 0 (map (plan_place ds) (numbers ds))
  pub adding : (m : ℕ) → m + 1 < 2 ^ length ds → added p m ≡ plan_adds ds (group (length ds) m)
  pub needing : p.need ≡ plan_need ds
