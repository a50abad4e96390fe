-- The plan's order and parents make a scan of all groups.
use Rattle.std.proofs.Common.{◌≡◌, ℕ, List, length, refl}
use Rattle.shapes.specs.declared.dims.Dim.{Dim}
use Rattle.shapes.specs.Arrays.{groups}
use Rattle.shapes.specs.Limits.{Limits}
use Rattle.plans.specs.Plans.{Order, Parents, Least, need}
use Rattle.plans.proofs.LeastNeed.{least_need}
use Rattle.cubes.specs.Handing.{Scan, handing, released}
use Rattle.cubes.proofs.Groups.{limits_edged, lattice_scan}
use Rattle.runs.specs.Planned.{places_of, adds_of, need_of, handing_order, released_after}

module _ (ds : List Dim) (limits : Limits ds) where
  pub planned_least : Least ds
  planned_least = least_need ds (limits_edged ds limits)

  pub order_is : Order ds (places_of ds)
  unfolding places_of
  order_is = planned_least.order

  pub parents_are : Parents ds (adds_of ds)
  unfolding adds_of
  parents_are = planned_least.parents

  pub planned_scan : Scan ds (places_of ds) (adds_of ds) (groups (length ds))
  planned_scan = lattice_scan ds (places_of ds) (adds_of ds) (limits_edged ds limits) order_is parents_are

pub need_is : (ds : List Dim) → need_of ds ≡ need ds (places_of ds) (adds_of ds)
unfolding need_of places_of adds_of
need_is ds = refl

pub handing_is : (ds : List Dim) → handing_order ds ≡ handing ds (places_of ds) (adds_of ds) (groups (length ds))
unfolding handing_order
handing_is ds = refl

pub released_is : (ds : List Dim) (t : ℕ) → released_after ds t ≡ released ds (places_of ds) (adds_of ds) (groups (length ds)) t
unfolding released_after
released_is ds t = refl
