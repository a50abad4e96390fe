-- The state of a run before the first chunk, from the plan's tables.
use Rattle.std.proofs.Common.{◌≡◌, ℕ, ◌+◌, ◌^◌, ◌<◌, List, length, get_or, sym, ap, ◌∙◌, subst, arith}
use Rattle.shapes.specs.declared.dims.Dim.{Dim}
use Rattle.shapes.specs.declared.shape.Shape.{Shape}
use Rattle.shapes.specs.Arrays.{group}
use Rattle.shapes.specs.Views.{dims_of}
use Rattle.shapes.proofs.Held.{limits}
use Rattle.plans.specs.declared.plan.Plan.{Plan}
use Rattle.plans.specs.Plans.{Order, Parents}
use Rattle.plans.specs.Views.{place_in, Planned}
use Rattle.runs.specs.declared.tree.Tree.{Tree}
use Rattle.runs.specs.Trees.{Grown, adds_in}
use Rattle.runs.specs.Planned.{places_of, adds_of}
use Rattle.runs.proofs.Growing.{lacked}
use Rattle.runs.proofs.PlannedScans.{planned_least, parents_are}
use Rattle.runs.proofs.PlanTrees.{planned_places, planned_order, planned_parents, planned_grown}

-- the plan of a shape, and its tables
module _ (shape : Shape) (p : Plan) (planned : Planned (dims_of shape) p) where
  abbrev ds : List Dim
  ds = dims_of shape

  pub placed_from : (places : List ℕ) → places ≡ p.places → (i : ℕ) → i < length ds → get_or places i 0 ≡ places_of ds i
  unfolding places_of
  placed_from places placed i l = ap (λ xs. place_in xs i) placed ∙ planned_places ds (limits shape) (planned_least ds (limits shape)) p planned i l

  pub order_in : (places : List ℕ) → places ≡ p.places → Order ds (place_in places)
  order_in places placed = subst (λ xs. Order ds (place_in xs)) (sym placed) (planned_order ds (limits shape) (planned_least ds (limits shape)) p planned)

  -- the parents
  module _ (adds : List ℕ) (added : adds ≡ p.adds) where
    pub parents_in : Parents ds (adds_in adds)
    parents_in = subst (λ xs. Parents ds (adds_in xs)) (sym added) (planned_parents ds (limits shape) (planned_least ds (limits shape)) p planned)

    pub grown_from : (places : List ℕ) → places ≡ p.places → (t : Tree) → Grown ds (place_in places) (adds_in adds) t → Grown ds (places_of ds) (adds_of ds) t
    unfolding places_of adds_of
    grown_from places placed t g = planned_grown ds (limits shape) (planned_least ds (limits shape)) p planned t
        (subst (λ xs. Grown ds (place_in xs) (adds_in p.adds) t) placed (subst (λ xs. Grown ds (place_in places) (adds_in xs) t) added g))

    pub adds_are : (m : ℕ) → m + 1 < 2 ^ length ds → get_or adds m 0 ≡ adds_of ds (group (length ds) m)
    unfolding adds_of
    adds_are m l = ap (λ xs. get_or xs m 0) added ∙ planned.adding m l

    pub adds_few : (m : ℕ) → m + 1 < 2 ^ length ds → get_or adds m 0 < 6
    adds_few m l = omega (arith, adds_are m l, (lacked ds (adds_of ds) (parents_are ds (limits shape)) m l).0, (limits shape).few_dims)
