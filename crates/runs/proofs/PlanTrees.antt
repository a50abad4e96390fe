-- The tree of a plan.
use Rattle.std.proofs.Common.{◌≡◌, ℕ, ◌+◌, ◌-◌, ◌^◌, ◌<◌, ◌≤◌, true, List, map, length, get_or, set, sym, ap, ◌∙◌, subst, arith}
use Rattle.std.proofs.lemmas.List.{length-map, length-set}
use Rattle.std.specs.List.{range_with_len}
use Rattle.std.proofs.ByRecursion.{All-map}
use Rattle.std.proofs.lemmas.List.FromFn.{get_or-map-range_with_len}
use Rattle.shapes.specs.declared.dims.Dim.{Dim}
use Rattle.shapes.specs.Arrays.{Group, counts, chunks, numbers, group, radix}
use Rattle.shapes.specs.Limits.{Limits}
use Rattle.shapes.proofs.Masks.{length-group}
use Rattle.shapes.proofs.Sixes.{six_at}
use Rattle.plans.specs.declared.plan.Plan.{Plan}
use Rattle.plans.specs.Plans.{Order, Parents, Lacks, Least, plan_place, plan_adds}
use Rattle.plans.specs.Views.{place_in, Planned}
use Rattle.cubes.specs.Handing.{parent}
use Rattle.cubes.specs.Scans.{width}
use Rattle.shapes.proofs.Radixes.{length-radix}
use Rattle.runs.specs.declared.tree.Tree.{Tree}
use Rattle.runs.specs.Trees.{Grown, adds_in}
use Rattle.runs.proofs.Growing.{lacked, table_adds}
use Rattle.runs.proofs.SixRadices.{width_alike}
use Rattle.plans.proofs.Sums.{all_counting}

-- only the places of the dimensions and the dimensions added to the groups matter
pub order_alike : (ds : List Dim) (p q : ℕ → ℕ) → ((i : ℕ) → i < length ds → p i ≡ q i) → Order ds q → Order ds p
order_alike ds p q same o = record {
  within = λ i l. subst (λ k. (1 ≤ k) × (k ≤ length ds)) (sym (same i l)) (o.within i l);
  distinct = λ i j li lj e. o.distinct i j li lj (sym (same i li) ∙ (e ∙ same j lj));
}

pub parents_alike : (ds : List Dim) (a b : Group → ℕ) → ((m : ℕ) → m + 1 < 2 ^ length ds → a (group (length ds) m) ≡ b (group (length ds) m)) → Parents ds b → Parents ds a
parents_alike ds a b same parents = All-map (λ g. Lacks ds g (a g)) (group (length ds)) (range_with_len 0 (2 ^ length ds - 1)) (all_counting (λ m. Lacks ds (group (length ds) m) (a (group (length ds) m))) 0 (2 ^ length ds - 1)
    (λ m _ l. let b' : m + 1 < 2 ^ length ds = omega arith in subst (Lacks ds (group (length ds) m)) (sym (same m b')) (lacked ds b parents m b')))

module _ (ds : List Dim) (p q : ℕ → ℕ) (a b : Group → ℕ) (tr : Tree) (same_place : (i : ℕ) → i < length ds → p i ≡ q i)
    (same_adds : (m : ℕ) → m + 1 < 2 ^ length ds → a (group (length ds) m) ≡ b (group (length ds) m)) (order : Order ds q) (parents : Parents ds b) where
  width_moves : (h : Group) (m : ℕ) → length h ≡ length ds → m + 1 < 2 ^ length ds
      → width p (radix h (counts ds)) (p (a (group (length ds) m)) + 1) ≡ width q (radix h (counts ds)) (q (b (group (length ds) m)) + 1)
  width_moves h m lh l =
      ap (λ e. width p (radix h (counts ds)) (p e + 1)) (same_adds m l)
      ∙ (ap (λ x. width p (radix h (counts ds)) (x + 1)) (same_place (b (group (length ds) m)) (lacked ds b parents m l).0)
      ∙ width_alike p q (radix h (counts ds)) (q (b (group (length ds) m)) + 1)
      (λ i k. same_place i (subst (λ x. i < x) (length-radix h (counts ds) (lh ∙ sym (length-map ds chunks)) ∙ length-map ds chunks) k)))

  pub grown_alike : Grown ds p a tr → Grown ds q b tr
  grown_alike g = record {
    limits = g.limits;
    order = order;
    parents = parents;
    dimensions = g.dimensions;
    total = g.total;
    chunks = g.chunks;
    places = λ i l. g.places i l ∙ same_place i l;
    added = λ m l. g.added m l ∙ same_adds m l;
    ups = λ m l. g.ups m l ∙ ap (λ e. m + 2 ^ e) (same_adds m l);
    periods = λ m l. g.periods m l
        ∙ (width_moves (parent a (group (length ds) m)) m (length-set (group (length ds) m) (a (group (length ds) m)) true ∙ length-group (length ds) m) l
        ∙ ap (λ e. width q (radix (set (group (length ds) m) e true) (counts ds)) (q (b (group (length ds) m)) + 1)) (same_adds m l));
    shares = λ m l. g.shares m l ∙ width_moves (group (length ds) m) m (length-group (length ds) m) l;
  }

-- a plan's tables are an order and a choice of parents, and the tree made from them is the tree of the plan
module _ (ds : List Dim) (limits : Limits ds) (least : Least ds) (p : Plan) (planned : Planned ds p) where
  pub planned_places : (i : ℕ) → i < length ds → place_in p.places i ≡ plan_place ds i
  planned_places i l = ap (λ xs. get_or xs i 0) planned.placed ∙ (six_at 0 (map (plan_place ds) (numbers ds)) i (omega (arith, limits.few_dims))
      ∙ get_or-map-range_with_len (plan_place ds) 0 (length ds) i i 0 l (omega arith))

  planned_adds : (m : ℕ) → m + 1 < 2 ^ length ds → adds_in p.adds (group (length ds) m) ≡ plan_adds ds (group (length ds) m)
  planned_adds m l = sym (table_adds (length ds) m p.adds (omega arith)) ∙ planned.adding m l

  pub planned_order : Order ds (place_in p.places)
  planned_order = order_alike ds (place_in p.places) (plan_place ds) planned_places least.order

  pub planned_parents : Parents ds (adds_in p.adds)
  planned_parents = parents_alike ds (adds_in p.adds) (plan_adds ds) planned_adds least.parents

  pub planned_grown : (tr : Tree) → Grown ds (place_in p.places) (adds_in p.adds) tr → Grown ds (plan_place ds) (plan_adds ds) tr
  planned_grown tr = grown_alike ds (place_in p.places) (plan_place ds) (adds_in p.adds) (plan_adds ds) tr planned_places planned_adds least.order least.parents
