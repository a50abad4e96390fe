-- What a scan order with a choice of parents needs, the plan, and what makes the plan the best. Assumes nothing.
-- A dimension goes by its number, from 0; an order gives each its place, from 1.
use Rattle.std.specs.Prelude.{◌≡◌, ℕ, ◌+◌, ◌-◌, ◌*◌, ◌^◌, ◌<◌, ◌≤◌, false, cond, not, ◌&&◌, ltb, ◌↔◌, List, map, length, fold, sum, count_by, ◌==◌, nat_lt}
use Rattle.std.specs.List.{range_with_len, prefix_len, AllByRecursion}
use Rattle.shapes.specs.declared.dims.Dim.{Dim}
use Rattle.shapes.specs.Arrays.{Group, product, volume, extent, dim, numbers, keeps, group}

-- each edge is 1 to the size
abbrev pub Edged : List Dim → Type 0
Edged ds = AllByRecursion (λ (d : Dim). (1 ≤ d.edge) × (d.edge ≤ d.size)) ds

-- the dimension e is there, and the group does not keep it
abbrev pub Lacks : List Dim → Group → ℕ → Type 0
Lacks ds g e = (e < length ds) × (keeps g e ≡ false)

-- the groups but the root, by rising mask: the root's is 2 ^ n - 1
abbrev pub others : List Dim → List Group
others ds = map (group (length ds)) (range_with_len 0 (2 ^ length ds - 1))

-- an order gives each dimension a place of its own, from 1 to n
pub record Order (ds : List Dim) (place : ℕ → ℕ) : Type 0 where
  pub within : (i : ℕ) → i < length ds → (1 ≤ place i) × (place i ≤ length ds)
  pub distinct : (i j : ℕ) → i < length ds → j < length ds → place i ≡ place j → i ≡ j

-- a choice of parents: the parent of each group but the root adds one dimension that the group lacks
abbrev pub Parents : List Dim → (Group → ℕ) → Type 0
Parents ds adds = AllByRecursion (λ g. Lacks ds g (adds g)) (others ds)

-- what dimension i brings to the cells of a group whose parent adds e: kept, its size where it is placed before e and its edge where after
abbrev pub share : List Dim → (ℕ → ℕ) → Group → ℕ → ℕ → ℕ
share ds place g e i = cond (keeps g i) (cond (nat_lt (place i) (place e)) (dim ds i).size (dim ds i).edge) 1

-- the cells of a group whose parent adds e
abbrev pub cells : List Dim → (ℕ → ℕ) → Group → ℕ → ℕ
cells ds place g e = product (map (share ds place g e) (numbers ds))

-- the need: the cells of a chunk for the root, and those of every other group
abbrev pub need : List Dim → (ℕ → ℕ) → (Group → ℕ) → ℕ
need ds place adds = volume ds + sum (map (λ g. cells ds place g (adds g)) (others ds))

-- best parents give each group its fewest cells in the order
abbrev pub Best : List Dim → (ℕ → ℕ) → (Group → ℕ) → Type 0
Best ds place adds = AllByRecursion (λ g. (e : ℕ) → Lacks ds g e → cells ds place g (adds g) ≤ cells ds place g e) (others ds)

-- how much a dimension grows where all of it is kept in place of one chunk's edge
abbrev pub slack : List Dim → ℕ → ℕ
slack ds i = (dim ds i).size - (dim ds i).edge

-- slack never falls along the order
abbrev pub RisingSlack : List Dim → (ℕ → ℕ) → Type 0
RisingSlack ds place = (i j : ℕ) → i < length ds → j < length ds → place i < place j → slack ds i ≤ slack ds j

-- the plan's place of a dimension: 1, plus the number with less slack, plus those of equal slack and lower number
abbrev pub plan_place : List Dim → ℕ → ℕ
plan_place ds i =
    1 + count_by (λ j. ltb (slack ds j) (slack ds i)) (numbers ds) + count_by (λ j. (slack ds j == slack ds i) && nat_lt j i) (numbers ds)

-- of the dimensions that a group lacks the one of earliest place: from the one of lowest number on, each that is placed before the best so far
abbrev pub earliest : (ℕ → ℕ) → Group → ℕ
earliest place g = fold (λ e i. cond (not (keeps g i) && nat_lt (place i) (place e)) i e) (prefix_len (λ kept. kept) g) (range_with_len 0 (length g))

-- the dimension that the parent of a group adds in the plan
abbrev pub plan_adds : List Dim → Group → ℕ
plan_adds ds g = earliest (plan_place ds) g

abbrev pub plan_need : List Dim → ℕ
plan_need ds = need ds (plan_place ds) (plan_adds ds)

-- every need is at most the cells of the array for each group
abbrev pub Bounded : List Dim → Type 0
Bounded ds = (place : ℕ → ℕ) (adds : Group → ℕ) → need ds place adds ≤ 2 ^ length ds * extent ds

-- adding the missing dimension of earliest place is a choice of parents for every order, and a best one; the plan is an order with these parents;
-- no order with any parents needs fewer cells, and an order with its best parents needs as few if and only if slack never falls along it
pub record Least (ds : List Dim) : Type 0 where
  pub early : (place : ℕ → ℕ) → Order ds place → Parents ds (earliest place) × Best ds place (earliest place)
  pub order : Order ds (plan_place ds)
  pub parents : Parents ds (plan_adds ds)
  pub first : AllByRecursion (λ g. (e : ℕ) → Lacks ds g e → plan_place ds (plan_adds ds g) ≤ plan_place ds e) (others ds)
  pub best : Best ds (plan_place ds) (plan_adds ds)
  pub rising : RisingSlack ds (plan_place ds)
  pub least : (place : ℕ → ℕ) (adds : Group → ℕ) → Order ds place → Parents ds adds → plan_need ds ≤ need ds place adds
  pub only : (place : ℕ → ℕ) (adds : Group → ℕ) → Order ds place → Parents ds adds → Best ds place adds
      → (need ds place adds ≡ plan_need ds) ↔ RisingSlack ds place
