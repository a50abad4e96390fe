-- The limits that a shape keeps, and the order in which a check finds them broken. Assumes nothing.
use Rattle.std.specs.Prelude.{◌≡◌, ℕ, ◌+◌, ◌%◌, ◌^◌, ◌≤◌, Bool, cond, ◌||◌, List, [], ◌∷◌, length, Some, None, Option, nat_lt}
use Rattle.std.specs.List.{AllByRecursion}
use Rattle.shapes.specs.declared.dims.Dim.{Dim}
use Rattle.shapes.specs.Arrays.{volume, extent}

-- a size of 1 to 16,384, and an edge of 1 to the size that divides it
abbrev pub Fit : Dim → Type 0
Fit d = (1 ≤ d.size) × (d.size ≤ 16384) × (1 ≤ d.edge) × (d.edge ≤ d.size) × (d.size % d.edge ≡ 0)

-- what the dimensions of every shape keep to
pub record Limits (ds : List Dim) : Type 0 where
  pub some_dims : 1 ≤ length ds
  pub few_dims : length ds ≤ 6
  pub each : AllByRecursion Fit ds
  pub small_chunk : volume ds ≤ 16384
  pub small_array : extent ds ≤ 2 ^ 34

-- a refusal: its number, and the values that it returns
abbrev pub Refusal : Type 0
Refusal = ℕ × List ℕ

abbrev pub or_else : {X : Type 0} → Option X → Option X → Option X
or_else (Some x) o = Some x
or_else None o = o

-- a cause with its refusal, if it holds
abbrev pub refused_if : Bool → Refusal → Option Refusal
refused_if b r = cond b (Some r) None

-- dimension i: the size, the edge, whether it divides
abbrev pub dim_fault : ℕ → Dim → Option Refusal
dim_fault i d =
    or_else (refused_if (nat_lt d.size 1 || nat_lt 16384 d.size) (2, i ∷ []))
    (or_else (refused_if (nat_lt d.edge 1 || nat_lt d.size d.edge) (3, i ∷ [])) (refused_if (nat_lt 0 (d.size % d.edge)) (4, i ∷ [])))

-- the dimensions from number i on
abbrev pub dims_fault : ℕ → List Dim → Option Refusal
dims_fault i [] = None
dims_fault i (d ∷ ds) = or_else (dim_fault i d) (dims_fault (i + 1) ds)

-- the first cause that stops a shape: the number of dimensions, then each dimension, then the cells of a chunk, then those of the array
abbrev pub shape_fault : List Dim → Option Refusal
shape_fault ds =
    or_else (refused_if (nat_lt (length ds) 1 || nat_lt 6 (length ds)) (1, []))
    (or_else (dims_fault 0 ds) (or_else (refused_if (nat_lt 16384 (volume ds)) (5, [])) (refused_if (nat_lt (2 ^ 34) (extent ds)) (6, []))))
