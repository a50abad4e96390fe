-- What is answered for one summary cell. Assumes nothing.
use Rattle.std.specs.Prelude.{ℕ, ◌^◌, Bool, true, false, cond, not, ◌&&◌, ◌||◌, List, [], ◌∷◌, ◌++◌, length, drop, replicate, is_ok, Ok, Err, Result, nat_lt, slice_index_or}
use Rattle.shapes.specs.declared.dims.Dim.{Dim}
use Rattle.shapes.specs.Arrays.{Group, group, sizes, edges, counts, volume, digits, cell_at, agrees}
use Rattle.sources.specs.Meanings.{Meaning}
use Rattle.cubes.specs.Meanings.{is_readable, values_of}
use Rattle.cubes.specs.Summaries.{direct}
use Rattle.summaries.specs.declared.refusals.SummaryRefusal.{SummaryRefusal}
use Rattle.summaries.specs.declared.refusals.SummaryRefusal.TheVariants.{Outside, Short}

-- whether there is a coordinate below its size in each kept dimension
abbrev pub kept_inside : Group → List ℕ → List ℕ → Bool
kept_inside [] ks xs = true
kept_inside (b ∷ g) [] xs = true
kept_inside (b ∷ g) (k ∷ ks) [] = false
kept_inside (b ∷ g) (k ∷ ks) (x ∷ xs) = (not b || nat_lt x k) && kept_inside g ks xs

-- whether a number is a mask of the dimensions, and the coordinates lie inside in those that its group keeps
abbrev pub is_cell : List Dim → ℕ → List ℕ → Bool
is_cell ds m x = nat_lt m (2 ^ length ds) && kept_inside (group (length ds) m) (sizes ds) x

-- what the cell at offset o of chunk k brings to the cell x of a group: its value, where the chunk can be read and the cell agrees with x
abbrev pub brings : {M : Type 0} → M → Meaning M → Group → List ℕ → ℕ → ℕ → M
brings empty σ g x k o =
    cond (is_readable (σ.chunk k) && agrees g x (cell_at σ.dims (digits (counts σ.dims) k) (digits (edges σ.dims) o))) (slice_index_or (values_of (σ.chunk k)) o empty) empty

module _ {M : Type 0} (empty : M) (op : M → M → M) where
  -- the direct summary of the group with a mask at a cell, given room for so many cells
  abbrev pub summary_answer : Meaning M → ℕ → List ℕ → ℕ → Result M SummaryRefusal
  summary_answer σ m x room =
      cond (is_cell σ.dims m x)
      (cond (nat_lt room (volume σ.dims)) (Err (Short (volume σ.dims))) (Ok (direct empty op σ (group (length σ.dims) m) x))) (Err Outside)

  -- where it is told, the first V cells of the buffer end empty
  abbrev pub cells_left : Meaning M → ℕ → List ℕ → List M → List M
  cells_left σ m x ys = cond (is_ok (summary_answer σ m x (length ys))) (replicate (volume σ.dims) empty ++ drop (volume σ.dims) ys) ys
