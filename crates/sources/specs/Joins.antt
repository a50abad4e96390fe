-- Values joined to a list of cells. Assumes nothing.
use Rattle.std.specs.Prelude.{ℕ, List, [], ◌∷◌, map, length, slice_index_or, slice_set}
use Rattle.std.specs.List.{range_with_len}
use Rattle.shapes.specs.declared.readings.Reading.{Reading}
use Rattle.measures.specs.Laws.{total}
use Rattle.sources.specs.Readings.{lifts}

module _ {M : Type 0} (empty : M) (op : M → M → M) where
  -- each cell joined with the value that f has for its offset
  abbrev pub joined_with : (ℕ → M) → List M → List M
  joined_with f vs = map (λ o. op (slice_index_or vs o empty) (f o)) (range_with_len 0 (length vs))

  -- the cells with the lift of n joined to the cell at offset o, where n is a reading and there is such a cell
  abbrev pub joined_at : (Reading → M) → List M → ℕ → ℕ → List M
  joined_at lifted vs o n = slice_set vs o (op (slice_index_or vs o empty) (total empty op (lifts lifted (n ∷ []))))
