-- What a table of rows means, and the first row that is out of range. Assumes nothing.
use Rattle.std.specs.Prelude.{ℕ, ◌+◌, Bool, cond, ◌&&◌, List, [], ◌∷◌, map, Some, None, Ok, Err, filter, Option, Result, ◌==◌}
use Rattle.std.specs.List.{range_with_len}
use Rattle.shapes.specs.declared.dims.Dim.{Dim}
use Rattle.shapes.specs.declared.readings.Reading.{Reading}
use Rattle.shapes.specs.Arrays.{sizes, volume, inside, storage, offset}
use Rattle.measures.specs.Laws.{total}
use Rattle.sources.specs.declared.rows.Row.{Row}
use Rattle.sources.specs.declared.table.Correction.{Correction}
use Rattle.sources.specs.declared.refusals.RowRefusal.{RowRefusal}
use Rattle.sources.specs.Meanings.{Chunk, values}
use Rattle.sources.specs.Readings.{is_reading, lifts}

-- a row in range: each coordinate is below its size, and 0 past the last dimension; the reading is one
abbrev pub in_range : List Dim → Row → Bool
in_range ds r = inside (sizes ds) r.at && is_reading r.reading

-- a row that is in range lies on the cell at offset o of chunk k
abbrev pub on_cell : List Dim → ℕ → ℕ → Row → Bool
on_cell ds k o r = in_range ds r && (storage ds r.at == k && offset ds r.at == o)

-- the storage number and the offset of a row's cell; a row out of range belongs to none
abbrev pub place : List Dim → Row → Option (ℕ × ℕ)
place ds r = cond (in_range ds r) (Some (storage ds r.at, offset ds r.at)) None

-- a row as a correction of its cell, likewise
abbrev pub row_correction : List Dim → Row → Option Correction
row_correction ds r = cond (in_range ds r) (Some (record { number = storage ds r.at; offset = offset ds r.at; reading = r.reading })) None

-- the readings of all rows on a cell, in the order of the rows
abbrev pub cell_readings : List Dim → List Row → ℕ → ℕ → List ℕ
cell_readings ds rows k o = map (λ (r : Row). r.reading) (filter (on_cell ds k o) rows)

module _ {M : Type 0} (empty : M) (op : M → M → M) (lifted : Reading → M) where
  -- the value of a cell joins the lifts of all its rows
  abbrev pub row_value : List Dim → List Row → ℕ → ℕ → M
  row_value ds rows k o = total empty op (lifts lifted (cell_readings ds rows k o))

  -- every chunk can be read
  abbrev pub row_chunks : List Dim → List Row → ℕ → Chunk M
  row_chunks ds rows k = values (map (row_value ds rows k) (range_with_len 0 (volume ds)))

-- the first row out of range, of rows that are numbered from i on
abbrev pub first_outside : List Dim → ℕ → List Row → Option ℕ
first_outside ds i [] = None
first_outside ds i (r ∷ rows) = cond (in_range ds r) (first_outside ds (i + 1) rows) (Some i)

abbrev pub refuse_row : Option ℕ → Result (Unit {0}) RowRefusal
refuse_row None = Ok tt
refuse_row (Some i) = Err (record { row = i })

-- what a check of rows answers
abbrev pub rows_answer : List Dim → List Row → Result (Unit {0}) RowRefusal
rows_answer ds rows = refuse_row (first_outside ds 0 rows)
