-- What is written, read back. Assumes nothing.
use Rattle.std.specs.Prelude.{◌≡◌, ℕ, ◌<◌, List, length, None, Ok}
use Rattle.shapes.specs.declared.dims.Dim.{Dim}
use Rattle.shapes.specs.declared.readings.Reading.{Reading}
use Rattle.shapes.specs.Arrays.{volume, total_chunks}
use Rattle.sources.specs.declared.rows.Row.{Row}
use Rattle.sources.specs.Meanings.{Meaning}
use Rattle.sources.specs.Rows.{row_chunks}
use Rattle.chunk_files.specs.Contents.{file_chunk}
use Rattle.chunk_files.specs.Layouts.{Layout, bodies_at, file_fault, file_dims}
use Rattle.chunk_files.specs.Bodies.{readings}
use Rattle.chunk_writers.specs.Written.{entries_of, bodies_of, file_bytes, in_chunk, in_chunks}
use Rattle.chunk_writers.specs.Answers.{write_answer}

-- the bytes are a file of these dimensions; it opens, and each chunk of it can be read and has the readings of the rows, cell by cell
pub record ReadBack (ds : List Dim) (rows : List Row) (bs : List ℕ) : Type 0 where
  pub layout : Layout bs ds (entries_of (volume ds) (bodies_at ds) (in_chunks ds rows)) (bodies_of (volume ds) (in_chunks ds rows))
  pub opens : file_fault bs ≡ None
  pub dims : file_dims bs ≡ ds
  pub chunks : (j : ℕ) → j < total_chunks ds → readings bs j ≡ Ok (in_chunk ds rows j)

-- What the opened file and the table of the rows mean, as sources over a measure
module _ {M : Type 0} (empty : M) (op : M → M → M) (lifted : Reading → M) where
  abbrev pub file_meaning : List ℕ → Meaning M
  file_meaning bs = record { dims = file_dims bs; chunk = file_chunk empty lifted bs }

  abbrev pub rows_meaning : List Dim → List Row → Meaning M
  rows_meaning ds rows = record { dims = ds; chunk = row_chunks empty op lifted ds rows }

-- the bytes are what a write of the rows leaves, in a buffer with some room
pub record WrittenOf (ds : List Dim) (rows : List Row) (bs : List ℕ) : Type 0 where
  pub room : ℕ
  pub answers : Ok (length bs) ≡ write_answer ds rows room
  pub bytes : bs ≡ file_bytes ds (in_chunks ds rows)
