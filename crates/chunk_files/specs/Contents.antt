-- What a chunk file means over a measure. Assumes nothing.
use Rattle.std.specs.Prelude.{ℕ, List, map, Some, None, Ok, Err, Option, Result}
use Rattle.shapes.specs.declared.readings.Reading.{Reading}
use Rattle.sources.specs.Meanings.{Chunk, values, faulty}
use Rattle.sources.specs.Readings.{reading_of}
use Rattle.chunk_files.specs.Bodies.{Fault, readings}

module _ {M : Type 0} (empty : M) (lifted : Reading → M) where
  -- the lift of a reading, or empty where there is none
  abbrev pub lift_or : Option Reading → M
  lift_or None = empty
  lift_or (Some r) = lifted r

  abbrev pub cell_value : Option ℕ → M
  cell_value None = empty
  cell_value (Some n) = lift_or (reading_of n)

  abbrev pub chunk_value : Result (List (Option ℕ)) Fault → Chunk M
  chunk_value (Ok cs) = values (map cell_value cs)
  chunk_value (Err f) = faulty f.0 f.1

  -- chunk j of a file
  abbrev pub file_chunk : List ℕ → ℕ → Chunk M
  file_chunk bs j = chunk_value (readings bs j)
