-- Rows with their keys in order. Assumes nothing.
use Rattle.std.specs.Prelude.{ℕ, List, Option, map}
use Rattle.std.specs.List.{range_with_len}
use Rattle.shapes.specs.Views.{dims_of}
use Rattle.chunk_files.specs.Bodies.{held}
use Rattle.chunk_writers.specs.declared.bodies.Body.{Body}
use Rattle.chunk_writers.specs.declared.table.Table.{Table}
use Rattle.chunk_writers.specs.Keys.{pair_of}
use Rattle.chunk_writers.specs.Written.{in_chunks}

-- what a body has in each cell of its chunk
abbrev pub cells_of : Body → List (Option ℕ)
cells_of b = map (held (map (pair_of b.rows.now) b.keys.now)) (range_with_len 0 b.cells)

-- the cells of each chunk
abbrev pub cells_in : Table → List (List (Option ℕ))
cells_in t = in_chunks (dims_of t.shape) t.rows.now
