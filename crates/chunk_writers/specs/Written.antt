-- The bytes that are written of the cells of each chunk, and the cells that rows fill. Assumes nothing.
use Rattle.std.specs.Prelude.{ℕ, ◌+◌, ◌*◌, Bool, cond, List, [], ◌∷◌, ◌++◌, map, length, take, drop, Some, None, Option, nat_lt}
use Rattle.std.specs.List.{range_with_len, flat_map}
use Rattle.shapes.specs.declared.dims.Dim.{Dim}
use Rattle.shapes.specs.Arrays.{volume, total_chunks}
use Rattle.sources.specs.declared.rows.Row.{Row}
use Rattle.sources.specs.Rows.{cell_readings}
use Rattle.chunk_files.specs.declared.entry.Entry.{Entry}
use Rattle.chunk_files.specs.Layouts.{file_of, bodies_at}
use Rattle.chunk_files.specs.Bodies.{Pair, pair_bytes, cell_bytes, filled}

-- the filled cells of a chunk, from offset x on, by rising offset
abbrev pub pairs_of : ℕ → List (Option ℕ) → List Pair
pairs_of x [] = []
pairs_of x (None ∷ cs) = pairs_of (x + 1) cs
pairs_of x (Some r ∷ cs) = record { offset = x; reading = r } ∷ pairs_of (x + 1) cs

-- a chunk of v cells of which n are filled is of kind 1 where n times 5 exceeds v times 2
abbrev pub dense : ℕ → ℕ → Bool
dense v n = nat_lt (v * 2) (n * 5)

-- a word for each cell, or a pair for each filled one; and how many bytes that makes
abbrev pub body_bytes : ℕ → List (Option ℕ) → List ℕ
body_bytes v cs = cond (dense v (filled cs)) (flat_map cell_bytes cs) (flat_map pair_bytes (pairs_of 0 cs))

abbrev pub body_size : ℕ → ℕ → ℕ
body_size v n = cond (dense v n) (4 * v) (6 * n)

-- the entry of a body that starts at byte `at`
abbrev pub made_entry : ℕ → ℕ → ℕ → Entry
made_entry v at n = record { start = at; count = n; kind = cond (dense v n) 1 0; spare = 0 }

-- each body starts where the one before it ends
abbrev pub entries_of : ℕ → ℕ → List (List (Option ℕ)) → List Entry
entries_of v at [] = []
entries_of v at (cs ∷ css) = made_entry v at (filled cs) ∷ entries_of v (at + length (body_bytes v cs)) css

abbrev pub bodies_of : ℕ → List (List (Option ℕ)) → List (List ℕ)
bodies_of v css = map (body_bytes v) css

-- the file of the cells of each chunk
unfoldable pub file_bytes : List Dim → List (List (Option ℕ)) → List ℕ
file_bytes ds css = file_of ds (entries_of (volume ds) (bodies_at ds) css) (bodies_of (volume ds) css)

-- a buffer after the bytes xs were written to it from `at` on
abbrev pub put : List ℕ → ℕ → List ℕ → List ℕ
put out at xs = take at out ++ (xs ++ drop (at + length xs) out)

-- Cells of rows

abbrev pub first_of : List ℕ → Option ℕ
first_of [] = None
first_of (n ∷ ns) = Some n

-- the reading of the first row on a cell, if there is one
abbrev pub in_cell : List Dim → List Row → ℕ → ℕ → Option ℕ
in_cell ds rows j x = first_of (cell_readings ds rows j x)

-- the cells of chunk j by offset, and those of each chunk
abbrev pub in_chunk : List Dim → List Row → ℕ → List (Option ℕ)
in_chunk ds rows j = map (in_cell ds rows j) (range_with_len 0 (volume ds))

abbrev pub in_chunks : List Dim → List Row → List (List (Option ℕ))
in_chunks ds rows = map (in_chunk ds rows) (range_with_len 0 (total_chunks ds))
