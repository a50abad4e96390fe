-- What a write answers, and what it leaves. Assumes nothing.
use Rattle.std.specs.Prelude.{ℕ, ◌+◌, cond, List, [], ◌∷◌, ◌++◌, length, drop, is_some, Some, None, Ok, Err, Option, Result, nat_lt}
use Rattle.shapes.specs.declared.dims.Dim.{Dim}
use Rattle.shapes.specs.Arrays.{storage, offset}
use Rattle.sources.specs.declared.rows.Row.{Row}
use Rattle.sources.specs.Rows.{first_outside}
use Rattle.chunk_writers.specs.declared.refusals.WriteRefusal.{WriteRefusal}
use Rattle.chunk_writers.specs.declared.refusals.WriteRefusal.TheVariants.{Twice, Long, Room, Row as OutOfRange}
use Rattle.chunk_writers.specs.Written.{in_cell, in_chunks, file_bytes}

-- the first row on a cell that an earlier row has, of rows that are numbered from i on; `seen` stands before them
abbrev pub first_twice : List Dim → ℕ → List Row → List Row → Option ℕ
first_twice ds i seen [] = None
first_twice ds i seen (r ∷ rows) = cond (is_some (in_cell ds seen (storage ds r.at) (offset ds r.at))) (Some i) (first_twice ds (i + 1) (seen ++ r ∷ []) rows)

-- 25, then 26, for a file of so many bytes
abbrev pub room_answer : ℕ → ℕ → Result ℕ WriteRefusal
room_answer size room = cond (nat_lt 4294967295 size) (Err Long) (cond (nat_lt room size) (Err (Room size)) (Ok size))

abbrev pub twice_answer : Option ℕ → Result ℕ WriteRefusal → Result ℕ WriteRefusal
twice_answer (Some i) r = Err (Twice i)
twice_answer None r = r

abbrev pub range_answer : Option ℕ → Result ℕ WriteRefusal → Result ℕ WriteRefusal
range_answer (Some i) r = Err (OutOfRange i)
range_answer None r = r

-- what a write of rows into a buffer with so much room answers, if there is memory: 11, 24, 25, 26, or the number of bytes
abbrev pub write_answer : List Dim → List Row → ℕ → Result ℕ WriteRefusal
write_answer ds rows room =
    range_answer (first_outside ds 0 rows)
    (twice_answer (first_twice ds 0 [] rows) (room_answer (length (file_bytes ds (in_chunks ds rows))) room))

-- what it leaves of the buffer: the file, and then what stood there; all of it where the write is refused
abbrev pub file_after : List ℕ → List ℕ → Result ℕ WriteRefusal → List ℕ
file_after file out (Ok n) = file ++ drop (length file) out
file_after file out (Err e) = out

abbrev pub bytes_after : List Dim → List Row → List ℕ → Result ℕ WriteRefusal → List ℕ
bytes_after ds rows out r = file_after (file_bytes ds (in_chunks ds rows)) out r
