-- The body of a chunk: what it holds at each offset, or the first fault in it. Assumes nothing.
use Rattle.std.specs.Prelude.{◌≡◌, ℕ, ◌+◌, ◌*◌, ◌<◌, Bool, cond, not, ◌&&◌, ◌||◌, List, [], ◌∷◌, ◌++◌, map, take, drop, is_some, Some, None, Ok, Err, count_by, Option, Result, ◌==◌, nat_le, nat_lt, slice_index_or}
use Rattle.std.specs.List.{range_with_len}
use Rattle.shapes.specs.declared.dims.Dim.{Dim}
use Rattle.shapes.specs.Arrays.{volume, total_chunks}
use Rattle.shapes.specs.Limits.{or_else}
use Rattle.sources.specs.Readings.{is_reading}
use Rattle.chunk_files.specs.declared.entry.Entry.{Entry}
use Rattle.chunk_files.specs.Layouts.{le2, le4, half, word, body_length, directory_at, entry_at, file_dims}

-- a fault: its cause, and the entry of the body at which it was found
abbrev pub Fault : Type 0
Fault = ℕ × ℕ

abbrev pub fault_if : Bool → Fault → Option Fault
fault_if b f = cond b (Some f) None

-- Kind 0: pairs of an offset (2 bytes) and a reading (4), offsets rising

pub record Pair : Type 0 where
  pub offset : ℕ
  pub reading : ℕ

abbrev pub pair_bytes : Pair → List ℕ
pair_bytes p = le2 p.offset ++ le4 p.reading

-- the pair at byte p of a body, and the first n pairs of a body
abbrev pub pair_at : List ℕ → ℕ → Pair
pair_at b p = record { offset = half b p; reading = word b (p + 2) }

abbrev pub pairs_in : List ℕ → ℕ → List Pair
pairs_in b n = map (λ k. pair_at b (6 * k)) (range_with_len 0 n)

-- what pairs hold at offset x
abbrev pub held : List Pair → ℕ → Option ℕ
held [] x = None
held (p ∷ ps) x = cond (p.offset == x) (Some p.reading) (held ps x)

-- the offset is above the one before, so `low` at least, and below v
abbrev pub offset_fits : ℕ → ℕ → ℕ → Bool
offset_fits v low x = nat_le low x && nat_lt x v

-- pairs that are numbered from k on: 1 for the offset, 2 for the reading
abbrev pub pair_fault : ℕ → ℕ → ℕ → Pair → Option Fault
pair_fault v k low p = or_else (fault_if (not (offset_fits v low p.offset)) (1, k)) (fault_if (not (is_reading p.reading)) (2, k))

abbrev pub pairs_fault : ℕ → ℕ → ℕ → List Pair → Option Fault
pairs_fault v k low [] = None
pairs_fault v k low (p ∷ ps) = or_else (pair_fault v k low p) (pairs_fault v (k + 1) (p.offset + 1) ps)

-- Kind 1: a word of 4 bytes for each offset, FFFFFFFF for an empty cell

abbrev pub cell_word : Option ℕ → ℕ
cell_word None = 4294967295
cell_word (Some r) = r

abbrev pub cell_bytes : Option ℕ → List ℕ
cell_bytes c = le4 (cell_word c)

-- the first n words of a body
abbrev pub words_in : List ℕ → ℕ → List ℕ
words_in b n = map (λ k. word b (4 * k)) (range_with_len 0 n)

abbrev pub word_cell : ℕ → Option ℕ
word_cell w = cond (w == 4294967295) None (Some w)

-- words that are numbered from k on: 2 for the reading
abbrev pub word_fits : ℕ → Bool
word_fits w = w == 4294967295 || is_reading w

abbrev pub words_fault : ℕ → List ℕ → Option Fault
words_fault k [] = None
words_fault k (w ∷ ws) = or_else (fault_if (not (word_fits w)) (2, k)) (words_fault (k + 1) ws)

abbrev pub filled : List (Option ℕ) → ℕ
filled cs = count_by is_some cs

-- Either kind

abbrev pub unless : {X F : Type 0} → Option F → X → Result X F
unless None x = Ok x
unless (Some f) x = Err f

-- v cells of which n pairs fill some
abbrev pub sparse_cells : ℕ → ℕ → List ℕ → List (Option ℕ)
sparse_cells v n b = map (held (pairs_in b n)) (range_with_len 0 v)

abbrev pub sparse_fault : ℕ → ℕ → List ℕ → Option Fault
sparse_fault v n b = pairs_fault v 0 0 (pairs_in b n)

-- v words; 3 where they don't fill n cells
abbrev pub dense_cells : ℕ → List ℕ → List (Option ℕ)
dense_cells v b = map word_cell (words_in b v)

abbrev pub dense_fault : ℕ → ℕ → List ℕ → Option Fault
dense_fault v n b = or_else (words_fault 0 (words_in b v)) (fault_if (not (filled (dense_cells v b) == n)) (3, v))

-- what a body of v cells holds at each offset, or its first fault
abbrev pub body : ℕ → Entry → List ℕ → Result (List (Option ℕ)) Fault
body v e b =
    cond (e.kind == 0) (unless (sparse_fault v e.count b) (sparse_cells v e.count b))
    (unless (dense_fault v e.count b) (dense_cells v b))

-- Of a file

-- the bytes of the body that an entry tells
abbrev pub body_of : List ℕ → ℕ → Entry → List ℕ
body_of bs v e = take (body_length v e) (drop e.start bs)

-- the entry of chunk j
abbrev pub entry_of : List ℕ → ℕ → Entry
entry_of bs j = entry_at bs (directory_at (file_dims bs) + 8 * j)

-- the readings of chunk j by offset, or the first fault in its body
unfoldable pub readings : List ℕ → ℕ → Result (List (Option ℕ)) Fault
readings bs j = body (volume (file_dims bs)) (entry_of bs j) (body_of bs (volume (file_dims bs)) (entry_of bs j))

-- of a layout of the bytes: its dimensions are those of the file, and the readings of each chunk are what its body holds
pub record Tells (bs : List ℕ) (ds : List Dim) (es : List Entry) (bodies : List (List ℕ)) : Type 0 where
  pub dims : file_dims bs ≡ ds
  pub chunks : (j : ℕ) (none : Entry) → j < total_chunks ds → readings bs j ≡ body (volume ds) (slice_index_or es j none) (slice_index_or bodies j [])
