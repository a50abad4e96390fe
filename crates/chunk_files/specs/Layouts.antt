-- The chunk file: its layout, and the order in which a check finds it broken. Assumes nothing.
use Rattle.std.specs.Prelude.{◌≡◌, ℕ, ◌+◌, ◌-◌, ◌*◌, ◌/◌, ◌%◌, ◌^◌, ◌<◌, ◌≤◌, Bool, cond, not, ◌&&◌, ◌||◌, List, [], ◌∷◌, ◌++◌, map, length, is_some, None, Option, ◌==◌, nat_le, nat_lt, slice_index}
use Rattle.std.specs.List.{range_with_len, flat_map}
use Rattle.shapes.specs.declared.dims.Dim.{Dim}
use Rattle.shapes.specs.Arrays.{volume, total_chunks, none_dim}
use Rattle.shapes.specs.Limits.{Limits, Refusal, or_else, refused_if, shape_fault}
use Rattle.chunk_files.specs.declared.entry.Entry.{Entry}

-- Numbers in bytes

-- a number in 2 bytes, and in 4: the lowest byte comes first
abbrev pub le2 : ℕ → List ℕ
le2 h = (h % 256) ∷ (h / 256 % 256) ∷ []

abbrev pub le4 : ℕ → List ℕ
le4 w = (w % 256) ∷ (w / 256 % 256) ∷ (w / 65536 % 256) ∷ (w / 16777216 % 256) ∷ []

-- the number of 2 bytes, and of 4, that begins at byte p; a byte past the end counts as 0
abbrev pub half : List ℕ → ℕ → ℕ
half bs p = slice_index bs p + slice_index bs (p + 1) * 256

abbrev pub word : List ℕ → ℕ → ℕ
word bs p = slice_index bs p + slice_index bs (p + 1) * 256 + slice_index bs (p + 2) * 65536 + slice_index bs (p + 3) * 16777216

-- The layout

-- a dimension: its size and its edge
abbrev pub dim_bytes : Dim → List ℕ
dim_bytes d = le4 d.size ++ le4 d.edge

-- the version, the number of dimensions, two zero bytes; then the dimensions
abbrev pub header_bytes : List Dim → List ℕ
header_bytes ds = (1 ∷ length ds ∷ 0 ∷ 0 ∷ []) ++ flat_map dim_bytes ds

-- what the directory says of a chunk: the byte at which its body starts, its count, its kind and a zero byte
abbrev pub entry_bytes : Entry → List ℕ
entry_bytes e = le4 e.start ++ (le2 e.count ++ (e.kind ∷ e.spare ∷ []))

-- a file: the header with the sizes, the directory, the bodies
abbrev pub file_of : List Dim → List Entry → List (List ℕ) → List ℕ
file_of ds es bodies = header_bytes ds ++ (flat_map entry_bytes es ++ flat_map (λ (b : List ℕ). b) bodies)

-- where the directory and the bodies begin
abbrev pub directory_at : List Dim → ℕ
directory_at ds = 4 + 8 * length ds

abbrev pub bodies_at : List Dim → ℕ
bodies_at ds = directory_at ds + 8 * total_chunks ds

-- the bytes of a body, where a chunk has v cells: so many pairs, or a word for each cell
abbrev pub body_length : ℕ → Entry → ℕ
body_length v e = cond (e.kind == 0) (6 * e.count) (4 * v)

-- an entry that is right for a body which begins at byte `at`
pub record Right (v at : ℕ) (e : Entry) : Type 0 where
  pub starts : e.start ≡ at
  pub kinds : e.kind ≤ 1
  pub counts : e.count ≤ v
  pub spares : e.spare ≡ 0
  pub short : e.start < 2 ^ 32

-- a right entry for each body, and the bodies follow each other without gaps from byte `at` on
abbrev pub Laid : ℕ → ℕ → List Entry → List (List ℕ) → Type 0
Laid v at [] [] = Unit {0}
Laid v at [] (b ∷ bodies) = ⊥
Laid v at (e ∷ es) [] = ⊥
Laid v at (e ∷ es) (b ∷ bodies) = Right v at e × (length b ≡ body_length v e) × Laid v (at + body_length v e) es bodies

-- the bytes are a file of these dimensions, entries and bodies; nothing is said of what stands in the bodies
pub record Layout (bs : List ℕ) (ds : List Dim) (es : List Entry) (bodies : List (List ℕ)) : Type 0 where
  pub limits : Limits ds
  pub made : bs ≡ file_of ds es bodies
  pub each_entry : length es ≡ total_chunks ds
  pub each_body : length bodies ≡ total_chunks ds
  pub laid : Laid (volume ds) (bodies_at ds) es bodies

-- What stands at a place

-- the dimension at byte p, and n dimensions from byte `from` on
abbrev pub dim_at : List ℕ → ℕ → Dim
dim_at bs p = record { size = word bs p; edge = word bs (p + 4) }

abbrev pub dims_from : List ℕ → ℕ → ℕ → List Dim
dims_from bs from n = map (λ i. dim_at bs (from + 8 * i)) (range_with_len 0 n)

-- the entry at byte p, and t entries from byte `from` on
abbrev pub entry_at : List ℕ → ℕ → Entry
entry_at bs p = record { start = word bs p; count = half bs (p + 4); kind = slice_index bs (p + 6); spare = slice_index bs (p + 7) }

abbrev pub entries_from : List ℕ → ℕ → ℕ → List Entry
entries_from bs from t = map (λ j. entry_at bs (from + 8 * j)) (range_with_len 0 t)

-- the dimensions that the header tells
abbrev pub dims_in : List ℕ → List Dim
dims_in bs = dims_from bs 4 (slice_index bs 1)

-- The check, in its order

-- 7 under four bytes, 8
abbrev pub marked : List ℕ → Bool
marked bs = slice_index bs 0 == 1 && (slice_index bs 2 == 0 && slice_index bs 3 == 0)

abbrev pub head_fault : List ℕ → Option Refusal
head_fault bs = or_else (refused_if (nat_lt (length bs) 4) (7, [])) (refused_if (not (marked bs)) (8, []))

-- 1, 7 for the sizes of n dimensions in so many bytes
abbrev pub sizes_fault : ℕ → ℕ → Option Refusal
sizes_fault n len = or_else (refused_if (nat_lt n 1 || nat_lt 6 n) (1, [])) (refused_if (nat_lt len (8 * n)) (7, []))

-- 9 for the first wrong entry, of entries that are numbered from j on
abbrev pub right : ℕ → ℕ → Entry → Bool
right v at e = e.start == at && (nat_le e.kind 1 && (nat_le e.count v && e.spare == 0))

abbrev pub entries_fault : ℕ → ℕ → ℕ → List Entry → Option Refusal
entries_fault v j at [] = None
entries_fault v j at (e ∷ es) = or_else (refused_if (not (right v at e)) (9, j ∷ [])) (entries_fault v (j + 1) (at + body_length v e) es)

-- where bodies from byte `at` on end
abbrev pub ending : ℕ → ℕ → List Entry → ℕ
ending v at [] = at
ending v at (e ∷ es) = ending v (at + body_length v e) es

-- 7 for a directory of t entries from byte `from` on, 9, 10
abbrev pub directory_fault : List ℕ → ℕ → ℕ → ℕ → Option Refusal
directory_fault bs from v t =
    or_else (refused_if (nat_lt (length bs) (from + 8 * t)) (7, []))
    (or_else (entries_fault v 0 (from + 8 * t) (entries_from bs from t))
    (refused_if (not (ending v (from + 8 * t) (entries_from bs from t) == length bs)) (10, [])))

-- the first cause that stops a file
unfoldable pub file_fault : List ℕ → Option Refusal
file_fault bs =
    or_else (head_fault bs)
    (or_else (sizes_fault (slice_index bs 1) (length bs - 4))
    (or_else (shape_fault (dims_in bs)) (directory_fault bs (4 + 8 * slice_index bs 1) (volume (dims_in bs)) (total_chunks (dims_in bs)))))

-- The dimensions of a file. Bytes that tell none within the limits, which no file does, have a single cell.
unfoldable pub file_dims : List ℕ → List Dim
file_dims bs = cond (is_some (shape_fault (dims_in bs))) (none_dim ∷ []) (dims_in bs)
