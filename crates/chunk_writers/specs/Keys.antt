-- Keys of rows, and where the keys of a chunk begin and end. Assumes nothing.
use Rattle.std.specs.Prelude.{◌≡◌, ℕ, ◌<◌, ◌≤◌, true, ◌&&◌, ◌⊎◌, List, [], map, length, get_or, drop, filter, Option, MatchOption, ◌==◌, Contains, All, slice_index_or}
use Rattle.std.specs.List.{range_with_len, zip}
use Rattle.shapes.specs.declared.dims.Dim.{Dim}
use Rattle.shapes.specs.Arrays.{storage, offset}
use Rattle.sources.specs.declared.rows.Row.{Row}
use Rattle.sources.specs.Rows.{in_range}
use Rattle.chunk_files.specs.Bodies.{Pair}
use Rattle.chunk_writers.specs.declared.keys.Key.{Key}

-- a row that is asked for by no key
abbrev pub none_row : Row
none_row = record { at = []; reading = 0 }

abbrev pub row_at : List Row → ℕ → Row
row_at rows i = slice_index_or rows i none_row

-- a key that stands nowhere
abbrev pub none_key : Key
none_key = record { chunk = 0; offset = 0; row = 0 }

-- every row is in range
abbrev pub InRange : List Dim → List Row → Type 0
InRange ds rows = (i : ℕ) → i < length rows → in_range ds (row_at rows i) ≡ true

-- the key of row i
abbrev pub key_of : List Dim → List Row → ℕ → Key
key_of ds rows i = record { chunk = storage ds (row_at rows i).at; offset = offset ds (row_at rows i).at; row = i }

abbrev pub all_keys : List Dim → List Row → List Key
all_keys ds rows = map (key_of ds rows) (range_with_len 0 (length rows))

-- the offset and the reading of a key's row
abbrev pub pair_of : List Row → Key → Pair
pair_of rows k = record { offset = k.offset; reading = (row_at rows k.row).reading }

-- a key lies on an earlier cell than another
abbrev pub Below : Key → Key → Type 0
Below a b = (a.chunk ≤ b.chunk) × (a.chunk ≡ b.chunk → a.offset < b.offset)

abbrev pub Together : Key → Key → Type 0
Together a b = (a.chunk ≡ b.chunk) × (a.offset ≡ b.offset)

-- keys by rising cell, and those of one cell by rising row
abbrev pub Ordered : List Key → Type 0
Ordered ks = (i j : ℕ) (d : Key) → i ≤ j → j < length ks → Below (slice_index_or ks i d) (slice_index_or ks j d) ⊎ (Together (slice_index_or ks i d) (slice_index_or ks j d) × ((get_or ks i d).row ≤ (get_or ks j d).row))

-- each key is that of a row
abbrev pub Each : List Dim → List Row → List Key → Type 0
Each ds rows ks = (p : ℕ) (d : Key) → p < length ks → ((get_or ks p d).row < length rows) × ((get_or ks p d).chunk ≡ storage ds (row_at rows (get_or ks p d).row).at) × ((get_or ks p d).offset ≡ offset ds (row_at rows (get_or ks p d).row).at)

-- each row has a key
abbrev pub Every : List Row → List Key → Type 0
Every rows ks = (i : ℕ) → i < length rows → ∥ ((p : ℕ) × (p < length ks) × ((get_or ks p none_key).row ≡ i)) ∥₁

-- keys by rising cell, no two of one cell
abbrev pub Rises : List Key → Type 0
Rises ks = (p q : ℕ) (d : Key) → p < q → q < length ks → Below (slice_index_or ks p d) (slice_index_or ks q d)

-- The keys of rows that are in range and have a cell each, by rising cell: each key is that of a row, and each row has one.
pub record Keyed (ds : List Dim) (rows : List Row) (ks : List Key) : Type 0 where
  pub ranged : InRange ds rows
  pub each : Each ds rows ks
  pub every : Every rows ks
  pub rises : Rises ks

-- the keys before place k are of chunks below j, and the others are not
pub record Cut (ks : List Key) (j k : ℕ) : Type 0 where
  pub within : k ≤ length ks
  pub before : (p : ℕ) (d : Key) → p < k → (get_or ks p d).chunk < j
  pub after : (p : ℕ) (d : Key) → k ≤ p → p < length ks → j ≤ (get_or ks p d).chunk

-- of the keys ks, these are the keys of chunks from j on
pub record Onward (ks : List Key) (j : ℕ) (rest : List Key) : Type 0 where
  pub place : ℕ
  pub cut : Cut ks j place
  pub is : rest ≡ drop place ks

-- the rows of keys that come second on a cell, where keys of one cell are neighbours
abbrev pub repeats : List Key → List ℕ
repeats ks = map (λ p. p.1.row) (filter (λ p. p.1.chunk == p.0.chunk && p.1.offset == p.0.offset) (zip ks (drop 1 ks)))

-- the least of them, if there is one
abbrev pub Repeated : List Key → Option ℕ → Type 0
Repeated ks o = MatchOption o (length (repeats ks) ≡ 0) (λ m. Contains (repeats ks) m × All (λ r. m ≤ r) (repeats ks))

-- keys by rising chunk
abbrev pub Rising : List Key → Type 0
Rising ks = (p q : ℕ) (d : Key) → p ≤ q → q < length ks → (get_or ks p d).chunk ≤ (get_or ks q d).chunk
