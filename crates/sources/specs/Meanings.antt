-- What a source means, and what a fetch answers and leaves. Assumes nothing.
use Rattle.std.specs.Prelude.{◌≡◌, ℕ, ◌<◌, ◌≤◌, cond, ltb, List, ◌++◌, length, take, drop, replicate, Ok, Err, Result, nat_le, nat_lt}
use Rattle.shapes.specs.declared.dims.Dim.{Dim}
use Rattle.shapes.specs.Arrays.{volume, total_chunks}
use Rattle.sources.specs.declared.refusals.SourceRefusal.{SourceRefusal}
use Rattle.sources.specs.declared.refusals.SourceRefusal.TheVariants.{Beyond, Short, Unreadable}

-- a chunk: its values by offset; or a fault, with its cause and the entry that has it
pub data Chunk (M : Type 0) : Type 0 where
  values : List M → Chunk M
  faulty : ℕ → ℕ → Chunk M

-- the dimensions of a shape, and each chunk by its storage number; what stands from T on means nothing
pub record Meaning (M : Type 0) : Type 0 where
  pub dims : List Dim
  pub chunk : ℕ → Chunk M

-- two meanings are alike: they have the same dimensions, and below T the same chunks
pub record Alike {M : Type 0} (m n : Meaning M) : Type 0 where
  pub same_dims : m.dims ≡ n.dims
  pub same_chunks : (k : ℕ) → k < total_chunks m.dims → m.chunk k ≡ n.chunk k

module _ {M : Type 0} where
  -- what a source means: the dimensions that it tells, with its chunks
  abbrev pub means : {S : Type 0} → (S → List Dim) → (S → ℕ → Chunk M) → S → Meaning M
  means told contents s = record { dims = told s; chunk = contents s }

  -- a chunk that can be read has v values
  abbrev pub sized_chunk : ℕ → Chunk M → Type 0
  sized_chunk v (values vs) = length vs ≡ v
  sized_chunk v (faulty cause entry) = Unit {0}

  -- each chunk that can be read has a value for every offset
  abbrev pub Sized : Meaning M → Type 0
  Sized m = (k : ℕ) → k < total_chunks m.dims → sized_chunk (volume m.dims) (m.chunk k)

  -- whether the chunk with storage number k can be read
  abbrev pub read_answer : ℕ → Chunk M → Result (Unit {0}) SourceRefusal
  read_answer k (values vs) = Ok tt
  read_answer k (faulty cause entry) = Err (Unreadable k entry cause)

  -- what a fetch of chunk k into a buffer with room for so many cells answers: 14, then 15, then 16
  abbrev pub fetch_answer : Meaning M → ℕ → ℕ → Result (Unit {0}) SourceRefusal
  fetch_answer m k room =
      cond (nat_le (total_chunks m.dims) k) (Err Beyond)
      (cond (nat_lt room (volume m.dims)) (Err (Short (volume m.dims))) (read_answer k (m.chunk k)))

  -- the first v cells: the chunk's values, or empty values where it can't be read
  abbrev pub cells_of : M → ℕ → Chunk M → List M
  cells_of empty v (values vs) = vs
  cells_of empty v (faulty cause entry) = replicate v empty

  -- what a fetch of chunk k leaves of a buffer: at 14 and 15 all of it, else what lies past the first V cells
  abbrev pub cells_after : M → Meaning M → ℕ → List M → List M
  cells_after empty m k xs =
      cond (nat_le (total_chunks m.dims) k) xs
      (cond (nat_lt (length xs) (volume m.dims)) xs (cells_of empty (volume m.dims) (m.chunk k) ++ drop (volume m.dims) xs))

-- how many cells a fetch of chunk k fills where there is such a chunk, and room for it
abbrev pub room_answer : List Dim → ℕ → ℕ → Result ℕ SourceRefusal
room_answer ds k room = cond (nat_le (total_chunks ds) k) (Err Beyond) (cond (nat_lt room (volume ds)) (Err (Short (volume ds))) (Ok (volume ds)))

-- A question put twice is answered alike. Chunk k was fetched into xs, which gave a and left xs', and then into ys, which gave b and left ys'.
-- If both buffers had room for V cells, or neither had, then a and b are equal. If both had, and there is such a chunk, then their first V cells are equal now.
pub record AnsweredAlike {M : Type 0} (m : Meaning M) (k : ℕ) (xs ys xs' ys' : List M) (a b : Result (Unit {0}) SourceRefusal) : Type 0 where
  pub answers : ltb (length xs) (volume m.dims) ≡ nat_lt (length ys) (volume m.dims) → a ≡ b
  pub cells : k < total_chunks m.dims → volume m.dims ≤ length xs → volume m.dims ≤ length ys → take (volume m.dims) xs' ≡ take (volume m.dims) ys'
