-- The keys of one chunk, by rising offset. Assumes nothing.
use Rattle.std.specs.Prelude.{ℕ, ◌+◌, ◌<◌, ◌≤◌, List, [], ◌∷◌, length, slice_index_or}
use Rattle.sources.specs.declared.rows.Row.{Row}
use Rattle.chunk_files.specs.Bodies.{Pair}
use Rattle.chunk_writers.specs.declared.keys.Key.{Key}

-- each key is that of one of the rows, and of one of v cells
abbrev pub Kept : List Row → ℕ → List Key → Type 0
Kept rows v ks = (p : ℕ) (d : Key) → p < length ks → ((slice_index_or ks p d).row < length rows) × ((slice_index_or ks p d).offset < v)

-- keys by rising offset
abbrev pub Climbs : List Key → Type 0
Climbs ks = (p q : ℕ) (d : Key) → p < q → q < length ks → (slice_index_or ks p d).offset < (slice_index_or ks q d).offset

-- offsets rise from `low` on, and stay below `high`
abbrev pub Climb : ℕ → ℕ → List Pair → Type 0
Climb low high [] = Unit {0}
Climb low high (p ∷ ps) = (low ≤ p.offset) × (p.offset < high) × Climb (p.offset + 1) high ps
