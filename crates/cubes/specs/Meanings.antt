-- Chunks of a meaning, readable or not. Assumes nothing.
use Rattle.std.specs.Prelude.{ℕ, Bool, true, false, List, []}
use Rattle.shapes.specs.declared.dims.Dim.{Dim}
use Rattle.sources.specs.Meanings.{Chunk, values, faulty, Meaning}

-- whether the chunk has no fault
abbrev pub is_readable : {M : Type 0} → Chunk M → Bool
is_readable (values vs) = true
is_readable (faulty cause entry) = false

-- the values of a chunk by offset, none where it has a fault
abbrev pub values_of : {M : Type 0} → Chunk M → List M
values_of (values vs) = vs
values_of (faulty cause entry) = []

-- the meaning of chunks by storage number in given dimensions
abbrev pub meaning : {M : Type 0} → List Dim → (ℕ → Chunk M) → Meaning M
meaning ds chunk = record { dims = ds; chunk = chunk }
