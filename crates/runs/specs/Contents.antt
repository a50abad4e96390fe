-- What the cells of the regions hold. Assumes nothing.
use Rattle.std.specs.Prelude.{◌≡◌, ℕ, ◌+◌, ◌<◌, ◌≤◌, List, length, slice_index_or}
use Rattle.shapes.specs.declared.dims.Dim.{Dim}
use Rattle.shapes.specs.Arrays.{Group, Below, sizes, group, chunk_of, cleared}
use Rattle.sources.specs.Meanings.{Meaning}
use Rattle.cubes.specs.Summaries.{direct}
use Rattle.cubes.specs.BetweenHands.{AtTurn, region_holds}
use Rattle.runs.specs.Layouts.{mask_cells, mask_base, standing}

-- each cell of the block c of the group g, where it stands, is the direct summary
abbrev pub CompleteBlock : {M : Type 0} → M → (M → M → M) → Meaning M → Group → List ℕ → (List ℕ → ℕ) → List M → Type 0
CompleteBlock empty op σ g c place_of cells =
    (x : List ℕ) → Below (sizes σ.dims) x → cleared g (chunk_of σ.dims x) ≡ c → slice_index_or cells (place_of x) empty ≡ direct empty op σ g x

-- after the first i blocks the region of the mask m holds, in each cell that is at its turn, what the parent's blocks among them contribute
abbrev pub RegionHeld : {M : Type 0} → M → (M → M → M) → Meaning M → (ℕ → ℕ) → (Group → ℕ) → List Group → ℕ → ℕ → List M → Type 0
RegionHeld empty op σ place adds all m i cells =
    (x : List ℕ) → Below (sizes σ.dims) x → AtTurn σ.dims place adds all (group (length σ.dims) m) i x
    → slice_index_or cells (standing σ.dims place adds m x) empty ≡ region_holds empty op σ place adds all (group (length σ.dims) m) i x

-- the cells of the region of the mask m are the same in both
abbrev pub SameRegion : {M : Type 0} → M → List Dim → (ℕ → ℕ) → (Group → ℕ) → ℕ → List M → List M → Type 0
SameRegion empty ds place adds m before after =
    (q : ℕ) → mask_base ds place adds m ≤ q → q < mask_base ds place adds m + mask_cells ds place adds m → slice_index_or after q empty ≡ slice_index_or before q empty

-- the cells of the region of the mask m are empty
abbrev pub EmptyRegion : {M : Type 0} → M → List Dim → (ℕ → ℕ) → (Group → ℕ) → ℕ → List M → Type 0
EmptyRegion empty ds place adds m cells =
    (q : ℕ) → mask_base ds place adds m ≤ q → q < mask_base ds place adds m + mask_cells ds place adds m → slice_index_or cells q empty ≡ empty
