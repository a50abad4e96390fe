-- The regions by mask, and children joined, in the table of some regions. Assumes nothing.
use Rattle.std.specs.Prelude.{ℕ, List}
use Rattle.runs.specs.declared.layouts.Region.{Region}
use Rattle.runs.specs.declared.bases.Regions.{Regions}
use Rattle.runs.specs.Grids.{children_joined, region_by, top}

abbrev pub region_in : Regions → ℕ → Region
region_in s m = region_by s.layout s.layout.adds s.bases (top s.layout) m

abbrev pub all_joined : {M : Type 0} → M → (M → M → M) → List M → Regions → ℕ → List ℕ → ℕ → List M
all_joined empty op cells s p c k = children_joined empty op cells s.layout s.layout.adds s.bases (top s.layout) p c k
