-- Dimensions, one by one.
use Rattle.std.proofs.Common.{◌≡◌}
use Rattle.shapes.specs.declared.dims.Dim.{Dim}

-- a dimension is its size and its edge
pub dim_ext : (a b : Dim) → a.size ≡ b.size → a.edge ≡ b.edge → a ≡ b
dim_ext a b p q = λ i. record { size = p i; edge = q i }
