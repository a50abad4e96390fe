-- What a shape holds, as lists. Assumes nothing.
use Rattle.std.specs.Prelude.{Bool, List, ◌++◌, take, replicate, ◌==◌, ◌&&◌}
use Rattle.std.specs.Ordering.{on}
use Rattle.std.specs.Cmp.{IsEquivalence, and_equiv, on_equiv, nat_eq_equiv}
use Rattle.std.specs.Cmp.Lexicographic.{pointwise, lists_equiv}
use Rattle.shapes.specs.declared.dims.Dim.{Dim}
use Rattle.shapes.specs.declared.shape.Shape.{Shape}

-- the dimensions of a shape
abbrev pub dims_of : Shape → List Dim
dims_of s = take s.n s.dims

-- whether two dimensions have one size and one edge; whether two lists have the same dimensions; whether two shapes do
abbrev pub same_dim : Dim → Dim → Bool
same_dim a b = a.size == b.size && a.edge == b.edge

abbrev pub same_dims : List Dim → List Dim → Bool
same_dims = pointwise same_dim

abbrev pub same_shape : Shape → Shape → Bool
same_shape = on dims_of same_dims

pub same_shape_equiv : IsEquivalence same_shape
same_shape_equiv = on_equiv dims_of (lists_equiv (and_equiv (on_equiv (λ (d : Dim). d.size) nat_eq_equiv) (on_equiv (λ (d : Dim). d.edge) nat_eq_equiv)))

-- a list filled up to six with x, as the coordinates of an array of six are
abbrev pub six : {A : Type 0} → A → List A → List A
six x xs = take 6 (xs ++ replicate 6 x)
