-- How a dimension is written. Assumes nothing.
use Rattle.std.specs.Prelude.{ℕ, List, ◌++◌, codes, decimal}
use Rattle.shapes.specs.declared.dims.Dim.{Dim}

-- the size, a slash and the edge
abbrev pub dim_text : Dim → List ℕ
dim_text d = decimal d.size ++ codes "/" ++ decimal d.edge
