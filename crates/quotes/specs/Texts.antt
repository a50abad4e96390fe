-- What is told of a line of a price list. Assumes nothing.
use Rattle.std.specs.Prelude.{ℕ, ◌*◌, cond, List, ◌++◌, Some, None, codes, decimal, Option, nat_le, slice_index}
use Rattle.shapes.specs.declared.dims.Dim.{Dim}
use Rattle.shapes.specs.Limits.{Refusal, shape_fault}
use Rattle.plans.specs.Plans.{plan_need}
use Rattle.heads.specs.Heads.{dims_line, refused_lines}
use Rattle.quotes.specs.Lines.{line_dims, trimmed}

-- what a controller has for the cells of a run: 96 KiB
abbrev pub controller_bytes : ℕ
controller_bytes = 98304

-- the line of the dimensions
abbrev pub dims_text : List Dim → List ℕ
dims_text ds = dims_line ds

-- what the cells of a measure take in bytes, and whether a controller has them
abbrev pub bytes_text : List ℕ → ℕ → List ℕ
bytes_text letter bytes = codes " " ++ (letter ++ (codes " " ++ (decimal bytes ++ cond (nat_le bytes controller_bytes) (codes " FITS") (codes " OVER"))))

-- a cell of Total has 16 bytes, one of Range or Marks 8
abbrev pub cells_text : ℕ → List ℕ
cells_text need =
    (codes "CELLS " ++ decimal need) ++ (bytes_text (codes "T") (16 * need) ++ (bytes_text (codes "R") (8 * need) ++ (bytes_text (codes "M") (8 * need) ++ codes "\n")))

-- the number of a refusal, and the dimension at fault, else 0
abbrev pub refused_text : ℕ → ℕ → List ℕ
refused_text number place = refused_lines number place

abbrev pub no_shape_text : ℕ → List ℕ
no_shape_text number = codes "LINE " ++ (decimal number ++ codes " IS NO SHAPE\n")

abbrev pub checked_text : Option Refusal → List Dim → List ℕ
checked_text None ds = dims_text ds ++ cells_text (plan_need ds)
checked_text (Some r) ds = refused_text r.0 (slice_index r.1 0)

abbrev pub shape_text : ℕ → Option (List Dim) → List ℕ
shape_text number None = no_shape_text number
shape_text number (Some ds) = checked_text (shape_fault ds) ds

-- the answer to the line of this number
abbrev pub quote_text : ℕ → List ℕ → List ℕ
quote_text number line = shape_text number (line_dims (trimmed line))
