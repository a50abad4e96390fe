-- The heads of texts about a shape. Assumes nothing.
use Rattle.std.specs.Prelude.{ℕ, List, [], ◌∷◌, ◌++◌, map, length, codes, decimal}
use Rattle.std.specs.List.{flat_map}
use Rattle.shapes.specs.declared.dims.Dim.{Dim}
use Rattle.shapes.specs.Texts.{dim_text}

-- each field behind a space
abbrev pub spaced : List (List ℕ) → List ℕ
spaced fields = flat_map (λ f. codes " " ++ f) fields

-- fields with one space between; the line ends with byte 10
abbrev pub line : List ℕ → List (List ℕ) → List ℕ
line first others = (first ++ spaced others) ++ codes "\n"

-- how many dimensions there are, and each as a field
abbrev pub dims_line : List Dim → List ℕ
dims_line ds = line (codes "DIMS") (decimal (length ds) ∷ map dim_text ds)

-- the number of a refusal, and its place
abbrev pub refused_lines : ℕ → ℕ → List ℕ
refused_lines number place = line (codes "DIMS") (codes "0" ∷ []) ++ line (codes "REFUSED") (map decimal (number ∷ place ∷ []))
