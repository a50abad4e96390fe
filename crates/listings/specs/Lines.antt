-- The lines of a listing as text. Assumes nothing.
use Rattle.std.specs.Prelude.{ℕ, List, [], ◌∷◌, map, codes, decimal}
use Rattle.shapes.specs.declared.dims.Dim.{Dim}
use Rattle.heads.specs.Heads.{dims_line as head, refused_lines as refusal}
pub use Rattle.heads.specs.Heads.{spaced, line}

unfoldable pub dims_line : List Dim → List ℕ
dims_line ds = head ds

-- the plan's need, and how many chunks are unreadable
unfoldable pub cells_line : ℕ → ℕ → List ℕ
cells_line need unreadable = line (codes "CELLS") (decimal need ∷ codes "UNREADABLE" ∷ decimal unreadable ∷ [])

-- the cell of a block, which goes by mask and number, at an offset, with its columns
unfoldable pub cell_line : ℕ → ℕ → ℕ → List ℕ → List ℕ
cell_line mask number offset columns = line (decimal mask) (map decimal (number ∷ offset ∷ columns))

-- how many chunks are readable and unreadable, and how many blocks there are
unfoldable pub end_line : ℕ → ℕ → ℕ → List ℕ
end_line readable unreadable blocks = line (codes "END") (map decimal (readable ∷ unreadable ∷ blocks ∷ []))

-- the number of a refusal, and its place
unfoldable pub refused_lines : ℕ → ℕ → List ℕ
refused_lines number place = refusal number place
