-- What a summary cell is of. Assumes nothing.
use Rattle.std.specs.Prelude.{ℕ, Bool, List, length}
use Rattle.shapes.specs.Arrays.{Group, group, cell_at, agrees, none_dim}
use Rattle.shapes.specs.Views.{dims_of, six}
use Rattle.summaries.specs.declared.cell.SummaryCell.{SummaryCell}

-- the group with its mask
abbrev pub group_at : SummaryCell → Group
group_at c = group (length (dims_of c.shape)) c.mask

-- whether the cell at local coordinates of a chunk agrees with it, all six coordinates compared
abbrev pub agrees_at : SummaryCell → List ℕ → List ℕ → Bool
agrees_at c chunk local = agrees c.kept c.at (cell_at (six none_dim (dims_of c.shape)) chunk local)
