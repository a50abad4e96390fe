-- What a shape gives: its dimensions are divided, and what every plan needs fits.
use Rattle.std.proofs.Common.{◌≡◌, ℕ, ◌<◌, List, [], ◌∷◌, get_or, ap, ◌∙◌, arith}
use Rattle.std.proofs.lemmas.List.{get_or_default}
use Rattle.std.specs.List.{AllByRecursion}
use Rattle.shapes.specs.declared.dims.Dim.{Dim}
use Rattle.shapes.specs.declared.shape.Shape.{Shape}
use Rattle.shapes.specs.Arrays.{dim, none_dim}
use Rattle.shapes.specs.Limits.{Fit}
use Rattle.shapes.specs.Views.{dims_of, six}
use Rattle.shapes.proofs.Sixes.{six_at, length-six}
use Rattle.shapes.proofs.Held.{all_fit}
use Rattle.cubes.specs.Summaries.{Divided}

fit_divided : (ds : List Dim) → AllByRecursion Fit ds → Divided ds
fit_divided [] fit = tt
fit_divided (d ∷ ds) fit = ((fit.0.2, fit.0.3, fit.0.4), fit_divided ds fit.1)

pub shape_divided : (s : Shape) → Divided (dims_of s)
shape_divided s = fit_divided (dims_of s) (all_fit s)

-- a dimension by its number, among the six that a shape tells
pub dims_at : (s : Shape) (xs : List Dim) (i : ℕ) → i < 6 → xs ≡ six none_dim (dims_of s) → get_or xs i (record { size = 0; edge = 0 }) ≡ dim (dims_of s) i
dims_at s xs i l e = ap (λ z. get_or z i (record { size = 0; edge = 0 })) e
    ∙ get_or_default (six none_dim (dims_of s)) i (record { size = 0; edge = 0 }) none_dim (omega (arith, length-six none_dim (dims_of s)))
    ∙ six_at none_dim (dims_of s) i l
