-- Shapes compared by their dimensions.
use Rattle.std.proofs.Common.{◌≡◌, Bool, ◌&&◌, List, [], ◌∷◌, take, length, Decides, refl, sym, ap, ap₂, ◌∙◌, arith}
use Rattle.std.specs.List.{zip, list_all}
use Rattle.std.specs.Cmp.Lexicographic.{pointwise_decides}
use Rattle.std.proofs.lemmas.Bool.Decides.{same_from_decides, Decides-eqb, Decides-and}
use Rattle.shapes.specs.declared.dims.Dim.{Dim}
use Rattle.shapes.specs.declared.shape.Shape.{Shape}
use Rattle.shapes.specs.Arrays.{none_dim}
use Rattle.shapes.specs.Views.{dims_of, same_dim, same_dims, same_shape, six}
use Rattle.shapes.proofs.Held.{held_six}
use Rattle.shapes.proofs.Sizing.{dim_ext}

same_dim_decides : (a b : Dim) → Decides (same_dim a b) (a ≡ b)
same_dim_decides a b =
    let both = Decides-and _ _ (Decides-eqb a.size b.size) (Decides-eqb a.edge b.edge) in
    (λ t. let p = both.0 t in dim_ext a b p.0 p.1, λ e. both.1 (ap (λ (d : Dim). d.size) e, ap (λ (d : Dim). d.edge) e))

pub same_dims_decides : (ds es : List Dim) → Decides (same_dims ds es) (ds ≡ es)
same_dims_decides = pointwise_decides same_dim_decides

-- what decides that the dimensions are the same is the comparison of shapes
pub same_shape_is : (s t : Shape) (r : Bool) → Decides r (dims_of s ≡ dims_of t) → r ≡ same_shape s t
same_shape_is s t r decides = same_from_decides r (same_shape s t) decides (same_dims_decides (dims_of s) (dims_of t))

-- the dimensions are the same where there are as many, and all six are the same
pub same_six_decides : (s t : Shape) (r : Bool) → s.n ≡ t.n → r ≡ same_dims s.dims t.dims → Decides r (dims_of s ≡ dims_of t)
same_six_decides s t r n e =
    let d = same_dims_decides s.dims t.dims in
    (λ h. ap₂ take n (d.0 (sym e ∙ h)), λ h. e ∙ d.1 (held_six s ∙ (ap (six none_dim) h ∙ sym (held_six t))))

-- pair by pair
pub all_zip_same : (ds es : List Dim) → length ds ≡ length es → list_all (λ (p : Dim × Dim). same_dim p.0 p.1) (zip ds es) ≡ same_dims ds es
all_zip_same [] [] l = refl
all_zip_same [] (e ∷ es) l = absurd (omega arith)
all_zip_same (d ∷ ds) [] l = absurd (omega arith)
all_zip_same (d ∷ ds) (e ∷ es) l = ap (λ b. same_dim d e && b) (all_zip_same ds es (omega arith))
