-- Whether what is asked for is a cell of a summary.
use Rattle.std.proofs.Common.{◌≡◌, ℕ, ◌^◌, ◌≤◌, Bool, true, false, cond, ◌&&◌, ltb, List, length, Some, None, sym, refl, ap, ◌∙◌, arith}
use Rattle.std.specs.Option.{option_map}
use Rattle.shapes.specs.declared.dims.Dim.{Dim}
use Rattle.shapes.specs.Arrays.{Group, group, group_of, sizes, none_dim}
use Rattle.shapes.specs.Views.{six}
use Rattle.shapes.proofs.Masks.{length-group}
use Rattle.summaries.proofs.Agreeing.{kept_six}
use Rattle.summaries.specs.Answers.{kept_inside, is_cell}

-- the group that was found is that of the mask
found_by : (t : Bool) (own : Group) (gs : Group) → Some gs ≡ option_map (six false) (cond t (Some own) None) → (t ≡ true) × (gs ≡ six false own)
found_by true own gs h = (refl, cc)
found_by false own gs h = let z : ◌≡◌ {A = ℕ} 0 1 = cc in absurd (omega arith)

pub group_found : (n m : ℕ) (gs : Group) → Some gs ≡ option_map (six false) (group_of n m) → (ltb m (2 ^ n) ≡ true) × (gs ≡ six false (group n m))
group_found n m gs h = found_by (ltb m (2 ^ n)) (group n m) gs h

-- what is asked for is a cell where the coordinates lie inside, over dimensions filled up to six
pub inside_cell : (ds : List Dim) (m : ℕ) (x : List ℕ) (gs : Group) → length ds ≤ 6 → length x ≡ 6 → (ltb m (2 ^ length ds) ≡ true) × (gs ≡ six false (group (length ds) m))
    → kept_inside gs (sizes (six none_dim ds)) x ≡ is_cell ds m x
inside_cell ds m x gs few long found =
    ap (λ g. kept_inside g (sizes (six none_dim ds)) x) found.1
    ∙ (kept_six (group (length ds) m) ds x (omega (arith, length-group (length ds) m)) (sym (length-group (length ds) m)) long
    ∙ sym (ap (λ t. t && kept_inside (group (length ds) m) (sizes ds) x) found.0))
