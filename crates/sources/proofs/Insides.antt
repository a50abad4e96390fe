-- Coordinates inside an array, against its six dimensions. Assumes nothing.
use Rattle.std.proofs.Common.{◌≡◌, ℕ, zero, suc, ◌+◌, ◌≤◌, Bool, ◌&&◌, eqb, ltb, List, [], ◌∷◌, ◌++◌, length, take, replicate, sym, refl, ap, ◌∙◌, ap₂, arith}
use Rattle.std.proofs.lemmas.Bool.{le-ltb, ne_eqb}
use Rattle.std.specs.List.{list_all, zip}
use Rattle.shapes.specs.declared.dims.Dim.{Dim}
use Rattle.shapes.specs.Arrays.{sizes, none_dim, inside}
use Rattle.shapes.specs.Views.{six}

-- a coordinate is below the size of its dimension
abbrev pub is_below : Dim × ℕ → Bool
is_below p = ltb p.1 p.0.size

only_zero : (x : ℕ) → ltb x 1 ≡ eqb x 0
only_zero zero = refl
only_zero (suc x) = le-ltb (suc x) 1 (omega arith) ∙ sym (ne_eqb (suc x) 0 (λ e. omega arith))

-- a dimension that is not there has size 1
all_below : (m : ℕ) (ds : List Dim) (xs : List ℕ) → length ds ≤ length xs → length xs ≤ length ds + m
    → list_all is_below (zip (take (length xs) (ds ++ replicate m none_dim)) xs) ≡ inside (sizes ds) xs
all_below m [] [] few room = refl
all_below zero [] (x ∷ xs) few room = absurd (omega arith)
all_below (suc m) [] (x ∷ xs) few room = ap₂ (λ a b. a && b) (only_zero x) (all_below m [] xs (omega arith) (omega arith))
all_below m (d ∷ ds) [] few room = absurd (omega arith)
all_below m (d ∷ ds) (x ∷ xs) few room = ap (λ b. ltb x d.size && b) (all_below m ds xs (omega arith) (omega arith))

-- the dimensions of a shape come filled up to six
pub six_below : (ds all : List Dim) (xs : List ℕ) → all ≡ six none_dim ds → length xs ≡ 6 → length ds ≤ 6 → list_all is_below (zip all xs) ≡ inside (sizes ds) xs
six_below ds all xs is_six long few =
    ap (λ es. list_all is_below (zip es xs)) (is_six ∙ ap (λ n. take n (ds ++ replicate 6 none_dim)) (sym long)) ∙ all_below 6 ds xs (omega arith) (omega arith)
