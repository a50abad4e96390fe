-- What a shape is made of: its dimensions, filled up to six.
use Rattle.std.proofs.Common.{◌≡◌, ℕ, ◌/◌, ◌<◌, ◌≤◌, List, map, length, get_or, take, None, sym, refl, ap, ◌∙◌, subst, arith}
use Rattle.std.proofs.lemmas.List.{get_or_past, get_or-map}
use Rattle.shapes.specs.declared.dims.Dim.{Dim}
use Rattle.shapes.specs.Arrays.{product, volume, extent, total_chunks, none_dim}
use Rattle.shapes.specs.Limits.{Fit, dims_fault}
use Rattle.shapes.specs.Views.{six}
use Rattle.shapes.proofs.Sixes.{take-six, six_at, length-six}
use Rattle.shapes.proofs.Products.{product-six, total_quotient, volume_positive}
use Rattle.shapes.proofs.Limited.{six_fits, fits_from}

module _ (ds : List Dim) (all : List Dim) (is_six : all ≡ six none_dim ds) (few : length ds ≤ 6) where
  pub taken : take (length ds) all ≡ ds
  taken = ap (take (length ds)) is_six ∙ take-six none_dim ds (length ds) refl few

  pub long : length all ≡ 6
  long = ap length is_six ∙ length-six none_dim ds

  pub past_last : (i : ℕ) → length ds ≤ i → get_or all i none_dim ≡ none_dim
  past_last i h = ap (λ xs. get_or xs i none_dim) is_six ∙ ⊎-six i h where
    ⊎-six : (i : ℕ) → length ds ≤ i → get_or (six none_dim ds) i none_dim ≡ none_dim
    ⊎-six i h = mathlib.Core.Logic.⊎_elim (λ l. six_at none_dim ds i l ∙ get_or_past ds i none_dim h) (λ l. get_or_past (six none_dim ds) i none_dim (omega (arith, length-six none_dim ds))) (Rattle.std.proofs.lemmas.Bool.cases_lt i 6)

  pub all_product : (f : Dim → ℕ) → f none_dim ≡ 1 → product (map f all) ≡ product (map f ds)
  all_product f e = ap (λ xs. product (map f xs)) is_six ∙ product-six f none_dim e ds few

  module _ (sound : dims_fault 0 ds ≡ None) where
    pub all_fit : (i : ℕ) → i < 6 → Fit (get_or all i none_dim)
    all_fit i l = subst (λ xs. Fit (get_or xs i none_dim)) (sym is_six) (six_fits ds (fits_from 0 ds sound) i l)

    pub factors_fit : (f : Dim → ℕ) (ws : List ℕ) → ws ≡ map f all → ((d : Dim) → Fit d → (1 ≤ f d) × (f d ≤ 16384)) → (i : ℕ) → i < 6 → (1 ≤ get_or ws i 0) × (get_or ws i 0 ≤ 16384)
    factors_fit f ws e h i l =
        let at : get_or ws i 0 ≡ f (get_or all i none_dim) = ap (λ xs. get_or xs i 0) e ∙ get_or-map f all i none_dim 0 (omega (arith, long)) in
        let b = h (get_or all i none_dim) (all_fit i l) in
        let low = b.0 in let high = b.1 in
        (omega arith, omega arith)

    pub chunks_are : (x v : ℕ) → x ≡ extent ds → v ≡ volume ds → x / v ≡ total_chunks ds
    chunks_are x v p q = ap (λ n. n / v) p ∙ (ap (λ n. extent ds / n) q ∙ total_quotient ds (fits_from 0 ds sound))

    pub cells_some : 1 ≤ volume ds
    cells_some = volume_positive ds (fits_from 0 ds sound)
