-- The places, the parents and the need that code works out are the plan's.
use Rattle.std.proofs.Common.{◌≡◌, ℕ, ◌^◌, ◌<◌, ◌≤◌, List, map, length, take, pow_mono, sym, ap, ◌∙◌, arith}
use Rattle.std.proofs.lemmas.Nat.{mul-le}
use Rattle.std.proofs.lemmas.List.FromFn.{length-map-range_with_len}
use Rattle.std.proofs.ByRecursion.{All-from_get_or}
use Rattle.std.proofs.lemmas.List.{length-take-le, get_or-take}
use Rattle.shapes.specs.declared.dims.Dim.{Dim}
use Rattle.shapes.specs.declared.shape.Shape.{Shape}
use Rattle.shapes.specs.Arrays.{extent, none_dim, numbers}
use Rattle.shapes.specs.Views.{dims_of, six}
use Rattle.shapes.proofs.Sixes.{take-six}
use Rattle.plans.specs.Plans.{Edged, plan_place, plan_adds, plan_need}
use Rattle.plans.proofs.LeastNeed.{need_bounded}

-- the need of dimensions within the limits fits
pub need_small : (ds : List Dim) → Edged ds → length ds ≤ 6 → extent ds ≤ 2 ^ 34 → plan_need ds ≤ 2 ^ 40
need_small ds edged few small =
    let p : 2 ^ length ds ≤ 2 ^ 6 = pow_mono few in
    omega (arith, need_bounded ds edged (plan_place ds) (plan_adds ds), mul-le (2 ^ length ds) (extent ds) (2 ^ 6) (2 ^ 34) p small)

-- a shape's dimensions are within its limits
module _ (s : Shape) where
  dims_length : length (dims_of s) ≡ s.n
  dims_length = length-take-le s.n s.dims (omega (arith, s.six, s.few.1))

  pub few_dims : length (dims_of s) ≤ 6
  few_dims = omega (arith, dims_length, s.few.1)

  pub edged_dims : Edged (dims_of s)
  edged_dims =
      All-from_get_or (λ (d : Dim). (1 ≤ d.edge) × (d.edge ≤ d.size)) (dims_of s) none_dim
      (λ i l. let b : i < s.n = omega (arith, dims_length) in
      let fit = s.each i b in
      rw (get_or-take s.n s.dims i none_dim b) (fit.2, fit.3))

  pub taken_dims : (n : ℕ) (all : List Dim) → n ≡ length (dims_of s) → all ≡ six none_dim (dims_of s) → take n all ≡ dims_of s
  taken_dims n all en ea = ap (take n) ea ∙ take-six none_dim (dims_of s) n en (omega (arith, few_dims))

-- the places up to the last dimension
pub taken_places : (ds : List Dim) → length ds ≤ 6 → (n : ℕ) (ps : List ℕ) → n ≡ length ds → ps ≡ six 0 (map (plan_place ds) (numbers ds)) → take n ps ≡ map (plan_place ds) (numbers ds)
taken_places ds few n ps en ep =
    let long = length-map-range_with_len (plan_place ds) 0 (length ds) in
    ap (take n) ep ∙ take-six 0 (map (plan_place ds) (numbers ds)) n (en ∙ sym long) (omega (arith, long))
