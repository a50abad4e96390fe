-- Where the regions of a run stand, by its own table: within the need and apart.
use Rattle.std.proofs.Common.{◌≡◌, ℕ, ◌+◌, ◌^◌, ◌<◌, ◌≤◌, ◌⊎◌, List, length, ap, ◌∙◌, inl, inr, arith}
use Rattle.shapes.specs.declared.dims.Dim.{Dim}
use Rattle.shapes.specs.Arrays.{group}
use Rattle.shapes.specs.Views.{dims_of}
use Rattle.runs.specs.declared.state.State.{State}
use Rattle.runs.specs.Layouts.{lacked_place, mask_cells, mask_base, cell_number, standing}
use Rattle.runs.specs.Planned.{places_of, adds_of, need_of}
use Rattle.runs.specs.Holdings.{region_start, region_size, cell_place, root_mask}
use Rattle.runs.proofs.RegionBases.{region_within, regions_apart, root_base}
use Rattle.runs.proofs.PlannedScans.{need_is}
use Rattle.runs.proofs.FromState.{top_is, starts_in}

module _ (s : State) where
  abbrev ds : List Dim
  ds = dims_of s.shape

  pub start_is : (k : ℕ) → k < 2 ^ length ds → region_start s k ≡ mask_base ds (places_of ds) (adds_of ds) k
  start_is k l = starts_in s k l

  pub place_is : (k : ℕ) (x : List ℕ) → k < 2 ^ length ds → cell_place s k x ≡ standing ds (places_of ds) (adds_of ds) k x
  place_is k x l = ap (λ z. z + cell_number ds (places_of ds) (group (length ds) k) (lacked_place ds (places_of ds) (adds_of ds) k) x) (start_is k l)

  pub root_start : region_start s (root_mask ds) ≡ 0
  root_start = start_is (root_mask ds) (omega (arith, top_is s)) ∙ root_base ds (places_of ds) (adds_of ds)

  pub stands_inside : (k : ℕ) → k < 2 ^ length ds → region_start s k + region_size ds k ≤ need_of ds
  stands_inside k l = omega (arith, start_is k l, need_is ds, region_within ds (places_of ds) (adds_of ds) k l)

  pub stands_apart : (j k : ℕ) → j < 2 ^ length ds → k < 2 ^ length ds → (j ≡ k → ⊥)
      → (region_start s j + region_size ds j ≤ region_start s k) ⊎ (region_start s k + region_size ds k ≤ region_start s j)
  stands_apart j k lj lk ne = by (regions_apart ds (places_of ds) (adds_of ds) j k lj lk ne)
    where
      by : (mask_base ds (places_of ds) (adds_of ds) j + mask_cells ds (places_of ds) (adds_of ds) j ≤ mask_base ds (places_of ds) (adds_of ds) k)
          ⊎ (mask_base ds (places_of ds) (adds_of ds) k + mask_cells ds (places_of ds) (adds_of ds) k ≤ mask_base ds (places_of ds) (adds_of ds) j)
          → (region_start s j + region_size ds j ≤ region_start s k) ⊎ (region_start s k + region_size ds k ≤ region_start s j)
      by (inl z) = inl (omega (arith, start_is j lj, start_is k lk))
      by (inr z) = inr (omega (arith, start_is j lj, start_is k lk))
