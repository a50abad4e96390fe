-- The table of bases and the regions by mask, for the dimensions that are there.
use Rattle.std.proofs.Common.{◌≡◌, ℕ, ◌+◌, ◌-◌, ◌^◌, ◌<◌, ◌≤◌, false, cond, ◌⊎◌, List, length, get_or, sym, refl, ap, ◌∙◌, inl, inr, arith}
use Rattle.std.proofs.lemmas.Bool.{cases_lt, lt-ltb, le-ltb}
use Rattle.shapes.specs.declared.dims.Dim.{Dim}
use Rattle.shapes.specs.Arrays.{Group, volume, group}
use Rattle.shapes.specs.Views.{six}
use Rattle.shapes.proofs.Masks.{length-group}
use Rattle.cubes.specs.Summaries.{Divided, big}
use Rattle.cubes.proofs.Joins.{big_cong}
use Rattle.cubes.proofs.ScanNumbers.{sums}
use Rattle.runs.specs.declared.layouts.Layout.{Layout}
use Rattle.runs.specs.Layouts.{lacked_place, mask_cells, mask_base}
use Rattle.runs.specs.Grids.{cells_in, LaidOut, RegionOf, lacked_at, region_at, cells_below, Bases}
use Rattle.runs.proofs.Padding.{six_padded, group_pad, cells_in_are}
use Rattle.runs.proofs.RegionBases.{root_base, other_base}

module _ (ds : List Dim) (place : ℕ → ℕ) (adds : Group → ℕ) (divided : Divided ds) (y : Layout) (laid : LaidOut ds place y) (table : List ℕ) (root : ℕ)
    (is_root : root + 1 ≡ 2 ^ length ds) (adding : (m : ℕ) → m < root → (get_or table m 0 ≡ adds (group (length ds) m)) × (get_or table m 0 < length ds)) where
  abbrev n : ℕ
  n = length ds

  kept_is : (m : ℕ) → m ≤ root → group 6 m ≡ six false (group n m)
  kept_is m l =
      let e : n + (6 - n) ≡ 6 = omega (arith, laid.few) in
      ap (λ z. group z m) (sym e) ∙ group_pad n (6 - n) m (omega arith) ∙ sym (six_padded false (group n m) n (length-group n m) laid.few)

  lacked_is : (m : ℕ) → m ≤ root → lacked_at y table root m ≡ lacked_place ds place adds m
  lacked_is m l = by (cases_lt m root)
    where
      by : (m < root) ⊎ (root ≤ m) → lacked_at y table root m ≡ lacked_place ds place adds m
      by (inl q) = ap (λ z. cond z (get_or y.places (get_or table m 0) 0) 0) (lt-ltb m root q)
          ∙ laid.placed (get_or table m 0) (adding m q).1 ∙ ap place (adding m q).0
          ∙ sym (ap (λ z. cond z (place (adds (group n m))) 0) (lt-ltb (m + 1) (2 ^ n) (omega arith)))
      by (inr q) = ap (λ z. cond z (get_or y.places (get_or table m 0) 0) 0) (le-ltb m root q)
          ∙ sym (ap (λ z. cond z (place (adds (group n m))) 0) (le-ltb (m + 1) (2 ^ n) (omega arith)))

  -- the region that is worked out for a mask is that of its group
  pub region_is : (m base : ℕ) → m ≤ root → RegionOf ds (group n m) base (lacked_place ds place adds m) (region_at y table root m base)
  region_is m base l = record { first = refl; keeping = kept_is m l; lacking = lacked_is m l }

  pub cells_are : (m base : ℕ) → m ≤ root → cells_in y (region_at y table root m base) ≡ mask_cells ds place adds m
  cells_are m base l = cells_in_are ds place y laid (group n m) (length-group n m) base (lacked_place ds place adds m) (region_at y table root m base) (region_is m base l)

  pub cells_below_are : (m : ℕ) → m ≤ root → cells_below y table root m ≡ big 0 ◌+◌ (mask_cells ds place adds) m
  cells_below_are m l = big_cong 0 ◌+◌ sums (λ k. cells_in y (region_at y table root k 0)) (mask_cells ds place adds) m (λ k q. cells_are k 0 (omega arith))

  pub bases_are : (bases : List ℕ) → Bases y table root (volume ds) bases → (m : ℕ) → m ≤ root → get_or bases m 0 ≡ mask_base ds place adds m
  bases_are bases based m l = by (cases_lt m root)
    where
      by : (m < root) ⊎ (root ≤ m) → get_or bases m 0 ≡ mask_base ds place adds m
      by (inl q) = based.others m q ∙ ap (λ z. volume ds + z) (cells_below_are m l) ∙ sym (other_base ds place adds m (omega arith))
      by (inr q) =
          let e : m ≡ root = omega arith in
          let r : root ≡ 2 ^ n - 1 = omega arith in
          ap (λ z. get_or bases z 0) e ∙ based.own ∙ sym (ap (mask_base ds place adds) (e ∙ r) ∙ root_base ds place adds)
