-- The regions one after the other: apart, within the need, and all together the need. The root's region is laid out by offset.
use Rattle.std.proofs.Common.{◌≡◌, ℕ, ◌+◌, ◌-◌, ◌%◌, ◌^◌, ◌<◌, ◌≤◌, true, cond, ◌⊎◌, List, map, length, get_or, sum, sym, ap, ◌∙◌, ap₂, inl, inr, zero-add, arith}
use Rattle.std.specs.List.{range_with_len}
use Rattle.std.proofs.lemmas.Nat.{pow_pos}
use Rattle.std.proofs.lemmas.List.{get_or-map, length-map, ext_get_or}
use Rattle.std.proofs.lemmas.List.FromFn.{get_or-map-range_with_len, length-map-range_with_len}
use Rattle.std.proofs.lemmas.Bool.{cases_lt, lt-ltb, le-ltb}
use Rattle.shapes.specs.declared.dims.Dim.{Dim}
use Rattle.shapes.specs.Arrays.{Group, product, number, volume, offset, Below, sizes, edges, dim, none_dim, keeps, group, local_of}
use Rattle.shapes.proofs.Held.{local_of_long, local_of_at}
use Rattle.shapes.proofs.Masks.{keeps_root}
use Rattle.plans.specs.Plans.{cells, need}
use Rattle.cubes.specs.Summaries.{Divided, big}
use Rattle.cubes.proofs.Joins.{big_cong}
use Rattle.cubes.proofs.ScanNumbers.{sums}
use Rattle.runs.specs.Layouts.{region_radix, region_radices, region_cells, region_digit, cell_number, lacked_place, mask_cells, mask_base, standing}
use Rattle.runs.proofs.Strides.{sum_part}
use Rattle.runs.proofs.CellNumbers.{sum_counting, cell_number_below}
use mathlib.Core.List.{map-map}

-- a group that keeps all dimensions and lacks none: its region is one block, by offset
module _ (ds : List Dim) (place : ℕ → ℕ) (g : Group) (all : (i : ℕ) → i < length ds → keeps g i ≡ true) where
  pub whole_radices : region_radices ds place g 0 ≡ edges ds
  whole_radices = ext_get_or 0 (region_radices ds place g 0) (edges ds) (length-map-range_with_len (region_radix ds place g 0) 0 (length ds) ∙ sym (length-map ds (λ (d : Dim). d.edge)))
      (λ i m. let l : i < length ds = rw (length-map-range_with_len (region_radix ds place g 0) 0 (length ds)) at m in
      get_or-map-range_with_len (region_radix ds place g 0) 0 (length ds) i i 0 l (zero-add i)
      ∙ ap₂ (λ a b. cond a (cond b (dim ds i).size (dim ds i).edge) 1) (all i l) (le-ltb (place i) 0 (omega arith))
      ∙ sym (get_or-map (λ (d : Dim). d.edge) ds i none_dim 0 l))

  pub whole_number : (x : List ℕ) → length x ≡ length ds → cell_number ds place g 0 x ≡ offset ds x
  whole_number x lx = ap₂ number whole_radices
      (ext_get_or 0 (map (region_digit ds place g 0 x) (range_with_len 0 (length ds))) (local_of ds x)
      (length-map-range_with_len (region_digit ds place g 0 x) 0 (length ds) ∙ sym (local_of_long ds x (omega arith)))
      (λ i m. let l : i < length ds = rw (length-map-range_with_len (region_digit ds place g 0 x) 0 (length ds)) at m in
      get_or-map-range_with_len (region_digit ds place g 0 x) 0 (length ds) i i 0 l (zero-add i)
      ∙ ap₂ (λ a b. cond a (cond b (get_or x i 0) (get_or x i 0 % (dim ds i).edge)) 0) (all i l) (le-ltb (place i) 0 (omega arith))
      ∙ sym (local_of_at ds x i (omega arith) l)))

module _ (ds : List Dim) (place : ℕ → ℕ) (adds : Group → ℕ) where
  abbrev masks : ℕ
  masks = 2 ^ length ds

  some : 0 < masks
  some = pow_pos (length ds)

  root_lacks : (m : ℕ) → masks ≤ m + 1 → lacked_place ds place adds m ≡ 0
  root_lacks m l = ap (λ z. cond z (place (adds (group (length ds) m))) 0) (le-ltb (m + 1) masks l)

  pub other_lacks : (m : ℕ) → m + 1 < masks → lacked_place ds place adds m ≡ place (adds (group (length ds) m))
  other_lacks m l = ap (λ z. cond z (place (adds (group (length ds) m))) 0) (lt-ltb (m + 1) masks l)

  -- the cells of a region are those that the plan counts
  pub other_cells : (m : ℕ) → m + 1 < masks → mask_cells ds place adds m ≡ cells ds place (group (length ds) m) (adds (group (length ds) m))
  other_cells m l = ap (region_cells ds place (group (length ds) m)) (other_lacks m l)

  pub root_cells : mask_cells ds place adds (masks - 1) ≡ volume ds
  root_cells = ap (region_cells ds place (group (length ds) (masks - 1))) (root_lacks (masks - 1) (omega arith))
      ∙ ap product (whole_radices ds place (group (length ds) (masks - 1)) (keeps_root (length ds)))

  pub root_base : mask_base ds place adds (masks - 1) ≡ 0
  root_base = ap (λ z. cond z (volume ds + big 0 ◌+◌ (mask_cells ds place adds) (masks - 1)) 0) (le-ltb (masks - 1 + 1) masks (omega arith))

  pub other_base : (m : ℕ) → m + 1 < masks → mask_base ds place adds m ≡ volume ds + big 0 ◌+◌ (mask_cells ds place adds) m
  other_base m l = ap (λ z. cond z (volume ds + big 0 ◌+◌ (mask_cells ds place adds) m) 0) (lt-ltb (m + 1) masks l)

  -- the root's cells stand by offset
  pub root_standing : (x : List ℕ) → length x ≡ length ds → standing ds place adds (masks - 1) x ≡ offset ds x
  root_standing x lx = ap₂ ◌+◌ root_base (ap (λ z. cell_number ds place (group (length ds) (masks - 1)) z x) (root_lacks (masks - 1) (omega arith))
      ∙ whole_number ds place (group (length ds) (masks - 1)) (keeps_root (length ds)) x lx) ∙ zero-add (offset ds x)

  -- the lengths of all regions sum to the need
  pub regions_need : mask_cells ds place adds (masks - 1) + big 0 ◌+◌ (mask_cells ds place adds) (masks - 1) ≡ need ds place adds
  regions_need = ap₂ ◌+◌ root_cells
      (big_cong 0 ◌+◌ sums (mask_cells ds place adds) count (masks - 1) (λ m l. other_cells m (omega arith))
      ∙ sym (sum_counting count (masks - 1))
      ∙ ap sum (sym (map-map (λ g. cells ds place g (adds g)) (group (length ds)) (range_with_len 0 (masks - 1)))))
    where
      count : ℕ → ℕ
      count m = cells ds place (group (length ds) m) (adds (group (length ds) m))

  -- no region reaches into another
  pub regions_apart : (m k : ℕ) → m < masks → k < masks → (m ≡ k → ⊥)
      → (mask_base ds place adds m + mask_cells ds place adds m ≤ mask_base ds place adds k) ⊎ (mask_base ds place adds k + mask_cells ds place adds k ≤ mask_base ds place adds m)
  regions_apart m k lm lk ne = by (cases_lt (m + 1) masks) (cases_lt (k + 1) masks) (cases_lt m k)
    where
      first : (i j : ℕ) → j + 1 < masks → masks ≤ i + 1 → i < masks → mask_base ds place adds i + mask_cells ds place adds i ≤ mask_base ds place adds j
      first i j lj li l =
          let e : i ≡ masks - 1 = omega arith in
          omega (arith, ap (mask_base ds place adds) e, ap (mask_cells ds place adds) e, root_base, root_cells, other_base j lj)

      later : (i j : ℕ) → i < j → j + 1 < masks → mask_base ds place adds i + mask_cells ds place adds i ≤ mask_base ds place adds j
      later i j l lj = omega (arith, other_base i (omega arith), other_base j lj, sum_part (mask_cells ds place adds) i j l)

      by : (m + 1 < masks) ⊎ (masks ≤ m + 1) → (k + 1 < masks) ⊎ (masks ≤ k + 1) → (m < k) ⊎ (k ≤ m)
          → (mask_base ds place adds m + mask_cells ds place adds m ≤ mask_base ds place adds k) ⊎ (mask_base ds place adds k + mask_cells ds place adds k ≤ mask_base ds place adds m)
      by (inl a) (inl b) (inl q) = inl (later m k q b)
      by (inl a) (inl b) (inr q) = inr (later k m (strict q) a)
        where
          strict : k ≤ m → k < m
          strict z = differ (cases_lt k m)
            where
              differ : (k < m) ⊎ (m ≤ k) → k < m
              differ (inl y) = y
              differ (inr y) = absurd (ne (omega arith))
      by (inl a) (inr b) q = inr (first k m a b lk)
      by (inr a) (inl b) q = inl (first m k b a lm)
      by (inr a) (inr b) q = absurd (ne (omega arith))

  -- each stands within the need
  pub region_within : (m : ℕ) → m < masks → mask_base ds place adds m + mask_cells ds place adds m ≤ need ds place adds
  region_within m l = by (cases_lt (m + 1) masks)
    where
      by : (m + 1 < masks) ⊎ (masks ≤ m + 1) → mask_base ds place adds m + mask_cells ds place adds m ≤ need ds place adds
      by (inl a) = omega (arith, other_base m a, regions_need, root_cells, sum_part (mask_cells ds place adds) m (masks - 1) (omega arith))
      by (inr a) =
          let e : m ≡ masks - 1 = omega arith in
          omega (arith, ap (mask_base ds place adds) e, ap (mask_cells ds place adds) e, root_base, regions_need)

  -- a cell stands within its region
  pub standing_within : (m : ℕ) (x : List ℕ) → Divided ds → Below (sizes ds) x
      → (mask_base ds place adds m ≤ standing ds place adds m x) × (standing ds place adds m x < mask_base ds place adds m + mask_cells ds place adds m)
  standing_within m x divided b = (omega arith, omega (arith, cell_number_below ds place divided (group (length ds) m) (lacked_place ds place adds m) x b))
