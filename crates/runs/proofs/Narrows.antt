-- A region has no more cells than the array: so the numbers that place its cells are few, and so are the cells of all regions.
use Rattle.std.proofs.Common.{◌≡◌, ℕ, zero, suc, ◌+◌, ◌*◌, ◌^◌, ◌<◌, ◌≤◌, Bool, true, false, cond, ltb, List, [], ◌∷◌, map, length, get_or, sym, ap, ◌∙◌, ap₂, zero-add, mul-one, mul-le-mul_left, arith, pow_mono}
use Rattle.std.specs.List.{AllByRecursion, range_with_len}
use Rattle.std.proofs.lemmas.Nat.{mul-le}
use Rattle.std.proofs.lemmas.List.{ext_get_or, get_or-map, get_or_past, length-map}
use Rattle.std.proofs.lemmas.List.FromFn.{get_or-map-range_with_len, length-map-range_with_len}
use Rattle.shapes.specs.declared.dims.Dim.{Dim}
use Rattle.shapes.specs.Arrays.{product, volume, extent, sizes, dim, none_dim}
use Rattle.shapes.specs.Limits.{Fit}
use Rattle.shapes.specs.Views.{dims_of}
use Rattle.shapes.proofs.Held.{limits}
use Rattle.cubes.specs.Summaries.{big}
use Rattle.cubes.proofs.RegionCells.{product_counting}
use Rattle.runs.specs.declared.layouts.Layout.{Layout}
use Rattle.runs.specs.declared.layouts.Region.{Region}
use Rattle.runs.specs.Grids.{radix_at, cells_before, region_at, cells_below, top}

fits_at : (ds : List Dim) (i : ℕ) → AllByRecursion Fit ds → (1 ≤ (dim ds i).edge) × ((dim ds i).edge ≤ (dim ds i).size)
fits_at [] i f = (omega arith, omega arith)
fits_at (d ∷ ds) zero f = (f.0.2, f.0.3)
fits_at (d ∷ ds) (suc i) f = fits_at ds i f.1

product_le : (f g : ℕ → ℕ) (n : ℕ) → ((i : ℕ) → f i ≤ g i) → big 1 ◌*◌ f n ≤ big 1 ◌*◌ g n
product_le f g zero l = omega arith
product_le f g (suc n) l = mul-le (big 1 ◌*◌ f n) (f n) (big 1 ◌*◌ g n) (g n) (product_le f g n l) (l n)

product_rises : (f : ℕ → ℕ) (n m : ℕ) → ((i : ℕ) → 1 ≤ f i) → big 1 ◌*◌ f n ≤ big 1 ◌*◌ f (m + n)
product_rises f n zero l = ap_le (sym (zero-add n))
  where
    ap_le : {k : ℕ} → n ≡ k → big 1 ◌*◌ f n ≤ big 1 ◌*◌ f k
    ap_le e = omega (arith, ap (big 1 ◌*◌ f) e)
product_rises f n (suc m) l =
    let e : suc m + n ≡ suc (m + n) = omega arith in
    omega (arith, ap (big 1 ◌*◌ f) e, mul-le-mul_left (big 1 ◌*◌ f (m + n)) (l (m + n)), product_rises f n m l)

module _ (ds : List Dim) where
  abbrev size : ℕ → ℕ
  size i = (dim ds i).size

  -- the sizes of the dimensions that are there
  sizes_are : big 1 ◌*◌ size (length ds) ≡ extent ds
  sizes_are = sym (product_counting size (length ds))
      ∙ ap product (ext_get_or 0 (map size (range_with_len 0 (length ds))) (sizes ds) (length-map-range_with_len size 0 (length ds) ∙ sym (length-map ds (λ (d : Dim). d.size)))
      (λ i m. let l : i < length ds = rw (length-map-range_with_len size 0 (length ds)) at m in
      get_or-map-range_with_len size 0 (length ds) i i 0 l (zero-add i) ∙ sym (get_or-map (λ (d : Dim). d.size) ds i none_dim 0 l)))

  sizes_past : (m : ℕ) → big 1 ◌*◌ size (m + length ds) ≡ extent ds
  sizes_past zero = ap (big 1 ◌*◌ size) (zero-add (length ds)) ∙ sizes_are
  sizes_past (suc m) =
      let e : suc m + length ds ≡ suc (m + length ds) = omega arith in
      let past : size (m + length ds) ≡ 1 = ap (λ (d : Dim). d.size) (get_or_past ds (m + length ds) none_dim (omega arith)) in
      ap (big 1 ◌*◌ size) e ∙ ap₂ ◌*◌ (sizes_past m) past ∙ mul-one (extent ds)

  module _ (fit : AllByRecursion Fit ds) where
    size_some : (i : ℕ) → 1 ≤ size i
    size_some i = omega (arith, (fits_at ds i fit).0, (fits_at ds i fit).1)

    sizes_small : (i : ℕ) → big 1 ◌*◌ size i ≤ extent ds
    sizes_small i =
        let e : length ds + i ≡ i + length ds = omega arith in
        omega (arith, product_rises size i (length ds) size_some, ap (big 1 ◌*◌ size) e, sizes_past i)

module _ (y : Layout) where
  abbrev ds : List Dim
  ds = dims_of y.shape

  radix_small : (r : Region) (i : ℕ) → radix_at y r i ≤ size ds i
  radix_small r i = by (get_or r.kept i false) (ltb (get_or y.places i 0) r.lacked)
    where
      by : (k w : Bool) → cond k (cond w (dim ds i).size (dim ds i).edge) 1 ≤ size ds i
      by true true = omega arith
      by true false = (fits_at ds i (limits y.shape).each).1
      by false w = size_some ds (limits y.shape).each i

  -- the radices of a region multiply within that of an array
  pub narrow : (r : Region) (i : ℕ) → cells_before y r i ≤ 2 ^ 34
  narrow r i = omega (arith, product_le (radix_at y r) (size ds) i (radix_small r), sizes_small ds (limits y.shape).each i, (limits y.shape).small_array)

  few_below : (m : ℕ) → cells_below y y.adds (top y) m ≤ m * 2 ^ 34
  few_below zero = omega arith
  few_below (suc m) = omega (arith, few_below m, narrow (region_at y y.adds (top y) m 0) 6)

  -- all regions together have cells for a machine word
  pub table_small : volume ds + cells_below y y.adds (top y) (top y) < 2 ^ 64
  table_small =
      let few : 2 ^ length ds ≤ 2 ^ 6 = pow_mono (limits y.shape).few_dims in
      let low : top y ≤ 63 = omega arith in
      omega (arith, few_below (top y), (limits y.shape).small_chunk)
