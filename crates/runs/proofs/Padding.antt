-- From six dimensions to those that are there: where the cells of a block stand.
use Rattle.std.proofs.Common.{◌≡◌, ℕ, zero, suc, ◌+◌, ◌-◌, ◌*◌, ◌/◌, ◌%◌, ◌^◌, ◌<◌, ◌≤◌, true, false, cond, eqb, ltb, ◌⊎◌, List, [], ◌∷◌, ◌++◌, length, get_or, take, replicate, sym, refl, ap, ◌∙◌, ap₂, inl, inr, add-zero, mul-zero, zero-add, mul-one, add-one, arith}
use Rattle.std.proofs.lemmas.Nat.{div_below, pow-add}
use Rattle.std.proofs.lemmas.List.{get_or_append_left, get_or-append_right, get_or-replicate, get_or_past, length-map, length-replicate, length-append, ext_get_or}
use Rattle.std.proofs.lemmas.List.FromFn.{get_or-map-range_with_len, length-map-range_with_len}
use Rattle.std.proofs.lemmas.Bool.{cases_lt}
use Rattle.shapes.specs.declared.dims.Dim.{Dim}
use Rattle.shapes.specs.Arrays.{Group, product, digits, group, radix, Below, edges, dim, keeps, cell_at}
use Rattle.shapes.specs.Views.{dims_of, six}
use Rattle.shapes.proofs.Products.{product_ones}
use Rattle.shapes.proofs.Sixes.{length-six, six_at}
use Rattle.cubes.specs.Summaries.{Divided, big}
use Rattle.cubes.proofs.Joins.{big_add, big_cong, big_none}
use Rattle.cubes.proofs.ScanNumbers.{sums, products}
use Rattle.runs.specs.declared.layouts.Layout.{Layout}
use Rattle.runs.specs.declared.layouts.Region.{Region}
use Rattle.runs.specs.Boxes.{dot}
use Rattle.runs.specs.Layouts.{region_radix, region_radices, cell_number, region_stride, block_digit}
use Rattle.runs.specs.Grids.{radix_at, cells_in, stride_at, strides_in, first_at, start_of, block_edges, LaidOut, RegionOf}
use Rattle.runs.proofs.CellNumbers.{dot_sum, cell_number_strides}
use Rattle.cubes.proofs.RegionCells.{product_counting}

-- a list filled up to six
pub six_padded : {X : Type 0} (x : X) (xs : List X) (n : ℕ) → length xs ≡ n → n ≤ 6 → six x xs ≡ xs ++ replicate (6 - n) x
six_padded x xs n l m = ext_get_or x (six x xs) (xs ++ replicate (6 - n) x) (length-six x xs ∙ sym (length-append xs (replicate (6 - n) x) ∙ omega (arith, length-replicate (6 - n) x)))
    (λ i q. let k : i < 6 = omega (arith, length-six x xs) in six_at x xs i k ∙ at i k (cases_lt i n))
  where
    at : (i : ℕ) → i < 6 → (i < n) ⊎ (n ≤ i) → get_or xs i x ≡ get_or (xs ++ replicate (6 - n) x) i x
    at i k (inl q) = sym (get_or_append_left xs (replicate (6 - n) x) x i (omega arith))
    at i k (inr q) = get_or_past xs i x (omega arith) ∙ sym (get_or-append_right xs (replicate (6 - n) x) n i x l q ∙ get_or-replicate (6 - n) (i - n) x x (omega arith))

-- ones behind the radices, zeros behind the digits
pub digits_ones : (m s : ℕ) → digits (replicate m 1) s ≡ replicate m 0
digits_ones zero s = refl
digits_ones (suc m) s = ap₂ ◌∷◌ (omega arith) (digits_ones m (s / 1))

pub digits_pad : (ks : List ℕ) (m s : ℕ) → digits (ks ++ replicate m 1) s ≡ digits ks s ++ replicate m 0
digits_pad [] m s = digits_ones m s
digits_pad (k ∷ ks) m s = ap (λ z. s % k ∷ z) (digits_pad ks m (s / k))

pub product_pad : (ks : List ℕ) (m : ℕ) → product (ks ++ replicate m 1) ≡ product ks
product_pad [] m = product_ones m
product_pad (k ∷ ks) m = ap (λ z. k * z) (product_pad ks m)

pub dot_pad : (ss ls : List ℕ) (m : ℕ) → dot ss (ls ++ replicate m 0) ≡ dot ss ls
dot_pad [] ls m = refl
dot_pad (s ∷ ss) [] zero = refl
dot_pad (s ∷ ss) [] (suc m) = omega (arith, dot_pad ss [] m, nothing ss)
  where
    nothing : (ss : List ℕ) → dot ss [] ≡ 0
    nothing [] = refl
    nothing (s ∷ ss) = refl
dot_pad (s ∷ ss) (l ∷ ls) m = ap (λ z. l * s + z) (dot_pad ss ls m)

ones_below : (m : ℕ) (ls : List ℕ) → Below (replicate m 1) ls → ls ≡ replicate m 0
ones_below zero [] b = refl
ones_below zero (x ∷ ls) b = absurd b
ones_below (suc m) [] b = absurd b
ones_below (suc m) (x ∷ ls) b = ap₂ ◌∷◌ (omega (arith, b.0)) (ones_below m ls b.1)

-- digits below padded radices are padded digits
pub below_pad : (ks : List ℕ) (m : ℕ) (ls : List ℕ) → Below (ks ++ replicate m 1) ls → Below ks (take (length ks) ls) × (ls ≡ take (length ks) ls ++ replicate m 0)
below_pad [] m ls b = (tt, ones_below m ls b)
below_pad (k ∷ ks) m [] b = absurd b
below_pad (k ∷ ks) m (x ∷ ls) b = let r = below_pad ks m ls b.1 in ((b.0, r.0), ap (λ z. x ∷ z) r.1)

radix_none : (m : ℕ) (js : List ℕ) → length js ≡ m → radix (replicate m false) js ≡ replicate m 1
radix_none zero js l = refl
radix_none (suc m) [] l = absurd (omega arith)
radix_none (suc m) (j ∷ js) l = ap (λ z. 1 ∷ z) (radix_none m js (omega arith))

pub radix_pad : (g : Group) (ks : List ℕ) (m : ℕ) → length g ≡ length ks → radix (g ++ replicate m false) (ks ++ replicate m 1) ≡ radix g ks ++ replicate m 1
radix_pad [] [] m l = radix_none m (replicate m 1) (length-replicate m 1)
radix_pad [] (k ∷ ks) m l = absurd (omega arith)
radix_pad (b ∷ g) [] m l = absurd (omega arith)
radix_pad (b ∷ g) (k ∷ ks) m l = ap (λ z. cond b k 1 ∷ z) (radix_pad g ks m (omega arith))

sum_rest : (f : ℕ → ℕ) (n m : ℕ) → n ≤ m → ((i : ℕ) → n ≤ i → i < m → f i ≡ 0) → big 0 ◌+◌ f m ≡ big 0 ◌+◌ f n
sum_rest f n m l none =
    let e : n + (m - n) ≡ m = omega arith in
    ap (big 0 ◌+◌ f) (sym e) ∙ big_add 0 ◌+◌ sums f n (m - n)
    ∙ ap (λ z. big 0 ◌+◌ f n + z) (big_none 0 ◌+◌ sums (λ i. f (n + i)) (m - n) (λ i k. none (n + i) (omega arith) (omega arith)))
    ∙ add-zero (big 0 ◌+◌ f n)

module _ (ds : List Dim) (place : ℕ → ℕ) (y : Layout) (laid : LaidOut ds place y) (g : Group) (lg : length g ≡ length ds) (base p : ℕ) (r : Region) (of : RegionOf ds g base p r) where
  kept_are : r.kept ≡ g ++ replicate (6 - length ds) false
  kept_are = of.keeping ∙ six_padded false g (length ds) lg laid.few

  edges_are : six 1 (edges (dims_of y.shape)) ≡ edges ds ++ replicate (6 - length ds) 1
  edges_are = ap (λ es. six 1 (edges es)) laid.shaped ∙ six_padded 1 (edges ds) (length ds) (length-map ds (λ (d : Dim). d.edge)) laid.few

  kept_in : (i : ℕ) → i < length ds → get_or r.kept i false ≡ keeps g i
  kept_in i l = ap (λ z. get_or z i false) kept_are ∙ get_or_append_left g (replicate (6 - length ds) false) false i (rw lg l)

  kept_out : (i : ℕ) → length ds ≤ i → i < 6 → get_or r.kept i false ≡ false
  kept_out i l m = ap (λ z. get_or z i false) kept_are ∙ get_or-append_right g (replicate (6 - length ds) false) (length ds) i false lg l ∙ get_or-replicate (6 - length ds) (i - length ds) false false (omega arith)

  size_in : (i : ℕ) → (dim (dims_of y.shape) i).size ≡ (dim ds i).size
  size_in i = ap (λ es. (dim es i).size) laid.shaped

  edge_in : (i : ℕ) → (dim (dims_of y.shape) i).edge ≡ (dim ds i).edge
  edge_in i = ap (λ es. (dim es i).edge) laid.shaped

  radix_in : (i : ℕ) → i < length ds → radix_at y r i ≡ region_radix ds place g p i
  radix_in i l =
      ap (λ z. cond z (cond (ltb (get_or y.places i 0) r.lacked) (dim (dims_of y.shape) i).size (dim (dims_of y.shape) i).edge) 1) (kept_in i l)
      ∙ ap (λ z. cond (keeps g i) z 1) (ap₂ (λ a b. cond (ltb a b) (dim (dims_of y.shape) i).size (dim (dims_of y.shape) i).edge) (laid.placed i l) of.lacking ∙ ap₂ (cond (ltb (place i) p)) (size_in i) (edge_in i))

  pub radix_out : (i : ℕ) → length ds ≤ i → i < 6 → radix_at y r i ≡ 1
  radix_out i l m = ap (λ z. cond z (cond (ltb (get_or y.places i 0) r.lacked) (dim (dims_of y.shape) i).size (dim (dims_of y.shape) i).edge) 1) (kept_out i l m)

  pub cells_before_in : (i : ℕ) → i ≤ length ds → big 1 ◌*◌ (radix_at y r) i ≡ big 1 ◌*◌ (region_radix ds place g p) i
  cells_before_in i l = big_cong 1 ◌*◌ products (radix_at y r) (region_radix ds place g p) i (λ j m. radix_in j (omega arith))

  stride_in : (i : ℕ) → i < length ds → stride_at y r i ≡ region_stride ds place g p i
  stride_in i l = ap₂ (λ a b. cond a b 0) (kept_in i l) (cells_before_in i (omega arith))

  stride_out : (i : ℕ) → length ds ≤ i → i < 6 → stride_at y r i ≡ 0
  stride_out i l m = ap (λ z. cond z (big 1 ◌*◌ (radix_at y r) i) 0) (kept_out i l m)

  pub block_edges_are : block_edges y r ≡ radix g (edges ds) ++ replicate (6 - length ds) 1
  block_edges_are = ap₂ radix kept_are edges_are ∙ radix_pad g (edges ds) (6 - length ds) (lg ∙ sym (length-map ds (λ (d : Dim). d.edge)))

  pub strides_dot : (ls : List ℕ) → length ls ≡ length ds → dot (strides_in y r) (ls ++ replicate (6 - length ds) 0) ≡ big 0 ◌+◌ (λ i. get_or ls i 0 * region_stride ds place g p i) (length ds)
  strides_dot ls ll = dot_pad (strides_in y r) ls (6 - length ds)
      ∙ dot_sum (strides_in y r) ls (omega (arith, laid.few, length-map-range_with_len (stride_at y r) 0 6))
      ∙ ap (big 0 ◌+◌ (λ i. get_or ls i 0 * get_or (strides_in y r) i 0)) ll
      ∙ big_cong 0 ◌+◌ sums (λ i. get_or ls i 0 * get_or (strides_in y r) i 0) (λ i. get_or ls i 0 * region_stride ds place g p i) (length ds)
      (λ i l. ap (λ z. get_or ls i 0 * z) (get_or-map-range_with_len (stride_at y r) 0 6 i i 0 (omega (arith, laid.few)) (zero-add i) ∙ stride_in i l))

  module _ (c c6 : List ℕ) (lc : length c ≡ length ds) (padded : c6 ≡ six 0 c) where
    block_is : c6 ≡ c ++ replicate (6 - length ds) 0
    block_is = padded ∙ six_padded 0 c (length ds) lc laid.few

    first_in : (i : ℕ) → i < length ds → first_at y r c6 i ≡ block_digit ds place p c i
    first_in i l = ap₂ (λ a b. cond (ltb a b) (get_or c6 i 0 * (dim (dims_of y.shape) i).edge) 0) (laid.placed i l) of.lacking
        ∙ ap₂ (λ a b. cond (ltb (place i) p) (a * b) 0) (ap (λ z. get_or z i 0) block_is ∙ get_or_append_left c (replicate (6 - length ds) 0) 0 i (rw lc l)) (edge_in i)

    pub start_is : start_of y r c6 ≡ base + big 0 ◌+◌ (λ i. block_digit ds place p c i * region_stride ds place g p i) (length ds)
    start_is = ap₂ ◌+◌ of.first
        (sum_rest (λ i. first_at y r c6 i * stride_at y r i) (length ds) 6 laid.few (λ i l m. ap (λ z. first_at y r c6 i * z) (stride_out i l m) ∙ mul-zero (first_at y r c6 i))
        ∙ big_cong 0 ◌+◌ sums (λ i. first_at y r c6 i * stride_at y r i) (λ i. block_digit ds place p c i * region_stride ds place g p i) (length ds) (λ i l. ap₂ ◌*◌ (first_in i l) (stride_in i l)))

    -- a cell of the block stands where its coordinates say
    pub block_cell_at : (divided : Divided ds) (ls : List ℕ) → length ls ≡ length ds → ((i : ℕ) → i < length ds → keeps g i ≡ true → get_or ls i 0 < (dim ds i).edge)
        → start_of y r c6 + dot (strides_in y r) (ls ++ replicate (6 - length ds) 0) ≡ base + cell_number ds place g p (cell_at ds c ls)
    block_cell_at divided ls ll small = omega (arith, start_is, strides_dot ls ll, cell_number_strides ds place divided g p c ls lc ll small)

  -- how many cells the region has
  cells_before_out : (m : ℕ) → length ds + m ≤ 6 → big 1 ◌*◌ (radix_at y r) (length ds + m) ≡ big 1 ◌*◌ (radix_at y r) (length ds)
  cells_before_out zero q = ap (big 1 ◌*◌ (radix_at y r)) (add-zero (length ds))
  cells_before_out (suc m) q = ap (big 1 ◌*◌ (radix_at y r)) (more (length ds) m) ∙ ap₂ ◌*◌ (cells_before_out m (omega arith)) (radix_out (length ds + m) (omega arith) (omega arith)) ∙ mul-one (big 1 ◌*◌ (radix_at y r) (length ds))
    where
      more : (i m : ℕ) → i + suc m ≡ suc (i + m)
      more i m = omega arith

  pub cells_in_are : cells_in y r ≡ product (region_radices ds place g p)
  cells_in_are =
      let e : length ds + (6 - length ds) ≡ 6 = omega (arith, laid.few) in
      ap (big 1 ◌*◌ (radix_at y r)) (sym e) ∙ cells_before_out (6 - length ds) (omega (arith, laid.few)) ∙ cells_before_in (length ds) (omega arith) ∙ sym (product_counting (region_radix ds place g p) (length ds))

-- a mask of n dimensions, over six
group_none : (m : ℕ) → group m 0 ≡ replicate m false
group_none zero = refl
group_none (suc m) = ap (λ z. false ∷ group m z) (omega arith) ∙ ap (λ z. false ∷ z) (group_none m)

pub group_pad : (n k m : ℕ) → m < 2 ^ n → group (n + k) m ≡ group n m ++ replicate k false
group_pad zero k m l =
    let e : m ≡ 0 = omega arith in
    ap₂ group (zero-add k) e ∙ group_none k
group_pad (suc n) k m l = ap (λ z. group z m) (more n k) ∙ ap (λ z. eqb (m % 2) 1 ∷ z) (group_pad n k (m / 2) (div_below m 2 (2 ^ n) (omega arith) (omega (arith, pow_suc))))
  where
    more : (n k : ℕ) → suc n + k ≡ suc (n + k)
    more n k = omega arith

    pow_suc : 2 ^ suc n ≡ 2 ^ n * 2
    pow_suc = ap (λ z. 2 ^ z) (sym (add-one n)) ∙ pow-add 2 n 1
