-- The numbers of the cells in a region: below its number of cells, no two the same, and by strides.
use Rattle.std.proofs.Common.{◌≡◌, ℕ, zero, suc, ◌+◌, ◌*◌, ◌/◌, ◌%◌, ◌<◌, ◌≤◌, Bool, true, false, cond, ltb, ◌⊎◌, List, [], ◌∷◌, map, length, get_or, take, sum, sym, refl, ap, ◌∙◌, ap₂, inl, inr, mul-zero, div-add-mod', zero-add, zero-mul, arith}
use lib.Arith.{digits_mod}
use Rattle.std.specs.List.{range_with_len}
use Rattle.std.proofs.lemmas.List.{get_or-map, length-map, ext_get_or}
use Rattle.std.proofs.lemmas.List.FromFn.{length-map-range_with_len, get_or-map-range_with_len, take-map-range_with_len}
use Rattle.std.proofs.lemmas.Nat.{mod_below}
use Rattle.std.proofs.lemmas.List.Sums.{sum_by-cons}
use Rattle.std.proofs.lemmas.Bool.{cases_eq, cases_lt, cases_Bool, lt-ltb, le-ltb, both_ways}
use Rattle.shapes.specs.declared.dims.Dim.{Dim}
use Rattle.shapes.specs.Arrays.{Group, product, number, cleared, Below, sizes, dim, none_dim, keeps, chunk_of, cell_at}
use Rattle.shapes.proofs.Held.{chunk_of_at}
use Rattle.shapes.proofs.Numbering.{below_length, below_getD, number_below, number_injective, number_weighted}
use Rattle.measures.specs.Laws.{total}
use Rattle.plans.specs.Plans.{Order}
use Rattle.cubes.specs.Summaries.{Divided, big}
use Rattle.cubes.specs.Scans.{InRegion}
use Rattle.cubes.proofs.Cells.{length-cleared}
use Rattle.cubes.proofs.Joins.{big_cong, big_join, big_first, total_counting}
use Rattle.cubes.proofs.ScanNumbers.{sums, below_from_getD}
use Rattle.cubes.proofs.RegionSteps.{getD_cleared}
use Rattle.runs.specs.Boxes.{dot}
use Rattle.runs.specs.Layouts.{region_radix, region_radices, region_digit, cell_number, region_stride, block_digit}
use Rattle.cubes.proofs.RegionCells.{product_counting}

sum_total : (ks : List ℕ) → sum ks ≡ total 0 ◌+◌ ks
sum_total [] = refl
sum_total (k ∷ ks) = sum_by-cons (λ x. x) k ks ∙ ap (λ z. k + z) (sum_total ks)

pub sum_counting : (f : ℕ → ℕ) (n : ℕ) → sum (map f (range_with_len 0 n)) ≡ big 0 ◌+◌ f n
sum_counting f n = sum_total (map f (range_with_len 0 n)) ∙ total_counting 0 ◌+◌ sums f 0 n ∙ big_cong 0 ◌+◌ sums (λ i. f (0 + i)) f n (λ i l. ap f (zero-add i))

-- a number as the sum of each digit times the product of the radices before it
pub number_big : (f g : ℕ → ℕ) (n : ℕ) → number (map f (range_with_len 0 n)) (map g (range_with_len 0 n)) ≡ big 0 ◌+◌ (λ i. g i * big 1 ◌*◌ f i) n
number_big f g n =
    number_weighted (map f (range_with_len 0 n)) (map g (range_with_len 0 n)) (length-map-range_with_len g 0 n ∙ sym (length-map-range_with_len f 0 n))
    ∙ sum_counting (λ i. get_or (map g (range_with_len 0 n)) i 0 * product (take i (map f (range_with_len 0 n)))) (length (map f (range_with_len 0 n)))
    ∙ ap (big 0 ◌+◌ (λ i. get_or (map g (range_with_len 0 n)) i 0 * product (take i (map f (range_with_len 0 n))))) (length-map-range_with_len f 0 n)
    ∙ big_cong 0 ◌+◌ sums (λ i. get_or (map g (range_with_len 0 n)) i 0 * product (take i (map f (range_with_len 0 n)))) (λ i. g i * big 1 ◌*◌ f i) n
    (λ i l. ap₂ ◌*◌ (get_or-map-range_with_len g 0 n i i 0 l (zero-add i)) (ap product (take-map-range_with_len f 0 n i (omega arith)) ∙ product_counting f i))

pub dot_sum : (ss ls : List ℕ) → length ls ≤ length ss → dot ss ls ≡ big 0 ◌+◌ (λ i. get_or ls i 0 * get_or ss i 0) (length ls)
dot_sum [] [] l = refl
dot_sum [] (c ∷ ls) l = absurd (omega arith)
dot_sum (s ∷ ss) [] l = refl
dot_sum (s ∷ ss) (c ∷ ls) l = ap (λ z. c * s + z) (dot_sum ss ls (omega arith)) ∙ sym (big_first 0 ◌+◌ sums (λ i. get_or (c ∷ ls) i 0 * get_or (s ∷ ss) i 0) (length ls))

pub cell_getD : (ds : List Dim) (c ls : List ℕ) (i : ℕ) → length c ≡ length ds → length ls ≡ length ds → i < length ds → get_or (cell_at ds c ls) i 0 ≡ get_or c i 0 * (dim ds i).edge + get_or ls i 0
cell_getD [] c ls i lc ll l = absurd (omega arith)
cell_getD (d ∷ ds) [] ls i lc ll l = absurd (omega arith)
cell_getD (d ∷ ds) (c ∷ cs) [] i lc ll l = absurd (omega arith)
cell_getD (d ∷ ds) (c ∷ cs) (k ∷ ls) zero lc ll l = refl
cell_getD (d ∷ ds) (c ∷ cs) (k ∷ ls) (suc i) lc ll l = cell_getD ds cs ls i (omega arith) (omega arith) (omega arith)

pub chunk_getD : (ds : List Dim) (x : List ℕ) (i : ℕ) → length x ≡ length ds → i < length ds → get_or (chunk_of ds x) i 0 ≡ get_or x i 0 / (dim ds i).edge
chunk_getD ds x i lx l = chunk_of_at ds x i (omega arith) l

pub edge_positive : (ds : List Dim) (i : ℕ) → Divided ds → i < length ds → 0 < (dim ds i).edge
edge_positive [] i divided l = absurd (omega arith)
edge_positive (d ∷ ds) zero divided l = omega (arith, divided.0.0)
edge_positive (d ∷ ds) (suc i) divided l = edge_positive ds i divided.1 (omega arith)

module _ (ds : List Dim) (place : ℕ → ℕ) (divided : Divided ds) (g : Group) (p : ℕ) where
  long_radices : length (region_radices ds place g p) ≡ length ds
  long_radices = length-map-range_with_len (region_radix ds place g p) 0 (length ds)

  long_digits : (x : List ℕ) → length (map (region_digit ds place g p x) (range_with_len 0 (length ds))) ≡ length ds
  long_digits x = length-map-range_with_len (region_digit ds place g p x) 0 (length ds)

  digit_at : (x : List ℕ) (i : ℕ) → i < length ds → get_or (map (region_digit ds place g p x) (range_with_len 0 (length ds))) i 0 ≡ region_digit ds place g p x i
  digit_at x i l = get_or-map-range_with_len (region_digit ds place g p x) 0 (length ds) i i 0 l (zero-add i)

  radix_at_is : (i : ℕ) → i < length ds → get_or (region_radices ds place g p) i 1 ≡ region_radix ds place g p i
  radix_at_is i l = get_or-map-range_with_len (region_radix ds place g p) 0 (length ds) i i 1 l (zero-add i)

  digit_below : (x : List ℕ) (i : ℕ) → Below (sizes ds) x → i < length ds → region_digit ds place g p x i < region_radix ds place g p i
  digit_below x i b l = by (keeps g i) (ltb (place i) p)
    where
      within : get_or x i 0 < (dim ds i).size
      within = rw (get_or-map (λ (d : Dim). d.size) ds i none_dim 0 l) at (below_getD (sizes ds) x i 0 0 b (rw (length-map ds (λ (d : Dim). d.size)) l))

      by : (t u : Bool) → cond t (cond u (get_or x i 0) (get_or x i 0 % (dim ds i).edge)) 0 < cond t (cond u (dim ds i).size (dim ds i).edge) 1
      by true true = within
      by true false = mod_below (get_or x i 0) (dim ds i).edge (edge_positive ds i divided l)
      by false u = omega arith

  pub region_digits_below : (x : List ℕ) → Below (sizes ds) x → Below (region_radices ds place g p) (map (region_digit ds place g p x) (range_with_len 0 (length ds)))
  region_digits_below x b = below_from_getD (region_radices ds place g p) (map (region_digit ds place g p x) (range_with_len 0 (length ds))) (long_digits x ∙ sym long_radices)
      (λ i m. let l : i < length ds = rw long_radices at m in rw (digit_at x i l, radix_at_is i l) (digit_below x i b l))

  -- a cell stands within its region
  pub cell_number_below : (x : List ℕ) → Below (sizes ds) x → cell_number ds place g p x < product (region_radices ds place g p)
  cell_number_below x b = number_below (region_radices ds place g p) (map (region_digit ds place g p x) (range_with_len 0 (length ds))) (region_digits_below x b)

  pub cell_number_sum : (x : List ℕ) → cell_number ds place g p x ≡ big 0 ◌+◌ (λ i. region_digit ds place g p x i * big 1 ◌*◌ (region_radix ds place g p) i) (length ds)
  cell_number_sum x = number_big (region_radix ds place g p) (region_digit ds place g p x) (length ds)

  -- only the kept dimensions count
  pub cell_number_same : (x y : List ℕ) → ((i : ℕ) → i < length ds → keeps g i ≡ true → get_or x i 0 ≡ get_or y i 0) → cell_number ds place g p x ≡ cell_number ds place g p y
  cell_number_same x y same = cell_number_sum x
      ∙ big_cong 0 ◌+◌ sums (λ i. region_digit ds place g p x i * big 1 ◌*◌ (region_radix ds place g p) i) (λ i. region_digit ds place g p y i * big 1 ◌*◌ (region_radix ds place g p) i) (length ds)
      (λ i l. ap (λ z. z * big 1 ◌*◌ (region_radix ds place g p) i) (by i l (cases_Bool (keeps g i))))
      ∙ sym (cell_number_sum y)
    where
      by : (i : ℕ) → i < length ds → (keeps g i ≡ true) ⊎ (keeps g i ≡ false) → region_digit ds place g p x i ≡ region_digit ds place g p y i
      by i l (inl t) = ap (λ z. cond (keeps g i) (cond (ltb (place i) p) z (z % (dim ds i).edge)) 0) (same i l t)
      by i l (inr t) = rw t

  -- the cell at ls of the block c, by strides
  pub cell_number_strides : (c ls : List ℕ) → length c ≡ length ds → length ls ≡ length ds → ((i : ℕ) → i < length ds → keeps g i ≡ true → get_or ls i 0 < (dim ds i).edge)
      → cell_number ds place g p (cell_at ds c ls) ≡ big 0 ◌+◌ (λ i. block_digit ds place p c i * region_stride ds place g p i) (length ds) + big 0 ◌+◌ (λ i. get_or ls i 0 * region_stride ds place g p i) (length ds)
  cell_number_strides c ls lc ll small = cell_number_sum (cell_at ds c ls)
      ∙ big_cong 0 ◌+◌ sums (λ i. region_digit ds place g p (cell_at ds c ls) i * big 1 ◌*◌ (region_radix ds place g p) i) (λ i. block_digit ds place p c i * region_stride ds place g p i + get_or ls i 0 * region_stride ds place g p i) (length ds)
      (λ i l. ap (λ z. cond (keeps g i) (cond (ltb (place i) p) z (z % (dim ds i).edge)) 0 * big 1 ◌*◌ (region_radix ds place g p) i) (cell_getD ds c ls i lc ll l) ∙ by i l (cases_Bool (keeps g i)))
      ∙ big_join 0 ◌+◌ sums (λ i. block_digit ds place p c i * region_stride ds place g p i) (λ i. get_or ls i 0 * region_stride ds place g p i) (length ds)
    where
      by : (i : ℕ) → i < length ds → (keeps g i ≡ true) ⊎ (keeps g i ≡ false)
          → cond (keeps g i) (cond (ltb (place i) p) (get_or c i 0 * (dim ds i).edge + get_or ls i 0) ((get_or c i 0 * (dim ds i).edge + get_or ls i 0) % (dim ds i).edge)) 0 * big 1 ◌*◌ (region_radix ds place g p) i
          ≡ block_digit ds place p c i * region_stride ds place g p i + get_or ls i 0 * region_stride ds place g p i
      by i l (inr t) = rw t (omega (arith, mul-zero (block_digit ds place p c i), mul-zero (get_or ls i 0)))
      by i l (inl t) = rw t (before (ltb (place i) p) (big 1 ◌*◌ (region_radix ds place g p) i))
        where
          before : (u : Bool) (w : ℕ) → cond u (get_or c i 0 * (dim ds i).edge + get_or ls i 0) ((get_or c i 0 * (dim ds i).edge + get_or ls i 0) % (dim ds i).edge) * w ≡ cond u (get_or c i 0 * (dim ds i).edge) 0 * w + get_or ls i 0 * w
          before true w = omega arith
          before false w = ap (λ z. z * w) (digits_mod (get_or c i 0) (small i l t)) ∙ omega (arith, zero-mul w)

-- two cells of one region at one place are one cell of h
module _ (ds : List Dim) (place : ℕ → ℕ) (order : Order ds place) (divided : Divided ds) (h : Group) (e : ℕ) (lh : length h ≡ length ds) (le : e < length ds) (lacks : keeps h e ≡ false) where
  pub cell_number_apart : (c x y : List ℕ) → Below (sizes ds) x → Below (sizes ds) y → InRegion ds place h e c x → InRegion ds place h e c y
      → cell_number ds place h (place e) x ≡ cell_number ds place h (place e) y → cleared h x ≡ cleared h y
  cell_number_apart c x y bx by-y rx ry same = ext_get_or 0 (cleared h x) (cleared h y) (length_x ∙ sym length_y)
      (λ i m. let l : i < length ds = rw length_x at m in rw (getD_cleared h x i (rw lh l), getD_cleared h y i (rw lh l)) (at i l (cases_Bool (keeps h i))))
    where
      long : (z : List ℕ) → Below (sizes ds) z → length z ≡ length ds
      long z b = below_length (sizes ds) z b ∙ length-map ds (λ (d : Dim). d.size)

      length_x : length (cleared h x) ≡ length ds
      length_x = length-cleared h x (lh ∙ sym (long x bx)) ∙ long x bx

      length_y : length (cleared h y) ≡ length ds
      length_y = length-cleared h y (lh ∙ sym (long y by-y)) ∙ long y by-y

      lists : map (region_digit ds place h (place e) x) (range_with_len 0 (length ds)) ≡ map (region_digit ds place h (place e) y) (range_with_len 0 (length ds))
      lists = number_injective (region_radices ds place h (place e)) (map (region_digit ds place h (place e) x) (range_with_len 0 (length ds))) (map (region_digit ds place h (place e) y) (range_with_len 0 (length ds)))
          (region_digits_below ds place divided h (place e) x bx) (region_digits_below ds place divided h (place e) y by-y) same

      same_digit : (i : ℕ) → i < length ds → region_digit ds place h (place e) x i ≡ region_digit ds place h (place e) y i
      same_digit i l = sym (digit_at ds place divided h (place e) x i l) ∙ ap (λ z. get_or z i 0) lists ∙ digit_at ds place divided h (place e) y i l

      at : (i : ℕ) → i < length ds → (keeps h i ≡ true) ⊎ (keeps h i ≡ false) → cond (keeps h i) (get_or x i 0) 0 ≡ cond (keeps h i) (get_or y i 0) 0
      at i l (inr t) = rw t
      at i l (inl t) = rw t (by (cases_lt (place i) (place e)))
        where
          digits_same : cond (ltb (place i) (place e)) (get_or x i 0) (get_or x i 0 % (dim ds i).edge) ≡ cond (ltb (place i) (place e)) (get_or y i 0) (get_or y i 0 % (dim ds i).edge)
          digits_same = rw t at (same_digit i l)

          by : (place i < place e) ⊎ (place e ≤ place i) → get_or x i 0 ≡ get_or y i 0
          by (inl q) = rw (lt-ltb (place i) (place e) q) at digits_same
          by (inr q) = sym (div-add-mod' (get_or x i 0) (dim ds i).edge)
              ∙ ap₂ (λ a b. a * (dim ds i).edge + b) (sym (chunk_getD ds x i (long x bx) l) ∙ rx i l t later ∙ sym (ry i l t later) ∙ chunk_getD ds y i (long y by-y) l) (rw (le-ltb (place i) (place e) q) at digits_same)
              ∙ div-add-mod' (get_or y i 0) (dim ds i).edge
            where
              differ : place i ≡ place e → ⊥
              differ z = both_ways (keeps h i) (ap (keeps h) (order.distinct i e l le z) ∙ lacks) t

              later : place e < place i
              later = apart (cases_eq (place i) (place e))
                where
                  apart : (place i ≡ place e) ⊎ (place i ≡ place e → ⊥) → place e < place i
                  apart (inl z) = absurd (differ z)
                  apart (inr z) = omega arith
