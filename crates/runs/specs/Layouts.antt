-- Where the cells of every region stand among the planned cells. Assumes nothing.
-- place gives each dimension its place, from 1; adds gives for each group but the root the dimension that its parent has more.
use Rattle.std.specs.Prelude.{ℕ, ◌+◌, ◌*◌, ◌%◌, ◌^◌, cond, List, map, length, nat_lt, slice_index}
use Rattle.shapes.specs.declared.dims.Dim.{Dim}
use Rattle.shapes.specs.Arrays.{Group, product, number, volume, dim, numbers, keeps, group}
use Rattle.cubes.specs.Summaries.{big}

-- The region of a group g that lacks a dimension at the place p; the root lacks none, and has p = 0, so that no dimension is placed before.

-- its radix in the dimension i: kept, all of its size if it is placed before p, else its edge; a dropped one counts once
abbrev pub region_radix : List Dim → (ℕ → ℕ) → Group → ℕ → ℕ → ℕ
region_radix ds place g p i = cond (keeps g i) (cond (nat_lt (place i) p) (dim ds i).size (dim ds i).edge) 1

abbrev pub region_radices : List Dim → (ℕ → ℕ) → Group → ℕ → List ℕ
region_radices ds place g p = map (region_radix ds place g p) (numbers ds)

-- how many cells it has
abbrev pub region_cells : List Dim → (ℕ → ℕ) → Group → ℕ → ℕ
region_cells ds place g p = product (region_radices ds place g p)

-- the digit of the cell x there: its coordinate where all of the size is kept, else its local coordinate
abbrev pub region_digit : List Dim → (ℕ → ℕ) → Group → ℕ → List ℕ → ℕ → ℕ
region_digit ds place g p x i = cond (keeps g i) (cond (nat_lt (place i) p) (slice_index x i) (slice_index x i % (dim ds i).edge)) 0

-- the number of the cell x in the region
abbrev pub cell_number : List Dim → (ℕ → ℕ) → Group → ℕ → List ℕ → ℕ
cell_number ds place g p x = number (region_radices ds place g p) (map (region_digit ds place g p x) (numbers ds))

-- The same by strides: how far apart two neighbours in the dimension i stand, and the digit there of the first cell of the block c

abbrev pub region_stride : List Dim → (ℕ → ℕ) → Group → ℕ → ℕ → ℕ
region_stride ds place g p i = cond (keeps g i) (big 1 ◌*◌ (region_radix ds place g p) i) 0

abbrev pub block_digit : List Dim → (ℕ → ℕ) → ℕ → List ℕ → ℕ → ℕ
block_digit ds place p c i = cond (nat_lt (place i) p) (slice_index c i * (dim ds i).edge) 0

-- All regions: the root's from 0 on, then those of the other groups by rising mask, one after the other

-- the place of the dimension that the group with mask m lacks
abbrev pub lacked_place : List Dim → (ℕ → ℕ) → (Group → ℕ) → ℕ → ℕ
lacked_place ds place adds m = cond (nat_lt (m + 1) (2 ^ length ds)) (place (adds (group (length ds) m))) 0

-- how many cells the region of the mask m has
abbrev pub mask_cells : List Dim → (ℕ → ℕ) → (Group → ℕ) → ℕ → ℕ
mask_cells ds place adds m = region_cells ds place (group (length ds) m) (lacked_place ds place adds m)

-- the first cell of the region of the mask m
abbrev pub mask_base : List Dim → (ℕ → ℕ) → (Group → ℕ) → ℕ → ℕ
mask_base ds place adds m = cond (nat_lt (m + 1) (2 ^ length ds)) (volume ds + big 0 ◌+◌ (mask_cells ds place adds) m) 0

-- where the cell x of the group with mask m stands
abbrev pub standing : List Dim → (ℕ → ℕ) → (Group → ℕ) → ℕ → List ℕ → ℕ
standing ds place adds m x = mask_base ds place adds m + cell_number ds place (group (length ds) m) (lacked_place ds place adds m) x
