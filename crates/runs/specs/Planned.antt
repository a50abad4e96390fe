-- The order and the parents that a run goes by: those of the plan. Nothing but that they are an order and a choice of parents is used of them. Assumes nothing.
use Rattle.std.specs.Prelude.{ℕ, List, [], length, slice_index_or}
use Rattle.shapes.specs.declared.dims.Dim.{Dim}
use Rattle.shapes.specs.Arrays.{Group, product, number, radix, edges, counts, groups}
use Rattle.plans.specs.Plans.{plan_place, plan_adds, plan_need}
use Rattle.cubes.specs.Scans.{scan_digits}
use Rattle.cubes.specs.Handing.{Block, handing, released}

-- the place of each dimension
unfoldable pub places_of : List Dim → ℕ → ℕ
places_of ds = plan_place ds

-- the dimension that each group's parent adds
unfoldable pub adds_of : List Dim → Group → ℕ
adds_of ds = plan_adds ds

-- the cells that a run needs
unfoldable pub need_of : List Dim → ℕ
need_of ds = plan_need ds

-- the handing order
unfoldable pub handing_order : List Dim → List Block
handing_order ds = handing ds (places_of ds) (adds_of ds) (groups (length ds))

-- how many blocks the first t chunks release
unfoldable pub released_after : List Dim → ℕ → ℕ
released_after ds t = released ds (places_of ds) (adds_of ds) (groups (length ds)) t

-- the chunk coordinates and the storage number of the chunk with the scan number s
unfoldable pub scanned_chunk : List Dim → ℕ → List ℕ
scanned_chunk ds s = scan_digits (places_of ds) (counts ds) s

abbrev pub scanned_storage : List Dim → ℕ → ℕ
scanned_storage ds s = number (counts ds) (scanned_chunk ds s)

-- the block that comes after the first i of the handing order
abbrev pub none_block : Block
none_block = record { of = []; at = [] }

abbrev pub block_after : List Dim → ℕ → Block
block_after ds i = slice_index_or (handing_order ds) i none_block

-- the cells of a block: the product of its kept edges
abbrev pub block_size : List Dim → Block → ℕ
block_size ds b = product (radix b.of (edges ds))
