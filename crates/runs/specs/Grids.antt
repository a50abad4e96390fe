-- Regions by strides, over six dimensions: what the functions on regions work with. Assumes nothing.
-- A dimension that is not there has size 1 and edge 1, and is not kept.
use Rattle.std.specs.Prelude.{◌≡◌, ℕ, zero, suc, ◌+◌, ◌-◌, ◌*◌, ◌^◌, ◌<◌, ◌≤◌, Bool, false, cond, ◌&&◌, List, map, length, get_or, ◌==◌, nat_lt, slice_index, slice_index_or}
use Rattle.std.specs.List.{range_with_len}
use Rattle.shapes.specs.declared.dims.Dim.{Dim}
use Rattle.shapes.specs.Arrays.{Group, radix, edges, dim, group}
use Rattle.shapes.specs.Views.{dims_of, six}
use Rattle.cubes.specs.Summaries.{big}
use Rattle.runs.specs.declared.layouts.Layout.{Layout}
use Rattle.runs.specs.declared.layouts.Region.{Region}
use Rattle.runs.specs.Boxes.{box_cells, box_joined, Within, Disjoint}

-- the radix of the region in the dimension i
abbrev pub radix_at : Layout → Region → ℕ → ℕ
radix_at y r i = cond (slice_index_or r.kept i false) (cond (nat_lt (slice_index y.places i) r.lacked) (dim (dims_of y.shape) i).size (dim (dims_of y.shape) i).edge) 1

-- how many cells it has in the dimensions before i, and in all
abbrev pub cells_before : Layout → Region → ℕ → ℕ
cells_before y r i = big 1 ◌*◌ (radix_at y r) i

abbrev pub cells_in : Layout → Region → ℕ
cells_in y r = cells_before y r 6

-- how far apart two neighbours in the dimension i stand
abbrev pub stride_at : Layout → Region → ℕ → ℕ
stride_at y r i = cond (slice_index_or r.kept i false) (cells_before y r i) 0

abbrev pub strides_in : Layout → Region → List ℕ
strides_in y r = map (stride_at y r) (range_with_len 0 6)

-- the digit in the dimension i of the first cell of the block c, and where that cell stands
abbrev pub first_at : Layout → Region → List ℕ → ℕ → ℕ
first_at y r c i = cond (nat_lt (slice_index y.places i) r.lacked) (slice_index c i * (dim (dims_of y.shape) i).edge) 0

abbrev pub start_of : Layout → Region → List ℕ → ℕ
start_of y r c = r.base + big 0 ◌+◌ (λ i. first_at y r c i * stride_at y r i) 6

-- the edges of the blocks of the group: a dropped dimension counts once
abbrev pub block_edges : Layout → Region → List ℕ
block_edges y r = radix r.kept (six 1 (edges (dims_of y.shape)))

-- every cell that the digits below ks reach from the first cell of the block c on stands below n
abbrev pub Inside : Layout → Region → List ℕ → List ℕ → ℕ → Type 0
Inside y r ks c n = Within ks (start_of y r c) (strides_in y r) n

-- no cell of the block c of the region r stands where the cells of the region u under it do
abbrev pub ApartUnder : Layout → Region → Region → List ℕ → Type 0
ApartUnder y r u c = Disjoint (block_edges y r) (start_of y r c) (strides_in y r) (start_of y u c) (strides_in y u)

-- the cells of the block c, by offset
abbrev pub block_cells : {M : Type 0} → M → List M → Layout → Region → List ℕ → List M
block_cells empty cells y r c = box_cells empty cells (block_edges y r) (start_of y r c) (strides_in y r)

-- the cells after the block c of the region r is joined into the region u of a child: the child's stride in the dimension that it lacks is 0, so each of
-- its cells under the block gets the join of the parent's cells along that dimension
abbrev pub block_joined : {M : Type 0} → M → (M → M → M) → List M → Layout → Region → Region → List ℕ → List M
block_joined empty op cells y r u c = box_joined empty op cells (block_edges y r) (start_of y r c) (strides_in y r) (start_of y u c) (strides_in y u)

-- the layout is that of the dimensions ds at their places
pub record LaidOut (ds : List Dim) (place : ℕ → ℕ) (y : Layout) : Type 0 where
  pub few : length ds ≤ 6
  pub shaped : dims_of y.shape ≡ ds
  pub placed : (i : ℕ) → i < length ds → slice_index y.places i ≡ place i

-- the region is that of the group g, from base on, which lacks a dimension at the place p
pub record RegionOf (ds : List Dim) (g : Group) (base p : ℕ) (r : Region) : Type 0 where
  pub first : r.base ≡ base
  pub keeping : r.kept ≡ six false g
  pub lacking : r.lacked ≡ p

-- The region of each group, by mask: adds has by mask the dimension that the parent of a group has more; the root's mask is the highest

abbrev pub top : Layout → ℕ
top y = 2 ^ length (dims_of y.shape) - 1

-- the place of the dimension that the group with mask m lacks
abbrev pub lacked_at : Layout → List ℕ → ℕ → ℕ → ℕ
lacked_at y adds root m = cond (nat_lt m root) (slice_index y.places (slice_index adds m)) 0

-- the region of the mask m, from base on
abbrev pub region_at : Layout → List ℕ → ℕ → ℕ → ℕ → Region
region_at y adds root m base = record { base = base; kept = group 6 m; lacked = lacked_at y adds root m }

-- how many cells the regions of the masks before m have, but the root's
abbrev pub cells_below : Layout → List ℕ → ℕ → ℕ → ℕ
cells_below y adds root m = big 0 ◌+◌ (λ k. cells_in y (region_at y adds root k 0)) m

-- where each region begins: the root's at 0, and the others by rising mask behind its cells
pub record Bases (y : Layout) (adds : List ℕ) (root chunk : ℕ) (bases : List ℕ) : Type 0 where
  pub others : (m : ℕ) → m < root → slice_index bases m ≡ chunk + cells_below y adds root m
  pub own : get_or bases root 0 ≡ 0

-- the region of the mask m, where its base says
abbrev pub region_by : Layout → List ℕ → List ℕ → ℕ → ℕ → Region
region_by y adds bases root m = region_at y adds root m (slice_index bases m)

-- Children: the group with mask p keeps e, and without e it is a group whose parent adds e
abbrev pub child_at : List ℕ → ℕ → ℕ → Bool
child_at adds p e = slice_index_or (group 6 p) e false && slice_index adds (p - 2 ^ e) == e

-- the cells after the block c of the mask p is joined into those of its children that lack one of the first k dimensions
abbrev pub children_joined : {M : Type 0} → M → (M → M → M) → List M → Layout → List ℕ → List ℕ → ℕ → ℕ → List ℕ → ℕ → List M
children_joined empty op cells y adds bases root p c zero = cells
children_joined empty op cells y adds bases root p c (suc k) =
    cond (child_at adds p k)
    (block_joined empty op (children_joined empty op cells y adds bases root p c k) y (region_by y adds bases root p) (region_by y adds bases root (p - 2 ^ k)) c)
    (children_joined empty op cells y adds bases root p c k)

-- what a join of the block c of the region r into the region u asks of n cells
abbrev pub Joinable : Layout → Region → Region → List ℕ → ℕ → Type 0
Joinable y r u c n = Inside y u (block_edges y r) c n × ApartUnder y r u c
