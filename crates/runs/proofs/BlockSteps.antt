-- What the functions on blocks and regions require and do, by mask.
use Rattle.std.proofs.Common.{◌≡◌, ℕ, ◌+◌, ◌-◌, ◌^◌, ◌<◌, ◌≤◌, ◌⊎◌, List, ◌++◌, length, get_or, take, drop, replicate, refl, ap, ◌∙◌, subst, ap₂, inl, inr, arith}
use Rattle.std.proofs.lemmas.List.{length-replicate, length-append, length-take-le, length-drop, get_or_append_left, get_or-append_right, get_or-take, get_or-drop, get_or-replicate}
use Rattle.std.proofs.lemmas.List.FromFn.{length-map-range_with_len}
use Rattle.shapes.specs.declared.dims.Dim.{Dim}
use Rattle.shapes.specs.Arrays.{Group, product, volume, Below, radix, edges, counts, group}
use Rattle.shapes.specs.Views.{six}
use Rattle.shapes.proofs.Masks.{length-group}
use Rattle.measures.specs.Laws.{Lawful}
use Rattle.sources.specs.Meanings.{Chunk}
use Rattle.cubes.specs.Meanings.{meaning}
use Rattle.plans.specs.Plans.{need}
use Rattle.cubes.specs.Summaries.{Divided, block}
use Rattle.runs.specs.declared.layouts.Layout.{Layout}
use Rattle.runs.specs.declared.layouts.Region.{Region}
use Rattle.runs.specs.Boxes.{emptied, joined_at}
use Rattle.runs.specs.Layouts.{lacked_place, mask_cells, mask_base, standing}
use Rattle.runs.specs.Grids.{block_edges, cells_in, strides_in, start_of, Inside, ApartUnder, block_cells, block_joined, LaidOut, RegionOf, region_at, Bases}
use Rattle.runs.specs.Contents.{CompleteBlock, SameRegion, EmptyRegion}
use Rattle.runs.proofs.RegionBases.{region_within, regions_apart}
use Rattle.runs.proofs.BlockCells.{block_edges_product, inside, disjoint, written_direct, joins_keep}
use Rattle.runs.proofs.Tables.{region_is, cells_are, bases_are}

-- the cells after the n from b on are emptied
module _ {M : Type 0} (empty : M) (s : List M) (b n : ℕ) (fits : b + n ≤ length s) where
  front : length (take b s ++ replicate n empty) ≡ b + n
  front = length-append (take b s) (replicate n empty) ∙ ap₂ ◌+◌ (length-take-le b s (omega arith)) (length-replicate n empty)

  pub length_emptied : length (emptied empty s b n) ≡ length s
  length_emptied = length-append (take b s ++ replicate n empty) (drop (b + n) s) ∙ omega (arith, front, length-drop (b + n) s)

  pub emptied_at : (q : ℕ) → b ≤ q → q < b + n → get_or (emptied empty s b n) q empty ≡ empty
  emptied_at q l m = get_or_append_left (take b s ++ replicate n empty) (drop (b + n) s) empty q (omega (arith, front))
      ∙ get_or-append_right (take b s) (replicate n empty) b q empty (length-take-le b s (omega arith)) l
      ∙ get_or-replicate n (q - b) empty empty (omega arith)

  pub emptied_keeps : (q : ℕ) → (q < b) ⊎ (b + n ≤ q) → get_or (emptied empty s b n) q empty ≡ get_or s q empty
  emptied_keeps q (inl l) = get_or_append_left (take b s ++ replicate n empty) (drop (b + n) s) empty q (omega (arith, front))
      ∙ get_or_append_left (take b s) (replicate n empty) empty q (omega (arith, length-take-le b s (omega arith)))
      ∙ get_or-take b s q empty l
  emptied_keeps q (inr l) = get_or-append_right (take b s ++ replicate n empty) (drop (b + n) s) (b + n) q empty front l
      ∙ get_or-drop (b + n) s (q - (b + n)) empty
      ∙ ap (λ z. get_or s z empty) back
    where
      back : b + n + (q - (b + n)) ≡ q
      back = omega arith

-- the layout and the bases of a run: a table has by mask the dimension that the parent of a group adds
module _ (ds : List Dim) (place : ℕ → ℕ) (adds : Group → ℕ) (divided : Divided ds) (y : Layout) (laid : LaidOut ds place y) (table : List ℕ) (root : ℕ)
    (is_root : root + 1 ≡ 2 ^ length ds) (adding : (m : ℕ) → m < root → (get_or table m 0 ≡ adds (group (length ds) m)) × (get_or table m 0 < length ds))
    (bases : List ℕ) (based : Bases y table root (volume ds) bases) where
  -- the region of the mask m
  abbrev pub region : ℕ → Region
  region m = region_at y table root m (get_or bases m 0)

  abbrev n : ℕ
  n = length ds

  pub region_here : (m : ℕ) → m ≤ root → RegionOf ds (group n m) (mask_base ds place adds m) (lacked_place ds place adds m) (region m)
  region_here m l = subst (λ b. RegionOf ds (group n m) b (lacked_place ds place adds m) (region m)) (bases_are ds place adds divided y laid table root is_root adding bases based m l)
      (region_is ds place adds divided y laid table root is_root adding m (get_or bases m 0) l)

  -- two regions of different masks
  apart : (m k : ℕ) → m ≤ root → k ≤ root → (m ≡ k → ⊥)
      → (mask_base ds place adds m + mask_cells ds place adds m ≤ mask_base ds place adds k) ⊎ (mask_base ds place adds k + mask_cells ds place adds k ≤ mask_base ds place adds m)
  apart m k lm lk ne = regions_apart ds place adds m k (omega arith) (omega arith) ne

  -- a cell of one is outside the other
  outside : (m k q : ℕ) → m ≤ root → k ≤ root → (m ≡ k → ⊥) → mask_base ds place adds k ≤ q → q < mask_base ds place adds k + mask_cells ds place adds k
      → (q < mask_base ds place adds m) ⊎ (mask_base ds place adds m + mask_cells ds place adds m ≤ q)
  outside m k q lm lk ne lo hi = by (apart m k lm lk ne)
    where
      by : (mask_base ds place adds m + mask_cells ds place adds m ≤ mask_base ds place adds k) ⊎ (mask_base ds place adds k + mask_cells ds place adds k ≤ mask_base ds place adds m)
          → (q < mask_base ds place adds m) ⊎ (mask_base ds place adds m + mask_cells ds place adds m ≤ q)
      by (inl z) = inr (omega arith)
      by (inr z) = inl (omega arith)

  fits : (m len : ℕ) → m ≤ root → need ds place adds ≤ len → mask_base ds place adds m + mask_cells ds place adds m ≤ len
  fits m len l enough = omega (arith, region_within ds place adds m (omega arith))

  -- a block of the group with mask m
  module _ (m : ℕ) (lm : m ≤ root) (c : List ℕ) (below_c : Below (radix (group n m) (counts ds)) c) where
    abbrev g : Group
    g = group n m

    lg : length g ≡ length ds
    lg = length-group n m

    pub block_length : product (block_edges y (region m)) ≡ product (radix g (edges ds))
    block_length = block_edges_product ds place divided y laid g lg c (six 0 c) below_c refl (mask_base ds place adds m) (lacked_place ds place adds m) (region m) (region_here m lm)

    -- its cells, and those of another region under it, stand within the cells
    pub block_inside : (k len : ℕ) → k ≤ root → need ds place adds ≤ len → Inside y (region k) (block_edges y (region m)) (six 0 c) len
    block_inside k len lk enough = inside ds place divided y laid g lg c (six 0 c) below_c refl (group n k) (length-group n k) (mask_base ds place adds k) (lacked_place ds place adds k) (region k) (region_here k lk)
        (region m) (mask_base ds place adds m) (lacked_place ds place adds m) (region_here m lm) len (fits k len lk enough)

    pub block_apart : (k : ℕ) → k ≤ root → (m ≡ k → ⊥) → ApartUnder y (region m) (region k) (six 0 c)
    block_apart k lk ne = disjoint ds place divided y laid g lg c (six 0 c) below_c refl (mask_base ds place adds m) (lacked_place ds place adds m) (region m) (region_here m lm)
        (group n k) (length-group n k) (mask_base ds place adds k) (lacked_place ds place adds k) (region k) (region_here k lk) (apart m k lm lk ne)

    module _ {M : Type 0} (empty : M) (op : M → M → M) (lawful : Lawful empty op) (mean : ℕ → Chunk M) (s : List M) where
      -- a complete block is written out as the direct summaries
      pub written_block : CompleteBlock empty op (meaning ds mean) g c (standing ds place adds m) s → block_cells empty s y (region m) (six 0 c) ≡ block empty op (meaning ds mean) g c
      written_block whole = written_direct ds place divided y laid g lg c (six 0 c) below_c refl (mask_base ds place adds m) (lacked_place ds place adds m) (region m) (region_here m lm) empty s op lawful mean whole

      pub length_joined : (k : ℕ) → length (block_joined empty op s y (region m) (region k) (six 0 c)) ≡ length s
      length_joined k = length-map-range_with_len (λ q. op (get_or s q empty) (joined_at empty op s (block_edges y (region m)) (start_of y (region m) (six 0 c)) (strides_in y (region m))
          (start_of y (region k) (six 0 c)) (strides_in y (region k)) q)) 0 (length s)

      -- a block joined into the region of k leaves every cell outside it
      pub joined_outside : (k q : ℕ) → k ≤ root → q < length s → (q < mask_base ds place adds k) ⊎ (mask_base ds place adds k + mask_cells ds place adds k ≤ q)
          → get_or (block_joined empty op s y (region m) (region k) (six 0 c)) q empty ≡ get_or s q empty
      joined_outside k q lk l out = joins_keep ds place divided y laid g lg c (six 0 c) below_c refl (mask_base ds place adds m) (lacked_place ds place adds m) (region m) (region_here m lm) empty s op lawful mean
          (group n k) (length-group n k) (mask_base ds place adds k) (lacked_place ds place adds k) (region k) (region_here k lk) q l out

      pub joined_others : (k j : ℕ) → k ≤ root → j ≤ root → (k ≡ j → ⊥) → need ds place adds ≤ length s
          → SameRegion empty ds place adds j s (block_joined empty op s y (region m) (region k) (six 0 c))
      joined_others k j lk lj ne enough q lo hi = joined_outside k q lk (omega (arith, fits j (length s) lj enough)) (outside k j q lk lj ne lo hi)

  -- a region emptied
  module _ {M : Type 0} (empty : M) (s : List M) (m : ℕ) (lm : m ≤ root) (enough : need ds place adds ≤ length s) where
    pub region_ready : (region m).base + cells_in y (region m) ≤ length s
    region_ready = omega (arith, bases_are ds place adds divided y laid table root is_root adding bases based m lm, cells_are ds place adds divided y laid table root is_root adding m (get_or bases m 0) lm, fits m (length s) lm enough)

    emptied_is : emptied empty s (region m).base (cells_in y (region m)) ≡ emptied empty s (mask_base ds place adds m) (mask_cells ds place adds m)
    emptied_is = ap₂ (emptied empty s) (bases_are ds place adds divided y laid table root is_root adding bases based m lm) (cells_are ds place adds divided y laid table root is_root adding m (get_or bases m 0) lm)

    pub emptied_region : EmptyRegion empty ds place adds m (emptied empty s (region m).base (cells_in y (region m)))
    emptied_region q lo hi = ap (λ z. get_or z q empty) emptied_is ∙ emptied_at empty s (mask_base ds place adds m) (mask_cells ds place adds m) (fits m (length s) lm enough) q lo hi

    pub emptied_others : (k : ℕ) → k ≤ root → (m ≡ k → ⊥) → SameRegion empty ds place adds k s (emptied empty s (region m).base (cells_in y (region m)))
    emptied_others k lk ne q lo hi = ap (λ z. get_or z q empty) emptied_is
        ∙ emptied_keeps empty s (mask_base ds place adds m) (mask_cells ds place adds m) (fits m (length s) lm enough) q (outside m k q lm lk ne lo hi)

    -- the cells past the need stay
    pub emptied_past : (q : ℕ) → need ds place adds ≤ q → get_or (emptied empty s (region m).base (cells_in y (region m))) q empty ≡ get_or s q empty
    emptied_past q l = ap (λ z. get_or z q empty) emptied_is
        ∙ emptied_keeps empty s (mask_base ds place adds m) (mask_cells ds place adds m) (fits m (length s) lm enough) q (inr (omega (arith, region_within ds place adds m (omega arith))))

-- all planned cells emptied
pub all_emptied : {M : Type 0} (empty : M) (ds : List Dim) (place : ℕ → ℕ) (adds : Group → ℕ) (s : List M) → need ds place adds ≤ length s
    → (m : ℕ) → m < 2 ^ length ds → EmptyRegion empty ds place adds m (emptied empty s 0 (need ds place adds))
all_emptied empty ds place adds s enough m l q lo hi =
    emptied_at empty s 0 (need ds place adds) (omega arith) q (omega arith) (omega (arith, region_within ds place adds m l))
