-- A parent's block joined into a child's region: from what stands in the cells to what the region holds.
use Rattle.std.proofs.Common.{◌≡◌, ℕ, zero, suc, ◌+◌, ◌*◌, ◌/◌, ◌%◌, ◌<◌, ◌≤◌, true, false, cond, eqb, ◌⊎◌, List, [], ◌∷◌, length, get_or, set, sym, refl, ap, ◌∙◌, ap₂, inl, inr, mul-le-mul_right, arith}
use native.Mathlib.Nat.{zero-div, zero-mod}
use lib.Arith.{digits_div}
use Rattle.std.proofs.lemmas.List.{get_or-map, length-map, length-set}
use Rattle.std.proofs.lemmas.Bool.{cases_eq, cases_Bool, eq-eqb, ne_eqb, both_ways}
use Rattle.shapes.specs.declared.dims.Dim.{Dim}
use Rattle.shapes.specs.Arrays.{Group, product, number, digits, radix, cleared, Below, agrees, sizes, edges, counts, chunks, dim, none_dim, keeps, chunk_of, local_of, cell_at}
use Rattle.shapes.proofs.Numbering.{below_length, below_getD, digits_below, digits_number, number_below, number_injective}
use Rattle.measures.specs.Laws.{Lawful}
use Rattle.sources.specs.Meanings.{Chunk}
use Rattle.plans.specs.Plans.{Order}
use Rattle.cubes.specs.Meanings.{meaning}
use Rattle.cubes.specs.Summaries.{Divided, big, direct, contribution, parent_block, projected_offset}
use Rattle.cubes.specs.Scans.{InRegion}
use Rattle.cubes.proofs.Cells.{below_cleared, below_counts, below_edges, below_fewer, cell_below, cell_cleared, chunk_of_cell, local_of_cell, local_below, chunk_below, cleared_below, cleared-set, cleared_from_agrees, agrees_same, cell_parent, below_set}
use Rattle.cubes.proofs.Joins.{join_empty, big_cong, big_none}
use Rattle.cubes.proofs.Summaries.{agrees_cleared, divided_at}
use Rattle.cubes.proofs.Blocks.{projected_join}
use Rattle.cubes.proofs.RegionSteps.{getD_cleared}
use Rattle.cubes.proofs.Regions.{Joined}
use Rattle.runs.specs.Layouts.{region_cells, cell_number}
use Rattle.runs.specs.Contents.{CompleteBlock}
use Rattle.runs.proofs.CellNumbers.{cell_number_below, cell_number_same, cell_number_apart}

pub chunk_cleared : (ds : List Dim) (h : Group) (x : List ℕ) → chunk_of ds (cleared h x) ≡ cleared h (chunk_of ds x)
chunk_cleared [] [] x = refl
chunk_cleared [] (b ∷ h) [] = refl
chunk_cleared [] (b ∷ h) (x ∷ xs) = refl
chunk_cleared (d ∷ ds) [] x = refl
chunk_cleared (d ∷ ds) (b ∷ h) [] = refl
chunk_cleared (d ∷ ds) (true ∷ h) (x ∷ xs) = ap (λ z. x / d.edge ∷ z) (chunk_cleared ds h xs)
chunk_cleared (d ∷ ds) (false ∷ h) (x ∷ xs) = ap₂ ◌∷◌ (zero-div d.edge) (chunk_cleared ds h xs)

pub local_cleared : (ds : List Dim) (h : Group) (x : List ℕ) → local_of ds (cleared h x) ≡ cleared h (local_of ds x)
local_cleared [] [] x = refl
local_cleared [] (b ∷ h) [] = refl
local_cleared [] (b ∷ h) (x ∷ xs) = refl
local_cleared (d ∷ ds) [] x = refl
local_cleared (d ∷ ds) (b ∷ h) [] = refl
local_cleared (d ∷ ds) (true ∷ h) (x ∷ xs) = ap (λ z. x % d.edge ∷ z) (local_cleared ds h xs)
local_cleared (d ∷ ds) (false ∷ h) (x ∷ xs) = ap₂ ◌∷◌ (zero-mod d.edge) (local_cleared ds h xs)

-- one coordinate changed
chunk_set : (ds : List Dim) (x : List ℕ) (e v : ℕ) → chunk_of ds (set x e v) ≡ set (chunk_of ds x) e (v / (dim ds e).edge)
chunk_set [] x e v = refl
chunk_set (d ∷ ds) [] zero v = refl
chunk_set (d ∷ ds) [] (suc e) v = refl
chunk_set (d ∷ ds) (x ∷ xs) zero v = refl
chunk_set (d ∷ ds) (x ∷ xs) (suc e) v = ap (λ z. x / d.edge ∷ z) (chunk_set ds xs e v)

below_changed : (ks xs : List ℕ) (e v : ℕ) → Below ks xs → v < get_or ks e 0 → Below ks (set xs e v)
below_changed [] [] e v b l = tt
below_changed [] (x ∷ xs) e v b l = absurd b
below_changed (k ∷ ks) [] e v b l = absurd b
below_changed (k ∷ ks) (x ∷ xs) zero v b l = (l, b.1)
below_changed (k ∷ ks) (x ∷ xs) (suc e) v b l = (b.0, below_changed ks xs e v b.1 l)

cleared_with : (h : Group) (cs : List ℕ) (e k : ℕ) → cleared (set h e true) (set cs e k) ≡ set (cleared h cs) e k
cleared_with [] cs e k = refl
cleared_with (f ∷ h) [] zero k = refl
cleared_with (f ∷ h) [] (suc e) k = refl
cleared_with (f ∷ h) (c ∷ cs) zero k = refl
cleared_with (f ∷ h) (c ∷ cs) (suc e) k = ap (λ z. cond f c 0 ∷ z) (cleared_with h cs e k)

module _ {M : Type 0} (empty : M) (join : M → M → M) (laws : Lawful empty join) (ds : List Dim) (place : ℕ → ℕ) (order : Order ds place) (divided : Divided ds)
    (h : Group) (e : ℕ) (lh : length h ≡ length ds) (le : e < length ds) (lacks : keeps h e ≡ false) (base base_g p_g : ℕ)
    (c : List ℕ) (below_c : Below (radix (set h e true) (counts ds)) c) (s s' : List M)
    (fits : base + region_cells ds place h (place e) ≤ length s)
    (after : (q : ℕ) → q < length s → get_or s' q empty
    ≡ join (get_or s q empty) (big empty join (λ o. cond (eqb (base + cell_number ds place h (place e) (cell_at ds c (digits (radix (set h e true) (edges ds)) o))) q)
    (get_or s (base_g + cell_number ds place (set h e true) p_g (cell_at ds c (digits (radix (set h e true) (edges ds)) o))) empty) empty) (product (radix (set h e true) (edges ds))))) where
  abbrev slot : List ℕ → ℕ
  slot x = base + cell_number ds place h (place e) x

  abbrev above : List ℕ → ℕ
  above x = base_g + cell_number ds place (set h e true) p_g x

  abbrev rg : List ℕ
  rg = radix (set h e true) (edges ds)

  abbrev rh : List ℕ
  rh = radix h (edges ds)

  abbrev cell : ℕ → List ℕ
  cell o = cell_at ds c (digits rg o)

  abbrev k : ℕ
  k = get_or c e 0

  long_g : length (set h e true) ≡ length ds
  long_g = length-set h e true ∙ lh

  counts_c : Below (counts ds) c
  counts_c = below_counts ds (set h e true) c divided long_g below_c

  length_c : length c ≡ length ds
  length_c = below_length (counts ds) c counts_c ∙ length-map ds chunks

  edges_o : (o : ℕ) → o < product rg → Below (edges ds) (digits rg o)
  edges_o o l = below_edges ds (set h e true) (digits rg o) divided long_g (digits_below rg o l)

  sizes_o : (o : ℕ) → o < product rg → Below (sizes ds) (cell o)
  sizes_o o l = cell_below ds c (digits rg o) divided counts_c (edges_o o l)

  chunk_o : (o : ℕ) → o < product rg → chunk_of ds (cell o) ≡ c
  chunk_o o l = chunk_of_cell ds c (digits rg o) length_c (edges_o o l)

  local_o : (o : ℕ) → o < product rg → local_of ds (cell o) ≡ digits rg o
  local_o o l = local_of_cell ds c (digits rg o) length_c (edges_o o l)

  region_o : (o : ℕ) → o < product rg → InRegion ds place h e c (cell o)
  region_o o l i m t q = ap (λ z. get_or z i 0) (chunk_o o l)

  length_o : (o : ℕ) → o < product rg → length (cell o) ≡ length ds
  length_o o l = below_length (sizes ds) (cell o) (sizes_o o l) ∙ length-map ds (λ (d : Dim). d.size)

  edge_is : get_or (edges ds) e 0 ≡ (dim ds e).edge
  edge_is = get_or-map (λ (d : Dim). d.edge) ds e none_dim 0 le

  module _ (x : List ℕ) (below_x : Below (sizes ds) x) (region_x : InRegion ds place h e c x) where
    length_x : length x ≡ length ds
    length_x = below_length (sizes ds) x below_x ∙ length-map ds (λ (d : Dim). d.size)

    -- one number, one cell of h
    same_cell : (o : ℕ) → o < product rg → slot (cell o) ≡ slot x → cleared h (cell o) ≡ cleared h x
    same_cell o l q = cell_number_apart ds place order divided h e lh le lacks c (cell o) x (sizes_o o l) below_x (region_o o l) region_x (omega arith)

    same_slot : (o : ℕ) → o < product rg → cleared h (cell o) ≡ cleared h x → slot (cell o) ≡ slot x
    same_slot o l q = ap (λ z. base + z) (cell_number_same ds place divided h (place e) (cell o) x
        (λ i m t. rw (getD_cleared h (cell o) i (rw lh m), getD_cleared h x i (rw lh m), t) at (ap (λ z. get_or z i 0) q)))

    agrees_then : (o : ℕ) → o < product rg → slot (cell o) ≡ slot x → agrees h (chunk_of ds x) c ≡ true
    agrees_then o l q =
        sym (agrees_cleared h (chunk_of ds x) c)
        ∙ ap (λ z. agrees h z c) (sym (chunk_cleared ds h x) ∙ ap (chunk_of ds) (sym (same_cell o l q)) ∙ chunk_cleared ds h (cell o) ∙ ap (cleared h) (chunk_o o l))
        ∙ agrees_cleared h c c ∙ agrees_same h c

    miss : agrees h (chunk_of ds x) c ≡ false → (v : ℕ → M) → big empty join (λ o. cond (eqb (slot (cell o)) (slot x)) (v o) empty) (product rg) ≡ empty
    miss t v = big_none empty join laws (λ o. cond (eqb (slot (cell o)) (slot x)) (v o) empty) (product rg)
        (λ o l. ap (λ z. cond z (v o) empty) (ne_eqb (slot (cell o)) (slot x) (λ q. both_ways (agrees h (chunk_of ds x) c) t (agrees_then o l q))))

    abbrev local : List ℕ
    local = cleared h (local_of ds x)

    below_local : Below rh local
    below_local = below_cleared h (edges ds) (local_of ds x) (local_below ds x divided length_x)

    module _ (agree : agrees h (chunk_of ds x) c ≡ true) where
      chunks_same : cleared h (chunk_of ds x) ≡ cleared h c
      chunks_same = cleared_from_agrees h (chunk_of ds x) c (below_length (counts ds) (chunk_of ds x) (chunk_below ds x divided below_x) ∙ length-map ds chunks ∙ sym length_c) agree

      -- the parent's block over x is c
      block_is : parent_block ds h e x k ≡ c
      block_is = ap (λ z. set z e k) chunks_same ∙ cleared-set h c e ∙ cleared_below (set h e true) (counts ds) c below_c

      -- the test by numbers in the region and the test by offsets
      tests : (o : ℕ) → o < product rg → (projected_offset ds h e o ≡ number rh local) ⊎ (projected_offset ds h e o ≡ number rh local → ⊥)
          → eqb (slot (cell o)) (slot x) ≡ eqb (projected_offset ds h e o) (number rh local)
      tests o l (inl q) = eq-eqb (slot (cell o)) (slot x) (same_slot o l cells_same) ∙ sym (eq-eqb (projected_offset ds h e o) (number rh local) q)
        where
          locals_same : cleared h (digits rg o) ≡ local
          locals_same = number_injective rh (cleared h (digits rg o)) local (below_fewer h (edges ds) (digits rg o) e (digits_below rg o l)) below_local q

          cells_same : cleared h (cell o) ≡ cleared h x
          cells_same = sym (cell_cleared ds h (cell o) lh (length_o o l))
              ∙ ap₂ (λ a b. cell_at ds (cleared h a) (cleared h b)) (chunk_o o l) (local_o o l)
              ∙ ap₂ (cell_at ds) (sym chunks_same) locals_same
              ∙ cell_cleared ds h x lh length_x
      tests o l (inr q) = ne_eqb (slot (cell o)) (slot x)
          (λ z. q (ap (number rh) (ap (cleared h) (sym (local_o o l)) ∙ sym (local_cleared ds h (cell o)) ∙ ap (local_of ds) (same_cell o l z) ∙ local_cleared ds h x)))
          ∙ sym (ne_eqb (projected_offset ds h e o) (number rh local) q)

      -- the parent's cell over x at l along e
      over : (l : ℕ) → l < (dim ds e).edge → above (cell (number rg (set local e l))) ≡ above (set x e (k * (dim ds e).edge + l))
      over l m =
          ap (λ z. above (cell_at ds c z)) (digits_number rg (set local e l) (below_set h (edges ds) local e l below_local (rw edge_is m)))
          ∙ ap (λ z. above (cell_at ds z (set local e l))) (sym block_is)
          ∙ ap above (cell_parent ds h x e k l lh length_x le)
          ∙ ap (λ z. base_g + z) (cell_number_same ds place divided (set h e true) p_g (cleared (set h e true) y) y
          (λ i j t. getD_cleared (set h e true) y i (rw long_g j) ∙ ap (λ z. cond z (get_or y i 0) 0) t))
        where
          y : List ℕ
          y = set x e (k * (dim ds e).edge + l)

      hit : big empty join (λ o. cond (eqb (slot (cell o)) (slot x)) (get_or s (above (cell o)) empty) empty) (product rg)
          ≡ big empty join (λ l. get_or s (above (set x e (k * (dim ds e).edge + l))) empty) (dim ds e).edge
      hit =
          big_cong empty join laws (λ o. cond (eqb (slot (cell o)) (slot x)) (get_or s (above (cell o)) empty) empty)
          (λ o. cond (eqb (projected_offset ds h e o) (number rh local)) (get_or s (above (cell o)) empty) empty) (product rg)
          (λ o l. ap (λ z. cond z (get_or s (above (cell o)) empty) empty) (tests o l (cases_eq (projected_offset ds h e o) (number rh local))))
          ∙ projected_join empty join laws ds h e (number rh local) (λ o. get_or s (above (cell o)) empty) lh le lacks (number_below rh local below_local)
          ∙ ap (λ m. big empty join (λ l. get_or s (above (cell (number rg (set m e l)))) empty) (dim ds e).edge) (digits_number rh local below_local)
          ∙ big_cong empty join laws (λ l. get_or s (above (cell (number rg (set local e l)))) empty) (λ l. get_or s (above (set x e (k * (dim ds e).edge + l))) empty) (dim ds e).edge
          (λ l m. ap (λ z. get_or s z empty) (over l m))

  -- each cell of the child's region under the block gets the join of the parent's cells along the dropped dimension, and the others stay
  pub joined_along : (x : List ℕ) → Below (sizes ds) x → InRegion ds place h e c x → get_or s' (slot x) empty
      ≡ cond (agrees h (chunk_of ds x) c) (join (get_or s (slot x) empty) (big empty join (λ l. get_or s (above (set x e (k * (dim ds e).edge + l))) empty) (dim ds e).edge))
      (get_or s (slot x) empty)
  joined_along x below_x region_x = after (slot x) (omega (arith, cell_number_below ds place divided h (place e) x below_x)) ∙ by (cases_Bool (agrees h (chunk_of ds x) c))
    where
      sum : M
      sum = big empty join (λ l. get_or s (above (set x e (k * (dim ds e).edge + l))) empty) (dim ds e).edge

      by : (agrees h (chunk_of ds x) c ≡ true) ⊎ (agrees h (chunk_of ds x) c ≡ false)
          → join (get_or s (slot x) empty) (big empty join (λ o. cond (eqb (slot (cell o)) (slot x)) (get_or s (above (cell o)) empty) empty) (product rg))
          ≡ cond (agrees h (chunk_of ds x) c) (join (get_or s (slot x) empty) sum) (get_or s (slot x) empty)
      by (inl t) = ap (join (get_or s (slot x) empty)) (hit x below_x region_x t) ∙ sym (ap (λ z. cond z (join (get_or s (slot x) empty) sum) (get_or s (slot x) empty)) t)
      by (inr t) = ap (join (get_or s (slot x) empty)) (miss x below_x region_x t (λ o. get_or s (above (cell o)) empty)) ∙ join_empty empty join laws (get_or s (slot x) empty)
          ∙ sym (ap (λ z. cond z (join (get_or s (slot x) empty) sum) (get_or s (slot x) empty)) t)

  module _ (mean : ℕ → Chunk M) (whole : CompleteBlock empty join (meaning ds mean) (set h e true) c above s) where
    -- where the block holds the direct summaries, each of these cells gets what the block contributes to it
    pub joined_cells : Joined empty join laws ds mean place order divided h e lh le lacks slot c (λ q. get_or s q empty) (λ q. get_or s' q empty)
    joined_cells x below_x region_x = joined_along x below_x region_x ∙ by (cases_Bool (agrees h (chunk_of ds x) c))
      where
        edge : ℕ
        edge = (dim ds e).edge

        below_k : k < chunks (dim ds e)
        below_k = rw (get_or-map chunks ds e none_dim 0 le) at (below_getD (counts ds) c e 0 0 counts_c (rw (length-map ds chunks) le))

        summary : (agrees h (chunk_of ds x) c ≡ true) → (l : ℕ) → l < edge
            → get_or s (above (set x e (k * edge + l))) empty ≡ direct empty join (meaning ds mean) (set h e true) (set x e (k * edge + l))
        summary t l m = whole (set x e (k * edge + l))
            (below_changed (sizes ds) x e (k * edge + l) below_x (rw (get_or-map (λ (d : Dim). d.size) ds e none_dim 0 le) (omega (arith, divided_at ds e divided le, mul-le-mul_right edge below_k))))
            (ap (cleared (set h e true)) (chunk_set ds x e (k * edge + l) ∙ ap (set (chunk_of ds x) e) (digits_div k m)) ∙ cleared_with h (chunk_of ds x) e k ∙ block_is x below_x region_x t)

        by : (agrees h (chunk_of ds x) c ≡ true) ⊎ (agrees h (chunk_of ds x) c ≡ false)
            → cond (agrees h (chunk_of ds x) c) (join (get_or s (slot x) empty) (big empty join (λ l. get_or s (above (set x e (k * edge + l))) empty) edge)) (get_or s (slot x) empty)
            ≡ cond (agrees h (chunk_of ds x) c) (join (get_or s (slot x) empty) (contribution empty join (meaning ds mean) h e x k)) (get_or s (slot x) empty)
        by (inl t) = ap (λ z. cond (agrees h (chunk_of ds x) c) (join (get_or s (slot x) empty) z) (get_or s (slot x) empty))
            (big_cong empty join laws (λ l. get_or s (above (set x e (k * edge + l))) empty) (λ l. direct empty join (meaning ds mean) (set h e true) (set x e (k * edge + l))) edge (summary t))
        by (inr t) = ap (λ z. cond z (join (get_or s (slot x) empty) (big empty join (λ l. get_or s (above (set x e (k * edge + l))) empty) edge)) (get_or s (slot x) empty)) t
            ∙ sym (ap (λ z. cond z (join (get_or s (slot x) empty) (contribution empty join (meaning ds mean) h e x k)) (get_or s (slot x) empty)) t)
