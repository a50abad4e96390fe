-- The cells of a block in the regions of its group and of another: where they stand, and what is written and joined.
use Rattle.std.proofs.Common.{◌≡◌, ℕ, ◌+◌, ◌-◌, ◌<◌, ◌≤◌, cond, eqb, ◌⊎◌, List, ◌++◌, map, length, get_or, take, replicate, sym, ap, ◌∙◌, subst, ap₂, inl, inr, zero-add, arith}
use Rattle.std.proofs.lemmas.List.{get_or-map, length-map, ext_get_or}
use Rattle.std.proofs.lemmas.List.FromFn.{get_or-map-range_with_len}
use Rattle.std.proofs.lemmas.Bool.{ne_eqb}
use Rattle.shapes.specs.declared.dims.Dim.{Dim}
use Rattle.shapes.specs.Arrays.{Group, product, digits, all_digits, radix, cleared, Below, sizes, edges, counts, chunks, dim, none_dim, cell_at}
use Rattle.shapes.specs.Views.{six}
use Rattle.shapes.proofs.Numbering.{below_length, below_getD, digits_below, length_by_digits, getD_by_digits}
use Rattle.measures.specs.Laws.{Lawful}
use Rattle.sources.specs.Meanings.{Chunk}
use Rattle.cubes.specs.Meanings.{meaning}
use Rattle.cubes.specs.Summaries.{Divided, big, block}
use Rattle.shapes.proofs.Radixes.{length-radix}
use Rattle.cubes.proofs.Cells.{below_counts, below_edges, cell_below, chunk_of_cell, cleared_below}
use Rattle.cubes.proofs.Joins.{join_empty, big_cong, big_none}
use Rattle.cubes.proofs.Blocks.{length_block, getD_block}
use Rattle.runs.specs.declared.layouts.Layout.{Layout}
use Rattle.runs.specs.declared.layouts.Region.{Region}
use Rattle.runs.specs.Boxes.{dot, joined_at}
use Rattle.runs.specs.Layouts.{region_radices, cell_number}
use Rattle.runs.specs.Contents.{CompleteBlock}
use Rattle.runs.specs.Grids.{strides_in, start_of, block_edges, Inside, ApartUnder, block_cells, block_joined, LaidOut, RegionOf}
use Rattle.runs.proofs.CellNumbers.{cell_number_below}
use Rattle.runs.proofs.Padding.{digits_pad, product_pad, below_pad, block_edges_are, block_cell_at}

module _ (ds : List Dim) (place : ℕ → ℕ) (divided : Divided ds) (y : Layout) (laid : LaidOut ds place y) (g : Group) (lg : length g ≡ length ds) (c c6 : List ℕ) (below_c : Below (radix g (counts ds)) c) (padded : c6 ≡ six 0 c) where
  counts_c : Below (counts ds) c
  counts_c = below_counts ds g c divided lg below_c

  length_c : length c ≡ length ds
  length_c = below_length (counts ds) c counts_c ∙ length-map ds chunks

  length-edges : length (edges ds) ≡ length ds
  length-edges = length-map ds (λ (d : Dim). d.edge)

  length_rg : length (radix g (edges ds)) ≡ length ds
  length_rg = length-radix g (edges ds) (lg ∙ sym length-edges) ∙ length-edges

  long : (ls : List ℕ) → Below (radix g (edges ds)) ls → length ls ≡ length ds
  long ls b = below_length (radix g (edges ds)) ls b ∙ length_rg

  small : (ls : List ℕ) → Below (radix g (edges ds)) ls → (i : ℕ) → i < length ds → get_or ls i 0 < (dim ds i).edge
  small ls b i l = rw (get_or-map (λ (d : Dim). d.edge) ds i none_dim 0 l) at (below_getD (edges ds) ls i 0 0 (below_edges ds g ls divided lg b) (rw length-edges l))

  sizes_of : (ls : List ℕ) → Below (radix g (edges ds)) ls → Below (sizes ds) (cell_at ds c ls)
  sizes_of ls b = cell_below ds c ls divided counts_c (below_edges ds g ls divided lg b)

  -- a region of the group k, which may be another than g: the cells that the digits of g's block c reach
  module _ (k : Group) (lk : length k ≡ length ds) (base p : ℕ) (u : Region) (of : RegionOf ds k base p u) where
    pub reached : (ls : List ℕ) → Below (radix g (edges ds)) ls → start_of y u c6 + dot (strides_in y u) (ls ++ replicate (6 - length ds) 0) ≡ base + cell_number ds place k p (cell_at ds c ls)
    reached ls b = block_cell_at ds place y laid k lk base p u of c c6 length_c padded divided ls (long ls b) (λ i l t. small ls b i l)

    -- it stands within the region
    pub reached_below : (ls : List ℕ) → Below (radix g (edges ds)) ls → cell_number ds place k p (cell_at ds c ls) < product (region_radices ds place k p)
    reached_below ls b = cell_number_below ds place divided k p (cell_at ds c ls) (sizes_of ls b)

    -- what the functions require of the region
    pub inside : (r : Region) (base_r p_r : ℕ) → RegionOf ds g base_r p_r r → (n : ℕ) → base + product (region_radices ds place k p) ≤ n → Inside y u (block_edges y r) c6 n
    inside r base_r p_r of_r n fits ls b =
        let q = below_pad (radix g (edges ds)) (6 - length ds) ls (subst (λ z. Below z ls) (block_edges_are ds place y laid g lg base_r p_r r of_r) b) in
        omega (arith, ap (dot (strides_in y u)) q.1, reached (take (length (radix g (edges ds))) ls) q.0, reached_below (take (length (radix g (edges ds))) ls) q.0)

  module _ (base p : ℕ) (r : Region) (of : RegionOf ds g base p r) where
    pub block_edges_product : product (block_edges y r) ≡ product (radix g (edges ds))
    block_edges_product = ap product (block_edges_are ds place y laid g lg base p r of) ∙ product_pad (radix g (edges ds)) (6 - length ds)

    -- regions one after the other have no cell in common
    pub disjoint : (k : Group) (lk : length k ≡ length ds) (base_k p_k : ℕ) (u : Region) → RegionOf ds k base_k p_k u
        → (base + product (region_radices ds place g p) ≤ base_k) ⊎ (base_k + product (region_radices ds place k p_k) ≤ base)
        → ApartUnder y r u c6
    disjoint k lk base_k p_k u of_k apart us vs bu bv same = at apart
      where
        e : block_edges y r ≡ radix g (edges ds) ++ replicate (6 - length ds) 1
        e = block_edges_are ds place y laid g lg base p r of

        qu : Below (radix g (edges ds)) (take (length (radix g (edges ds))) us) × (us ≡ take (length (radix g (edges ds))) us ++ replicate (6 - length ds) 0)
        qu = below_pad (radix g (edges ds)) (6 - length ds) us (subst (λ z. Below z us) e bu)

        qv : Below (radix g (edges ds)) (take (length (radix g (edges ds))) vs) × (vs ≡ take (length (radix g (edges ds))) vs ++ replicate (6 - length ds) 0)
        qv = below_pad (radix g (edges ds)) (6 - length ds) vs (subst (λ z. Below z vs) e bv)

        from : (start_of y r c6 + dot (strides_in y r) us ≡ base + cell_number ds place g p (cell_at ds c (take (length (radix g (edges ds))) us)))
        from = ap (λ z. start_of y r c6 + dot (strides_in y r) z) qu.1 ∙ reached g lg base p r of (take (length (radix g (edges ds))) us) qu.0

        to : (start_of y u c6 + dot (strides_in y u) vs ≡ base_k + cell_number ds place k p_k (cell_at ds c (take (length (radix g (edges ds))) vs)))
        to = ap (λ z. start_of y u c6 + dot (strides_in y u) z) qv.1 ∙ reached k lk base_k p_k u of_k (take (length (radix g (edges ds))) vs) qv.0

        at : (base + product (region_radices ds place g p) ≤ base_k) ⊎ (base_k + product (region_radices ds place k p_k) ≤ base) → ⊥
        at (inl q) = omega (arith, from, to, reached_below g lg base p r of (take (length (radix g (edges ds))) us) qu.0)
        at (inr q) = omega (arith, from, to, reached_below k lk base_k p_k u of_k (take (length (radix g (edges ds))) vs) qv.0)

    module _ {M : Type 0} (empty : M) (s : List M) where
      -- what is written, by the coordinates of the cells
      pub written : block_cells empty s y r c6 ≡ map (λ ls. get_or s (base + cell_number ds place g p (cell_at ds c ls)) empty) (all_digits (radix g (edges ds)))
      written = ext_get_or empty (block_cells empty s y r c6) (map (λ ls. get_or s (base + cell_number ds place g p (cell_at ds c ls)) empty) (all_digits (radix g (edges ds))))
          (length_by_digits (λ ls. get_or s (start_of y r c6 + dot (strides_in y r) ls) empty) (block_edges y r) ∙ block_edges_product ∙ sym (length_by_digits (λ ls. get_or s (base + cell_number ds place g p (cell_at ds c ls)) empty) (radix g (edges ds))))
          (λ o l. let m : o < product (block_edges y r) = rw (length_by_digits (λ ls. get_or s (start_of y r c6 + dot (strides_in y r) ls) empty) (block_edges y r)) at l in
          let q : o < product (radix g (edges ds)) = omega (arith, block_edges_product) in
          getD_by_digits (λ ls. get_or s (start_of y r c6 + dot (strides_in y r) ls) empty) (block_edges y r) o empty m
          ∙ ap (λ z. get_or s (start_of y r c6 + dot (strides_in y r) z) empty) (ap (λ z. digits z o) (block_edges_are ds place y laid g lg base p r of) ∙ digits_pad (radix g (edges ds)) (6 - length ds) o)
          ∙ ap (λ z. get_or s z empty) (reached g lg base p r of (digits (radix g (edges ds)) o) (digits_below (radix g (edges ds)) o q))
          ∙ sym (getD_by_digits (λ ls. get_or s (base + cell_number ds place g p (cell_at ds c ls)) empty) (radix g (edges ds)) o empty q))

      module _ (join : M → M → M) (laws : Lawful empty join) (mean : ℕ → Chunk M) where
        -- a block whose cells are the direct summaries is written as they are
        pub written_direct : CompleteBlock empty join (meaning ds mean) g c (λ x. base + cell_number ds place g p x) s → block_cells empty s y r c6 ≡ block empty join (meaning ds mean) g c
        written_direct whole = written ∙ ext_get_or empty (map (λ ls. get_or s (base + cell_number ds place g p (cell_at ds c ls)) empty) (all_digits (radix g (edges ds)))) (block empty join (meaning ds mean) g c)
            (length_by_digits (λ ls. get_or s (base + cell_number ds place g p (cell_at ds c ls)) empty) (radix g (edges ds)) ∙ sym (length_block empty join laws ds mean g c))
            (λ o l. let q : o < product (radix g (edges ds)) = rw (length_by_digits (λ ls. get_or s (base + cell_number ds place g p (cell_at ds c ls)) empty) (radix g (edges ds))) at l in
            getD_by_digits (λ ls. get_or s (base + cell_number ds place g p (cell_at ds c ls)) empty) (radix g (edges ds)) o empty q
            ∙ whole (cell_at ds c (digits (radix g (edges ds)) o)) (sizes_of (digits (radix g (edges ds)) o) (digits_below (radix g (edges ds)) o q))
            (ap (cleared g) (chunk_of_cell ds c (digits (radix g (edges ds)) o) length_c (below_edges ds g (digits (radix g (edges ds)) o) divided lg (digits_below (radix g (edges ds)) o q)))
            ∙ cleared_below g (counts ds) c below_c)
            ∙ sym (getD_block empty join laws ds mean g c o q))

        module _ (k : Group) (lk : length k ≡ length ds) (base_k p_k : ℕ) (u : Region) (of_k : RegionOf ds k base_k p_k u) where
          -- what is joined, by the coordinates of the cells
          pub joins_at : (q : ℕ) → q < length s → get_or (block_joined empty join s y r u c6) q empty
              ≡ join (get_or s q empty) (big empty join (λ o. cond (eqb (base_k + cell_number ds place k p_k (cell_at ds c (digits (radix g (edges ds)) o))) q) (get_or s (base + cell_number ds place g p (cell_at ds c (digits (radix g (edges ds)) o))) empty) empty) (product (radix g (edges ds))))
          joins_at q l =
              get_or-map-range_with_len (λ q. join (get_or s q empty) (joined_at empty join s (block_edges y r) (start_of y r c6) (strides_in y r) (start_of y u c6) (strides_in y u) q)) 0 (length s) q q empty l (zero-add q)
              ∙ ap (join (get_or s q empty)) (
              ap (big empty join (λ o. cond (eqb (start_of y u c6 + dot (strides_in y u) (digits (block_edges y r) o)) q) (get_or s (start_of y r c6 + dot (strides_in y r) (digits (block_edges y r) o)) empty) empty)) block_edges_product
              ∙ big_cong empty join laws (λ o. cond (eqb (start_of y u c6 + dot (strides_in y u) (digits (block_edges y r) o)) q) (get_or s (start_of y r c6 + dot (strides_in y r) (digits (block_edges y r) o)) empty) empty)
              (λ o. cond (eqb (base_k + cell_number ds place k p_k (cell_at ds c (digits (radix g (edges ds)) o))) q) (get_or s (base + cell_number ds place g p (cell_at ds c (digits (radix g (edges ds)) o))) empty) empty) (product (radix g (edges ds)))
              (λ o m. ap₂ (λ a b. cond (eqb a q) (get_or s b empty) empty)
              (ap (λ z. start_of y u c6 + dot (strides_in y u) z) (padded_digits o) ∙ reached k lk base_k p_k u of_k (digits (radix g (edges ds)) o) (digits_below (radix g (edges ds)) o m))
              (ap (λ z. start_of y r c6 + dot (strides_in y r) z) (padded_digits o) ∙ reached g lg base p r of (digits (radix g (edges ds)) o) (digits_below (radix g (edges ds)) o m))))
            where
              padded_digits : (o : ℕ) → digits (block_edges y r) o ≡ digits (radix g (edges ds)) o ++ replicate (6 - length ds) 0
              padded_digits o = ap (λ z. digits z o) (block_edges_are ds place y laid g lg base p r of) ∙ digits_pad (radix g (edges ds)) (6 - length ds) o

          -- cells outside the other region stay
          pub joins_keep : (q : ℕ) → q < length s → (q < base_k) ⊎ (base_k + product (region_radices ds place k p_k) ≤ q) → get_or (block_joined empty join s y r u c6) q empty ≡ get_or s q empty
          joins_keep q l out = joins_at q l
              ∙ ap (join (get_or s q empty)) (big_none empty join laws (λ o. cond (eqb (base_k + cell_number ds place k p_k (cell_at ds c (digits (radix g (edges ds)) o))) q) (get_or s (base + cell_number ds place g p (cell_at ds c (digits (radix g (edges ds)) o))) empty) empty) (product (radix g (edges ds)))
              (λ o m. ap (λ z. cond z (get_or s (base + cell_number ds place g p (cell_at ds c (digits (radix g (edges ds)) o))) empty) empty)
              (ne_eqb (base_k + cell_number ds place k p_k (cell_at ds c (digits (radix g (edges ds)) o))) q (λ e. no out e (reached_below k lk base_k p_k u of_k (digits (radix g (edges ds)) o) (digits_below (radix g (edges ds)) o m))))))
              ∙ join_empty empty join laws (get_or s q empty)
            where
              no : {a b n : ℕ} → (q < a) ⊎ (a + n ≤ q) → a + b ≡ q → b < n → ⊥
              no (inl z) e m = omega arith
              no (inr z) e m = omega arith
