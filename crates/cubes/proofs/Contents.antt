-- What a cell of a region holds while the parent's blocks are joined into it, one after another.
use Rattle.std.proofs.Common.{◌≡◌, ℕ, ◌+◌, ◌<◌, ◌≤◌, true, false, cond, eqb, ltb, ◌⊎◌, List, length, get_or, set, sym, ap, ◌∙◌, inl, inr, arith}
use Rattle.std.proofs.lemmas.List.{get_or-map, length-map, get_or-set_same, length-set}
use Rattle.std.proofs.lemmas.Bool.{cases_order, lt-ltb, le-ltb, eq-eqb, ne_eqb, both_ways}
use Rattle.shapes.specs.declared.dims.Dim.{Dim}
use Rattle.shapes.specs.Arrays.{chunks, sizes, counts, none_dim, dim, Below, chunk_of, Group, keeps, radix, cleared, agrees}
use Rattle.shapes.proofs.Numbering.{below_length}
use Rattle.measures.specs.Laws.{Lawful}
use Rattle.sources.specs.Meanings.{Chunk}
use Rattle.cubes.specs.Meanings.{meaning}
use Rattle.cubes.specs.Summaries.{Divided, big, direct, parent_block, contribution, content}
use Rattle.cubes.specs.Scans.{Injective}
use Rattle.shapes.proofs.Radixes.{length-radix}
use Rattle.cubes.proofs.Cells.{chunk_below, cleared_below, below_cleared, cleared-set, below_set, cleared_from_agrees, agrees_parent, length-cleared, below_added}
use Rattle.cubes.proofs.Joins.{join_empty, big_cong, big_none, big_join, big_eqb}
use Rattle.cubes.proofs.Summaries.{direct_blocks}

-- the join of f at those numbers below n that have num below d
abbrev pub so_far : {M : Type 0} → M → (M → M → M) → (ℕ → M) → (ℕ → ℕ) → ℕ → ℕ → M
so_far empty join f num n d = big empty join (λ k. cond (ltb (num k) d) (f k) empty) n

module _ {M : Type 0} (empty : M) (join : M → M → M) (laws : Lawful empty join) where
  pub so_far_none : (f : ℕ → M) (num : ℕ → ℕ) (n d : ℕ) → ((k : ℕ) → k < n → d ≤ num k) → so_far empty join f num n d ≡ empty
  so_far_none f num n d h = big_none empty join laws (λ k. cond (ltb (num k) d) (f k) empty) n (λ k l. rw (le-ltb (num k) d (h k l)))

  pub so_far_all : (f : ℕ → M) (num : ℕ → ℕ) (n d : ℕ) → ((k : ℕ) → k < n → num k < d) → so_far empty join f num n d ≡ big empty join f n
  so_far_all f num n d h = big_cong empty join laws (λ k. cond (ltb (num k) d) (f k) empty) f n (λ k l. rw (lt-ltb (num k) d (h k l)))

  pub so_far_hit : (f : ℕ → M) (num : ℕ → ℕ) (n d j : ℕ) → j < n → num j ≡ d → ((k : ℕ) → k < n → num k ≡ d → k ≡ j)
      → so_far empty join f num n (d + 1) ≡ join (so_far empty join f num n d) (f j)
  so_far_hit f num n d j l e only-j =
      big_cong empty join laws (λ k. cond (ltb (num k) (d + 1)) (f k) empty) (λ k. join (cond (ltb (num k) d) (f k) empty) (cond (eqb j k) (f k) empty)) n
      (λ k m. at k m (cases_order (num k) d))
      ∙ big_join empty join laws (λ k. cond (ltb (num k) d) (f k) empty) (λ k. cond (eqb j k) (f k) empty) n
      ∙ ap (join (so_far empty join f num n d)) (big_eqb empty join laws f n j l)
    where
      at : (k : ℕ) → k < n → (num k ≡ d) ⊎ ((num k < d) ⊎ (d < num k)) → cond (ltb (num k) (d + 1)) (f k) empty
          ≡ join (cond (ltb (num k) d) (f k) empty) (cond (eqb j k) (f k) empty)
      at k m (inl q) = rw (lt-ltb (num k) (d + 1) (omega arith), le-ltb (num k) d (omega arith), eq-eqb j k (sym (only-j k m q))) (sym (laws.neutral (f k)))
      at k m (inr (inl q)) = rw (lt-ltb (num k) (d + 1) (omega arith), lt-ltb (num k) d q, ne_eqb j k (λ p. other k q p)) (sym (join_empty empty join laws (f k)))
        where
          other : (k : ℕ) → num k < d → j ≡ k → ⊥
          other k q p = let r : num j ≡ num k = ap num p in omega arith
      at k m (inr (inr q)) = rw (le-ltb (num k) (d + 1) (omega arith), le-ltb (num k) d (omega arith), ne_eqb j k (λ p. other k q p)) (sym (laws.neutral empty))
        where
          other : (k : ℕ) → d < num k → j ≡ k → ⊥
          other k q p = let r : num j ≡ num k = ap num p in omega arith

  pub so_far_miss : (f : ℕ → M) (num : ℕ → ℕ) (n d : ℕ) → ((k : ℕ) → k < n → num k ≡ d → ⊥) → so_far empty join f num n (d + 1) ≡ so_far empty join f num n d
  so_far_miss f num n d none = big_cong empty join laws (λ k. cond (ltb (num k) (d + 1)) (f k) empty) (λ k. cond (ltb (num k) d) (f k) empty) n
      (λ k m. at k (none k m) (cases_order (num k) d))
    where
      at : (k : ℕ) → (num k ≡ d → ⊥) → (num k ≡ d) ⊎ ((num k < d) ⊎ (d < num k)) → cond (ltb (num k) (d + 1)) (f k) empty ≡ cond (ltb (num k) d) (f k) empty
      at k no-k (inl q) = absurd (no-k q)
      at k no-k (inr (inl q)) = rw (lt-ltb (num k) (d + 1) (omega arith), lt-ltb (num k) d q)
      at k no-k (inr (inr q)) = rw (le-ltb (num k) (d + 1) (omega arith), le-ltb (num k) d (omega arith))

  module _ (ds : List Dim) (mean : ℕ → Chunk M) (scan : List ℕ → ℕ) (h : Group) (e : ℕ) where
    -- nothing of x's parent blocks is joined: x is empty
    pub content_none : (x : List ℕ) (d : ℕ) → ((k : ℕ) → k < chunks (dim ds e) → d ≤ scan (parent_block ds h e x k))
        → content empty join (meaning ds mean) scan h e x d ≡ empty
    content_none x d none = so_far_none (contribution empty join (meaning ds mean) h e x) (λ k. scan (parent_block ds h e x k)) (chunks (dim ds e)) d none

    pub content_start : (x : List ℕ) → content empty join (meaning ds mean) scan h e x 0 ≡ empty
    content_start x = content_none x 0 (λ k l. omega arith)

    -- all of x's parent blocks are joined: x is the direct summary
    pub content_all : (x : List ℕ) (d : ℕ) → Divided ds → length h ≡ length ds → length x ≡ length ds → e < length ds → keeps h e ≡ false
        → ((k : ℕ) → k < chunks (dim ds e) → scan (parent_block ds h e x k) < d)
        → content empty join (meaning ds mean) scan h e x d ≡ direct empty join (meaning ds mean) h x
    content_all x d divided lh lx le lacks all =
        so_far_all (contribution empty join (meaning ds mean) h e x) (λ k. scan (parent_block ds h e x k)) (chunks (dim ds e)) d all
        ∙ sym (direct_blocks empty join laws ds mean h x e divided lh lx le lacks)

    -- the next parent block, with the coordinates c and the scan number d, is joined
    module _ (x c : List ℕ) (d : ℕ) (divided : Divided ds) (below_x : Below (sizes ds) x) (lh : length h ≡ length ds) (le : e < length ds)
        (lacks : keeps h e ≡ false)
        (apart : Injective scan (radix (set h e true) (counts ds))) (below_c : Below (radix (set h e true) (counts ds)) c) (now : scan c ≡ d) where
      count_is : get_or (counts ds) e 0 ≡ chunks (dim ds e)
      count_is = get_or-map chunks ds e none_dim 0 le

      length-counts : length (counts ds) ≡ length ds
      length-counts = length-map ds chunks

      below_here : Below (counts ds) (chunk_of ds x)
      below_here = chunk_below ds x divided below_x

      length_here : length (chunk_of ds x) ≡ length ds
      length_here = below_length (counts ds) (chunk_of ds x) below_here ∙ length-counts

      length_c : length c ≡ length ds
      length_c = below_length (radix (set h e true) (counts ds)) c below_c ∙ length-radix (set h e true) (counts ds) (length-set h e true ∙ lh ∙ sym length-counts)
          ∙ length-counts

      -- of x's parent blocks only c has the number d
      same : (k : ℕ) → k < chunks (dim ds e) → scan (parent_block ds h e x k) ≡ d → parent_block ds h e x k ≡ c
      same k l q = apart (parent_block ds h e x k) c
          (below_set h (counts ds) (cleared h (chunk_of ds x)) e k (below_cleared h (counts ds) (chunk_of ds x) below_here) (rw count_is l)) below_c (q ∙ sym now)

      -- x lies where the block is projected
      pub content_hit : agrees h (chunk_of ds x) c ≡ true
          → content empty join (meaning ds mean) scan h e x (d + 1)
          ≡ join (content empty join (meaning ds mean) scan h e x d) (contribution empty join (meaning ds mean) h e x (get_or c e 0))
      content_hit agree = so_far_hit (contribution empty join (meaning ds mean) h e x) (λ k. scan (parent_block ds h e x k)) (chunks (dim ds e)) d (get_or c e 0)
          (rw count_is at (below_added h (counts ds) c e (omega arith) (omega (arith, length-counts)) below_c))
          (ap scan is_c ∙ now)
          (λ k l q. sym (get_or-set_same (cleared h (chunk_of ds x)) e k 0 (omega (arith, length-cleared h (chunk_of ds x) (lh ∙ sym length_here), length_here)))
          ∙ ap (λ z. get_or z e 0) (same k l q))
        where
          is_c : parent_block ds h e x (get_or c e 0) ≡ c
          is_c = ap (λ z. set z e (get_or c e 0)) (cleared_from_agrees h (chunk_of ds x) c (length_here ∙ sym length_c) agree)
              ∙ cleared-set h c e ∙ cleared_below (set h e true) (counts ds) c below_c

      pub content_miss : agrees h (chunk_of ds x) c ≡ false → content empty join (meaning ds mean) scan h e x (d + 1)
          ≡ content empty join (meaning ds mean) scan h e x d
      content_miss apart-x = so_far_miss (contribution empty join (meaning ds mean) h e x) (λ k. scan (parent_block ds h e x k)) (chunks (dim ds e)) d
          (λ k l q. both_ways (agrees h (chunk_of ds x) c) apart-x (ap (agrees h (chunk_of ds x)) (sym (same k l q)) ∙ agrees_parent h (chunk_of ds x) e k lacks))
