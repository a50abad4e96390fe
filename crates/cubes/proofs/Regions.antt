-- The region of a group over its parent's blocks in scan order: it begins empty, holds what the joined blocks contribute, and is the direct summary where a block completes it.
use Rattle.std.proofs.Common.{◌≡◌, ℕ, ◌+◌, ◌-◌, ◌<◌, ◌≤◌, Bool, true, false, cond, ltb, ◌⊎◌, List, length, get_or, set, sym, ap, ◌∙◌, inl, inr, arith}
use Rattle.std.proofs.lemmas.List.{get_or-map, length-map, get_or-set_other, length-set, ext_get_or}
use Rattle.std.proofs.lemmas.List.FromFn.{length-map-range_with_len, get_or-map-range_with_len}
use Rattle.std.proofs.lemmas.Bool.{cases_eq, cases_lt, cases_Bool, lt-ltb, le-ltb, both_ways}
use Rattle.shapes.specs.declared.dims.Dim.{Dim}
use Rattle.shapes.specs.Arrays.{chunks, sizes, counts, none_dim, dim, Below, chunk_of, Group, keeps, radix, agrees}
use Rattle.shapes.proofs.Numbering.{below_length, below_getD}
use Rattle.plans.specs.Plans.{Order}
use Rattle.measures.specs.Laws.{Lawful}
use Rattle.sources.specs.Meanings.{Chunk}
use Rattle.cubes.specs.Meanings.{meaning}
use Rattle.cubes.specs.Summaries.{Divided, direct, contribution, content}
use Rattle.cubes.specs.Scans.{scan_number, Highest, InRegion, last_block}
use Rattle.shapes.proofs.Radixes.{length-radix}
use Rattle.cubes.proofs.Cells.{divided_edged, chunks_positive, chunk_below}
use Rattle.cubes.proofs.Contents.{content_hit, content_miss}
use Rattle.cubes.proofs.ScanNumbers.{below_from_getD}
use Rattle.cubes.proofs.RegionSteps.{below_dropped, region_complete, region_fresh, getD_radix_any, scan_apart_blocks, first_lowest, next_lowest, next_same}

-- each cell's region is completed by one block, and by no other
module _ (ds : List Dim) (place : ℕ → ℕ) (divided : Divided ds) (h : Group) (e : ℕ) (lh : length h ≡ length ds) (x : List ℕ) (below_x : Below (sizes ds) x) where
  counts_long : length (counts ds) ≡ length ds
  counts_long = length-map ds chunks

  group_long : length (set h e true) ≡ length (counts ds)
  group_long = length-set h e true ∙ lh ∙ sym counts_long

  radices_long : length (radix (set h e true) (counts ds)) ≡ length ds
  radices_long = length-radix (set h e true) (counts ds) group_long ∙ counts_long

  last_at : (i : ℕ) → i < length ds → get_or (last_block ds place h e x) i 0
      ≡ cond (keeps (set h e true) i) (cond (ltb (place e) (place i)) (get_or (chunk_of ds x) i 0) (chunks (dim ds i) - 1)) 0
  last_at i l = get_or-map-range_with_len (λ i. cond (keeps (set h e true) i) (cond (ltb (place e) (place i)) (get_or (chunk_of ds x) i 0) (chunks (dim ds i) - 1)) 0) 0
      (length ds) i i 0 l (omega arith)

  radix_at : (i : ℕ) → i < length ds → get_or (radix (set h e true) (counts ds)) i 1 ≡ cond (keeps (set h e true) i) (chunks (dim ds i)) 1
  radix_at i l = getD_radix_any (set h e true) (counts ds) i (rw (group_long, counts_long) l) (rw counts_long l)
      ∙ ap (λ z. cond (keeps (set h e true) i) z 1) (get_or-map chunks ds i none_dim 1 l)

  pub last_below : Below (radix (set h e true) (counts ds)) (last_block ds place h e x)
  last_below = below_from_getD (radix (set h e true) (counts ds)) (last_block ds place h e x)
      (length-map-range_with_len (λ i. cond (keeps (set h e true) i) (cond (ltb (place e) (place i)) (get_or (chunk_of ds x) i 0) (chunks (dim ds i) - 1)) 0) 0 (length ds)
      ∙ sym radices_long)
      (λ i m. at i (rw radices_long at m))
    where
      at : (i : ℕ) → i < length ds → get_or (last_block ds place h e x) i 0 < get_or (radix (set h e true) (counts ds)) i 1
      at i l = rw (last_at i l, radix_at i l) (by (keeps (set h e true) i) (ltb (place e) (place i)))
        where
          here : get_or (chunk_of ds x) i 0 < chunks (dim ds i)
          here = rw (get_or-map chunks ds i none_dim 0 l) at (below_getD (counts ds) (chunk_of ds x) i 0 0 (chunk_below ds x divided below_x) (rw counts_long l))

          by : (t u : Bool) → cond t (cond u (get_or (chunk_of ds x) i 0) (chunks (dim ds i) - 1)) 0 < cond t (chunks (dim ds i)) 1
          by true true = here
          by true false = omega (arith, chunks_positive ds i (divided_edged ds divided) l)
          by false u = omega arith

  pub last_highest : Highest ds place h e (last_block ds place h e x)
  last_highest i l t q = ap (λ z. z + 1) (last_at i l) ∙ rw (t, le-ltb (place e) (place i) q) (omega (arith, chunks_positive ds i (divided_edged ds divided) l))

  pub last_region : keeps h e ≡ false → InRegion ds place h e (last_block ds place h e x) x
  last_region lacks i l t q = sym (last_at i l ∙ rw (kept (cases_eq i e), lt-ltb (place e) (place i) q))
    where
      kept : (i ≡ e) ⊎ (i ≡ e → ⊥) → keeps (set h e true) i ≡ true
      kept (inl z) = absurd (both_ways (keeps h i) (ap (keeps h) z ∙ lacks) t)
      kept (inr z) = get_or-set_other h e i true false z ∙ t

  pub last_only : (c : List ℕ) → Below (radix (set h e true) (counts ds)) c → Highest ds place h e c → InRegion ds place h e c x → c ≡ last_block ds place h e x
  last_only c below_c high region = ext_get_or 0 c (last_block ds place h e x)
      (below_length (radix (set h e true) (counts ds)) c below_c ∙ sym (below_length (radix (set h e true) (counts ds)) (last_block ds place h e x) last_below))
      (λ i m. at i (rw (below_length (radix (set h e true) (counts ds)) c below_c, radices_long) at m))
    where
      at : (i : ℕ) → i < length ds → get_or c i 0 ≡ get_or (last_block ds place h e x) i 0
      at i l = rw (last_at i l) (by (cases_Bool (keeps (set h e true) i)) (cases_lt (place e) (place i)))
        where
          by : (keeps (set h e true) i ≡ true) ⊎ (keeps (set h e true) i ≡ false) → (place e < place i) ⊎ (place i ≤ place e)
              → get_or c i 0 ≡ cond (keeps (set h e true) i) (cond (ltb (place e) (place i)) (get_or (chunk_of ds x) i 0) (chunks (dim ds i) - 1)) 0
          by (inr t) q = rw t (below_dropped (set h e true) (counts ds) c i below_c group_long t)
          by (inl t) (inl q) = rw (t, lt-ltb (place e) (place i) q) (sym (region i l (kept (cases_eq i e)) q))
            where
              kept : (i ≡ e) ⊎ (i ≡ e → ⊥) → keeps h i ≡ true
              kept (inl z) = absurd (let y : place i ≡ place e = ap place z in omega arith)
              kept (inr z) = sym (get_or-set_other h e i true false z) ∙ t
          by (inl t) (inr q) = rw (t, le-ltb (place e) (place i) q) (omega (arith, high i l t q))

module _ {M : Type 0} (empty : M) (join : M → M → M) (laws : Lawful empty join) (ds : List Dim) (mean : ℕ → Chunk M) (place : ℕ → ℕ) (order : Order ds place)
    (divided : Divided ds)
    (h : Group) (e : ℕ) (lh : length h ≡ length ds) (le : e < length ds) (lacks : keeps h e ≡ false) {S : Type 0} (slot : List ℕ → S) where
  -- for each cell of the region of c the storage has what the parent's blocks of scan number below d give
  abbrev pub Holds : (S → M) → ℕ → List ℕ → Type 0
  Holds st d c = (x : List ℕ) → Below (sizes ds) x → InRegion ds place h e c x → st (slot x)
      ≡ content empty join (meaning ds mean) (scan_number place (radix (set h e true) (counts ds))) h e x d

  -- the parent's block c is joined: each cell of the region that agrees with it gets its part, and the others stay
  abbrev pub Joined : List ℕ → (S → M) → (S → M) → Type 0
  Joined c st st' = (x : List ℕ) → Below (sizes ds) x → InRegion ds place h e c x
      → st' (slot x) ≡ cond (agrees h (chunk_of ds x) c) (join (st (slot x)) (contribution empty join (meaning ds mean) h e x (get_or c e 0))) (st (slot x))

  module _ (c : List ℕ) (below_c : Below (radix (set h e true) (counts ds)) c) where
    pub holds_first : (st : S → M) → ((s : S) → st s ≡ empty) → scan_number place (radix (set h e true) (counts ds)) c ≡ 0 → Holds st 0 c
    holds_first st none first x b r = none (slot x)
        ∙ sym (region_fresh empty join laws ds mean place h e x c divided b lh le lacks below_c r (first_lowest ds place order h e lh le c below_c first))
        ∙ ap (content empty join (meaning ds mean) (scan_number place (radix (set h e true) (counts ds))) h e x) first

    pub holds_joined : (st st' : S → M) (d : ℕ) → scan_number place (radix (set h e true) (counts ds)) c ≡ d → Holds st d c → Joined c st st' → Holds st' (d + 1) c
    holds_joined st st' d now holds joins x b r = joins x b r ∙ at (cases_Bool (agrees h (chunk_of ds x) c))
      where
        at : (agrees h (chunk_of ds x) c ≡ true) ⊎ (agrees h (chunk_of ds x) c ≡ false)
            → cond (agrees h (chunk_of ds x) c) (join (st (slot x)) (contribution empty join (meaning ds mean) h e x (get_or c e 0))) (st (slot x))
            ≡ content empty join (meaning ds mean) (scan_number place (radix (set h e true) (counts ds))) h e x (d + 1)
        at (inl t) = ap (λ z. cond z (join (st (slot x)) (contribution empty join (meaning ds mean) h e x (get_or c e 0))) (st (slot x))) t
            ∙ ap (λ z. join z (contribution empty join (meaning ds mean) h e x (get_or c e 0))) (holds x b r)
            ∙ sym (content_hit empty join laws ds mean (scan_number place (radix (set h e true) (counts ds))) h e x c d divided b lh le lacks
            (scan_apart_blocks ds place order h e lh le) below_c now t)
        at (inr t) = ap (λ z. cond z (join (st (slot x)) (contribution empty join (meaning ds mean) h e x (get_or c e 0))) (st (slot x))) t
            ∙ holds x b r
            ∙ sym (content_miss empty join laws ds mean (scan_number place (radix (set h e true) (counts ds))) h e x c d divided b lh le lacks
            (scan_apart_blocks ds place order h e lh le) below_c now t)

    -- the block completes the region: its cells are the direct summaries
    pub holds_complete : (st : S → M) (d : ℕ) → scan_number place (radix (set h e true) (counts ds)) c ≡ d → Holds st (d + 1) c → Highest ds place h e c
        → (x : List ℕ) → Below (sizes ds) x → InRegion ds place h e c x → st (slot x) ≡ direct empty join (meaning ds mean) h x
    holds_complete st d now holds high x b r = holds x b r
        ∙ ap (λ z. content empty join (meaning ds mean) (scan_number place (radix (set h e true) (counts ds))) h e x (z + 1)) (sym now)
        ∙ region_complete empty join laws ds mean place h e x c divided b lh le lacks below_c r high

    module _ (c' : List ℕ) (below_c' : Below (radix (set h e true) (counts ds)) c')
        (next : scan_number place (radix (set h e true) (counts ds)) c' ≡ scan_number place (radix (set h e true) (counts ds)) c + 1) where
      -- the region was completed and is emptied: the next block's begins
      pub holds_emptied : (st : S → M) (d : ℕ) → scan_number place (radix (set h e true) (counts ds)) c ≡ d → Highest ds place h e c → ((s : S) → st s ≡ empty)
          → Holds st (d + 1) c'
      holds_emptied st d now high none x b r = none (slot x)
          ∙ sym (region_fresh empty join laws ds mean place h e x c' divided b lh le lacks below_c' r
          (next_lowest ds place order h e lh le c below_c c' below_c' next high))
          ∙ ap (content empty join (meaning ds mean) (scan_number place (radix (set h e true) (counts ds))) h e x) (next ∙ ap (λ z. z + 1) now)

      -- it was not: the next block's region is the same
      pub holds_next : (st : S → M) (d : ℕ) → (Highest ds place h e c → ⊥) → Holds st d c → Holds st d c'
      holds_next st d not-high holds x b r = holds x b (λ i l t q. r i l t q ∙ next_same ds place order h e lh le c below_c c' below_c' next not-high i l q)
