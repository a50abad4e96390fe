-- A region begins empty, and is complete where the block of the parent is the highest up to the place of the dimension that is dropped.
use Rattle.std.proofs.Common.{◌≡◌, ℕ, zero, suc, ◌+◌, ◌-◌, ◌<◌, ◌≤◌, Bool, true, false, cond, ◌⊎◌, List, [], ◌∷◌, length, get_or, set, sym, refl, ap, ◌∙◌, inl, inr, arith}
use Rattle.std.proofs.lemmas.List.{get_or-map, length-map, get_or-set_same, get_or-set_other, length-set}
use Rattle.std.proofs.lemmas.Bool.{cases_eq, cases_lt, cases_Bool}
use Rattle.shapes.specs.declared.dims.Dim.{Dim}
use Rattle.shapes.specs.Arrays.{chunks, sizes, counts, none_dim, dim, Below, chunk_of, Group, keeps, radix, cleared}
use Rattle.shapes.proofs.Numbering.{below_length, below_getD}
use Rattle.plans.specs.Plans.{Order}
use Rattle.measures.specs.Laws.{Lawful}
use Rattle.sources.specs.Meanings.{Chunk}
use Rattle.cubes.specs.Meanings.{meaning}
use Rattle.cubes.specs.Summaries.{Divided, direct, parent_block, content}
use Rattle.cubes.specs.Scans.{width, scan_number, Injective, Highest, Lowest, InRegion}
use Rattle.shapes.proofs.Radixes.{length-radix}
use Rattle.cubes.proofs.Cells.{chunk_below, length-cleared}
use Rattle.cubes.proofs.Contents.{content_none, content_all}
use Rattle.cubes.proofs.ScanNumbers.{low_part, low_below, low_full, full_low, low_none, scan_apart, next_begins, next_stays, first_none, scan_rising}

cond_same : {A : Type 0} (b : Bool) (a : A) → cond b a a ≡ a
cond_same true a = refl
cond_same false a = refl

pub getD_cleared : (g : Group) (xs : List ℕ) (i : ℕ) → i < length g → get_or (cleared g xs) i 0 ≡ cond (keeps g i) (get_or xs i 0) 0
getD_cleared [] xs i l = absurd (omega arith)
getD_cleared (b ∷ g) [] i l = sym (cond_same (keeps (b ∷ g) i) 0)
getD_cleared (b ∷ g) (x ∷ xs) zero l = refl
getD_cleared (b ∷ g) (x ∷ xs) (suc i) l = getD_cleared g xs i (omega arith)

pub below_dropped : (g : Group) (ks cs : List ℕ) (i : ℕ) → Below (radix g ks) cs → length g ≡ length ks → keeps g i ≡ false → get_or cs i 0 ≡ 0
below_dropped [] [] [] i b l lacks = refl
below_dropped [] [] (c ∷ cs) i b l lacks = absurd b
below_dropped [] (k ∷ ks) cs i b l lacks = absurd (omega arith)
below_dropped (f ∷ g) [] cs i b l lacks = absurd (omega arith)
below_dropped (f ∷ g) (k ∷ ks) [] i b l lacks = absurd b
below_dropped (f ∷ g) (k ∷ ks) (c ∷ cs) zero b l lacks = let r : c < 1 = rw lacks at b.0 in omega arith
below_dropped (f ∷ g) (k ∷ ks) (c ∷ cs) (suc i) b l lacks = below_dropped g ks cs i b.1 (omega arith) lacks

-- a region begins empty, and is complete where its parent's block is the highest up to the place of the dimension that it lacks
module _ {M : Type 0} (empty : M) (join : M → M → M) (laws : Lawful empty join) (ds : List Dim) (mean : ℕ → Chunk M) (place : ℕ → ℕ) (h : Group) (e : ℕ)
    (x c : List ℕ)
    (divided : Divided ds) (below_x : Below (sizes ds) x) (lh : length h ≡ length ds) (le : e < length ds) (lacks : keeps h e ≡ false)
    (below_c : Below (radix (set h e true) (counts ds)) c) (region : InRegion ds place h e c x) where
  abbrev pub scan : List ℕ → ℕ
  scan = scan_number place (radix (set h e true) (counts ds))

  length-counts : length (counts ds) ≡ length ds
  length-counts = length-map ds chunks

  count_at : (i : ℕ) → i < length ds → get_or (counts ds) i 0 ≡ chunks (dim ds i)
  count_at i l = get_or-map chunks ds i none_dim 0 l

  length-radices : length (radix (set h e true) (counts ds)) ≡ length ds
  length-radices = length-radix (set h e true) (counts ds) (length-set h e true ∙ lh ∙ sym length-counts) ∙ length-counts

  below_here : Below (counts ds) (chunk_of ds x)
  below_here = chunk_below ds x divided below_x

  length_cleared_here : length (cleared h (chunk_of ds x)) ≡ length ds
  length_cleared_here = length-cleared h (chunk_of ds x) (lh ∙ sym length-counts ∙ sym (below_length (counts ds) (chunk_of ds x) below_here))
      ∙ below_length (counts ds) (chunk_of ds x) below_here ∙ length-counts

  keeps_added : keeps (set h e true) e ≡ true
  keeps_added = get_or-set_same h e true false (rw lh le)

  -- a coordinate of a parent's block of x
  at_e : (k : ℕ) → get_or (parent_block ds h e x k) e 0 ≡ k
  at_e k = get_or-set_same (cleared h (chunk_of ds x)) e k 0 (rw length_cleared_here le)

  at_other : (k i : ℕ) → i < length ds → (i ≡ e → ⊥) → get_or (parent_block ds h e x k) i 0 ≡ cond (keeps h i) (get_or (chunk_of ds x) i 0) 0
  at_other k i l ne = get_or-set_other (cleared h (chunk_of ds x)) e i k 0 ne ∙ getD_cleared h (chunk_of ds x) i (rw lh l)

  below_highest : Highest ds place h e c → (k : ℕ) → k < chunks (dim ds e) → (i : ℕ) → i < length ds → get_or (parent_block ds h e x k) i 0 ≤ get_or c i 0
  below_highest high k m i l = at (cases_eq i e)
    where
      at : (i ≡ e) ⊎ (i ≡ e → ⊥) → get_or (parent_block ds h e x k) i 0 ≤ get_or c i 0
      at (inl q) = rw q (rw (at_e k) (omega (arith, high e le keeps_added (omega arith))))
      at (inr ne) = rw (at_other k i l ne) (kept (cases_Bool (keeps h i)))
        where
          chunk_lt : get_or (chunk_of ds x) i 0 < chunks (dim ds i)
          chunk_lt = rw (count_at i l) at (below_getD (counts ds) (chunk_of ds x) i 0 0 below_here (rw length-counts l))

          kept : (keeps h i ≡ true) ⊎ (keeps h i ≡ false) → cond (keeps h i) (get_or (chunk_of ds x) i 0) 0 ≤ get_or c i 0
          kept (inr t) = rw t (omega arith)
          kept (inl t) = rw t (by (cases_lt (place e) (place i)))
            where
              by : (place e < place i) ⊎ (place i ≤ place e) → get_or (chunk_of ds x) i 0 ≤ get_or c i 0
              by (inl z) = omega (arith, region i l t z)
              by (inr z) = omega (arith, high i l (get_or-set_other h e i true false ne ∙ t) z, chunk_lt)

  above_lowest : Lowest ds place h e c → (k i : ℕ) → i < length ds → get_or c i 0 ≤ get_or (parent_block ds h e x k) i 0
  above_lowest low k i l = at (cases_eq i e)
    where
      at : (i ≡ e) ⊎ (i ≡ e → ⊥) → get_or c i 0 ≤ get_or (parent_block ds h e x k) i 0
      at (inl q) = rw q (omega (arith, low e le keeps_added (omega arith)))
      at (inr ne) = rw (at_other k i l ne) (kept (cases_Bool (keeps h i)))
        where
          kept : (keeps h i ≡ true) ⊎ (keeps h i ≡ false) → get_or c i 0 ≤ cond (keeps h i) (get_or (chunk_of ds x) i 0) 0
          kept (inr t) = rw t (omega (
            arith,
            below_dropped (set h e true) (counts ds) c i below_c (length-set h e true ∙ lh ∙ sym length-counts)
                (get_or-set_other h e i true false ne ∙ t),
          ))
          kept (inl t) = rw t (by (cases_lt (place e) (place i)))
            where
              by : (place e < place i) ⊎ (place i ≤ place e) → get_or c i 0 ≤ get_or (chunk_of ds x) i 0
              by (inl z) = omega (arith, region i l t z)
              by (inr z) = omega (arith, low i l (get_or-set_other h e i true false ne ∙ t) z)

  pub region_complete : Highest ds place h e c → content empty join (meaning ds mean) scan h e x (scan c + 1) ≡ direct empty join (meaning ds mean) h x
  region_complete high = content_all empty join laws ds mean scan h e x (scan c + 1) divided lh (below_length (sizes ds) x below_x
      ∙ length-map ds (λ (d : Dim). d.size)) le lacks
      (λ k m. omega (
        arith,
        scan_rising place (radix (set h e true) (counts ds)) (parent_block ds h e x k) c
            (λ i l. below_highest high k m i (rw length-radices at l)),
      ))

  pub region_fresh : Lowest ds place h e c → content empty join (meaning ds mean) scan h e x (scan c) ≡ empty
  region_fresh low = content_none empty join laws ds mean scan h e x (scan c)
      (λ k m. scan_rising place (radix (set h e true) (counts ds)) c (parent_block ds h e x k) (λ i l. above_lowest low k i (rw length-radices at l)))

pub getD_radix_any : (g : Group) (ks : List ℕ) (i : ℕ) → i < length g → i < length ks → get_or (radix g ks) i 1 ≡ cond (keeps g i) (get_or ks i 1) 1
getD_radix_any [] ks i lg lk = absurd (omega arith)
getD_radix_any (b ∷ g) [] i lg lk = absurd (omega arith)
getD_radix_any (b ∷ g) (k ∷ ks) zero lg lk = refl
getD_radix_any (b ∷ g) (k ∷ ks) (suc i) lg lk = getD_radix_any g ks i (omega arith) (omega arith)

-- the parent's blocks in scan order: after the highest a region begins, after any other it goes on
module _ (ds : List Dim) (place : ℕ → ℕ) (order : Order ds place) (h : Group) (e : ℕ) (lh : length h ≡ length ds) (le : e < length ds) where
  counts_long : length (counts ds) ≡ length ds
  counts_long = length-map ds chunks

  group_long : length (set h e true) ≡ length (counts ds)
  group_long = length-set h e true ∙ lh ∙ sym counts_long

  radices_long : length (radix (set h e true) (counts ds)) ≡ length ds
  radices_long = length-radix (set h e true) (counts ds) group_long ∙ counts_long

  inside : (i : ℕ) → i < length (radix (set h e true) (counts ds)) → place i < suc (length (radix (set h e true) (counts ds)))
  inside i l = rw radices_long (omega (arith, order.within i (rw radices_long at l)))

  separate : (i j : ℕ) → i < length (radix (set h e true) (counts ds)) → j < length (radix (set h e true) (counts ds)) → place i ≡ place j → i ≡ j
  separate i j l m q = order.distinct i j (rw radices_long at l) (rw radices_long at m) q

  pub scan_apart_blocks : Injective (scan_number place (radix (set h e true) (counts ds))) (radix (set h e true) (counts ds))
  scan_apart_blocks = scan_apart place (radix (set h e true) (counts ds)) separate inside

  radix_at : (i : ℕ) → i < length ds → get_or (radix (set h e true) (counts ds)) i 1 ≡ cond (keeps (set h e true) i) (chunks (dim ds i)) 1
  radix_at i l = getD_radix_any (set h e true) (counts ds) i (rw (group_long, counts_long) l) (rw counts_long l)
      ∙ ap (λ z. cond (keeps (set h e true) i) z 1) (get_or-map chunks ds i none_dim 1 l)

  module _ (c : List ℕ) (below_c : Below (radix (set h e true) (counts ds)) c) where
    pub full_from_highest : Highest ds place h e c → (i : ℕ) → i < length ds → place i < place e + 1 → get_or c i 0 + 1 ≡ get_or (radix (set h e true) (counts ds)) i 1
    full_from_highest high i l q = rw (radix_at i l) (at (cases_Bool (keeps (set h e true) i)))
      where
        at : (keeps (set h e true) i ≡ true) ⊎ (keeps (set h e true) i ≡ false) → get_or c i 0 + 1 ≡ cond (keeps (set h e true) i) (chunks (dim ds i)) 1
        at (inl t) = rw t (high i l t (omega arith))
        at (inr t) = rw t (omega (arith, below_dropped (set h e true) (counts ds) c i below_c group_long t))

    pub highest_from_full : ((i : ℕ) → i < length ds → place i < place e + 1 → get_or c i 0 + 1 ≡ get_or (radix (set h e true) (counts ds)) i 1) → Highest ds place h e c
    highest_from_full full i l t q = full i l (omega arith) ∙ radix_at i l ∙ rw t

    -- the first block begins a region
    pub first_lowest : scan_number place (radix (set h e true) (counts ds)) c ≡ 0 → Lowest ds place h e c
    first_lowest none i l t q = first_none place (radix (set h e true) (counts ds)) separate inside c below_c none i (rw radices_long l)

    module _ (d : List ℕ) (below_d : Below (radix (set h e true) (counts ds)) d) (next : scan_number place (radix (set h e true) (counts ds)) d
        ≡ scan_number place (radix (set h e true) (counts ds)) c + 1) where
      all_places : (place e + 1) + (length ds - place e) ≡ suc (length (radix (set h e true) (counts ds)))
      all_places = omega (arith, order.within e le, radices_long)

      pub next_lowest : Highest ds place h e c → Lowest ds place h e d
      next_lowest high i l t q = low_none place (radix (set h e true) (counts ds)) separate d below_d (place e + 1)
          (next_begins place (radix (set h e true) (counts ds)) separate inside c d below_c below_d next (place e + 1) (length ds - place e) all_places
          (low_full place (radix (set h e true) (counts ds)) separate c (place e + 1) (λ j m z. full_from_highest high j (rw radices_long at m) z)))
          i (rw radices_long l) (omega arith)

      pub next_same : (Highest ds place h e c → ⊥) → (i : ℕ) → i < length ds → place e < place i → get_or d i 0 ≡ get_or c i 0
      next_same not-high i l q = next_stays place (radix (set h e true) (counts ds)) separate inside c d below_c below_d next (place e + 1)
          (length ds - place e) all_places
          (less (cases_eq (low_part place (radix (set h e true) (counts ds)) c (place e + 1) + 1) (width place (radix (set h e true) (counts ds)) (place e + 1))))
          i (rw radices_long l) (omega arith)
        where
          less : (low_part place (radix (set h e true) (counts ds)) c (place e + 1) + 1 ≡ width place (radix (set h e true) (counts ds)) (place e + 1))
              ⊎ (low_part place (radix (set h e true) (counts ds)) c (place e + 1) + 1 ≡ width place (radix (set h e true) (counts ds)) (place e + 1) → ⊥)
              → low_part place (radix (set h e true) (counts ds)) c (place e + 1) + 1 < width place (radix (set h e true) (counts ds)) (place e + 1)
          less (inl z) = absurd (not-high
              (highest_from_full (λ j m y. full_low place (radix (set h e true) (counts ds)) separate c below_c (place e + 1) z j (rw radices_long m) y)))
          less (inr z) = omega (arith, low_below place (radix (set h e true) (counts ds)) separate c below_c (place e + 1))
