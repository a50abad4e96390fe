-- A group's blocks are complete in its own scan order: the rank of a region among the child's blocks and among the parent's.
use Rattle.std.proofs.Common.{◌≡◌, ℕ, zero, suc, ◌+◌, ◌-◌, ◌*◌, ◌/◌, ◌<◌, ◌≤◌, true, false, cond, ltb, ◌⊎◌, List, [], length, get_or, set, sym, refl, ap, ◌∙◌, ap₂, inl, inr, add-zero, add-suc, mul-one, add-one, arith}
use lib.Arith.{digits_div}
use Rattle.std.proofs.lemmas.List.{get_or-map, length-map, get_or-set_same, get_or-set_other, length-set}
use Rattle.std.proofs.lemmas.Bool.{cases_lt, cases_Bool, le-ltb}
use Rattle.shapes.specs.declared.dims.Dim.{Dim}
use Rattle.shapes.specs.Arrays.{product, chunks, counts, none_dim, dim, Below, Group, keeps, radix, cleared}
use Rattle.plans.specs.Plans.{Order}
use Rattle.cubes.specs.Summaries.{big}
use Rattle.cubes.specs.Scans.{width, scan_number, Highest}
use Rattle.shapes.proofs.Radixes.{length-radix}
use Rattle.cubes.proofs.Cells.{below_fewer}
use Rattle.cubes.proofs.Joins.{big_cong}
use Rattle.cubes.proofs.ScanNumbers.{products, search_place, low_part, width_hit, width_miss, low_hit, low_miss, low_below, low_full, later_same, scan_is_low, width_is_product}
use Rattle.cubes.proofs.RegionSteps.{getD_cleared, below_dropped, getD_radix_any, full_from_highest}

-- two number systems that have the same radices from the place p on, and coordinates that agree there
module _ (place : ℕ → ℕ) (n p : ℕ) (ks js a b : List ℕ) (lk : length ks ≡ n) (lj : length js ≡ n)
    (distinct : (i j : ℕ) → i < n → j < n → place i ≡ place j → i ≡ j)
    (same_radix : (i : ℕ) → i < n → p ≤ place i → get_or ks i 1 ≡ get_or js i 1) (same : (i : ℕ) → i < n → p ≤ place i → get_or a i 0 ≡ get_or b i 0) where
  distinct_of : (rs : List ℕ) → length rs ≡ n → (i j : ℕ) → i < length rs → j < length rs → place i ≡ place j → i ≡ j
  distinct_of rs l i j li lj q = distinct i j (rw l at li) (rw l at lj) q

  pub record Both (m : ℕ) : Type 0 where
    pub times : ℕ
    pub rank : ℕ
    pub wide_k : width place ks (p + m) ≡ times * width place ks p
    pub wide_j : width place js (p + m) ≡ times * width place js p
    pub low_k : low_part place ks a (p + m) ≡ rank * width place ks p + low_part place ks a p
    pub low_j : low_part place js b (p + m) ≡ rank * width place js p + low_part place js b p

  pub both : (m : ℕ) → Both m
  both zero = record {
    times = 1;
    rank = 0;
    wide_k = ap (width place ks) (add-zero p) ∙ omega arith;
    wide_j = ap (width place js) (add-zero p) ∙ omega arith;
    low_k = ap (low_part place ks a) (add-zero p) ∙ omega arith;
    low_j = ap (low_part place js b) (add-zero p) ∙ omega arith;
  }
  both (suc m) = at (search_place place n (p + m)) (both m)
    where
      at : ((i : ℕ) × (i < n) × (place i ≡ p + m)) ⊎ ((i : ℕ) → i < n → place i ≡ p + m → ⊥) → Both m → Both (suc m)
      at (inl (i, l, z)) r = record {
        times = r.times * get_or ks i 1;
        rank = get_or a i 0 * r.times + r.rank;
        wide_k = ap (width place ks) (add-suc p m) ∙ width_hit place ks (distinct_of ks lk) (p + m) i (rw lk l) z ∙ ap (λ v. v * get_or ks i 1) r.wide_k
            ∙ omega arith;
        wide_j = ap (width place js) (add-suc p m) ∙ width_hit place js (distinct_of js lj) (p + m) i (rw lj l) z
            ∙ ap₂ ◌*◌ r.wide_j (sym (same_radix i l (omega arith))) ∙ omega arith;
        low_k = ap (low_part place ks a) (add-suc p m) ∙ low_hit place ks (distinct_of ks lk) a (p + m) i (rw lk l) z
            ∙ ap₂ (λ v w. get_or a i 0 * v + w) r.wide_k r.low_k ∙ omega arith;
        low_j = ap (low_part place js b) (add-suc p m) ∙ low_hit place js (distinct_of js lj) b (p + m) i (rw lj l) z
            ∙ ap (λ c. c * width place js (p + m) + low_part place js b (p + m)) (sym (same i l (omega arith)))
            ∙ ap₂ (λ v w. get_or a i 0 * v + w) r.wide_j r.low_j ∙ omega arith;
      }
      at (inr none) r = record {
        times = r.times;
        rank = r.rank;
        wide_k = ap (width place ks) (add-suc p m) ∙ width_miss place ks (distinct_of ks lk) (p + m) (λ i l z. none i (rw lk at l) z) ∙ r.wide_k;
        wide_j = ap (width place js) (add-suc p m) ∙ width_miss place js (distinct_of js lj) (p + m) (λ i l z. none i (rw lj at l) z) ∙ r.wide_j;
        low_k = ap (low_part place ks a) (add-suc p m) ∙ low_miss place ks (distinct_of ks lk) a (p + m) (λ i l z. none i (rw lk at l) z) ∙ r.low_k;
        low_j = ap (low_part place js b) (add-suc p m) ∙ low_miss place js (distinct_of js lj) b (p + m) (λ i l z. none i (rw lj at l) z) ∙ r.low_j;
      }

-- the child h and its parent, which adds e
module _ (ds : List Dim) (place : ℕ → ℕ) (order : Order ds place) (h : Group) (e : ℕ) (lh : length h ≡ length ds) (le : e < length ds)
    (lacks : keeps h e ≡ false) where
  counts_long : length (counts ds) ≡ length ds
  counts_long = length-map ds chunks

  parent_long : length (set h e true) ≡ length (counts ds)
  parent_long = length-set h e true ∙ lh ∙ sym counts_long

  child_long : length h ≡ length (counts ds)
  child_long = lh ∙ sym counts_long

  parent_radices : length (radix (set h e true) (counts ds)) ≡ length ds
  parent_radices = length-radix (set h e true) (counts ds) parent_long ∙ counts_long

  child_radices : length (radix h (counts ds)) ≡ length ds
  child_radices = length-radix h (counts ds) child_long ∙ counts_long

  inside : (rs : List ℕ) → length rs ≡ length ds → (i : ℕ) → i < length rs → place i < suc (length rs)
  inside rs l i m = rw l (omega (arith, order.within i (rw l at m)))

  separate : (rs : List ℕ) → length rs ≡ length ds → (i j : ℕ) → i < length rs → j < length rs → place i ≡ place j → i ≡ j
  separate rs l i j mi mj q = order.distinct i j (rw l at mi) (rw l at mj) q

  radix_same : (i : ℕ) → i < length ds → (i ≡ e → ⊥) → get_or (radix (set h e true) (counts ds)) i 1 ≡ get_or (radix h (counts ds)) i 1
  radix_same i l ne =
      getD_radix_any (set h e true) (counts ds) i (rw (parent_long, counts_long) l) (rw counts_long l)
      ∙ ap (λ z. cond z (get_or (counts ds) i 1) 1) (get_or-set_other h e i true false ne)
      ∙ sym (getD_radix_any h (counts ds) i (rw lh l) (rw counts_long l))

  module _ (b c : List ℕ) (below_b : Below (radix h (counts ds)) b) (below_c : Below (radix (set h e true) (counts ds)) c)
      (later : (i : ℕ) → i < length ds → keeps h i ≡ true → place e < place i → get_or b i 0 ≡ get_or c i 0) where
    coordinate_same : (i : ℕ) → i < length ds → place e + 1 ≤ place i → get_or c i 0 ≡ get_or b i 0
    coordinate_same i l q = at (cases_Bool (keeps h i))
      where
        ne : i ≡ e → ⊥
        ne z = let y : place i ≡ place e = ap place z in omega arith

        at : (keeps h i ≡ true) ⊎ (keeps h i ≡ false) → get_or c i 0 ≡ get_or b i 0
        at (inl t) = sym (later i l t (omega arith))
        at (inr t) = below_dropped (set h e true) (counts ds) c i below_c parent_long (get_or-set_other h e i true false ne ∙ t)
            ∙ sym (below_dropped h (counts ds) b i below_b child_long t)

    -- a child's block and a parent's block that agree after the place of e have one rank
    pub one_rank : (q : ℕ)
        × (scan_number place (radix (set h e true) (counts ds)) c
        ≡ q * width place (radix (set h e true) (counts ds)) (place e + 1) + low_part place (radix (set h e true) (counts ds)) c (place e + 1))
        × (scan_number place (radix h (counts ds)) b ≡ q * width place (radix h (counts ds)) (place e + 1) + low_part place (radix h (counts ds)) b (place e + 1))
    one_rank = (
      pair.rank,
      sym (scan_is_low place (radix (set h e true) (counts ds)) (separate (radix (set h e true) (counts ds)) parent_radices)
          (inside (radix (set h e true) (counts ds)) parent_radices) c)
          ∙ ap (low_part place (radix (set h e true) (counts ds)) c) (ap suc parent_radices ∙ sym all) ∙ pair.low_k,
      sym (scan_is_low place (radix h (counts ds)) (separate (radix h (counts ds)) child_radices) (inside (radix h (counts ds)) child_radices) b)
          ∙ ap (low_part place (radix h (counts ds)) b) (ap suc child_radices ∙ sym all) ∙ pair.low_j,
    )
      where
        all : (place e + 1) + (length ds - place e) ≡ suc (length ds)
        all = omega (arith, order.within e le)

        pair : Both place (length ds) (place e + 1) (radix (set h e true) (counts ds)) (radix h (counts ds)) c b parent_radices child_radices order.distinct
            (λ i l q. radix_same i l (λ z. let y : place i ≡ place e = ap place z in omega arith)) coordinate_same (length ds - place e)
        pair = both place (length ds) (place e + 1) (radix (set h e true) (counts ds)) (radix h (counts ds)) c b parent_radices child_radices order.distinct
            (λ i l q. radix_same i l (λ z. let y : place i ≡ place e = ap place z in omega arith)) coordinate_same (length ds - place e)

    pub region_rank : scan_number place (radix h (counts ds)) b / width place (radix h (counts ds)) (place e + 1)
        ≡ scan_number place (radix (set h e true) (counts ds)) c / width place (radix (set h e true) (counts ds)) (place e + 1)
    region_rank = let (q, k, j) = one_rank in
        ap (λ v. v / width place (radix h (counts ds)) (place e + 1)) j
        ∙ digits_div q (low_below place (radix h (counts ds)) (separate (radix h (counts ds)) child_radices) b below_b (place e + 1))
        ∙ sym (digits_div q (low_below place (radix (set h e true) (counts ds)) (separate (radix (set h e true) (counts ds)) parent_radices) c below_c
        (place e + 1)))
        ∙ ap (λ v. v / width place (radix (set h e true) (counts ds)) (place e + 1)) (sym k)

  -- the parent's width is the child's times the chunk count of e
  pub width_parent : width place (radix (set h e true) (counts ds)) (place e + 1) ≡ width place (radix h (counts ds)) (place e + 1) * chunks (dim ds e)
  width_parent =
      ap (width place (radix (set h e true) (counts ds))) (add-one (place e))
      ∙ width_hit place (radix (set h e true) (counts ds)) (separate (radix (set h e true) (counts ds)) parent_radices) (place e) e (rw parent_radices le) refl
      ∙ ap₂ ◌*◌ before kept
      ∙ ap (λ z. z * chunks (dim ds e)) (sym (ap (width place (radix h (counts ds))) (add-one (place e))
      ∙ width_hit place (radix h (counts ds)) (separate (radix h (counts ds)) child_radices) (place e) e (rw child_radices le) refl
      ∙ ap (λ z. width place (radix h (counts ds)) (place e) * z) dropped ∙ mul-one (width place (radix h (counts ds)) (place e))))
    where
      kept : get_or (radix (set h e true) (counts ds)) e 1 ≡ chunks (dim ds e)
      kept = getD_radix_any (set h e true) (counts ds) e (rw (parent_long, counts_long) le) (rw counts_long le)
          ∙ ap (λ z. cond z (get_or (counts ds) e 1) 1) (get_or-set_same h e true false (rw lh le)) ∙ get_or-map chunks ds e none_dim 1 le

      dropped : get_or (radix h (counts ds)) e 1 ≡ 1
      dropped = getD_radix_any h (counts ds) e (rw lh le) (rw counts_long le) ∙ ap (λ z. cond z (get_or (counts ds) e 1) 1) lacks

      before : width place (radix (set h e true) (counts ds)) (place e) ≡ width place (radix h (counts ds)) (place e)
      before =
          ap (big 1 ◌*◌ (λ j. cond (ltb (place j) (place e)) (get_or (radix (set h e true) (counts ds)) j 1) 1)) parent_radices
          ∙ big_cong 1 ◌*◌ products (λ j. cond (ltb (place j) (place e)) (get_or (radix (set h e true) (counts ds)) j 1) 1)
          (λ j. cond (ltb (place j) (place e)) (get_or (radix h (counts ds)) j 1) 1) (length ds) (λ j l. at j l (cases_lt (place j) (place e)))
          ∙ ap (big 1 ◌*◌ (λ j. cond (ltb (place j) (place e)) (get_or (radix h (counts ds)) j 1) 1)) (sym child_radices)
        where
          at : (j : ℕ) → j < length ds → (place j < place e) ⊎ (place e ≤ place j) → cond (ltb (place j) (place e)) (get_or (radix (set h e true) (counts ds)) j 1) 1
              ≡ cond (ltb (place j) (place e)) (get_or (radix h (counts ds)) j 1) 1
          at j l (inl q) = ap (λ z. cond (ltb (place j) (place e)) z 1) (radix_same j l (λ z. let y : place j ≡ place e = ap place z in omega arith))
          at j l (inr q) = rw (le-ltb (place j) (place e) q)

  -- the other way round: a child's block of the same rank lies in the region
  pub rank_region : (b c : List ℕ) → Below (radix h (counts ds)) b → Below (radix (set h e true) (counts ds)) c
      → scan_number place (radix h (counts ds)) b / width place (radix h (counts ds)) (place e + 1)
      ≡ scan_number place (radix (set h e true) (counts ds)) c / width place (radix (set h e true) (counts ds)) (place e + 1)
      → (i : ℕ) → i < length ds → keeps h i ≡ true → place e < place i → get_or b i 0 ≡ get_or c i 0
  rank_region b c below_b below_c ranks i l t q =
      later_same place (radix h (counts ds)) (separate (radix h (counts ds)) child_radices) b (cleared h c) below_b below_hc (place e + 1) (length ds - place e)
      (ap (λ z. z / width place (radix h (counts ds)) (place e + 1)) (whole b) ∙ ranks ∙ sym (region_rank (cleared h c) c below_hc below_c (λ j m u _. own j m u))
      ∙ ap (λ z. z / width place (radix h (counts ds)) (place e + 1)) (sym (whole (cleared h c))))
      i (rw child_radices l) (omega arith) (omega (arith, order.within i l, all))
      ∙ own i l t
    where
      all : (place e + 1) + (length ds - place e) ≡ suc (length ds)
      all = omega (arith, order.within e le)

      below_hc : Below (radix h (counts ds)) (cleared h c)
      below_hc = below_fewer h (counts ds) c e below_c

      whole : (cs : List ℕ) → low_part place (radix h (counts ds)) cs ((place e + 1) + (length ds - place e)) ≡ scan_number place (radix h (counts ds)) cs
      whole cs = ap (low_part place (radix h (counts ds)) cs) (all ∙ ap suc (sym child_radices))
          ∙ scan_is_low place (radix h (counts ds)) (separate (radix h (counts ds)) child_radices) (inside (radix h (counts ds)) child_radices) cs

      own : (j : ℕ) → j < length ds → keeps h j ≡ true → get_or (cleared h c) j 0 ≡ get_or c j 0
      own j m u = getD_cleared h c j (rw lh m) ∙ ap (λ z. cond z (get_or c j 0) 0) u

  -- a completing block of the parent has gone out when so many of the parent's blocks have
  pub complete_count : (c : List ℕ) → Below (radix (set h e true) (counts ds)) c → Highest ds place h e c
      → scan_number place (radix (set h e true) (counts ds)) c + 1
      ≡ (scan_number place (radix (set h e true) (counts ds)) c / width place (radix (set h e true) (counts ds)) (place e + 1) + 1) * width place
      (radix (set h e true) (counts ds)) (place e + 1)
  complete_count c below_c high =
      at (one_rank (cleared h c) c (below_fewer h (counts ds) c e below_c) below_c (λ j m u _. getD_cleared h c j (rw lh m) ∙ ap (λ z. cond z (get_or c j 0) 0) u))
    where
      rg : List ℕ
      rg = radix (set h e true) (counts ds)

      full : low_part place rg c (place e + 1) + 1 ≡ width place rg (place e + 1)
      full = low_full place rg (separate rg parent_radices) c (place e + 1)
          (λ j m z. full_from_highest ds place order h e lh le c below_c high j (rw parent_radices at m) z)

      at : (q : ℕ) × (scan_number place rg c ≡ q * width place rg (place e + 1) + low_part place rg c (place e + 1))
          × (scan_number place (radix h (counts ds)) (cleared h c) ≡ q * width place (radix h (counts ds)) (place e + 1) + low_part place (radix h (counts ds))
          (cleared h c) (place e + 1))
          → scan_number place rg c + 1 ≡ (scan_number place rg c / width place rg (place e + 1) + 1) * width place rg (place e + 1)
      at (q, k, j) = turn (ap (λ v. v / width place rg (place e + 1)) k ∙ digits_div q (low_below place rg (separate rg parent_radices) c below_c (place e + 1)))
        where
          turn : scan_number place rg c / width place rg (place e + 1) ≡ q → scan_number place rg c + 1
              ≡ (scan_number place rg c / width place rg (place e + 1) + 1) * width place rg (place e + 1)
          turn z = ap (λ v. v + 1) k ∙ distribute ∙ ap (λ v. (v + 1) * width place rg (place e + 1)) (sym z)
            where
              distribute : q * width place rg (place e + 1) + low_part place rg c (place e + 1) + 1 ≡ (q + 1) * width place rg (place e + 1)
              distribute = omega (arith, full)

  -- the regions of the child, by its own blocks and by those of its parent
  pub region_count : (q : ℕ) × (product (radix (set h e true) (counts ds)) ≡ q * width place (radix (set h e true) (counts ds)) (place e + 1))
      × (product (radix h (counts ds)) ≡ q * width place (radix h (counts ds)) (place e + 1))
  region_count = (pair.times, whole (radix (set h e true) (counts ds)) parent_radices ∙ pair.wide_k, whole (radix h (counts ds)) child_radices ∙ pair.wide_j)
    where
      whole : (rs : List ℕ) → length rs ≡ length ds → product rs ≡ width place rs ((place e + 1) + (length ds - place e))
      whole rs l = sym (width_is_product place rs (separate rs l) (inside rs l)) ∙ ap (width place rs) (omega (arith, order.within e le, l))

      pair : Both place (length ds) (place e + 1) (radix (set h e true) (counts ds)) (radix h (counts ds)) [] [] parent_radices child_radices order.distinct
          (λ i l q. radix_same i l (λ z. let y : place i ≡ place e = ap place z in omega arith)) (λ i l q. refl) (length ds - place e)
      pair = both place (length ds) (place e + 1) (radix (set h e true) (counts ds)) (radix h (counts ds)) [] [] parent_radices child_radices order.distinct
          (λ i l q. radix_same i l (λ z. let y : place i ≡ place e = ap place z in omega arith)) (λ i l q. refl) (length ds - place e)
