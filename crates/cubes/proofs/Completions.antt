-- Which block of its parent completes a region of a group, and which blocks the region has, by scan numbers.
use Rattle.std.proofs.Common.{◌≡◌, ℕ, zero, suc, ◌+◌, ◌*◌, ◌/◌, ◌%◌, ◌<◌, Bool, true, false, not, ◌&&◌, ◌||◌, eqb, ltb, leb, ◌⊎◌, List, map, length, get_or, filter, sym, refl, ap, ◌∙◌, inl, inr, ⊎_elim, mul-le-mul_right, mul_comm, mul-div_cancel, arith}
use native.Mathlib.Nat.{suc-mod, mod_self}
use Rattle.std.specs.List.{range_with_len}
use Rattle.std.proofs.lemmas.Nat.{div_below}
use Rattle.std.proofs.lemmas.List.{length-map, length-set, get_or-set_other}
use Rattle.std.proofs.lemmas.Bool.{cases_eq, cases_Bool, and_parts, and_from, eqb-true, eq-eqb, leb-true, le-leb, ltb-true, lt-ltb, both_ways}
use Rattle.shapes.specs.declared.dims.Dim.{Dim}
use Rattle.shapes.specs.Arrays.{Group, Below, product, radix, counts, chunks, dim, keeps}
use Rattle.plans.specs.Plans.{Edged, Order}
use Rattle.cubes.specs.Scans.{width, scan_number, scan_digits, Highest}
use Rattle.cubes.specs.Handing.{each_below, parent, completes, later_agree, region}
use Rattle.shapes.proofs.Radixes.{length-radix}
use Rattle.cubes.proofs.Cells.{radix_positive}
use Rattle.cubes.proofs.ScanNumbers.{low_part, low_full, full_low, low_of_digits, scan_digits_within, scan_of_digits, width_positive}
use Rattle.cubes.proofs.RegionSteps.{below_dropped, full_from_highest, highest_from_full}
use Rattle.cubes.proofs.Ranks.{region_rank, rank_region, region_count}
use Rattle.cubes.proofs.Listing.{kept_like, kept_map, kept_quotient}
use Rattle.cubes.proofs.Machine.{last_of}
use Rattle.plans.proofs.Sums.{all_counting}
use Rattle.std.specs.Cmp.{both_ways as same_bool}

pub each_below_holds : (n : ℕ) (test : ℕ → Bool) → each_below n test ≡ true → (i : ℕ) → i < n → test i ≡ true
each_below_holds zero test t i l = absurd (omega arith)
each_below_holds (suc n) test t i l =
    ⊎_elim (λ e. ap test e ∙ (and_parts (each_below n test) (test n) t).1)
    (λ ne. each_below_holds n test (and_parts (each_below n test) (test n) t).0 i (omega arith)) (cases_eq i n)

pub each_below_from : (n : ℕ) (test : ℕ → Bool) → ((i : ℕ) → i < n → test i ≡ true) → each_below n test ≡ true
each_below_from zero test h = refl
each_below_from (suc n) test h = and_from (each_below n test) (test n) (each_below_from n test (λ i l. h i (omega arith))) (h n (omega arith))

-- a test under a condition
unless_holds : (a b : Bool) → (not a || b) ≡ true → a ≡ true → b ≡ true
unless_holds true b t e = t
unless_holds false b t e = absurd (both_ways false refl e)

unless_from : (a b : Bool) → (a ≡ true → b ≡ true) → (not a || b) ≡ true
unless_from true b h = h refl
unless_from false b h = refl

-- the remainder before a multiple
full_ends : (s m : ℕ) → s % m + 1 ≡ m → suc s % m ≡ 0
full_ends s m e = suc-mod s m ∙ ap (λ z. z % m) one ∙ mod_self m
  where
    one : suc (s % m) ≡ m
    one = omega (arith, e)

-- the test of completion is that the block is the highest up to the place of the dimension added
pub completes_highest : (ds : List Dim) (place : ℕ → ℕ) (adds : Group → ℕ) (h : Group) (b : List ℕ) → completes ds place adds h b ≡ true
    → Highest ds place h (adds h) b
completes_highest ds place adds h b t i l kept q =
    eqb-true (get_or b i 0 + 1) (chunks (dim ds i))
    (unless_holds (keeps (parent adds h) i && leb (place i) (place (adds h))) (eqb (get_or b i 0 + 1) (chunks (dim ds i)))
    (each_below_holds (length ds) (λ i. not (keeps (parent adds h) i && leb (place i) (place (adds h))) || eqb (get_or b i 0 + 1) (chunks (dim ds i))) t i l)
    (and_from (keeps (parent adds h) i) (leb (place i) (place (adds h))) kept (le-leb (place i) (place (adds h)) q)))

pub highest_completes : (ds : List Dim) (place : ℕ → ℕ) (adds : Group → ℕ) (h : Group) (b : List ℕ) → Highest ds place h (adds h) b → completes ds place adds h b
    ≡ true
highest_completes ds place adds h b high =
    each_below_from (length ds) (λ i. not (keeps (parent adds h) i && leb (place i) (place (adds h))) || eqb (get_or b i 0 + 1) (chunks (dim ds i)))
    (λ i l. unless_from (keeps (parent adds h) i && leb (place i) (place (adds h))) (eqb (get_or b i 0 + 1) (chunks (dim ds i)))
    (λ t. let p = and_parts (keeps (parent adds h) i) (leb (place i) (place (adds h))) t in
    eq-eqb (get_or b i 0 + 1) (chunks (dim ds i)) (high i l p.0 (leb-true (place i) (place (adds h)) p.1))))

-- a group h and its parent, which adds adds h
module _ (ds : List Dim) (place : ℕ → ℕ) (edged : Edged ds) (order : Order ds place) (adds : Group → ℕ) (h : Group)
    (lh : length h ≡ length ds) (le : adds h < length ds) (lacks : keeps h (adds h) ≡ false) where
  counts_long : length (counts ds) ≡ length ds
  counts_long = length-map ds chunks

  radices_long : (g : Group) → length g ≡ length ds → length (radix g (counts ds)) ≡ length ds
  radices_long g l = length-radix g (counts ds) (l ∙ sym counts_long) ∙ counts_long

  inside : (rs : List ℕ) → length rs ≡ length ds → (i : ℕ) → i < length rs → place i < suc (length rs)
  inside rs l i m = rw l (omega (arith, order.within i (rw l at m)))

  separate : (rs : List ℕ) → length rs ≡ length ds → (i j : ℕ) → i < length rs → j < length rs → place i ≡ place j → i ≡ j
  separate rs l i j mi mj q = order.distinct i j (rw l at mi) (rw l at mj) q

  abbrev rp : List ℕ
  rp = radix (parent adds h) (counts ds)

  abbrev rh : List ℕ
  rh = radix h (counts ds)

  abbrev period : ℕ
  period = width place (radix (parent adds h) (counts ds)) (place (adds h) + 1)

  abbrev share : ℕ
  share = width place (radix h (counts ds)) (place (adds h) + 1)

  long_p : length rp ≡ length ds
  long_p = radices_long (parent adds h) (length-set h (adds h) true ∙ lh)

  long_h : length rh ≡ length ds
  long_h = radices_long h lh

  pub period_positive : 0 < period
  period_positive = width_positive place rp (separate rp long_p) (inside rp long_p) (λ i. radix_positive ds (parent adds h) i edged) (place (adds h) + 1)

  pub share_positive : 0 < share
  share_positive = width_positive place rh (separate rh long_h) (inside rh long_h) (λ i. radix_positive ds h i edged) (place (adds h) + 1)

  -- one block of the parent in every period completes a region
  pub completes_is : (s : ℕ) → completes ds place adds h (scan_digits place rp s) ≡ eqb (suc s % period) 0
  completes_is s = same_bool (completes ds place adds h b) (eqb (suc s % period) 0) there back
    where
      b : List ℕ
      b = scan_digits place rp s

      within : Below rp b
      within = scan_digits_within place rp (separate rp long_p) (inside rp long_p) (λ i. radix_positive ds (parent adds h) i edged) s

      low_is : low_part place rp b (place (adds h) + 1) ≡ s % period
      low_is = low_of_digits place rp (separate rp long_p) (inside rp long_p) (λ i. radix_positive ds (parent adds h) i edged) s (place (adds h) + 1)

      there : completes ds place adds h b ≡ true → eqb (suc s % period) 0 ≡ true
      there t = eq-eqb (suc s % period) 0 (full_ends s period (ap (λ z. z + 1) (sym low_is)
          ∙ low_full place rp (separate rp long_p) b (place (adds h) + 1)
          (λ i l q. full_from_highest ds place order h (adds h) lh le b within (completes_highest ds place adds h b t) i (rw long_p at l) q)))

      back : eqb (suc s % period) 0 ≡ true → completes ds place adds h b ≡ true
      back t = highest_completes ds place adds h b (highest_from_full ds place order h (adds h) lh le b within
          (λ i l q. full_low place rp (separate rp long_p) b within (place (adds h) + 1) full i (rw long_p l) q))
        where
          full : low_part place rp b (place (adds h) + 1) + 1 ≡ period
          full = ap (λ z. z + 1) low_is ∙ omega (arith, last_of s period period_positive (eqb-true (suc s % period) 0 t))

  -- a child's block agrees with a block of its parent at all later places if their regions have one number
  agree_is : (s u : ℕ) → s < product rp → u < product rh → later_agree ds place (adds h) (scan_digits place rp s) (scan_digits place rh u)
      ≡ eqb (s / period) (u / share)
  agree_is s u ls lu = same_bool (later_agree ds place (adds h) b c) (eqb (s / period) (u / share)) there back
    where
      b : List ℕ
      b = scan_digits place rp s

      c : List ℕ
      c = scan_digits place rh u

      below_b : Below rp b
      below_b = scan_digits_within place rp (separate rp long_p) (inside rp long_p) (λ i. radix_positive ds (parent adds h) i edged) s

      below_c : Below rh c
      below_c = scan_digits_within place rh (separate rh long_h) (inside rh long_h) (λ i. radix_positive ds h i edged) u

      number_b : scan_number place rp b ≡ s
      number_b = scan_of_digits place rp (separate rp long_p) (inside rp long_p) s ls

      number_c : scan_number place rh c ≡ u
      number_c = scan_of_digits place rh (separate rh long_h) (inside rh long_h) u lu

      there : later_agree ds place (adds h) b c ≡ true → eqb (s / period) (u / share) ≡ true
      there t = eq-eqb (s / period) (u / share) (ap (λ z. z / period) (sym number_b)
          ∙ sym (region_rank ds place order h (adds h) lh le lacks c b below_c below_b (λ i l kept q. sym (same i l q)))
          ∙ ap (λ z. z / share) number_c)
        where
          same : (i : ℕ) → i < length ds → place (adds h) < place i → get_or b i 0 ≡ get_or c i 0
          same i l q = eqb-true (get_or b i 0) (get_or c i 0) (unless_holds (ltb (place (adds h)) (place i)) (eqb (get_or b i 0) (get_or c i 0))
              (each_below_holds (length ds) (λ i. not (ltb (place (adds h)) (place i)) || eqb (get_or b i 0) (get_or c i 0)) t i l)
              (lt-ltb (place (adds h)) (place i) q))

      back : eqb (s / period) (u / share) ≡ true → later_agree ds place (adds h) b c ≡ true
      back t = each_below_from (length ds) (λ i. not (ltb (place (adds h)) (place i)) || eqb (get_or b i 0) (get_or c i 0))
          (λ i l. unless_from (ltb (place (adds h)) (place i)) (eqb (get_or b i 0) (get_or c i 0))
          (λ q. eq-eqb (get_or b i 0) (get_or c i 0) (sym (same i l (ltb-true (place (adds h)) (place i) q) (cases_Bool (keeps h i))))))
        where
          ranks : scan_number place rh c / share ≡ scan_number place rp b / period
          ranks = ap (λ z. z / share) number_c ∙ sym (eqb-true (s / period) (u / share) t) ∙ ap (λ z. z / period) (sym number_b)

          same : (i : ℕ) → i < length ds → place (adds h) < place i → (keeps h i ≡ true) ⊎ (keeps h i ≡ false) → get_or c i 0 ≡ get_or b i 0
          same i l q (inl kept) = rank_region ds place order h (adds h) lh le lacks c b below_c below_b ranks i l kept q
          same i l q (inr dropped) = below_dropped h (counts ds) c i below_c (lh ∙ sym counts_long) dropped
              ∙ sym (below_dropped (parent adds h) (counts ds) b i below_b (length-set h (adds h) true ∙ lh ∙ sym counts_long)
              (get_or-set_other h (adds h) i true false (λ z. omega (arith, ap place z)) ∙ dropped))

  quotient_within : (s : ℕ) → s < product rp → s / period < (region_count ds place order h (adds h) lh le lacks).0
  quotient_within s l = div_below s period (region_count ds place order h (adds h) lh le lacks).0 period_positive
      (omega (arith, (region_count ds place order h (adds h) lh le lacks).1))

  -- the region at the block of the parent of scan number s: share blocks in a row, from (s / period) * share on
  pub region_is : (s : ℕ) → s < product rp
      → region ds place adds h (scan_digits place rp s) ≡ map (scan_digits place rh) (range_with_len (s / period * share) share)
  region_is s l =
      kept_map (later_agree ds place (adds h) (scan_digits place rp s)) (scan_digits place rh) (range_with_len 0 (product rh))
      ∙ ap (map (scan_digits place rh))
      (kept_like (λ u. later_agree ds place (adds h) (scan_digits place rp s) (scan_digits place rh u)) (λ u. eqb (s / period) (u / share)) (range_with_len 0 (product rh))
      (all_counting (λ u. later_agree ds place (adds h) (scan_digits place rp s) (scan_digits place rh u) ≡ eqb (s / period) (u / share)) 0 (product rh)
      (λ u a b. agree_is s u l (omega arith)))
      ∙ ap (λ n. filter (λ u. eqb (s / period) (u / share)) (range_with_len 0 n)) (counted.2 ∙ mul_comm counted.0 share)
      ∙ kept_quotient (s / period) share counted.0 share_positive (quotient_within s l))
    where
      counted : (q : ℕ) × (product rp ≡ q * period) × (product rh ≡ q * share)
      counted = region_count ds place order h (adds h) lh le lacks

  -- the region lies within the group's blocks
  pub region_within : (s u : ℕ) → s < product rp → u < s / period * share + share → u < product rh
  region_within s u l m = omega (arith, (region_count ds place order h (adds h) lh le lacks).2, mul-le-mul_right share (quotient_within s l))

  -- all blocks of the parent make all blocks of the group due
  pub all_due : product rp / period * share ≡ product rh
  all_due = ap (λ z. z * share) (ap (λ z. z / period) counted.1 ∙ mul-div_cancel counted.0 period_positive) ∙ sym counted.2
    where
      counted : (q : ℕ) × (product rp ≡ q * period) × (product rh ≡ q * share)
      counted = region_count ds place order h (adds h) lh le lacks
