-- When a block is handed out, all chunks beneath it have been passed.
use Rattle.std.proofs.Common.{◌≡◌, ℕ, zero, suc, ◌*◌, ◌/◌, ◌<◌, ◌≤◌, Bool, true, false, cond, List, [], ◌∷◌, length, get_or, filter, sym, refl, ap, ◌∙◌, subst, ap₂, ⊎_elim, le_trans, le-div_iff_mul-le, div-mul-le_self, arith}
use Rattle.std.specs.List.{range_with_len, ContainsAt as Has, AllByRecursion}
use Rattle.std.proofs.lemmas.Nat.{div_below}
use Rattle.std.proofs.ByRecursion.{All-map}
use Rattle.std.proofs.lemmas.List.{length-map, length-set, get_or-set_other}
use Rattle.std.proofs.lemmas.Bool.{cases_lt, both_ways}
use Rattle.shapes.specs.declared.dims.Dim.{Dim}
use Rattle.shapes.specs.Arrays.{Group, Below, agrees, cleared, product, radix, counts, chunks, total_chunks, root, keeps}
use Rattle.shapes.proofs.Numbering.{below_length}
use Rattle.cubes.specs.Scans.{scan_number, scan_digits}
use Rattle.cubes.specs.Handing.{Block, Scan, parent, released_by}
use Rattle.cubes.specs.Control.{Numbered, numbered_block, Table, tree}
use Rattle.shapes.proofs.Radixes.{length-radix}
use Rattle.cubes.proofs.Cells.{below_cleared, cleared_below, cleared_from_agrees}
use Rattle.cubes.proofs.ScanNumbers.{scan_of_digits}
use Rattle.cubes.proofs.RegionSteps.{getD_cleared}
use Rattle.cubes.proofs.Ranks.{region_rank}
use Rattle.cubes.proofs.Listing.{all_both, all_unmap}
use Rattle.cubes.proofs.Machine.{Settled, Under, same_group_refl}
use Rattle.cubes.proofs.States.{is_of, numbered, numbered_by, state_all, state_none}
use Rattle.cubes.proofs.Trees.{ChildOf, level, laws, sized, inside, lacks_keeps, radix_root_counts}
use Rattle.cubes.proofs.Naming.{block_within}
use Rattle.cubes.proofs.Handing.{released_is, released_of_groups, under_root, counts_le}
use Rattle.plans.proofs.Sums.{all_counting}

cleared_root : (n : ℕ) (c : List ℕ) → length c ≡ n → cleared (root n) c ≡ c
cleared_root zero [] l = refl
cleared_root zero (x ∷ c) l = absurd (omega arith)
cleared_root (suc n) [] l = refl
cleared_root (suc n) (x ∷ c) l = ap (λ z. x ∷ z) (cleared_root n c (omega arith))

-- a quotient that is less tells that the number is less
pub quotient_less : (s d m q r : ℕ) → 0 < m → 0 < r → q / r ≡ s / m → q < d / m * r → s < d
quotient_less s d m q r pm pr same less = ⊎_elim (λ l. l) (λ l. absurd (omega (arith, same, div_below q r (d / m) pr less, grow l))) (cases_lt s d)
  where
    grow : d ≤ s → d / m ≤ s / m
    grow l = (le-div_iff_mul-le pm).1 (le_trans (div-mul-le_self d m) l)

-- what holds of each group's blocks holds of all
all_by_group : (P : Numbered → Type 0) (xs : List Numbered) → ((h : Group) → AllByRecursion P (filter (is_of h) xs)) → AllByRecursion P xs
all_by_group P [] a = tt
all_by_group P (x ∷ xs) a = (
  (subst (λ b. AllByRecursion P (cond b (x ∷ filter (is_of x.of) xs) (filter (is_of x.of) xs))) (same_group_refl x.of) (a x.of)).0,
  all_by_group P xs (λ h. rest (is_of h x) (filter (is_of h) xs) (a h)),
)
  where
    rest : (b : Bool) (ys : List Numbered) → AllByRecursion P (cond b (x ∷ ys) ys) → AllByRecursion P ys
    rest true ys v = v.1
    rest false ys v = v

module _ (ds : List Dim) (place : ℕ → ℕ) (adds : Group → ℕ) (all : List Group) (S : Scan ds place adds all) where
  counts_long : length (counts ds) ≡ length ds
  counts_long = length-map ds chunks

  -- the scan number of the block of h above a chunk is below the count of h only if the chunk was passed
  passed_above : (c : List ℕ) → Below (counts ds) c → (t : ℕ) (d : Table) → d (root (length ds)) ≡ t
      → Settled (tree ds place adds all) (ChildOf adds all) d (root (length ds))
      → (j : ℕ) (h : Group) → Under (tree ds place adds all) (ChildOf adds all) j (root (length ds)) h
      → scan_number place (radix h (counts ds)) (cleared h c) < d h → scan_number place (counts ds) c < t
  passed_above c below t d dt settled zero h u less = subst (λ n. scan_number place (counts ds) c < n) (ap d u ∙ dt) (subst (λ n. n < d h) here less)
    where
      here : scan_number place (radix h (counts ds)) (cleared h c) ≡ scan_number place (counts ds) c
      here = ap (λ g. scan_number place (radix g (counts ds)) (cleared g c)) u
          ∙ ap₂ (scan_number place) (radix_root_counts ds) (cleared_root (length ds) c (below_length (counts ds) c below ∙ counts_long))
  passed_above c below t d dt settled (suc j) h u less = passed_above c below t d dt settled j (parent adds h) u.1 above
    where
      k : ChildOf adds all h
      k = u.0

      lh : length h ≡ length ds
      lh = sized ds place adds all S h k.0

      rp : List ℕ
      rp = radix (parent adds h) (counts ds)

      rh : List ℕ
      rh = radix h (counts ds)

      kept_both : (i : ℕ) → i < length ds → keeps h i ≡ true → get_or (cleared h c) i 0 ≡ get_or (cleared (parent adds h) c) i 0
      kept_both i l kept = getD_cleared h c i (rw lh l)
          ∙ (ap (λ z. cond z (get_or c i 0) 0) (kept ∙ sym more) ∙ sym (getD_cleared (parent adds h) c i (rw (length-set h (adds h) true) (rw lh l))))
        where
          more : keeps (parent adds h) i ≡ true
          more = get_or-set_other h (adds h) i true false (λ e. both_ways (keeps h (adds h)) (lacks_keeps h (adds h) k.1) (ap (keeps h) (sym e) ∙ kept)) ∙ kept

      ranks : scan_number place rh (cleared h c) / (tree ds place adds all).share h
          ≡ scan_number place rp (cleared (parent adds h) c) / (tree ds place adds all).period h
      ranks = region_rank ds place S.order h (adds h) lh (inside ds place adds all S h k) (lacks_keeps h (adds h) k.1) (cleared h c)
          (cleared (parent adds h) c)
          (below_cleared h (counts ds) c below) (below_cleared (parent adds h) (counts ds) c below) (λ i l kept q. kept_both i l kept)

      above : scan_number place rp (cleared (parent adds h) c) < d (parent adds h)
      above = quotient_less (scan_number place rp (cleared (parent adds h) c)) (d (parent adds h)) ((tree ds place adds all).period h)
          (scan_number place rh (cleared h c)) ((tree ds place adds all).share h)
          ((laws ds place adds all S).period_some h k) ((laws ds place adds all S).share_some h k) ranks
          (subst (λ n. scan_number place rh (cleared h c) < n) (settled j h u) less)

  -- a block of scan number below its group's count
  passed_beneath : (t : ℕ) → t ≤ total_chunks ds → (d : Table) → d (root (length ds)) ≡ t → Settled (tree ds place adds all) (ChildOf adds all) d (root (length ds))
      → (x : Numbered) → Has all x.of → x.number < d x.of → (c : List ℕ) → Below (counts ds) c
      → agrees x.of (scan_digits place (radix x.of (counts ds)) x.number) c ≡ true → scan_number place (counts ds) c < t
  passed_beneath t l d dt settled x k less c below agree =
      let (j, b, u) = under_root ds place adds all S x.of k in
      passed_above c below t d dt settled j x.of u (subst (λ n. n < d x.of) (number_is (counts_le ds place adds all S t l d dt settled j x.of u)) less)
    where
      rs : List ℕ
      rs = radix x.of (counts ds)

      at : List ℕ
      at = scan_digits place rs x.number

      lx : length x.of ≡ length ds
      lx = sized ds place adds all S x.of k

      long : length rs ≡ length ds
      long = length-radix x.of (counts ds) (lx ∙ sym counts_long) ∙ counts_long

      near : (i : ℕ) → i < length rs → place i < suc (length rs)
      near i m = rw long (omega (arith, S.order.within i (rw long at m)))

      separate : (i j : ℕ) → i < length rs → j < length rs → place i ≡ place j → i ≡ j
      separate i j mi mj q = S.order.distinct i j (rw long at mi) (rw long at mj) q

      within : Below rs at
      within = block_within ds place S.edged S.order x.of lx x.number

      at_is : at ≡ cleared x.of c
      at_is = sym (cleared_below x.of (counts ds) at within)
          ∙ cleared_from_agrees x.of at c (below_length rs at within ∙ (long ∙ sym (below_length (counts ds) c below ∙ counts_long))) agree

      number_is : d x.of ≤ product rs → x.number ≡ scan_number place rs (cleared x.of c)
      number_is m = sym (scan_of_digits place rs separate near x.number (omega arith)) ∙ ap (scan_number place rs) at_is

  -- the chunks beneath a block that the first t chunks release are among them
  pub chunks_passed : (t : ℕ) → t ≤ total_chunks ds
      → AllByRecursion (λ b. (c : List ℕ) → Below (counts ds) c → agrees b.of b.at c ≡ true → scan_number place (counts ds) c < t) (released_by ds place adds all t)
  chunks_passed t l =
      let (d, s) = state_all (tree ds place adds all) (root (length ds)) (ChildOf adds all) level (laws ds place adds all S) t in
      let (e, dt, settled) = state_none (tree ds place adds all) (root (length ds)) (ChildOf adds all) level (laws ds place adds all S) t _ _ d s in
      subst (AllByRecursion Passed) (sym (released_is ds place adds all S t l)) (All-map Passed (numbered_block ds place) numbers
      (all_both (λ x. Has all x.of) (λ x. x.number < d x.of) (λ x. Passed (numbered_block ds place x))
      (λ x k m. passed_beneath t l d dt settled x k m) numbers has
      (all_by_group (λ x. x.number < d x.of) numbers (λ h. subst (AllByRecursion (λ x. x.number < d x.of)) (sym (s.counts h))
      (All-map (λ x. x.number < d x.of) (numbered h) (range_with_len 0 (d h)) (all_counting (λ u. u < d h) 0 (d h) (λ u a b. omega arith)))))))
    where
      Passed : Block → Type 0
      Passed b = (c : List ℕ) → Below (counts ds) c → agrees b.of b.at c ≡ true → scan_number place (counts ds) c < t

      numbers : List Numbered
      numbers = numbered_by (tree ds place adds all) (root (length ds)) (level (root (length ds))) t

      has : AllByRecursion (λ x. Has all x.of) numbers
      has = all_unmap (λ b. Has all b.of) (numbered_block ds place) numbers
          (subst (AllByRecursion (λ b. Has all b.of)) (released_is ds place adds all S t l) (released_of_groups ds place adds all S t))
