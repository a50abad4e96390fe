-- The groups of a scan are a tree that keeps the laws of the machine, and the release by blocks is the release by numbers.
use Rattle.std.proofs.Common.{◌≡◌, ℕ, zero, suc, ◌+◌, ◌%◌, ◌<◌, ◌≤◌, Bool, true, false, cond, not, eqb, List, [], ◌∷◌, map, length, get_or, set, sym, refl, ap, ◌∙◌, subst, ⊎_elim, arith}
use Rattle.std.specs.List.{range_with_len, flat_map, ContainsAt as Has, AllByRecursion}
use Rattle.std.proofs.ByRecursion.{all-has, all_has_itself, All-weaker, all_kept_by, kept_by_passes}
use Rattle.std.proofs.lemmas.Bool.{true≢false, and_parts, and_from, not-true}
use Rattle.std.proofs.lemmas.List.{length-set, length-map, get_or_default}
use Rattle.shapes.specs.declared.dims.Dim.{Dim}
use Rattle.shapes.specs.Arrays.{Group, product, radix, counts, chunks, keeps, root}
use Rattle.plans.specs.Plans.{Order}
use Rattle.cubes.specs.Scans.{scan_number, scan_digits}
use Rattle.cubes.specs.Handing.{same_group, lacks, parent, child, children, completes, region, release, Scan}
use Rattle.cubes.specs.Control.{numbered_block, tree}
use Rattle.shapes.proofs.Radixes.{length-radix}
use Rattle.cubes.proofs.ScanNumbers.{scan_of_digits}
use Rattle.cubes.proofs.Machine.{same_group_true, same_group_refl, same_group_ne, cases_group, TreeLaws, Under, release_numbers, child_part, due_from}
use Rattle.cubes.proofs.Completions.{period_positive, share_positive, completes_is, region_is, region_within}
use Rattle.cubes.proofs.Listing.{all_both, distinct_kept, joined_like, joined_map_like, has_kept}
use Rattle.plans.proofs.Sums.{all_counting}

-- a group that has a parent in the scan
abbrev pub ChildOf : (Group → ℕ) → List Group → Group → Type 0
ChildOf adds all h = Has all h × (lacks h (adds h) ≡ true)

-- how many dimensions a group keeps
abbrev pub level : Group → ℕ
level [] = 0
level (true ∷ g) = suc (level g)
level (false ∷ g) = level g

pub level_root : (n : ℕ) → level (root n) ≡ n
level_root zero = refl
level_root (suc n) = ap suc (level_root n)

pub level_le : (h : Group) → level h ≤ length h
level_le [] = omega arith
level_le (true ∷ h) = omega (arith, level_le h)
level_le (false ∷ h) = omega (arith, level_le h)

pub level_set : (h : Group) (e : ℕ) → lacks h e ≡ true → level (set h e true) ≡ suc (level h)
level_set [] zero l = absurd (true≢false (sym l))
level_set [] (suc e) l = absurd (true≢false (sym l))
level_set (true ∷ h) zero l = absurd (true≢false (sym l))
level_set (false ∷ h) zero l = refl
level_set (true ∷ h) (suc e) l = ap suc (level_set h e l)
level_set (false ∷ h) (suc e) l = level_set h e l

pub root_keeps : (n e : ℕ) → lacks (root n) e ≡ false
root_keeps zero e = refl
root_keeps (suc n) zero = refl
root_keeps (suc n) (suc e) = root_keeps n e

pub radix_root : (ks : List ℕ) → radix (root (length ks)) ks ≡ ks
radix_root [] = refl
radix_root (k ∷ ks) = ap (λ rs. k ∷ rs) (radix_root ks)

pub radix_root_counts : (ds : List Dim) → radix (root (length ds)) (counts ds) ≡ counts ds
radix_root_counts ds = ap (λ n. radix (root n) (counts ds)) (sym (length-map ds chunks)) ∙ radix_root (counts ds)

-- the blocks of two scan numbers differ
pub scan_digits_same : (ds : List Dim) (place : ℕ → ℕ) → Order ds place → (g : Group) → length g ≡ length ds → (s u : ℕ) → s < product (radix g (counts ds))
    → u < product (radix g (counts ds))
    → scan_digits place (radix g (counts ds)) s ≡ scan_digits place (radix g (counts ds)) u → s ≡ u
scan_digits_same ds place order g lg s u ls lu e =
    sym (scan_of_digits place rs separate inside s ls) ∙ (ap (scan_number place rs) e ∙ scan_of_digits place rs separate inside u lu)
  where
    rs : List ℕ
    rs = radix g (counts ds)

    long : length rs ≡ length ds
    long = length-radix g (counts ds) (lg ∙ sym (length-map ds chunks)) ∙ length-map ds chunks

    inside : (i : ℕ) → i < length rs → place i < suc (length rs)
    inside i m = rw long (omega (arith, order.within i (rw long at m)))

    separate : (i j : ℕ) → i < length rs → j < length rs → place i ≡ place j → i ≡ j
    separate i j mi mj q = order.distinct i j (rw long at mi) (rw long at mj) q

-- a group lacks a dimension as a test and as a fact
pub lacks_inside : (h : Group) (e : ℕ) → lacks h e ≡ true → e < length h
lacks_inside [] e l = absurd (true≢false (sym l))
lacks_inside (b ∷ h) zero l = omega arith
lacks_inside (b ∷ h) (suc e) l = omega (arith, lacks_inside h e l)

pub lacks_keeps : (h : Group) (e : ℕ) → lacks h e ≡ true → keeps h e ≡ false
lacks_keeps h e l = get_or_default h e false true (lacks_inside h e l) ∙ not-true (get_or h e true) l

pub keeps_lacks : (h : Group) (e : ℕ) → e < length h → keeps h e ≡ false → lacks h e ≡ true
keeps_lacks h e l k = ap not (get_or_default h e true false l ∙ k)

module _ (ds : List Dim) (place : ℕ → ℕ) (adds : Group → ℕ) (all : List Group) (S : Scan ds place adds all) where
  pub sized : (h : Group) → Has all h → length h ≡ length ds
  sized h k = all-has (λ g. length g ≡ length ds) all h S.grouped.sized k

  -- each group but the root has its parent
  pub is_child : (h : Group) → Has all h → (h ≡ root (length ds) → ⊥) → ChildOf adds all h
  is_child h k n = let l = S.grouped.lacking h k n in (k, keeps_lacks h (adds h) (rw (sized h k) l.0) l.1)

  pub lacking_not_root : (h : Group) → lacks h (adds h) ≡ true → h ≡ root (length ds) → ⊥
  lacking_not_root h l e = true≢false (sym l ∙ (ap (λ g. lacks g (adds h)) e ∙ root_keeps (length ds) (adds h)))

  pub parent_has : (h : Group) → ChildOf adds all h → Has all (parent adds h)
  parent_has h k = S.grouped.has_parent h k.0 (lacking_not_root h k.1)

  pub children_are : (g : Group) → AllByRecursion (λ h. ChildOf adds all h × (parent adds h ≡ g)) (children adds all g)
  children_are g = all_both (λ h. child adds g h ≡ true) (Has all) (λ h. ChildOf adds all h × (parent adds h ≡ g))
      (λ h c k. let (a, b) = and_parts (lacks h (adds h)) (same_group (parent adds h) g) c in ((k, a), same_group_true (parent adds h) g b))
      (children adds all g) (kept_by_passes (child adds g) all) (all_kept_by (child adds g) (Has all) all (all_has_itself all))

  children_have : (h : Group) → ChildOf adds all h → Has (children adds all (parent adds h)) h
  children_have h k = let (i, l, g) = k.0 in
      has_kept (child adds (parent adds h)) h
      (and_from (lacks h (adds h)) (same_group (parent adds h) (parent adds h)) k.1 (same_group_refl (parent adds h))) all i l g

  child_not_root : (h : Group) → ChildOf adds all h → same_group h (root (length ds)) ≡ false
  child_not_root h k = same_group_ne h (root (length ds)) (lacking_not_root h k.1)

  -- the dimension added is there
  pub inside : (h : Group) → ChildOf adds all h → adds h < length ds
  inside h k = subst (λ n. adds h < n) (sized h k.0) (lacks_inside h (adds h) k.1)

  pub laws : TreeLaws (tree ds place adds all) (root (length ds)) (ChildOf adds all) level
  laws = record {
    root_is = same_group_refl (root (length ds));
    child_not_root = child_not_root;
    children_are = children_are;
    children_have = children_have;
    children_once = λ g. distinct_kept (child adds g) all S.grouped.once;
    level_up = λ h k. level_set h (adds h) k.1;
    period_some = λ h k. period_positive ds place S.edged S.order adds h (sized h k.0) (inside h k) (lacks_keeps h (adds h) k.1);
    share_some = λ h k. share_positive ds place S.edged S.order adds h (sized h k.0) (inside h k) (lacks_keeps h (adds h) k.1);
  }

  -- every group of the scan is below the root
  pub placed : (m : ℕ) (h : Group) → Has all h → level h + m ≡ length ds → (j : ℕ) × (j ≤ m)
      × Under (tree ds place adds all) (ChildOf adds all) j (root (length ds)) h
  placed zero h k e = ⊎_elim (λ p. (0, omega arith, p))
      (λ n. absurd (omega (arith, level_set h (adds h) (is_child h k n).1, level_le (parent adds h), length-set h (adds h) true, sized h k)))
      (cases_group h (root (length ds)))
  placed (suc m) h k e = ⊎_elim (λ p. (0, omega arith, p))
      (λ n. let (j, b, u) = placed m (parent adds h) (parent_has h (is_child h k n)) (omega (arith, level_set h (adds h) (is_child h k n).1)) in
      (suc j, omega arith, (is_child h k n, u)))
      (cases_group h (root (length ds)))

  child_like : (f s : ℕ) (h : Group) → ChildOf adds all h → s < product (radix (parent adds h) (counts ds))
      → ((ss : List ℕ) → AllByRecursion (λ u. u < product (radix h (counts ds))) ss
      → release ds place adds all f h (map (scan_digits place (radix h (counts ds))) ss)
      ≡ map (numbered_block ds place) (release_numbers (tree ds place adds all) f h ss))
      → cond (completes ds place adds h (scan_digits place (radix (parent adds h) (counts ds)) s))
      (release ds place adds all f h (region ds place adds h (scan_digits place (radix (parent adds h) (counts ds)) s))) []
      ≡ map (numbered_block ds place) (child_part (release_numbers (tree ds place adds all) f) (tree ds place adds all) s h)
  child_like f s h k below ih =
      ap (λ b. cond b (release ds place adds all f h (region ds place adds h (scan_digits place (radix (parent adds h) (counts ds)) s))) [])
      (completes_is ds place S.edged S.order adds h (sized h k.0) (inside h k) (lacks_keeps h (adds h) k.1) s)
      ∙ (ap (λ bs. cond ends (release ds place adds all f h bs) [])
      (region_is ds place S.edged S.order adds h (sized h k.0) (inside h k) (lacks_keeps h (adds h) k.1) s below)
      ∙ step ends (ih numbers_of (all_counting (λ u. u < product (radix h (counts ds))) (due_from (tree ds place adds all) s h) ((tree ds place adds all).share h)
      (λ u a b. region_within ds place S.edged S.order adds h (sized h k.0) (inside h k) (lacks_keeps h (adds h) k.1) s u below b))))
    where
      ends : Bool
      ends = eqb (suc s % (tree ds place adds all).period h) 0

      numbers_of : List ℕ
      numbers_of = range_with_len (due_from (tree ds place adds all) s h) ((tree ds place adds all).share h)

      step : (b : Bool) → release ds place adds all f h (map (scan_digits place (radix h (counts ds))) numbers_of)
          ≡ map (numbered_block ds place) (release_numbers (tree ds place adds all) f h numbers_of)
          → cond b (release ds place adds all f h (map (scan_digits place (radix h (counts ds))) numbers_of)) []
          ≡ map (numbered_block ds place) (cond b (release_numbers (tree ds place adds all) f h numbers_of) [])
      step true e = e
      step false e = refl

  -- a release by blocks is the release by their numbers
  pub release_is : (f : ℕ) (g : Group) (ss : List ℕ) → AllByRecursion (λ s. s < product (radix g (counts ds))) ss
      → release ds place adds all f g (map (scan_digits place (radix g (counts ds))) ss)
      ≡ map (numbered_block ds place) (release_numbers (tree ds place adds all) f g ss)
  unfolding release release_numbers
  release_is zero g ss a = refl
  release_is (suc f) g ss a = joined_map_like
      (λ b. record { of = g; at = b } ∷ flat_map (λ h. cond (completes ds place adds h b) (release ds place adds all f h (region ds place adds h b)) [])
      (children adds all g))
      (scan_digits place (radix g (counts ds))) (numbered_block ds place)
      (λ s. record { of = g; number = s } ∷ flat_map (child_part (release_numbers (tree ds place adds all) f) (tree ds place adds all) s) (children adds all g))
      ss (All-weaker (λ s. s < product (radix g (counts ds))) _ (λ s below. ap (λ ys. record { of = g; at = scan_digits place (radix g (counts ds)) s } ∷ ys)
      (joined_like (λ h. cond (completes ds place adds h (scan_digits place (radix g (counts ds)) s))
      (release ds place adds all f h (region ds place adds h (scan_digits place (radix g (counts ds)) s))) [])
      (numbered_block ds place) (child_part (release_numbers (tree ds place adds all) f) (tree ds place adds all) s) (children adds all g)
      (All-weaker (λ h. ChildOf adds all h × (parent adds h ≡ g))
      (λ h. cond (completes ds place adds h (scan_digits place (radix g (counts ds)) s))
      (release ds place adds all f h (region ds place adds h (scan_digits place (radix g (counts ds)) s))) []
      ≡ map (numbered_block ds place) (child_part (release_numbers (tree ds place adds all) f) (tree ds place adds all) s h))
      (λ h k. subst (λ p. s < product (radix p (counts ds))
      → cond (completes ds place adds h (scan_digits place (radix p (counts ds)) s))
      (release ds place adds all f h (region ds place adds h (scan_digits place (radix p (counts ds)) s))) []
      ≡ map (numbered_block ds place) (child_part (release_numbers (tree ds place adds all) f) (tree ds place adds all) s h)) k.1
      (λ b. child_like f s h k.0 b (λ us us_below. release_is f h us us_below)) below)
      (children adds all g) (children_are g)))) ss a)
