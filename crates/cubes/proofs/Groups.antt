-- Groups and their masks: each group of n dimensions has its mask, and with any choice of parents all of them are the groups of a scan.
use Rattle.std.proofs.Common.{◌≡◌, ℕ, zero, suc, ◌+◌, ◌-◌, ◌*◌, ◌%◌, ◌^◌, ◌<◌, ◌≤◌, true, false, List, [], ◌∷◌, length, get_or, set, sym, refl, ap, ◌∙◌, subst, ⊎_elim, arith}
use Rattle.std.specs.List.{range_with_len, ContainsAt as Has, AllByRecursion}
use Rattle.std.proofs.ByRecursion.{All-map, All-get_or, all-has, All-weaker}
use Rattle.std.proofs.lemmas.List.{length-replicate, length-set}
use Rattle.std.proofs.lemmas.Bool.{cases_eq, true≢false}
use Rattle.std.proofs.lemmas.List.FromFn.{length-map-range_with_len, get_or-map-range_with_len}
use Rattle.shapes.specs.declared.dims.Dim.{Dim}
use Rattle.shapes.specs.Arrays.{Group, mask, group, groups, root}
use Rattle.plans.specs.Plans.{Edged, Lacks, others, Order, Parents, Least, plan_place, plan_adds}
use Rattle.shapes.specs.Limits.{Fit, Limits}
use Rattle.cubes.specs.Summaries.{Divided}
use Rattle.cubes.specs.Handing.{Distinct, lacks, parent, Grouped, Scan}
use Rattle.cubes.proofs.Listing.{all_always, distinct_map, distinct_counting}
use Rattle.plans.proofs.Sums.{all_counting}
use Rattle.shapes.proofs.Masks.{length-group, mask-group, group-mask}

pub mask_below : (g : Group) → mask g < 2 ^ length g
mask_below [] = omega arith
mask_below (true ∷ g) = let e : 2 ^ suc (length g) ≡ 2 * 2 ^ length g = omega arith in omega (arith, mask_below g)
mask_below (false ∷ g) = let e : 2 ^ suc (length g) ≡ 2 * 2 ^ length g = omega arith in omega (arith, mask_below g)

-- a group of n dimensions by its mask
pub mask_back : (n : ℕ) (h : Group) → length h ≡ n → group n (mask h) ≡ h
mask_back n h l = ap (λ k. group k (mask h)) (sym l) ∙ group-mask h

pub mask_within : (n : ℕ) (h : Group) → length h ≡ n → mask h < 2 ^ n
mask_within n h l = subst (λ k. mask h < 2 ^ k) l (mask_below h)

-- groups of one mask are one
pub mask_injective : (n : ℕ) (g h : Group) → length g ≡ n → length h ≡ n → mask g ≡ mask h → g ≡ h
mask_injective n g h lg lh e = sym (mask_back n g lg) ∙ (ap (group n) e ∙ mask_back n h lh)

pub mask_root : (n : ℕ) → suc (mask (root n)) ≡ 2 ^ n
mask_root zero = refl
mask_root (suc n) = let e : 2 ^ suc n ≡ 2 * 2 ^ n = omega arith in omega (arith, mask_root n)

-- the root's mask is the highest
pub root_of : (n m : ℕ) → m + 1 ≡ 2 ^ n → group n m ≡ root n
root_of n m e = ap (group n) (omega (arith, mask_root n)) ∙ mask_back n (root n) (length-replicate n true)

pub not_root_of : (n m : ℕ) → m + 1 < 2 ^ n → group n m ≡ root n → ⊥
not_root_of n m l e = omega (arith, sym (mask-group n m (omega arith)) ∙ ap mask e, mask_root n)

-- one dimension more
pub mask-set : (g : Group) (e : ℕ) → lacks g e ≡ true → mask (set g e true) ≡ mask g + 2 ^ e
mask-set [] zero l = absurd (true≢false (sym l))
mask-set [] (suc e) l = absurd (true≢false (sym l))
mask-set (true ∷ g) zero l = absurd (true≢false (sym l))
mask-set (false ∷ g) zero l = omega arith
mask-set (b ∷ g) (suc e) l = let q : 2 ^ suc e ≡ 2 * 2 ^ e = omega arith in omega (arith, mask-set g e l)

pub groups_have : (n : ℕ) (g : Group) → length g ≡ n → Has (groups n) g
groups_have n g l = (
  mask g,
  subst (λ k. mask g < k) (sym (length-map-range_with_len (group n) 0 (2 ^ n))) (mask_within n g l),
  λ d. get_or-map-range_with_len (group n) 0 (2 ^ n) (mask g) (mask g) d (mask_within n g l) (omega arith) ∙ mask_back n g l,
)

pub groups_once : (n : ℕ) → Distinct (groups n)
groups_once n = distinct_map (group n) (λ m. m < 2 ^ n) (λ a b l m e. sym (mask-group n a l) ∙ (ap mask e ∙ mask-group n b m)) (range_with_len 0 (2 ^ n))
    (all_counting (λ m. m < 2 ^ n) 0 (2 ^ n) (λ u a b. omega arith)) (distinct_counting 0 (2 ^ n))

pub groups_sized : (n : ℕ) → AllByRecursion (λ g. length g ≡ n) (groups n)
groups_sized n = All-map (λ g. length g ≡ n) (group n) (range_with_len 0 (2 ^ n)) (all_always (λ m. length (group n m) ≡ n) (length-group n) (range_with_len 0 (2 ^ n)))

-- a choice of parents at a group
pub parents_at : (ds : List Dim) (adds : Group → ℕ) → Parents ds adds → (h : Group) → length h ≡ length ds → (h ≡ root (length ds) → ⊥) → Lacks ds h (adds h)
parents_at ds adds parents h l n = subst (λ g. Lacks ds g (adds g)) here
    (All-get_or (λ g. Lacks ds g (adds g)) (others ds) (mask h) []
    (subst (λ k. mask h < k) (sym (length-map-range_with_len (group (length ds)) 0 (2 ^ length ds - 1))) less) parents)
  where
    less : mask h < 2 ^ length ds - 1
    less = ⊎_elim (λ e. absurd (n (mask_injective (length ds) h (root (length ds)) l (length-replicate (length ds) true) e)))
        (λ ne. omega (arith, mask_within (length ds) h l, mask_root (length ds))) (cases_eq (mask h) (mask (root (length ds))))

    here : get_or (others ds) (mask h) [] ≡ h
    here = get_or-map-range_with_len (group (length ds)) 0 (2 ^ length ds - 1) (mask h) (mask h) [] less (omega arith) ∙ mask_back (length ds) h l

-- all groups, with any choice of parents
pub lattice_scan : (ds : List Dim) (place : ℕ → ℕ) (adds : Group → ℕ) → Edged ds → Order ds place → Parents ds adds → Scan ds place adds (groups (length ds))
lattice_scan ds place adds edged order parents = record { edged = edged; order = order; grouped = grouped }
  where
    sized : (h : Group) → Has (groups (length ds)) h → length h ≡ length ds
    sized h k = all-has (λ g. length g ≡ length ds) (groups (length ds)) h (groups_sized (length ds)) k

    grouped : Grouped ds adds (groups (length ds))
    grouped = record {
      sized = groups_sized (length ds);
      once = groups_once (length ds);
      has_root = groups_have (length ds) (root (length ds)) (length-replicate (length ds) true);
      lacking = λ h k n. parents_at ds adds parents h (sized h k) n;
      has_parent = λ h k n. groups_have (length ds) (parent adds h) (length-set h (adds h) true ∙ sized h k);
    }

-- the plan of a shape is one such choice
pub plan_scan : (ds : List Dim) → Edged ds → Least ds → Scan ds (plan_place ds) (plan_adds ds) (groups (length ds))
plan_scan ds edged least = lattice_scan ds (plan_place ds) (plan_adds ds) edged least.order least.parents

pub limits_divided : (ds : List Dim) → Limits ds → Divided ds
limits_divided ds limits = All-weaker Fit (λ d. (1 ≤ d.edge) × (d.edge ≤ d.size) × (d.size % d.edge ≡ 0)) (λ d f. (f.2, f.3, f.4)) ds limits.each

pub limits_edged : (ds : List Dim) → Limits ds → Edged ds
limits_edged ds limits = All-weaker Fit (λ d. (1 ≤ d.edge) × (d.edge ≤ d.size)) (λ d f. (f.2, f.3)) ds limits.each
