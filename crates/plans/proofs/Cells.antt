-- The cells of a group and the need, as chains multiply and add them up.
use Rattle.std.proofs.Common.{◌≡◌, ℕ, ◌+◌, ◌-◌, ◌*◌, ◌^◌, ◌<◌, ◌≤◌, Bool, true, false, cond, ltb, List, [], ◌∷◌, map, length, get_or, take, Option, zero, suc, sum, fold, sym, ap, ap₂, subst, ◌∙◌, mul_assoc, one-mul, le_refl, mul-le-mul, arith}
use native.Mathlib.Nat.{one-le-mul}
use Rattle.std.specs.List.{range_with_len, zip, AllByRecursion}
use Rattle.std.specs.Iterator.Runs.{EachRunFrom, YieldsRun}
use Rattle.std.proofs.lemmas.Iterator.{YieldsList}
use Rattle.std.proofs.lemmas.Iterator.Consumers.{YieldsList-so_far}
use Rattle.std.proofs.lemmas.List.{map-id, length-map, get_or-map}
use Rattle.std.proofs.lemmas.List.FromFn.{fill_by_all}
use Rattle.std.proofs.lemmas.Simd.{map-map}
use Rattle.std.proofs.lemmas.Slice.Zip.{get_or-zip, length-zip}
use Rattle.std.proofs.ByRecursion.{All-map, All-get_or}
use Rattle.shapes.specs.declared.dims.Dim.{Dim}
use Rattle.shapes.specs.Arrays.{Group, none_dim, dim, numbers, volume, product, keeps, group}
use Rattle.shapes.proofs.Masks.{length-group}
use Rattle.plans.specs.Plans.{Edged, share, cells, plan_place, plan_adds, plan_need}
use Rattle.plans.proofs.Sums.{all_counting}
use Rattle.plans.proofs.Dims.{same_flags, places_long, place_at}

-- a product from the left, and that of a front of factors from 1 up
fold_product : (a : ℕ) (xs : List ℕ) → fold (λ b x. b * x) a xs ≡ a * product xs
fold_product a [] = omega arith
fold_product a (x ∷ xs) = fold_product (a * x) xs ∙ mul_assoc a x (product xs)

pub product_of : (xs : List ℕ) → fold (λ a x. a * x) 1 xs ≡ product xs
product_of xs = fold_product 1 xs ∙ one-mul (product xs)

front_product : (k : ℕ) (xs : List ℕ) → AllByRecursion (λ x. 1 ≤ x) xs → (1 ≤ product xs) × (product (take k xs) ≤ product xs)
front_product zero [] h = (omega arith, omega arith)
front_product (suc k) [] h = (omega arith, omega arith)
front_product zero (x ∷ xs) h = let r = one-le-mul h.0 (front_product 0 xs h.1).0 in (r, r)
front_product (suc k) (x ∷ xs) h = let r = front_product k xs h.1 in (one-le-mul h.0 r.0, mul-le-mul (le_refl x) r.1)

-- so a product by `product()` fits where that of all factors does
pub product_fits : {S : Type 0} {steps : S → Option ℕ → S → Type 0} {s : S} {all : List ℕ} (top : ℕ) → YieldsList steps (λ x. x) s all → AllByRecursion (λ x. 1 ≤ x) all → product all < top
    → EachRunFrom steps s (λ p. fold (λ a x. a * x) 1 p.items < top)
unfolding YieldsRun
product_fits {steps = steps} {all = all} top chain ones low p _ e =
    let front = YieldsList-so_far (subst (λ t. YieldsList steps (λ x. x) t all) (sym e) chain) p.items p.gave.0.0 p.gave.0.1 in
    omega (arith, product_of p.items, ap product (sym (map-id p.items) ∙ front), (front_product (length p.items) all ones).1)

-- what a dimension brings to the cells of a group, beside its place and whether the group keeps it, where the parent adds the dimension at the place `first`
abbrev pub brought : ℕ → (Dim × ℕ) × Bool → ℕ
brought first p = cond p.1 (cond (ltb p.0.1 first) p.0.0.size p.0.0.edge) 1

module _ (ds : List Dim) (edged : Edged ds) (few : length ds ≤ 6) (ps : List ℕ) (placed : ps ≡ map (plan_place ds) (numbers ds)) where
  module _ (m : ℕ) (e first : ℕ) (inside : e < length ds) (at : first ≡ get_or ps e 0) where
    g : Group
    g = group 6 m

    long : length g ≡ 6
    unfolding g
    long = length-group 6 m

    flagged : (i : ℕ) → i < length ds → get_or g i false ≡ keeps (group (length ds) m) i
    unfolding g
    flagged i l = same_flags (length ds) m i few l

    zip_long : length (zip ds ps) ≡ length ds
    zip_long = omega (arith, length-zip ds ps, places_long ds ps placed)

    shares_long : length (zip (zip ds ps) g) ≡ length ds
    shares_long = omega (arith, length-zip (zip ds ps) g, zip_long, long)

    zip_at : (k : ℕ) → k < length ds → get_or (zip (zip ds ps) g) k ((none_dim, 0), false) ≡ ((dim ds k, plan_place ds k), keeps (group (length ds) m) k)
    zip_at k l =
        get_or-zip (zip ds ps) g k ((none_dim, 0), false) (omega (arith, zip_long)) (omega (arith, long))
        ∙ ap₂ (λ (p : Dim × ℕ) (b : Bool). (p, b)) (get_or-zip ds ps k (none_dim, 0) l (omega (arith, places_long ds ps placed)) ∙ ap (λ p. (dim ds k, p)) (place_at ds ps placed k l)) (flagged k l)

    shares_are : map (brought first) (zip (zip ds ps) g) ≡ map (share ds (plan_place ds) (group (length ds) m) e) (numbers ds)
    shares_are =
        fill_by_all (share ds (plan_place ds) (group (length ds) m) e) (map (brought first) (zip (zip ds ps) g)) (length ds) 1 (length-map (zip (zip ds ps) g) (brought first) ∙ shares_long)
        (λ k l. get_or-map (brought first) (zip (zip ds ps) g) k ((none_dim, 0), false) 1 (omega (arith, shares_long))
        ∙ (ap (brought first) (zip_at k l)
        ∙ ap (λ x. cond (keeps (group (length ds) m) k) (cond (ltb (plan_place ds k) x) (dim ds k).size (dim ds k).edge) 1) (at ∙ place_at ds ps placed e inside)))

    pub shares_product : product (map (brought first) (zip (zip ds ps) (group 6 m))) ≡ cells ds (plan_place ds) (group (length ds) m) e
    unfolding g
    shares_product = ap product shares_are

    pub shares_some : AllByRecursion (λ x. 1 ≤ x) (map (brought first) (zip (zip ds ps) (group 6 m)))
    unfolding g
    shares_some =
        rw shares_are (All-map (λ x. 1 ≤ x) (share ds (plan_place ds) (group (length ds) m) e) (numbers ds) (all_counting (λ i. 1 ≤ share ds (plan_place ds) (group (length ds) m) e i) 0 (length ds) (λ i _ l. some i (omega arith))))
      where
        some : (i : ℕ) → i < length ds → 1 ≤ share ds (plan_place ds) (group (length ds) m) e i
        some i l = go (keeps (group (length ds) m) i) (ltb (plan_place ds i) (plan_place ds e)) (All-get_or (λ (d : Dim). (1 ≤ d.edge) × (d.edge ≤ d.size)) ds i none_dim l edged)
          where
            go : (b c : Bool) → (1 ≤ (dim ds i).edge) × ((dim ds i).edge ≤ (dim ds i).size) → 1 ≤ cond b (cond c (dim ds i).size (dim ds i).edge) 1
            go true true h = omega (arith, h.0, h.1)
            go true false h = h.0
            go false c h = omega arith

-- the need is the cells of a chunk and those of every other group, by mask
unfoldable pub group_need : List Dim → ℕ → ℕ
group_need ds m = cells ds (plan_place ds) (group (length ds) m) (plan_adds ds (group (length ds) m))

pub need_by_mask : (ds : List Dim) → volume ds + sum (map (group_need ds) (range_with_len 0 (2 ^ length ds - 1))) ≡ plan_need ds
unfolding group_need
need_by_mask ds = ap (λ ms. volume ds + sum ms) (sym (map-map (λ g. cells ds (plan_place ds) g (plan_adds ds g)) (group (length ds)) (range_with_len 0 (2 ^ length ds - 1))))
