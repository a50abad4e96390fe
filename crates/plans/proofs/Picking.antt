-- The search for the missing dimension of earliest place, as a chain folds it.
use Rattle.std.proofs.Common.{◌≡◌, ℕ, suc, ◌+◌, ◌^◌, ◌≤◌, ◌<◌, Bool, true, false, cond, not, ◌&&◌, ltb, ◌⊎◌, inl, inr, List, [], ◌∷◌, map, length, get_or, fold, refl, sym, ◌∙◌, subst, le_refl, arith}
use Rattle.std.specs.List.{enumerate_from, zip}
use Rattle.std.proofs.lemmas.Bool.{cases_lt, lt-ltb, le-ltb, true≢false}
use Rattle.shapes.specs.declared.dims.Dim.{Dim}
use Rattle.shapes.specs.Arrays.{Group, numbers, keeps, group}
use Rattle.shapes.proofs.Masks.{length-group}
use Rattle.plans.specs.Plans.{plan_place, plan_adds}
use Rattle.plans.proofs.Earliest.{earliest_is, Found, found_none, found_same, found_new, found_all}
use Rattle.plans.proofs.Places.{plan_order}
use Rattle.plans.proofs.Dims.{same_flags, places_long, place_at}

-- one step: a dimension that the group lacks and that is placed before the best so far is the best
abbrev pub better : ℕ × ℕ → ℕ × (ℕ × Bool) → ℕ × ℕ
better a p = cond (not p.1.1 && ltb p.1.0 a.1) (p.0, p.1.0) a

found_step : (p : ℕ → ℕ) (n : ℕ) (g : Group) (most i x : ℕ) (b : Bool) (a : ℕ × ℕ) → i < n → x ≡ p i → b ≡ keeps g i → Found p n g most i a.0 a.1
    → Found p n g most (i + 1) (better a (i, (x, b))).0 (better a (i, (x, b))).1
found_step p n g most i x true a l at flag f = found_same p n g most i a.0 a.1 a.0 a.1 (λ q. absurd (true≢false (flag ∙ q))) refl refl f
found_step p n g most i x false a l at flag f = go (cases_lt x a.1)
  where
    go : (x < a.1) ⊎ (a.1 ≤ x) → Found p n g most (i + 1) (cond (ltb x a.1) (i, x) a).0 (cond (ltb x a.1) (i, x) a).1
    go (inl h) = rw (lt-ltb x a.1 h) (found_new p n g most i a.0 a.1 i x l (sym flag) (omega arith) refl at f)
    go (inr h) = rw (le-ltb x a.1 h) (found_same p n g most i a.0 a.1 a.0 a.1 (λ q. omega arith) refl refl f)

found_each : (p : ℕ → ℕ) (n : ℕ) (g : Group) (most : ℕ) (ps : List ℕ) (fs : Group) (i : ℕ) (a : ℕ × ℕ) → i + length ps ≡ n → length ps ≤ length fs
    → ((k : ℕ) → k < length ps → get_or ps k 0 ≡ p (i + k)) → ((k : ℕ) → k < length ps → get_or fs k false ≡ keeps g (i + k)) → Found p n g most i a.0 a.1
    → Found p n g most n (fold better a (enumerate_from i (zip ps fs))).0 (fold better a (enumerate_from i (zip ps fs))).1
found_each p n g most [] fs i a e l at flag f = let q : i ≡ n = omega arith in subst (λ j. Found p n g most j a.0 a.1) q f
found_each p n g most (x ∷ ps) [] i a e l at flag f = absurd (omega arith)
found_each p n g most (x ∷ ps) (b ∷ fs) i a e l at flag f =
    let z : i + 0 ≡ i = omega arith in
    found_each p n g most ps fs (i + 1) (better a (i, (x, b))) (omega arith) (omega arith)
    (λ k h. let q : i + 1 + k ≡ i + suc k = omega arith in rw q (at (suc k) (omega arith)))
    (λ k h. let q : i + 1 + k ≡ i + suc k = omega arith in rw q (flag (suc k) (omega arith)))
    (found_step p n g most i x b a (omega arith) (rw z at (at 0 (omega arith))) (rw z at (flag 0 (omega arith))) f)

-- with the plan's places, what the search finds is the dimension that the plan's parent adds
pub picked_first : (ds : List Dim) (few : length ds ≤ 6) (ps : List ℕ) (placed : ps ≡ map (plan_place ds) (numbers ds)) (m : ℕ) → m + 1 < 2 ^ length ds
    → ((fold better (0, 4294967295) (enumerate_from 0 (zip ps (group 6 m)))).0 < length ds)
    × ((fold better (0, 4294967295) (enumerate_from 0 (zip ps (group 6 m)))).0 ≡ plan_adds ds (group (length ds) m))
picked_first ds few ps placed m h =
    let n = length ds in
    let p = plan_place ds in
    let g = group n m in
    let long = places_long ds ps placed in
    let r = fold better (0, 4294967295) (enumerate_from 0 (zip ps (group 6 m))) in
    found_all p n m 4294967295 n r.0 r.1 (plan_order ds).distinct (λ k l. omega (arith, ((plan_order ds).within k l).1)) h (le_refl n)
    (found_each p n g 4294967295 ps (group 6 m) 0 (0, 4294967295) (omega (arith, long)) (omega (arith, long, length-group 6 m))
    (λ k l. let q : 0 + k ≡ k = omega arith in rw q (place_at ds ps placed k (omega (arith, long))))
    (λ k l. let q : 0 + k ≡ k = omega arith in rw q (same_flags n m k few (omega (arith, long))))
    (found_none p n g 4294967295 0))

pub adds_inside : (ds : List Dim) (m : ℕ) → m + 1 < 2 ^ length ds → plan_adds ds (group (length ds) m) < length ds
adds_inside ds m h = (earliest_is (plan_place ds) (length ds) m h).inside
