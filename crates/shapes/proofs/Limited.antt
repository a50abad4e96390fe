-- What the check of a shape finds, and the limits that a shape keeps.
use Rattle.std.proofs.Common.{◌≡◌, ℕ, ◌+◌, ◌^◌, ◌<◌, ◌≤◌, Bool, true, false, ◌||◌, ltb, ◌⊎◌, ◌↔◌, List, [], ◌∷◌, length, get_or, is_ok, Some, None, Ok, Err, Option, Result, sym, refl, ap, ◌∙◌, subst, ⊎_elim, arith, MatchResult}
use Rattle.std.specs.List.{AllByRecursion}
use Rattle.std.proofs.lemmas.Bool.Decides.{nat_tests}
use Rattle.std.proofs.ByRecursion.{All-get_or}
use Rattle.std.proofs.lemmas.List.{get_or_past}
use Rattle.std.proofs.lemmas.Bool.{lt-ltb, le-ltb, cases_lt}
use Rattle.shapes.specs.declared.dims.Dim.{Dim}
use Rattle.shapes.specs.Arrays.{volume, extent, none_dim}
use Rattle.shapes.specs.Views.{six}
use Rattle.shapes.proofs.Sixes.{six_at}
use Rattle.shapes.specs.Limits.{Fit, Limits, Refusal, or_else, refused_if, dim_fault, dims_fault, shape_fault}

pub fit_from : (i : ℕ) (d : Dim) → dim_fault i d ≡ None → Fit d
fit_from i d h = (grind (arith, nat_tests), grind (arith, nat_tests), grind (arith, nat_tests), grind (arith, nat_tests), grind (arith, nat_tests))

pub fit_fault : (i : ℕ) (d : Dim) → Fit d → dim_fault i d ≡ None
fit_fault i d f = let a = f.0 in let b = f.1 in let p = f.2 in let q = f.3 in let r = f.4 in grind (arith, nat_tests)

-- of two checks in turn
pub both_none : {X : Type 0} (o p : Option X) → or_else o p ≡ None → (o ≡ None) × (p ≡ None)
both_none (Some x) p h = (h, cc)
both_none None p h = (refl, h)

pub fits_from : (i : ℕ) (ds : List Dim) → dims_fault i ds ≡ None → AllByRecursion Fit ds
fits_from i [] h = tt
fits_from i (d ∷ ds) h = let b = both_none (dim_fault i d) (dims_fault (i + 1) ds) h in (fit_from i d b.0, fits_from (i + 1) ds b.1)

pub fits_fault : (i : ℕ) (ds : List Dim) → AllByRecursion Fit ds → dims_fault i ds ≡ None
fits_fault i [] f = refl
fits_fault i (d ∷ ds) f = ap (λ o. or_else o (dims_fault (i + 1) ds)) (fit_fault i d f.0) ∙ fits_fault (i + 1) ds f.1

-- a test that passes or fails decides a refusal
pub refused_on : (b : Bool) (r : Refusal) → b ≡ true → refused_if b r ≡ Some r
refused_on true r h = refl
refused_on false r h = cc

pub refused_off : (b : Bool) (r : Refusal) → b ≡ false → refused_if b r ≡ None
refused_off true r h = cc
refused_off false r h = refl

pub off_by : (b : Bool) (r : Refusal) → refused_if b r ≡ None → b ≡ false
off_by true r h = let z : ◌≡◌ {A = ℕ} 0 1 = cc in absurd (omega arith)
off_by false r h = refl

module _ (ds : List Dim) where
  pub shape_miscounted : (length ds < 1) ⊎ (6 < length ds) → shape_fault ds ≡ Some (1, [])
  shape_miscounted h =
      let o : (ltb (length ds) 1 || ltb 6 (length ds)) ≡ true = grind (arith, nat_tests) in
      ap (λ b. or_else (refused_if b (1, [])) (or_else (dims_fault 0 ds) (or_else (refused_if (ltb 16384 (volume ds)) (5, [])) (refused_if (ltb (2 ^ 34) (extent ds)) (6, []))))) o

  pub shape_counted : 1 ≤ length ds → length ds ≤ 6 → shape_fault ds ≡ or_else (dims_fault 0 ds) (or_else (refused_if (ltb 16384 (volume ds)) (5, [])) (refused_if (ltb (2 ^ 34) (extent ds)) (6, [])))
  shape_counted a b =
      let o : (ltb (length ds) 1 || ltb 6 (length ds)) ≡ false = grind (arith, nat_tests) in
      ap (λ b. or_else (refused_if b (1, [])) (or_else (dims_fault 0 ds) (or_else (refused_if (ltb 16384 (volume ds)) (5, [])) (refused_if (ltb (2 ^ 34) (extent ds)) (6, []))))) o

  pub shape_unfit : 1 ≤ length ds → length ds ≤ 6 → (r : Refusal) → dims_fault 0 ds ≡ Some r → shape_fault ds ≡ Some r
  shape_unfit a b r h = shape_counted a b ∙ ap (λ o. or_else o (or_else (refused_if (ltb 16384 (volume ds)) (5, [])) (refused_if (ltb (2 ^ 34) (extent ds)) (6, [])))) h

  pub shape_fitting : 1 ≤ length ds → length ds ≤ 6 → dims_fault 0 ds ≡ None → shape_fault ds ≡ or_else (refused_if (ltb 16384 (volume ds)) (5, [])) (refused_if (ltb (2 ^ 34) (extent ds)) (6, []))
  shape_fitting a b h = shape_counted a b ∙ ap (λ o. or_else o (or_else (refused_if (ltb 16384 (volume ds)) (5, [])) (refused_if (ltb (2 ^ 34) (extent ds)) (6, [])))) h

  pub shape_voluminous : 1 ≤ length ds → length ds ≤ 6 → dims_fault 0 ds ≡ None → 16384 < volume ds → shape_fault ds ≡ Some (5, [])
  shape_voluminous a b h v =
      shape_fitting a b h ∙ ap (λ t. or_else (refused_if t (5, [])) (refused_if (ltb (2 ^ 34) (extent ds)) (6, []))) (lt-ltb 16384 (volume ds) v)

  pub shape_extensive : 1 ≤ length ds → length ds ≤ 6 → dims_fault 0 ds ≡ None → volume ds ≤ 16384 → 2 ^ 34 < extent ds → shape_fault ds ≡ Some (6, [])
  shape_extensive a b h v x =
      shape_fitting a b h ∙ (ap (λ t. or_else (refused_if t (5, [])) (refused_if (ltb (2 ^ 34) (extent ds)) (6, []))) (le-ltb 16384 (volume ds) v)
      ∙ ap (λ t. refused_if t (6, [])) (lt-ltb (2 ^ 34) (extent ds) x))

  pub shape_good : 1 ≤ length ds → length ds ≤ 6 → dims_fault 0 ds ≡ None → volume ds ≤ 16384 → extent ds ≤ 2 ^ 34 → shape_fault ds ≡ None
  shape_good a b h v x =
      shape_fitting a b h ∙ (ap (λ t. or_else (refused_if t (5, [])) (refused_if (ltb (2 ^ 34) (extent ds)) (6, []))) (le-ltb 16384 (volume ds) v)
      ∙ ap (λ t. refused_if t (6, [])) (le-ltb (2 ^ 34) (extent ds) x))

  pub limits_from : shape_fault ds ≡ None → Limits ds
  limits_from h =
      let a = both_none (refused_if (ltb (length ds) 1 || ltb 6 (length ds)) (1, [])) (or_else (dims_fault 0 ds) (or_else (refused_if (ltb 16384 (volume ds)) (5, [])) (refused_if (ltb (2 ^ 34) (extent ds)) (6, [])))) h in
      let b = both_none (dims_fault 0 ds) (or_else (refused_if (ltb 16384 (volume ds)) (5, [])) (refused_if (ltb (2 ^ 34) (extent ds)) (6, []))) a.1 in
      let d = both_none (refused_if (ltb 16384 (volume ds)) (5, [])) (refused_if (ltb (2 ^ 34) (extent ds)) (6, [])) b.1 in
      let p = a.0 in
      let q = d.0 in
      let r = d.1 in
      record { some_dims = grind (arith, nat_tests); few_dims = grind (arith, nat_tests); each = fits_from 0 ds b.0; small_chunk = grind (arith, nat_tests); small_array = grind (arith, nat_tests) }

  pub limits_fault : Limits ds → shape_fault ds ≡ None
  limits_fault l = shape_good l.some_dims l.few_dims (fits_fault 0 ds l.each) l.small_chunk l.small_array

-- the answer of a check that refuses for the first fault accepts exactly what keeps the limits
pub accepts_limits : {S E : Type 0} (ds : List Dim) (told : E → Refusal) (r : Result S E) → MatchResult r (λ _. shape_fault ds ≡ None) (λ e. shape_fault ds ≡ Some (told e)) → (is_ok r ≡ true) ↔ Limits ds
accepts_limits ds told (Ok s) h = (λ _. limits_from ds h, λ _. refl)
accepts_limits ds told (Err e) h = (λ p. absurd (let z : ◌≡◌ {A = ℕ} 0 1 = cc in omega arith), λ l. absurd (let q = limits_fault ds l in let z : ◌≡◌ {A = ℕ} 0 1 = cc in omega arith))

-- a list of dimensions filled up to six fits in each place
pub six_fits : (ds : List Dim) → AllByRecursion Fit ds → (i : ℕ) → i < 6 → Fit (get_or (six none_dim ds) i none_dim)
six_fits ds f i l = subst Fit (sym (six_at none_dim ds i l)) (⊎_elim (λ h. All-get_or Fit ds i none_dim h f) (λ h. subst Fit (sym (get_or_past ds i none_dim h)) (omega arith, omega arith, omega arith, omega arith, refl)) (cases_lt i (length ds)))
