-- The readings of plain numbers, and their lifts. Assumes nothing.
use Rattle.std.proofs.Common.{◌≡◌, ℕ, ◌<◌, ◌≤◌, Bool, true, false, List, [], ◌∷◌, ◌++◌, Some, None, Option, sym, refl, ap, ◌∙◌, arith}
use mathlib.Core.HLevel.{is_prop→PathP}
use native.Mathlib.Bridge.{le_prop}
use Rattle.std.proofs.lemmas.Bool.{leb-true, leb-false}
use Rattle.shapes.specs.declared.readings.Reading.{Reading}
use Rattle.sources.specs.Readings.{is_reading, reading_if, reading_of, lift_before, lifts}

-- readings of equal numbers are equal
reading_ext : (r s : Reading) → r.value ≡ s.value → r ≡ s
reading_ext r s p = λ i. record { value = p i; within = is_prop→PathP (λ k. p k ≤ 16777215) (λ k. le_prop) r.within s.within i }

some_if : (n : ℕ) (b : Bool) (e : is_reading n ≡ b) (r : Reading) → r.value ≡ n → reading_if n b e ≡ Some r
some_if n true e r h = ap Some (reading_ext _ r (sym h))
some_if n false e r h = let over = leb-false n 16777215 e in let low = r.within in absurd (omega arith)

none_if : (n : ℕ) (b : Bool) (e : is_reading n ≡ b) → 16777215 < n → reading_if n b e ≡ None
none_if n true e h = let low = leb-true n 16777215 e in absurd (omega arith)
none_if n false e h = refl

pub reading_some : (n : ℕ) (r : Reading) → r.value ≡ n → reading_of n ≡ Some r
reading_some n r h = some_if n (is_reading n) refl r h

pub reading_none : (n : ℕ) → 16777215 < n → reading_of n ≡ None
reading_none n h = none_if n (is_reading n) refl h

module _ {M : Type 0} (lifted : Reading → M) where
  before_append : (o : Option Reading) (vs ws : List M) → lift_before lifted o (vs ++ ws) ≡ lift_before lifted o vs ++ ws
  before_append None vs ws = refl
  before_append (Some r) vs ws = refl

  pub lifts_append : (ns ms : List ℕ) → lifts lifted (ns ++ ms) ≡ lifts lifted ns ++ lifts lifted ms
  lifts_append [] ms = refl
  lifts_append (n ∷ ns) ms = ap (lift_before lifted (reading_of n)) (lifts_append ns ms) ∙ before_append (reading_of n) (lifts lifted ns) (lifts lifted ms)

  pub lift_some : (n : ℕ) (r : Reading) → r.value ≡ n → lifts lifted (n ∷ []) ≡ lifted r ∷ []
  lift_some n r h = ap (λ o. lift_before lifted o []) (reading_some n r h)

  pub lift_none : (n : ℕ) → 16777215 < n → lifts lifted (n ∷ []) ≡ []
  lift_none n h = ap (λ o. lift_before lifted o []) (reading_none n h)
