-- The refusal of too few cells. Assumes nothing.
use Rattle.std.specs.Prelude.{ℕ, [], ◌∷◌, Option, nat_lt}
use Rattle.shapes.specs.Limits.{Refusal, refused_if}
use Rattle.plans.specs.declared.refusals.TooFewCells.{TooFewCells}

abbrev pub too_few : TooFewCells → Refusal
too_few t = (17, t.need ∷ [])

-- what stops so many cells where so many are needed
abbrev pub check_fault : ℕ → ℕ → Option Refusal
check_fault given needed = refused_if (nat_lt given needed) (17, needed ∷ [])
