-- A run's state whose control went on.
use Rattle.std.proofs.Common.{◌≡◌, ℕ, ◌+◌, false, Some, None, Option, refl, arith}
use Rattle.std.proofs.lemmas.Bool.{ltb-false}
use Rattle.runs.specs.declared.state.State.{State}
use Rattle.runs.specs.Planned.{released_after}
use Rattle.runs.specs.Answers.{waits}
use Rattle.runs.specs.Holdings.{state_view}
use Rattle.runs.proofs.FromState.{ds}
use Rattle.runs.proofs.StateAnswers.{freed_is}

-- where no block waits, no group is next
pub rests : (s : State) → ((lent : ℕ) → waits (state_view s lent) ≡ false) → s.control.next ≡ None
rests s idle = by s.control.next refl
  where
    by : (o : Option ℕ) → s.control.next ≡ o → s.control.next ≡ None
    by None e = e
    by (Some m) e =
        let few = ltb-false s.control.handed (released_after (ds s) (s.taken + s.skipped)) (idle 0) in
        absurd (omega (arith, few, s.controls.next_waits m e, freed_is s))
