use Rattle.std.proofs.Common.{sym, ap, ◌∙◌, arith}
use Rattle.runs.specs.Planned.{places_of, adds_of}
use Rattle.runs.specs.Emptying.{next_of_release}
use Rattle.runs.proofs.FromState.{ds, grown_in}
use Rattle.runs.proofs.Steering.{same_groups}
use Rattle.runs.proofs.emptying.goes_on.Goals as goal

pub is_under-requires : goal.is_under-requires
is_under-requires c =
    let s = c.args.state.now in
    (s.control.in_tree c.in-Some.next c.in-Some.is, omega (arith, c.requires, same_groups (ds s) (places_of (ds s)) (adds_of (ds s)) s.control.tree (grown_in s)))

pub returns-in-Some : goal.returns-in-Some
returns-in-Some c =
    let s = c.args.state.now in
    c.is_under.ensures (ds s) (places_of (ds s)) (adds_of (ds s)) (grown_in s) ∙ sym (ap (next_of_release (ds s) (adds_of (ds s)) c.args.mask) c.in-Some.is)
