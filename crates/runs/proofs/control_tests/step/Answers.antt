use Rattle.std.proofs.Common.{◌≡◌, ℕ, false, is_some, Some, None, Option, sym, refl, ap, ◌∙◌, subst}
use Rattle.std.proofs.lemmas.Bool.{true≢false}
use Rattle.runs.specs.declared.control.Control.{Control}
use Rattle.runs.specs.Controls.{IsControlled, Passes, Advances}
use Rattle.runs.proofs.Stepping.{chunk_left}
use Rattle.runs.proofs.control_tests.step.Goals as goal
use Rattle.runs.proofs.control_tests.step.Goals.{then-not-waits, else-not-waits}

none_from : (o : Option ℕ) → false ≡ is_some o → o ≡ None
none_from None e = refl
none_from (Some m) e = absurd (true≢false (sym e))

passed_on : (b a : Control) → IsControlled b → Passes b a → IsControlled a
passed_on b a g p = record { dims = g.dims; place = g.place; adds = g.adds; controls = p.controls g.dims g.place g.adds g.controls }

handed_on : (b a : Control) → IsControlled b → Advances b a → IsControlled a
handed_on b a g p = record { dims = g.dims; place = g.place; adds = g.adds; controls = p.controls g.dims g.place g.adds g.controls }

pub pass-requires : goal.pass-requires
pass-requires c = record {
  idle = none_from c.args.control.now.next c.if-not-waits.ensures.next;
  more = chunk_left c.requires.dims c.requires.place c.requires.adds c.args.control.now c.requires.controls false false c.if-is_done.ensures refl
      (c.if-not-waits.ensures.exactly c.requires.dims c.requires.place c.requires.adds c.requires.controls) refl;
}

pub advance-requires : goal.advance-requires
advance-requires c = elim c.if-not-waits.branch [
  | then-not-waits w ↦ record {
    controlled = subst IsControlled (sym w.control-is) (passed_on c.args.control.now w.pass.new.self c.requires w.pass.ensures);
    waits = ap (λ x. is_some x.next) w.control-is ∙ w.pass.ensures.waits;
  }
  | else-not-waits w ↦ record {
    controlled = subst IsControlled (sym w.control-is) c.requires;
    waits = ap (λ x. is_some x.next) w.control-is ∙ (sym c.waits.ensures.next ∙ w.if-not-waits.false);
  }
]

pub returns : goal.returns
returns c = elim c.if-not-waits.branch [
  | then-not-waits w ↦ handed_on c.if-not-waits.control c.advance.new.self
      (subst IsControlled (sym w.control-is) (passed_on c.args.control.now w.pass.new.self c.requires w.pass.ensures)) c.advance.ensures
  | else-not-waits w ↦ handed_on c.if-not-waits.control c.advance.new.self (subst IsControlled (sym w.control-is) c.requires) c.advance.ensures
]
