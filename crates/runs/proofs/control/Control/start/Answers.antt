use Rattle.std.proofs.Common.{◌^◌, refl, ap, arith, rules}
use Rattle.std.proofs.lemmas.List.{get_or-replicate}
use Rattle.runs.proofs.control.Control.start.Goals as goal

pub returns : goal.returns
returns c = record {
  same_tree = refl;
  none_passed = refl;
  none_handed = refl;
  none_waits = refl;
  controls = λ ds place adds g. record {
    grown = g;
    within = search rules;
    since = search rules;
    until = search rules;
    tallies = λ m l. get_or-replicate 64 m 0 0 (omega (arith, ap (λ k. 2 ^ k) g.dimensions, c.args.tree.few));
    idle = search rules;
    next_waits = search rules;
    next_of = search rules;
  };
}
