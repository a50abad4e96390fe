use Rattle.std.proofs.Common.{false, get_or, sym, ap, ◌∙◌, arith}
use Rattle.std.proofs.lemmas.Nat.{one_shl}
use Rattle.runs.proofs.Children.{kept_power}
use Rattle.runs.proofs.layouts.Layout.child.Goals as goal

pub overflow_sub-child : goal.overflow_sub-child
overflow_sub-child c =
    omega (
      arith,
      one_shl c.args.e 64 (omega arith),
      kept_power 6 c.args.mask c.args.e (omega arith) (sym (ap (λ z. get_or z c.args.e false) c.kept_dimensions.ensures) ∙ c.if-not-kept_dimensions-e.false),
    )
