use Rattle.std.proofs.Common.{[], ◌∷◌, ◌++◌, length, drop, ap, ◌∙◌, rules, ◌≡◌}
use Rattle.shapes.specs.Arrays.{none_dim}
use Rattle.shapes.proofs.Sixes.{six_pasted}
use Rattle.shapes.proofs.checks.filled_up.Goals as goal

pub returns : goal.returns
returns c =
    let e : c.copy_from_slice.new.self ≡ c.args.dims.now = search rules in
    ap (λ ds. ds ++ drop (length c.args.dims.now) (none_dim ∷ none_dim ∷ none_dim ∷ none_dim ∷ none_dim ∷ none_dim ∷ [])) e ∙ six_pasted none_dim c.args.dims.now c.requires
