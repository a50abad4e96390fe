use Rattle.std.proofs.Common.{◌^◌, ◌<◌, false, cond, length, Some, None, sym, ap, ◌∙◌, arith}
use Rattle.std.specs.Option.{option_map}
use Rattle.std.proofs.lemmas.Bool.{lt-ltb}
use Rattle.shapes.specs.Arrays.{group}
use Rattle.shapes.specs.Views.{dims_of, six}
use Rattle.shapes.proofs.Bits.{group_six}
use Rattle.shapes.proofs.shape.Shape.group.Goals as goal

pub returns : goal.returns
returns c =
    let n = length (dims_of c.args.self.now) in
    let m = c.args.mask in
    let below : m < 2 ^ n = omega (arith, c.group_count.ensures) in
    ap Some (c.kept_dimensions.ensures ∙ group_six n m below) ∙ sym (ap (λ t. option_map (six false) (cond t (Some (group n m)) None)) (lt-ltb m (2 ^ n) below))
