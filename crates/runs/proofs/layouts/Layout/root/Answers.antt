use Rattle.std.proofs.Common.{◌-◌, ◌^◌, ◌≤◌, length, ap, arith, pow_mono}
use Rattle.shapes.specs.Views.{dims_of}
use Rattle.shapes.proofs.Held.{dims_few}
use Rattle.runs.proofs.layouts.Layout.root.Goals as goal

pub returns : goal.returns
returns c =
    let few : 2 ^ length (dims_of c.args.self.now.shape) ≤ 2 ^ 6 = pow_mono (dims_few c.args.self.now.shape) in
    record { mask = ap (λ z. z - 1) c.group_count.ensures; small = omega (arith, few, c.group_count.ensures) }
