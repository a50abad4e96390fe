use Rattle.std.proofs.Common.{◌/◌, ◌%◌, ◌^◌, false, ◌==◌, sym, rules}
use borrow.Author.Tests.{tests}
use Rattle.shapes.specs.Arrays.{group}
use Rattle.shapes.proofs.Made.{made_from_fn}
use Rattle.shapes.proofs.Masks.{keeps_bit, length-group}
use Rattle.shapes.proofs.groups.kept_dimensions.Goals as goal

pub returns : goal.returns
returns c =
    let m = c.args.mask in
    made_from_fn _ (λ i. m / 2 ^ i % 2 == 1) false c.from_fn.result (group 6 m) c.from_fn.ensures.items (length-group 6 m) (λ i y q l k. search (rules, tests)) (λ i l. sym (keeps_bit 6 m i l))
