use Rattle.std.proofs.Common.{false, arith, rules}
use mir.Val.{bool_byte}
use borrow.Author.Tests.{tests}
use Rattle.shapes.proofs.Bits.{mask-six}
use Rattle.shapes.proofs.Made.{made_map}
use Rattle.shapes.proofs.groups.mask_of_six.Goals as goal

pub returns : goal.returns
returns c = mask-six c.args.group c.map.result (omega arith) (made_map _ bool_byte false 0 c.args.group c.map.result c.map.ensures.items (omega arith) (λ k y q l b. search (rules, tests)))
