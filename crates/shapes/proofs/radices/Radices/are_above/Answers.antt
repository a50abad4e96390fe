use Rattle.std.proofs.Common.{rules, nat_lt, ◌∙◌, arith}
use borrow.Author.Tests.{tests}
use Rattle.std.proofs.lemmas.Iterator.{YieldsList-from_slice, YieldsList-from_zip}
use Rattle.std.proofs.lemmas.Iterator.Search.{all_from_yields_List}
use Rattle.shapes.proofs.Insides.{all_zip_inside}
use Rattle.shapes.proofs.radices.Radices.are_above.Goals as goal

pub returns : goal.returns
returns c =
    all_from_yields_List {s = c.zip.result} (λ p. nat_lt p.0 p.1) c.all.new.self _ _ c.all.ensures.ran (YieldsList-from_zip {s = c.zip.result} (YieldsList-from_slice c.args.digits cc) (YieldsList-from_slice c.args.self.now.each cc)) (λ x b q k. search (rules, tests))
    ∙ all_zip_inside c.args.self.now.each c.args.digits (omega (arith, c.args.self.now.six))
