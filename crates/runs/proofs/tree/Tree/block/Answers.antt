use Rattle.std.proofs.Common.{◌≡◌, Some, length, sym, ap, ◌∙◌, subst, arith, rules}
use Rattle.std.proofs.lemmas.Bool.{cond-true}
use Rattle.std.specs.Option.{IsSome}
use Rattle.shapes.specs.Arrays.{number, inside, radix, group, counts}
use Rattle.plans.specs.Views.{place_in}
use Rattle.runs.proofs.Widths.{each_some}
use Rattle.runs.proofs.SixRadices.{scan_inside}
use Rattle.runs.proofs.Filling.{block_number_is}
use Rattle.runs.proofs.Naming.{block_radix_few, group_radices, coordinates_are}
use Rattle.runs.proofs.tree.Tree.block.Goals as goal

-- the digits of a scan number lie inside
numbered_is : (c : goal.After-number) → c.number.result ≡ Some (number c.radices_of-radices.result.each c.scan_digits-at.result)
numbered_is c =
    let r = c.radices_of-radices.result in
    c.number.ensures ∙ cond-true (inside r.each c.scan_digits-at.result) _ _
    (ap (inside r.each) c.scan_digits-at.ensures ∙ scan_inside (place_in c.args.self.now.places) r.each c.args.scan (each_some r.each r.six r.some))

pub unwrap-requires : goal.unwrap-requires
unwrap-requires c = subst IsSome (sym (numbered_is c)) (search rules)

pub returns-clause-coordinates : goal.returns-clause-coordinates
returns-clause-coordinates c = λ ds place adds g.
    coordinates_are ds place adds c.args.self.now g c.args.mask c.args.scan c.radices_of-radices.result.each c.scan_digits-at.result c.radices_of-radices.ensures c.scan_digits-at.ensures

pub returns-clause-number : goal.returns-clause-number
returns-clause-number c = λ ds place adds g cs b x.
    let tr = c.args.self.now in
    let r = c.radices_of-radices.result in
    let own : c.unwrap.result ≡ number r.each c.scan_digits-at.result = cc (c.unwrap.ensures, numbered_is c.before) in
    own ∙ block_number_is (radix (group (length ds) c.args.mask) (counts ds)) r.each cs c.scan_digits-at.result (block_radix_few ds place adds tr g c.args.mask)
    (group_radices ds place adds tr g c.args.mask r.each c.radices_of-radices.ensures) x b (omega arith)
