use Rattle.std.proofs.Common.{◌≡◌, true, false, rules}
use Rattle.std.proofs.lemmas.Iterator.{first_from_Range}
use borrow.Author.Tests.{tests}
use Rattle.runs.specs.Trees.{node}
use Rattle.runs.specs.Controls.{waiting}
use Rattle.runs.proofs.Steering.{first_child_is}
use Rattle.runs.proofs.control.Control.first_child.Goals as goal

pub returns : goal.returns
returns c =
    let self = c.args.self.now in
    first_child_is self.tree self.progress.counts c.args.mask c.find.result
    (first_from_Range _ _ _ _ (λ m. ((node self.tree m).up ≡ c.args.mask) × (waiting self.tree self.progress.counts m ≡ true)) (λ m. (node self.tree m).up ≡ c.args.mask → waiting self.tree self.progress.counts m ≡ false)
    c.find.ensures.ran (λ x q k. search (rules, tests)) (λ x q k. search (rules, tests)))
