use Rattle.std.proofs.Common.{rules, ◌≡◌, ℕ, fold, ap, ◌∙◌}
use borrow.Author.Tests.{tests}
use Rattle.std.proofs.lemmas.Iterator.{YieldsList-from_slice, YieldsList-from_zip}
use Rattle.std.proofs.lemmas.Iterator.Consumers.{YieldsList-from_enumerate, fold_from_yields_List}
use Rattle.std.specs.List.{enumerate_from, zip}
use Rattle.shapes.specs.Arrays.{group}
use Rattle.plans.proofs.Picking.{better, picked_first}
use Rattle.plans.proofs.making.Draft.earliest_missing.Goals as goal

pub returns : goal.returns
returns c =
    let draft = c.args.self.now in
    let ps = draft.places.now in
    let m = c.args.mask in
    let all = fold_from_yields_List _ better (0, 4294967295) _ c.fold-found.ensures.ran
    (YieldsList-from_enumerate (YieldsList-from_zip (YieldsList-from_slice ps cc) (YieldsList-from_slice (group 6 m) cc)) cc) (λ a x b q k. search (rules, tests)) in
    let picked = picked_first draft.dims.now draft.few ps draft.placed m c.requires.other in
    let found : c.fold-found.result.0 ≡ (fold better (0, 4294967295) (enumerate_from 0 (zip ps (group 6 m)))).0 = ap (λ (r : ℕ × ℕ). r.0) all in
    record { earliest = found ∙ picked.1; inside = rw found picked.0 }
