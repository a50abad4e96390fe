use Rattle.std.proofs.Common.{◌∙◌, ap, rules}
use Rattle.std.proofs.lemmas.Iterator.{YieldsList-from_slice}
use Rattle.std.proofs.lemmas.Iterator.Consumers.{fold_from_yields_List}
use Rattle.measures.specs.Laws.{total}
use Rattle.measures.proofs.Totalled.{fold_total}
use Rattle.measures.proofs.measure.join_all.Goals as goal

pub returns : goal.returns
returns g c =
    let m = g.M.Measure in
    let xs = c.args.xs.now in
    fold_from_yields_List _ m.op _ _ c.fold.ensures.ran (YieldsList-from_slice xs (cc)) (λ a x b q k. search rules)
    ∙ fold_total m.lawful c.empty.result xs ∙ ap (λ e. m.op e (total m.empty m.op xs)) c.empty.ensures ∙ m.lawful.neutral _
