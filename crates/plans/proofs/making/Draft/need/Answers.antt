use Rattle.std.proofs.Common.{rules, ℕ, ◌-◌, ◌^◌, length, refl, arith}
use borrow.Author.Tests.{tests}
use Rattle.std.proofs.lemmas.Iterator.{YieldsList-from_range, YieldsList-from_map}
use Rattle.std.proofs.lemmas.Iterator.Consumers.{YieldsList-at, sum_from_yields_List, fits_from_yields_list}
use Rattle.plans.proofs.Planning.{need_small}
use Rattle.plans.proofs.Cells.{group_need, need_by_mask}
use Rattle.plans.proofs.making.Draft.need.Goals as goal

pub sum-cells-requires-clause-fits : goal.sum-cells-requires-clause-fits
unfolding group_need
sum-cells-requires-clause-fits c =
    let d = c.args.self.now in
    let ds = d.dims.now in
    let n : ℕ = 2 ^ length ds - 1 in
    fits_from_yields_list _ (2 ^ 64) (YieldsList-from_map _ (group_need ds) (YieldsList-at c.map.ensures.source (YieldsList-from_range 0 c.others.result n refl (omega arith))) c.map.ensures.closure (λ x r q k. search (rules, tests)))
    (omega (arith, need_by_mask ds, need_small ds d.edged d.few d.small))

pub overflow_add-result : goal.overflow_add-result
unfolding group_need
overflow_add-result c =
    let d = c.args.self.now in
    let ds = d.dims.now in
    let n : ℕ = 2 ^ length ds - 1 in
    let all = sum_from_yields_List _ c.sum-cells.result c.sum-cells.ensures.ran (YieldsList-from_map _ (group_need ds) (YieldsList-at c.map.ensures.source (YieldsList-from_range 0 c.others.result n refl (omega arith))) c.map.ensures.closure (λ x r q k. search (rules, tests))) in
    omega (arith, all, need_by_mask ds, need_small ds d.edged d.few d.small, c.requires.chunk)

pub returns : goal.returns
unfolding group_need
returns c =
    let ds = c.args.self.now.dims.now in
    let n : ℕ = 2 ^ length ds - 1 in
    let all = sum_from_yields_List _ c.sum-cells.result c.sum-cells.ensures.ran (YieldsList-from_map _ (group_need ds) (YieldsList-at c.map.ensures.source (YieldsList-from_range 0 c.others.result n refl (omega arith))) c.map.ensures.closure (λ x r q k. search (rules, tests))) in
    omega (arith, all, need_by_mask ds, c.requires.chunk)
