use Rattle.std.proofs.Common.{rules, ◌*◌, ◌^◌, ◌≤◌, ◌<◌, ◌≡◌, length, get_or, refl, ap, ◌∙◌, arith}
use borrow.Author.Tests.{tests}
use Rattle.std.proofs.lemmas.Iterator.{YieldsList-from_slice, YieldsList-from_zip, YieldsList-from_map}
use Rattle.std.proofs.lemmas.Iterator.Adapters.{total_from_yields_List}
use Rattle.shapes.specs.Arrays.{group}
use Rattle.plans.specs.Plans.{cells, plan_place, plan_adds}
use Rattle.plans.proofs.Few.{few_masks}
use Rattle.plans.proofs.Dims.{places_long}
use Rattle.plans.proofs.LeastNeed.{cells_at_most}
use Rattle.plans.proofs.Picking.{adds_inside}
use Rattle.plans.proofs.Cells.{product_fits, product_of, brought, shares_some, shares_product}
use Rattle.plans.proofs.making.Draft.group_cells.Goals as goal

pub bounds-adds-mask : goal.bounds-adds-mask
bounds-adds-mask c = let d = c.args.self.now in omega (arith, c.requires.other, few_masks (length d.dims.now) d.few)

pub bounds-self-added : goal.bounds-self-added
bounds-self-added c =
    let d = c.args.self.now in
    omega (arith, c.from-added.ensures, c.requires.adds c.args.mask c.requires.other, adds_inside d.dims.now c.args.mask c.requires.other, places_long d.dims.now d.places.now d.placed)

pub product-requires-clause-fits : goal.product-requires-clause-fits
product-requires-clause-fits c =
    let d = c.args.self.now in
    let ds = d.dims.now in
    let ps = d.places.now in
    let m = c.args.mask in
    let e = c.from-added.result in
    let first = get_or ps e 0 in
    let inside : e < length ds = omega (arith, c.from-added.ensures, c.requires.adds m c.requires.other, adds_inside ds m c.requires.other) in
    product_fits (2 ^ 64)
    (YieldsList-from_map _ (brought first) (YieldsList-from_zip (YieldsList-from_zip (YieldsList-from_slice ds cc) (YieldsList-from_slice ps cc)) (YieldsList-from_slice (group 6 m) cc)) c.map.ensures.closure (λ x r q k. search (rules, tests)))
    (shares_some ds d.edged d.few ps d.placed m e first inside refl)
    (omega (arith, d.small, cells_at_most ds d.edged (plan_place ds) (group (length ds) m) e, shares_product ds d.edged d.few ps d.placed m e first inside refl))

pub returns : goal.returns
returns c =
    let d = c.args.self.now in
    let ds = d.dims.now in
    let ps = d.places.now in
    let m = c.args.mask in
    let e = c.from-added.result in
    let first = get_or ps e 0 in
    let at : e ≡ plan_adds ds (group (length ds) m) = c.from-added.ensures ∙ c.requires.adds m c.requires.other in
    let inside : e < length ds = omega (arith, at, adds_inside ds m c.requires.other) in
    total_from_yields_List (λ a x. a * x) 1 c.product.result c.product.ensures.ran
    (YieldsList-from_map _ (brought first) (YieldsList-from_zip (YieldsList-from_zip (YieldsList-from_slice ds cc) (YieldsList-from_slice ps cc)) (YieldsList-from_slice (group 6 m) cc)) c.map.ensures.closure (λ x r q k. search (rules, tests)))
    ∙ (product_of _ ∙ (shares_product ds d.edged d.few ps d.placed m e first inside refl
    ∙ ap (cells ds (plan_place ds) (group (length ds) m)) at))
