use Rattle.plans.specs.Views.{place_in}
use Rattle.std.proofs.Common.{get_or, ◌<◌, subst, sym}
use Rattle.runs.proofs.Widths.{width_some, each_some}
use Rattle.runs.proofs.numbering.scan_digit.Goals as goal

pub nonzero_div-result : goal.nonzero_div-result
nonzero_div-result c =
    let r = c.args.radices.now in
    let p = get_or c.args.places c.args.i 0 in
    subst (λ k. 0 < k) (sym c.width_before-weight.ensures) (width_some (place_in c.args.places) r.each p (each_some r.each r.six r.some))
