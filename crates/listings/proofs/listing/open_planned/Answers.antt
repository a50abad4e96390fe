use Rattle.std.proofs.Common.{◌≡◌, Some, None, sym, ap, ◌∙◌, arith}
use Rattle.std.proofs.lemmas.Result.{err_from_is_err_and}
use Rattle.plans.specs.Plans.{plan_need}
use Rattle.plans.specs.Refusals.{check_fault, too_few}
use Rattle.chunk_files.specs.Layouts.{file_dims}
use Rattle.runs.specs.Planned.{need_of}
use Rattle.listings.specs.Listings.{given_cells}
use Rattle.listings.proofs.Answering.{fault_by, need_planned, check_passed}
use Rattle.listings.proofs.listing.open_planned.Goals as goal

pub returns-in_err-check : goal.returns-in_err-check
returns-in_err-check c =
    let bs = c.args.bytes.now in
    let opened = c.in_ok-file.ensures.checks in
    let needed : c.of-plan.result.need ≡ need_of (file_dims bs) = c.of-plan.ensures.planned.needing ∙ (ap plan_need (c.shape.ensures ∙ ap file_dims opened.1) ∙ need_planned (file_dims bs)) in
    let fault = fault_by bs None (Some (too_few c.in_err-check.field-0.0)) opened.0 (ap (check_fault given_cells) (sym needed) ∙ c.in_err-check.ensures) in
    let p = err_from_is_err_and c.from_residual-in_err-check.result c.from_residual-in_err-check.ensures.1 in rw (p.1, p.2) fault

pub returns : goal.returns
returns c =
    let bs = c.args.bytes.now in
    let opened = c.in_ok-file.ensures.checks in
    let needed : c.of-plan.result.need ≡ need_of (file_dims bs) = c.of-plan.ensures.planned.needing ∙ (ap plan_need (c.shape.ensures ∙ ap file_dims opened.1) ∙ need_planned (file_dims bs)) in
    let given = check_passed given_cells c.of-plan.result.need c.in_ok-check.ensures in
    (fault_by bs None None opened.0 (ap (check_fault given_cells) (sym needed) ∙ c.in_ok-check.ensures), opened.1, c.need.ensures ∙ needed, omega arith)
