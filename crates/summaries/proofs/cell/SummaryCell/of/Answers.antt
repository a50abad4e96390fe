use Rattle.std.proofs.Common.{length, refl, sym, ap, ◌∙◌, arith}
use Rattle.shapes.specs.Arrays.{sizes}
use Rattle.shapes.specs.Views.{dims_of}
use Rattle.shapes.proofs.Held.{dims_few}
use Rattle.summaries.specs.Answers.{kept_inside}
use Rattle.summaries.proofs.Answering.{group_found, inside_cell}
use Rattle.summaries.proofs.cell.SummaryCell.of.Goals as goal

pub returns-then-not-is_kept_inside : goal.returns-then-not-is_kept_inside
returns-then-not-is_kept_inside c =
    let ds = dims_of c.args.shape in
    let found = group_found (length ds) c.args.mask c.in_ok-kept.kept c.in_ok-kept.ensures in
    sym (inside_cell ds c.args.mask c.args.at c.in_ok-kept.kept (dims_few c.args.shape) (omega arith) found)
    ∙ (ap (λ es. kept_inside c.in_ok-kept.kept (sizes es) c.args.at) (sym c.dims.ensures) ∙ (sym c.is_kept_inside.ensures ∙ c.if-not-is_kept_inside.true))

pub returns : goal.returns
returns c =
    let ds = dims_of c.args.shape in
    let found = group_found (length ds) c.args.mask c.in_ok-kept.kept c.in_ok-kept.ensures in (
      sym (inside_cell ds c.args.mask c.args.at c.in_ok-kept.kept (dims_few c.args.shape) (omega arith) found)
          ∙ (ap (λ es. kept_inside c.in_ok-kept.kept (sizes es) c.args.at) (sym c.dims.ensures) ∙ (sym c.is_kept_inside.ensures ∙ c.if-not-is_kept_inside.false)),
      refl,
      refl,
      refl,
    )
