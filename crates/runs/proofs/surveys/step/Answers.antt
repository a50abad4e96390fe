use Rattle.std.proofs.Common.{sym, ap, ◌∙◌, subst}
use Rattle.sources.specs.Meanings.{Meaning, means}
use Rattle.runs.specs.declared.run.Run.{Run}
use Rattle.runs.specs.Holdings.{Moment, moment}
use Rattle.runs.specs.Surveys.{GoesOn}
use Rattle.runs.proofs.Surveying.{handed_first, buffer_stays, taken_second, skipped_last}
use Rattle.runs.proofs.surveys.step.Goals as goal
use Rattle.runs.proofs.surveys.step.Goals.{else-is_err-via-then-is_err+else-is_err-2, else-is_err-via-else-is_err}

pub returns-then-is_err-2 : goal.returns-then-is_err-2
returns-then-is_err-2 g c =
    let σ : Meaning g.row.M.Denot = means g.S.Shaped.told g.S.Source.contents c.args.source.now in
    let τ : Meaning g.row.M.Denot = means g.S.Shaped.told g.S.Source.contents c.take.new.source in
    let b : Moment g.row.M.Denot = moment c.args.run.now in
    let m : Moment g.row.M.Denot = moment c.hand.new.self in
    record {
      lender = c.skip.ensures.lender ∙ c.take.ensures.lender ∙ c.hand.ensures.lender;
      same = c.skip.ensures.same ∙ c.take.ensures.same;
      goes = skipped_last g.M.Measure.empty g.M.Measure.op σ b m c.args.buffer.now c.hand.new.buffer c.hand.result c.hand.ensures.hands c.if-is_err.ensures.negation
          (moment c.take.new.self) c.take.result c.take.ensures.takes c.requires c.if-is_err-2.ensures.negation τ c.take.ensures.same
          (moment c.skip.new.self) c.skip.result c.skip.ensures.skips;
      rest = buffer_stays g.M.Measure.empty g.M.Measure.op σ b m c.args.buffer.now c.hand.new.buffer c.hand.result c.hand.ensures.hands;
    }

pub returns-else-is_err : goal.returns-else-is_err
returns-else-is_err g c =
    let σ : Meaning g.row.M.Denot = means g.S.Shaped.told g.S.Source.contents c.args.source.now in
    let b : Moment g.row.M.Denot = moment c.args.run.now in
    let m : Moment g.row.M.Denot = moment c.hand.new.self in
    let goes_to : Run g.row.M.Denot → Type 0 = λ r. GoesOn g.M.Measure.empty g.M.Measure.op σ 1 b (moment r) in
    let rests = buffer_stays g.M.Measure.empty g.M.Measure.op σ b m c.args.buffer.now c.hand.new.buffer c.hand.result c.hand.ensures.hands in
    elim c.else-is_err.branch [
      | else-is_err-via-then-is_err+else-is_err-2 w ↦ record {
        lender = ap (λ r. r.cells.ghost_name) w.run-is ∙ w.take.ensures.lender ∙ c.hand.ensures.lender;
        same = ap (means g.S.Shaped.told g.S.Source.contents) w.source-is ∙ w.take.ensures.same;
        goes = subst goes_to (sym w.run-is) (taken_second g.M.Measure.empty g.M.Measure.op σ b m c.args.buffer.now c.hand.new.buffer c.hand.result c.hand.ensures.hands
            w.if-is_err.ensures.negation (moment w.take.new.self) w.take.result w.take.ensures.takes w.if-is_err-2.ensures.negation);
        rest = rests;
      }
      | else-is_err-via-else-is_err w ↦ record {
        lender = ap (λ r. r.cells.ghost_name) w.run-is ∙ c.hand.ensures.lender;
        same = ap (means g.S.Shaped.told g.S.Source.contents) w.source-is;
        goes = subst goes_to (sym w.run-is) (handed_first g.M.Measure.empty g.M.Measure.op σ b m c.args.buffer.now c.hand.new.buffer c.hand.result c.hand.ensures.hands
            w.if-is_err.ensures.negation);
        rest = rests;
      }
    ]
