use Rattle.std.proofs.Common.{◌≡◌, ◌≤◌, true, ◌++◌, length, drop, replicate, sym, refl, ap, ◌∙◌, subst, arith, rules}
use Rattle.std.proofs.lemmas.Bool.{not-true, not-false}
use Rattle.shapes.specs.Arrays.{volume}
use Rattle.shapes.specs.Limits.{Limits}
use Rattle.shapes.specs.Views.{dims_of}
use Rattle.shapes.proofs.Held.{limits}
use Rattle.sources.specs.Meanings.{Meaning, means}
use Rattle.runs.specs.Holdings.{Moment, moment, view, dims_in, planned_emptied}
use Rattle.runs.specs.Planned.{need_of}
use Rattle.runs.specs.Surveys.{OneNext}
use Rattle.runs.specs.Boxes.{emptied}
use Rattle.runs.proofs.ChunkPassed.{emptied_front}
use Rattle.runs.proofs.Surveying.{emptied_again, driven_made, driven_on, call_next, calls_left, fewer_left, all_told}
use Rattle.runs.proofs.surveys.run_through.Goals as goal

pub turns-init : goal.turns-init
turns-init g c =
    let σ : Meaning g.row.M.Denot = means g.S.Shaped.told g.S.Source.contents c.args.source.now in
    (refl, refl, refl, driven_made g.M.Measure.empty g.M.Measure.op σ (dims_of c.args.shape) c.args.cells.now (moment c.make-run.result) c.requires.shaped c.requires.enough c.make-run.ensures.makes)

pub step-requires : goal.step-requires
step-requires g c =
    let σ : Meaning g.row.M.Denot = means g.S.Shaped.told g.S.Source.contents c.args.source.now in
    let m : Moment g.row.M.Denot = moment c.turns.run in
    let it = c.turns.invariant.3.lives in
    let kept = c.count.ensures.life σ it.0 it.1 in
    let room : volume σ.dims ≤ length c.turns.buffer = omega (arith, c.requires.room, c.turns.auto.buffer, ap volume c.requires.shaped) in
    subst (λ μ. OneNext μ (view m) (length c.turns.buffer)) (sym c.turns.invariant.1)
    (call_next g.M.Measure.empty g.M.Measure.op σ m it.0 c.count.result kept (not-true c.count.result.done c.turns-test.true)
    (subst Limits c.requires.shaped (limits c.args.shape)) (length c.turns.buffer) room)

pub turns-preserved : goal.turns-preserved
turns-preserved g c =
    let σ : Meaning g.row.M.Denot = means g.S.Shaped.told g.S.Source.contents c.args.source.now in
    let τ : Meaning g.row.M.Denot = means g.S.Shaped.told g.S.Source.contents c.turns.source in
    let it = c.turns.invariant.3 in (
      c.step.ensures.lender ∙ c.turns.invariant.0,
      c.step.ensures.same ∙ c.turns.invariant.1,
      subst (λ ds. drop (volume ds) c.step.new.buffer ≡ drop (volume ds) c.turns.buffer) it.same_shape c.step.ensures.rest ∙ c.turns.invariant.2,
      driven_on g.M.Measure.empty g.M.Measure.op σ (moment c.make-run.result) (moment c.turns.run) (moment c.step.new.run) it τ c.turns.invariant.1 1 c.step.ensures.goes,
    )

pub turns-smaller : goal.turns-smaller
turns-smaller g c =
    let σ : Meaning g.row.M.Denot = means g.S.Shaped.told g.S.Source.contents c.args.source.now in
    let τ : Meaning g.row.M.Denot = means g.S.Shaped.told g.S.Source.contents c.turns.source in
    let m : Moment g.row.M.Denot = moment c.turns.run in
    let it = c.turns.invariant.3.lives in
    let kept = c.count.ensures.life σ it.0 it.1 in
    let shaped : dims_in m ≡ σ.dims = c.turns.invariant.3.same_shape ∙ ap (λ v. v.dims) c.make-run.ensures.makes.begins ∙ c.requires.shaped in
    fewer_left g.M.Measure.empty g.M.Measure.op τ m (moment c.step.new.run) c.step.ensures.goes
    (calls_left g.M.Measure.empty g.M.Measure.op σ m it.0 c.count.result kept (not-true c.count.result.done c.turns-test.true) c.count.ensures.counts (sym shaped))

pub returns : goal.returns
returns g c =
    let σ : Meaning g.row.M.Denot = means g.S.Shaped.told g.S.Source.contents c.args.source.now in
    let b : Moment g.row.M.Denot = moment c.make-run.result in
    let m : Moment g.row.M.Denot = moment c.turns.run in
    let it = c.turns.invariant.3 in
    let began : dims_in b ≡ dims_of c.args.shape = ap (λ v. v.dims) c.make-run.ensures.makes.begins in
    let done : c.count-counts.result.done ≡ true = ap (λ r. r.done) (c.count-counts.ensures.counts ∙ sym c.count.ensures.counts) ∙ not-false c.count.result.done c.turns-test.false in
    let ends : planned_emptied g.M.Measure.empty (dims_in m) m.cells ≡ planned_emptied g.M.Measure.empty (dims_of c.args.shape) c.args.cells.now =
    ap (λ ds. planned_emptied g.M.Measure.empty ds m.cells) (it.same_shape ∙ began)
    ∙ emptied_again g.M.Measure.empty (need_of (dims_of c.args.shape)) c.args.cells.now c.requires.enough b.cells m.cells c.make-run.ensures.makes.emptied it.same_lent
    (subst (λ ds. drop (need_of ds) m.cells ≡ drop (need_of ds) b.cells) began it.past_stay) in
    record {
      same = c.turns.invariant.1;
      counts = all_told g.M.Measure.empty g.M.Measure.op σ m it.lives.0 c.count-counts.result c.count-counts.ensures.counts it.lives.1 done;
      emptied = search rules;
      buffer = c.empty_cells.ensures ∙ ap (emptied g.M.Measure.empty c.turns.buffer 0) c.chunk_cells.ensures
          ∙ emptied_front g.M.Measure.empty c.turns.buffer (volume (dims_of c.args.shape))
          ∙ ap (λ ys. replicate (volume (dims_of c.args.shape)) g.M.Measure.empty ++ ys)
          (subst (λ ds. drop (volume ds) c.turns.buffer ≡ drop (volume ds) c.args.buffer.now) began c.turns.invariant.2);
    }
