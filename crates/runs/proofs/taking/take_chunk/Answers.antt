use Rattle.std.proofs.Common.{◌≡◌, is_ok, Ok, sym, ap, ◌∙◌}
use Rattle.sources.specs.Meanings.{Meaning, means}
use Rattle.runs.specs.Answers.{next_chunk}
use Rattle.runs.specs.Holdings.{Moment, moment_of, view}
use Rattle.runs.proofs.ChunkSteps.{read_is, found_over, number_within, volume_within, takes_chunk, takes_fault}
use Rattle.runs.proofs.taking.take_chunk.Goals as goal

pub fill_root-requires : goal.fill_root-requires
fill_root-requires g c =
    let σ : Meaning g.row.M.Denot = means g.S.Shaped.told g.S.Source.contents c.args.source.now in
    let b : Moment g.row.M.Denot = moment_of c.args.state.now c.args.cells.now in
    let found : next_chunk (view b) σ.dims ≡ Ok c.in_ok-number.number = found_over (view b) _ σ.dims c.chunk_to_pass.result (Ok c.in_ok-number.number) c.shape-shape.ensures c.chunk_to_pass.ensures c.in_ok-number.was in
    record {
      known = number_within g.M.Measure.empty g.M.Measure.op σ b c.in_ok-number.number found;
      room = volume_within g.M.Measure.empty g.M.Measure.op σ b c.in_ok-number.number found;
    }

pub returns-in-Ok : goal.returns-in-Ok
returns-in-Ok g c =
    let σ : Meaning g.row.M.Denot = means g.S.Shaped.told g.S.Source.contents c.args.source.now in
    let b : Moment g.row.M.Denot = moment_of c.args.state.now c.args.cells.now in
    let found : next_chunk (view b) σ.dims ≡ Ok c.in_ok-number.number = found_over (view b) _ σ.dims c.chunk_to_pass.result (Ok c.in_ok-number.number) c.shape-shape.ensures c.chunk_to_pass.ensures c.in_ok-number.was in
    record {
      same = c.fill_root.ensures.same;
      takes = takes_chunk g.M.Measure.empty g.M.Measure.op σ b g.M.Measure.lawful c.in_ok-number.number found c.fill_root.ensures.sized
          (moment_of c.count_taken.new.self c.fill_root.new.cells) (sym (read_is _ (σ.chunk c.in_ok-number.number)) ∙ ap is_ok (sym c.fill_root.ensures.answers ∙ c.in-Ok.is)) c.fill_root.ensures.fills c.count_taken.ensures;
    }

pub returns-in-Err-Unreadable : goal.returns-in-Err-Unreadable
returns-in-Err-Unreadable g c =
    let σ : Meaning g.row.M.Denot = means g.S.Shaped.told g.S.Source.contents c.args.source.now in
    let b : Moment g.row.M.Denot = moment_of c.args.state.now c.args.cells.now in
    let found : next_chunk (view b) σ.dims ≡ Ok c.in_ok-number.number = found_over (view b) _ σ.dims c.chunk_to_pass.result (Ok c.in_ok-number.number) c.shape-shape.ensures c.chunk_to_pass.ensures c.in_ok-number.was in
    record {
      same = c.fill_root.ensures.same;
      takes = takes_fault g.M.Measure.empty g.M.Measure.op σ b g.M.Measure.lawful c.in_ok-number.number found c.fill_root.ensures.sized
          c.fill_root.new.cells c.args.state.now.control.passed c.in-Err-Unreadable.chunk c.in-Err-Unreadable.entry c.in-Err-Unreadable.cause
          (sym c.args.state.now.passes) (let h = c.in-Err-Unreadable.ensures.answers in cc) c.fill_root.ensures.fills;
    }
