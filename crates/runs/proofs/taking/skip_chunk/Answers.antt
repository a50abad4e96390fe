use Rattle.std.proofs.Common.{◌≡◌, is_ok, Ok, sym, ap, ◌∙◌, arith}
use Rattle.sources.specs.Meanings.{Meaning, means}
use Rattle.shapes.specs.Arrays.{volume}
use Rattle.runs.specs.Boxes.{emptied}
use Rattle.runs.specs.Answers.{next_chunk}
use Rattle.runs.specs.Holdings.{Moment, moment_of, view}
use Rattle.runs.proofs.ChunkSteps.{read_is, found_over, number_within, volume_within, skips_chunk, skips_readable}
use Rattle.runs.proofs.taking.skip_chunk.Goals as goal

pub fill_root-requires : goal.fill_root-requires
fill_root-requires g c =
    let σ : Meaning g.row.M.Denot = means g.S.Shaped.told g.S.Source.contents c.args.source.now in
    let b : Moment g.row.M.Denot = moment_of c.args.state.now c.args.cells.now in
    let found : next_chunk (view b) σ.dims ≡ Ok c.in_ok-number.number = found_over (view b) _ σ.dims c.chunk_to_pass.result (Ok c.in_ok-number.number) c.shape-shape.ensures c.chunk_to_pass.ensures c.in_ok-number.was in
    record {
      known = number_within g.M.Measure.empty g.M.Measure.op σ b c.in_ok-number.number found;
      room = volume_within g.M.Measure.empty g.M.Measure.op σ b c.in_ok-number.number found;
    }

pub empty_cells-requires : goal.empty_cells-requires
empty_cells-requires g c =
    let σ : Meaning g.row.M.Denot = means g.S.Shaped.told g.S.Source.contents c.args.source.now in
    let b : Moment g.row.M.Denot = moment_of c.args.state.now c.args.cells.now in
    let found : next_chunk (view b) σ.dims ≡ Ok c.in_ok-number.number = found_over (view b) _ σ.dims c.chunk_to_pass.result (Ok c.in_ok-number.number) c.shape-shape.ensures c.chunk_to_pass.ensures c.in_ok-number.was in
    let fits = volume_within g.M.Measure.empty g.M.Measure.op σ b c.in_ok-number.number found in
    omega (arith, c.chunk_cells.ensures, ap volume c.shape-shape.ensures, c.fill_root.auto.cells)

pub returns-then-is_err : goal.returns-then-is_err
returns-then-is_err g c =
    let σ : Meaning g.row.M.Denot = means g.S.Shaped.told g.S.Source.contents c.args.source.now in
    let b : Moment g.row.M.Denot = moment_of c.args.state.now c.args.cells.now in
    let found : next_chunk (view b) σ.dims ≡ Ok c.in_ok-number.number = found_over (view b) _ σ.dims c.chunk_to_pass.result (Ok c.in_ok-number.number) c.shape-shape.ensures c.chunk_to_pass.ensures c.in_ok-number.was in
    record {
      same = c.fill_root.ensures.same;
      skips = skips_chunk g.M.Measure.empty g.M.Measure.op σ b g.M.Measure.lawful c.in_ok-number.number found c.fill_root.ensures.sized
          (moment_of c.count_skipped.new.self c.fill_root.new.cells)
          (sym (read_is _ (σ.chunk c.in_ok-number.number)) ∙ ap is_ok (sym c.fill_root.ensures.answers) ∙ c.if-is_err.ensures.negation) c.fill_root.ensures.fills c.count_skipped.ensures;
    }

pub returns : goal.returns
returns g c =
    let σ : Meaning g.row.M.Denot = means g.S.Shaped.told g.S.Source.contents c.args.source.now in
    let b : Moment g.row.M.Denot = moment_of c.args.state.now c.args.cells.now in
    let found : next_chunk (view b) σ.dims ≡ Ok c.in_ok-number.number = found_over (view b) _ σ.dims c.chunk_to_pass.result (Ok c.in_ok-number.number) c.shape-shape.ensures c.chunk_to_pass.ensures c.in_ok-number.was in
    record {
      same = c.fill_root.ensures.same;
      skips = skips_readable g.M.Measure.empty g.M.Measure.op σ b g.M.Measure.lawful c.in_ok-number.number found c.fill_root.ensures.sized
          c.fill_root.new.cells c.empty_cells.new.cells
          (sym (read_is _ (σ.chunk c.in_ok-number.number)) ∙ ap is_ok (sym c.fill_root.ensures.answers) ∙ c.if-is_err.ensures.negation) c.fill_root.ensures.fills
          (c.empty_cells.ensures ∙ ap (emptied g.M.Measure.empty c.fill_root.new.cells 0) (c.chunk_cells.ensures ∙ ap volume c.shape-shape.ensures));
    }
