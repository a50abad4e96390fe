use Rattle.std.proofs.Common.{replicate, ap, ◌∙◌, rules}
use Rattle.sources.proofs.Clearing.{filled}
use Rattle.sources.proofs.cells.empty_cells.Goals as goal

pub returns : goal.returns
returns g c =
    let empty = g.M.Measure.empty in
    let fill = c.fill_with in
    filled _ empty _ (λ x f step. search rules) fill.new.self _ fill.ensures.ran.1 ∙ ap (λ n. replicate n empty) fill.ensures.len
