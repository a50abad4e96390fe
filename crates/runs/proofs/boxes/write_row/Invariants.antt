use Rattle.std.proofs.Common.{◌≡◌, ℕ, ◌+◌, ◌*◌, ◌<◌, length, get_or}
use Rattle.runs.proofs.boxes.write_row.Given as goal

abbrev pub invariant-loop-l : goal.invariant-loop-l
invariant-loop-l g l =
    let e = g.M.Measure.empty in
    (length l.row ≡ l.count) × ((k : ℕ) → k < l.l → get_or l.row k e ≡ get_or l.cells (l.from + k * l.stride) e)
