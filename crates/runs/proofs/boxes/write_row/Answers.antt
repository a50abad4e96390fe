use Rattle.std.proofs.Common.{◌≡◌, ℕ, ◌+◌, ◌-◌, ◌*◌, drop, get_or, set, sym, ◌∙◌, arith, below_more}
use Rattle.std.proofs.lemmas.List.{length-drop, length-set, length-take-le, get_or-set_same, get_or-set_other, get_or_read}
use Rattle.std.proofs.lemmas.List.FromFn.{fill_by_all, length-map-range_with_len}
use Rattle.std.proofs.lemmas.Slice.{put_mid-paste}
use Rattle.runs.specs.Boxes.{row_cells}
use Rattle.runs.proofs.boxes.write_row.Goals as goal

pub loop-l-init : goal.loop-l-init
loop-l-init g c =
    let out = c.args.out.now in
    let at = c.args.at in
    let k = at + c.args.count - at in
    (omega (arith, length-take-le k (drop at out) (omega (arith, length-drop at out))), λ k l. absurd (omega arith))

pub loop-l-preserved : goal.loop-l-preserved
loop-l-preserved g c =
    let e = g.M.Measure.empty in
    let s = c.args.cells.now in
    let row = c.loop-l.row in
    let i = c.loop-l.l in
    let v = c.cell_at.result in
    let at : ℕ → ℕ = λ k. c.args.from + k * c.args.stride in (
      length-set row i v ∙ c.loop-l.invariant.0,
      below_more (λ k. get_or (set row i v) k e ≡ get_or s (at k) e) i
          (λ k l. get_or-set_other row i k v e (λ q. omega arith) ∙ c.loop-l.invariant.1 k l)
          (get_or-set_same row i v e (omega arith) ∙ get_or_read s (at i) v (c.requires.within i (omega arith)) c.cell_at.ensures e),
    )

pub returns : goal.returns
returns g c =
    let e = g.M.Measure.empty in
    let f : ℕ → g.row.M.Denot = λ l. get_or c.args.cells.now (c.args.from + l * c.args.stride) e in
    let n = c.args.count in
    put_mid-paste c.args.at (c.args.at + n - c.args.at) c.args.out.now c.loop-l.row (row_cells e c.args.cells.now n c.args.from c.args.stride) n
    (fill_by_all f c.loop-l.row n e c.loop-l.invariant.0 (λ k l. c.loop-l.invariant.1 k (omega arith)))
    (omega arith) (sym (length-map-range_with_len f 0 n))
