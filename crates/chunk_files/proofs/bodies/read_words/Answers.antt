use Rattle.std.proofs.Common.{◌≡◌, ◌*◌, ◌<◌, cond, is_some, not, eqb, ◌≢◌, length, Some, sym, ap, ◌∙◌, arith, rules, get_or-set_other, get_or-set_same, below_more}
use Rattle.std.proofs.lemmas.Result.{err_from_is_err_and}
use Rattle.shapes.specs.Limits.{or_else}
use Rattle.chunk_files.specs.Layouts.{word}
use Rattle.chunk_files.specs.Bodies.{fault_if, dense_cells, filled}
use Rattle.chunk_files.proofs.Wordings.{word_bad, word_good, same_value, tallied, count_bad, count_good, words_all}
use Rattle.chunk_files.proofs.bodies.read_words.Goals as goal

pub returns-in_err-reading : goal.returns-in_err-reading
returns-in_err-reading g c =
    let b = c.args.raw.now in
    let v = length c.args.cells.now in
    let k = c.loop-k.k in
    let e = c.loop-k.auto.cells in
    let h = c.in_err-reading.ensures in
    let p = err_from_is_err_and c.from_residual.result c.from_residual.ensures.1 in
    rw (p.1, p.2)
    (ap (λ o. or_else o (fault_if (not (eqb (filled (dense_cells v b)) c.args.count)) (3, v))) (sym c.loop-k.invariant.0 ∙ word_bad b v k (omega arith) h.0) ∙ ap Some (sym h.1))

pub loop-k-preserved : goal.loop-k-preserved
loop-k-preserved g c =
    let m = g.M.Measure in
    let b = c.args.raw.now in
    let v = length c.args.cells.now in
    let k = c.loop-k.k in
    let e = c.loop-k.auto.cells in
    let h = c.in_ok-reading.ensures in
    let w = word b (4 * k) in
    let lt : k < length c.loop-k.cells = omega arith in
    let n : c.from-full.result ≡ cond (is_some c.in_ok-reading.reading) 1 0 = search rules in
    let t = tallied b v k (omega arith) c.loop-k.full c.from-full.result c.in_ok-reading.reading c.loop-k.invariant.2 c.loop-k.invariant.3 n h.1 in (
      word_good b v k (omega arith) h.0 ∙ c.loop-k.invariant.0,
      below_more _ _ (λ x l. let ne : x ≢ k = omega arith in rw get_or-set_other (c.loop-k.invariant.1 x l))
          (rw get_or-set_same (c.cell_of.ensures ∙ same_value m.empty m.lifted c.in_ok-reading.reading w h.1)),
      t.0,
      t.1,
    )

pub returns-then-full-from : goal.returns-then-full-from
returns-then-full-from g c =
    let v = length c.args.cells.now in
    let e = c.loop-k.auto.cells in
    count_bad c.args.raw.now v c.loop-k.k c.args.count c.loop-k.full (omega arith) c.loop-k.invariant.2 c.loop-k.invariant.0 (λ h. c.if-full-from.true (h ∙ sym c.from.ensures))
    ∙ ap (λ n. Some (3, n)) (sym e)

pub returns : goal.returns
returns g c =
    let m = g.M.Measure in
    let b = c.args.raw.now in
    let v = length c.args.cells.now in
    let e = c.loop-k.auto.cells in (
      count_good b v c.loop-k.k c.args.count c.loop-k.full (omega arith) c.loop-k.invariant.2 c.loop-k.invariant.0 (c.if-full-from.false ∙ c.from.ensures),
      words_all b v m.empty m.lifted c.loop-k.cells e (λ x l. c.loop-k.invariant.1 x (omega arith)),
    )
