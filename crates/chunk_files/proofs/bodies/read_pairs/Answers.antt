use Rattle.std.proofs.Common.{◌*◌, length, None, sym, refl, ap, ◌∙◌, arith, length-set}
use Rattle.std.proofs.lemmas.Result.{err_from_is_err_and}
use Rattle.chunk_files.specs.Bodies.{pair_at, pair_fault, pairs_in, pairs_fault}
use Rattle.chunk_files.specs.Refusals.{body_fault}
use Rattle.chunk_files.proofs.Pairings.{pair_bad, pair_good, pairs_none, held_set, held_above, held_first, held_all}
use Rattle.chunk_files.proofs.bodies.read_pairs.Goals as goal

pub loop-k-init : goal.loop-k-init
loop-k-init g c =
    let m = g.M.Measure in
    let b = c.args.raw.now in
    let v = length c.args.cells.now in
    (refl {a = pairs_fault v 0 0 (pairs_in b c.args.count)}, held_first b c.args.count v m.empty m.lifted c.args.cells.now c.requires.fresh, (λ x l. refl {a = None}), omega arith)

pub returns-in_err-offset : goal.returns-in_err-offset
returns-in_err-offset g c =
    let b = c.args.raw.now in
    let p = err_from_is_err_and c.from_residual.result c.from_residual.ensures.1 in
    let bad = ap (λ v. pair_fault v c.loop-k.k c.loop-k.low (pair_at b (6 * c.loop-k.k))) (sym c.loop-k.auto.cells) ∙ c.in_err-offset.ensures in
    rw (p.1, p.2)
    (sym c.loop-k.invariant.0 ∙ pair_bad b c.args.count (length c.args.cells.now) c.loop-k.k c.loop-k.low c.loop-k-test.true (body_fault c.in_err-offset.field-0.0) bad)

pub loop-k-preserved : goal.loop-k-preserved
loop-k-preserved g c =
    let m = g.M.Measure in
    let b = c.args.raw.now in
    let v = length c.args.cells.now in
    let k = c.loop-k.k in let low = c.loop-k.low in let o = c.in_ok-offset.offset in let r = c.in_ok-offset.reading in
    let h = c.in_ok-offset.ensures in
    let good = ap (λ v. pair_fault v k low (pair_at b (6 * k))) (sym c.loop-k.auto.cells) ∙ h.0 in
    let len = length-set c.loop-k.cells o c.lift.result in
    let fits = h.4 in (
      pair_good b c.args.count v k low c.loop-k-test.true o r h.1 h.2 good ∙ c.loop-k.invariant.0,
      (λ x l. held_set b c.args.count v k low c.loop-k-test.true o r h.1 h.2 h.3 c.loop-k.invariant.2 m.empty m.lifted c.loop-k.cells c.lift.result c.lift.ensures fits c.loop-k.invariant.1 x (omega arith)),
      held_above b c.args.count v k low c.loop-k-test.true o r h.1 h.2 h.3 c.loop-k.invariant.2,
      let kept = c.loop-k.auto.cells in omega arith,
    )

pub returns : goal.returns
returns g c =
    let m = g.M.Measure in
    let b = c.args.raw.now in
    let v = length c.args.cells.now in (
      sym c.loop-k.invariant.0 ∙ pairs_none b c.args.count v c.loop-k.k c.loop-k.low c.loop-k-test.false,
      held_all b c.args.count v m.empty m.lifted c.loop-k.k c.loop-k-test.false c.loop-k.cells c.loop-k.auto.cells c.loop-k.invariant.1,
    )
