use Rattle.std.proofs.Common.{◌≡◌, ◌*◌, ◌++◌, get_or, take, drop, set, sym, refl, ap, ◌∙◌, subst, zero-mul, arith}
use lib.Seq.{paste}
use Rattle.shapes.specs.Arrays.{product}
use Rattle.runs.specs.Boxes.{Leads, box_cells, row_cells}
use Rattle.runs.proofs.Rows.{product_rows, rows_written}
use Rattle.runs.proofs.RowWalks.{row_fits, from_row, box_more}
use Rattle.runs.proofs.boxes.write_box.Goals as goal

pub loop-row-init : goal.loop-row-init
loop-row-init g c =
    let ks = c.args.edges.each in
    let a = c.row_dimension-along.result in
    let f = c.args.grid in
    let e = c.into_iter-row-iterator.ensures.into_iter_gives in
    let rows = c.of-row-items.ensures.rows in
    record {
      can = tt;
      finite = tt;
      rows = ap (λ z. z.radices) e ∙ rows.0;
      grid = ap (λ z. z.from) e ∙ c.of-row-items.ensures.grids.0;
      height = ap (λ z. z.height) e ∙ rows.1 ∙ ap product rows.0;
      written = sym (ap (λ z. take z (box_cells g.M.Measure.empty c.args.cells.now ks f.start f.strides) ++ drop z c.args.out.now)
          (ap (λ z. z.number * get_or ks a 0) e ∙ ap (λ z. z * get_or ks a 0) rows.2 ∙ zero-mul (get_or ks a 0)));
    }

pub overflow_mul-row : goal.overflow_mul-row
overflow_mul-row g c =
    let e = c.args.edges in
    let is = c.each-radices.ensures in
    let a = c.row_dimension-along.result in
    let i = c.loop-row.invariant in
    let s = c.in-Some.ensures.steps in
    let n = c.in-Some.row.number in
    let k : get_or c.each-radices.result a 0 ≡ get_or e.each a 0 = ap (λ z. get_or z a 0) is in
    let fits = row_fits e a (subst (λ z. Leads z a) is c.row_dimension-along.ensures.leads) c.loop-row.row-iterator c.next.new.self i.rows i.height s.6 s.7 n s.0 in
    omega (arith, fits, ap (λ z. n * z) k, c.requires.room)

pub write_row-requires : goal.write_row-requires
write_row-requires g c =
    let e = c.args.edges in
    let is = c.each-radices.ensures in
    let a = c.row_dimension-along.result in
    let lead = subst (λ z. Leads z a) is c.row_dimension-along.ensures.leads in
    let f = c.args.grid in
    let i = c.loop-row.invariant in
    let s = c.in-Some.ensures.steps in
    let n = c.in-Some.row.number in
    let k : get_or c.each-radices.result a 0 ≡ get_or e.each a 0 = ap (λ z. get_or z a 0) is in
    let fits = row_fits e a lead c.loop-row.row-iterator c.next.new.self i.rows i.height s.6 s.7 n s.0 in
    record {
      within = λ l q. from_row e a lead c.loop-row.row-iterator c.next.new.self i.rows i.height s.6 s.7 n s.0 f (omega arith) i.grid c.in-Some.row.from s.1 g.M.Measure.empty c.args.cells.now c.requires.within l (omega arith);
      room = omega (arith, fits, ap (λ z. n * z) k, c.requires.room, c.loop-row.auto.out);
    }

pub loop-row-preserved : goal.loop-row-preserved
loop-row-preserved g c =
    let e = c.args.edges in
    let is = c.each-radices.ensures in
    let a = c.row_dimension-along.result in
    let lead = subst (λ z. Leads z a) is c.row_dimension-along.ensures.leads in
    let f = c.args.grid in
    let i = c.loop-row.invariant in
    let s = c.in-Some.ensures.steps in
    let n = c.in-Some.row.number in
    let k : get_or c.each-radices.result a 0 ≡ get_or e.each a 0 = ap (λ z. get_or z a 0) is in
    record {
      can = tt;
      finite = tt;
      rows = s.3 ∙ i.rows;
      grid = s.4 ∙ i.grid;
      height = s.6 ∙ i.height;
      written = box_more e a lead c.loop-row.row-iterator c.next.new.self i.rows i.height s.6 s.7 n s.0 f (omega arith) i.grid c.in-Some.row.from s.1 g.M.Measure.empty c.args.cells.now
          c.args.out.now c.loop-row.out c.write_row.new.out c.requires.room i.written
          (c.write_row.ensures ∙ ap (λ z. paste c.loop-row.out (n * z) (row_cells g.M.Measure.empty c.args.cells.now z c.in-Some.row.from (get_or f.strides a 0)) z) k);
    }

pub returns : goal.returns
returns g c =
    let e = c.args.edges in
    let is = c.each-radices.ensures in
    let a = c.row_dimension-along.result in
    let lead = subst (λ z. Leads z a) is c.row_dimension-along.ensures.leads in
    let f = c.args.grid in
    let i = c.loop-row.invariant in
    let n = c.loop-row.row-iterator.number in
    let all : n ≡ product (set e.each a 1) = c.in-None.ensures.steps ∙ i.height in
    rows_written g.M.Measure.empty c.args.cells.now e.each f.start f.strides c.loop-row.out c.args.out.now (n * get_or e.each a 0) (product e.each)
    (ap (λ z. z * get_or e.each a 0) all ∙ sym (product_rows e.each a lead.0)) refl i.written
