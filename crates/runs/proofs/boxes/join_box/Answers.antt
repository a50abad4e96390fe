use Rattle.std.proofs.Common.{◌≡◌, ◌*◌, length, get_or, set, sym, ap, ◌∙◌, subst, arith}
use Rattle.shapes.specs.Arrays.{product}
use Rattle.runs.specs.Boxes.{Leads, row_joined}
use Rattle.runs.proofs.Rows.{edges_positive, product_rows, row_within}
use Rattle.runs.proofs.RowWalks.{from_at, to_at}
use Rattle.runs.proofs.Joining.{JoinedUpTo, box_none, box_all, rows_disjoint, row_more}
use Rattle.runs.proofs.boxes.join_box.Goals as goal

pub loop-row-init : goal.loop-row-init
loop-row-init g c =
    let m = g.M.Measure in
    let ks = c.args.edges.each in
    let a = c.row_dimension-along.result in
    let f = c.args.from in
    let t = c.args.to in
    let s = c.args.cells.now in
    let e = c.into_iter-row-iterator.ensures.into_iter_gives in
    let rows = c.of-row-items.ensures.rows in
    record {
      can = tt;
      finite = tt;
      rows = ap (λ z. z.radices) e ∙ rows.0;
      from_grid = ap (λ z. z.from) e ∙ c.of-row-items.ensures.grids.0;
      to_grid = ap (λ z. z.to) e ∙ c.of-row-items.ensures.grids.1;
      height = ap (λ z. z.height) e ∙ rows.1 ∙ ap product rows.0;
      joined = subst (λ z. JoinedUpTo m.empty m.op m.lawful s ks f.start f.strides t.start t.strides s (z * get_or ks a 0)) (sym (ap (λ z. z.number) e ∙ rows.2))
          (box_none m.empty m.op m.lawful s ks f.start f.strides t.start t.strides (get_or ks a 0));
    }

pub join_row-requires : goal.join_row-requires
join_row-requires g c =
    let m = g.M.Measure in
    let e = c.args.edges in
    let is = c.each-radices.ensures in
    let a = c.row_dimension-along.result in
    let lead = subst (λ z. Leads z a) is c.row_dimension-along.ensures.leads in
    let s = c.args.cells.now in
    let f = c.args.from in
    let t = c.args.to in
    let it = c.loop-row.row-iterator in
    let i = c.loop-row.invariant in
    let steps = c.in-Some.ensures.steps in
    let x = c.in-Some.row in
    let k : get_or c.each-radices.result a 0 ≡ get_or e.each a 0 = ap (λ z. get_or z a 0) is in
    let at_from = from_at it (set e.each a 1) i.rows f x.from i.from_grid steps.1 in
    let at_to = to_at it (set e.each a 1) i.rows t x.to i.to_grid steps.2 in
    let apart = rows_disjoint m.empty m.op m.lawful s e.each f.start f.strides t.start t.strides a lead (omega (arith, e.six)) (omega (arith, e.six)) (edges_positive e) c.requires.apart it.number x.from x.to at_from at_to in
    record {
      from_within = λ l q. omega (arith, c.loop-row.auto.cells, row_within e.each f.strides a f.start lead (omega (arith, e.six)) (edges_positive e) it.number x.from at_from (length s) c.requires.from_within l (omega arith));
      to_within = λ l q. omega (arith, c.loop-row.auto.cells, row_within e.each t.strides a t.start lead (omega (arith, e.six)) (edges_positive e) it.number x.to at_to (length s) c.requires.to_within l (omega arith));
      apart = λ u v lu lv. apart u v (omega arith) (omega arith);
    }

pub loop-row-preserved : goal.loop-row-preserved
loop-row-preserved g c =
    let m = g.M.Measure in
    let e = c.args.edges in
    let is = c.each-radices.ensures in
    let a = c.row_dimension-along.result in
    let lead = subst (λ z. Leads z a) is c.row_dimension-along.ensures.leads in
    let s = c.args.cells.now in
    let f = c.args.from in
    let t = c.args.to in
    let it = c.loop-row.row-iterator in
    let i = c.loop-row.invariant in
    let steps = c.in-Some.ensures.steps in
    let x = c.in-Some.row in
    let k : get_or c.each-radices.result a 0 ≡ get_or e.each a 0 = ap (λ z. get_or z a 0) is in
    let at_from = from_at it (set e.each a 1) i.rows f x.from i.from_grid steps.1 in
    let at_to = to_at it (set e.each a 1) i.rows t x.to i.to_grid steps.2 in
    record {
      can = tt;
      finite = tt;
      rows = steps.3 ∙ i.rows;
      from_grid = steps.4 ∙ i.from_grid;
      to_grid = steps.5 ∙ i.to_grid;
      height = steps.6 ∙ i.height;
      joined = subst (λ z. JoinedUpTo m.empty m.op m.lawful s e.each f.start f.strides t.start t.strides c.join_row.new.cells (z * get_or e.each a 0)) (sym steps.7)
          (row_more m.empty m.op m.lawful s e.each f.start f.strides t.start t.strides a lead (omega (arith, e.six)) (omega (arith, e.six)) (edges_positive e) c.requires.apart it.number x.from x.to at_from at_to
          c.requires.from_within c.loop-row.cells c.join_row.new.cells i.joined
          (c.join_row.ensures ∙ ap (λ z. row_joined m.empty m.op c.loop-row.cells z x.from (get_or f.strides a 0) x.to (get_or t.strides a 0)) k));
    }

pub returns : goal.returns
returns g c =
    let m = g.M.Measure in
    let e = c.args.edges in
    let a = c.row_dimension-along.result in
    let lead = subst (λ z. Leads z a) c.each-radices.ensures c.row_dimension-along.ensures.leads in
    let f = c.args.from in
    let t = c.args.to in
    let i = c.loop-row.invariant in
    let n = c.loop-row.row-iterator.number in
    let all : n ≡ product (set e.each a 1) = c.in-None.ensures.steps ∙ i.height in
    box_all m.empty m.op m.lawful c.args.cells.now e.each f.start f.strides t.start t.strides c.loop-row.cells (n * get_or e.each a 0)
    (ap (λ z. z * get_or e.each a 0) all ∙ sym (product_rows e.each a lead.0)) i.joined
