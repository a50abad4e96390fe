use Rattle.std.proofs.Common.{◌≡◌, ◌*◌, ◌++◌, get_or, take, drop, set}
use Rattle.shapes.specs.Arrays.{product}
use Rattle.runs.specs.Boxes.{box_cells}
use Rattle.runs.proofs.boxes.write_box.Given as goal

abbrev pub invariant-loop-row : goal.invariant-loop-row
invariant-loop-row g l =
    let it = l.row-iterator in
    let ks = l.fn.edges.each in
    let done = it.number * get_or ks l.along 0 in
    record {
      can : (goal.iterator-loop-row g).can_next it;
      finite : (goal.iterator-loop-row g).is_finite it;
      rows : it.radices ≡ set ks l.along 1;
      grid : it.from ≡ l.grid;
      height : it.height ≡ product (set ks l.along 1);
      written : l.out ≡ take done (box_cells g.M.Measure.empty l.cells ks l.grid.start l.grid.strides) ++ drop done l.initial.out;
    }
