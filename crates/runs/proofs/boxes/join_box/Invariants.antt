use Rattle.std.proofs.Common.{◌≡◌, ◌*◌, get_or, set}
use Rattle.shapes.specs.Arrays.{product}
use Rattle.runs.proofs.Joining.{JoinedUpTo}
use Rattle.runs.proofs.boxes.join_box.Given as goal

abbrev pub invariant-loop-row : goal.invariant-loop-row
invariant-loop-row g l =
    let m = g.M.Measure in
    let it = l.row-iterator in
    let ks = l.fn.edges.each in
    record {
      can : (goal.iterator-loop-row g).can_next it;
      finite : (goal.iterator-loop-row g).is_finite it;
      rows : it.radices ≡ set ks l.along 1;
      from_grid : it.from ≡ l.from;
      to_grid : it.to ≡ l.to;
      height : it.height ≡ product (set ks l.along 1);
      joined : JoinedUpTo m.empty m.op m.lawful l.initial.cells ks l.from.start l.from.strides l.to.start l.to.strides l.cells (it.number * get_or ks l.along 0);
    }
