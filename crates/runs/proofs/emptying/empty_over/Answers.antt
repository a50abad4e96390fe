use Rattle.std.proofs.Common.{◌+◌, ◌^◌, ◌<◌, length, sym, ◌∙◌, arith}
use Rattle.shapes.proofs.Held.{limits}
use Rattle.runs.specs.Planned.{places_of, adds_of}
use Rattle.runs.specs.Trees.{node}
use Rattle.runs.proofs.PlannedScans.{planned_scan}
use Rattle.runs.proofs.FromState.{ds, grown_in, same_top, top_is}
use Rattle.runs.proofs.Steering.{same_groups, up_below, up_above}
use Rattle.runs.proofs.ReleaseMasks.{release_below, climb_step}
use Rattle.runs.proofs.ReleasesOver.{begins_at, climbs, ends_within, ends_past}
use Rattle.runs.proofs.emptying.empty_over.Goals as goal

pub climb-init : goal.climb-init
climb-init g c =
    let s = c.args.state.now in
    (c.requires.below, begins_at g.M.Measure.empty (ds s) (planned_scan (ds s) (limits s.shape)) c.args.from c.requires.below s.control.next c.args.cells.now)

pub returns-then-mask-root : goal.returns-then-mask-root
returns-then-mask-root g c =
    let s = c.args.state.now in
    let S = planned_scan (ds s) (limits s.shape) in
    let m = c.climb.mask in
    ends_past g.M.Measure.empty (ds s) S c.args.from c.requires.below s.control.next c.args.cells.now c.empty_mask.new.cells
    (climbs g.M.Measure.empty (ds s) S c.args.from c.requires.below s.control.next c.args.cells.now m (2 ^ length (ds s)) c.climb.invariant.0
    c.climb.cells c.empty_mask.new.cells c.climb.invariant.0 (λ k l a b. absurd (omega (arith, top_is s, same_top s, c.root-root.ensures.mask))) (λ k l b. absurd (omega arith)) c.climb.invariant.1
    (sym c.climb-test.ensures) c.empty_mask.ensures)

pub climb-preserved : goal.climb-preserved
climb-preserved g c =
    let s = c.args.state.now in
    let S = planned_scan (ds s) (limits s.shape) in
    let m = c.climb.mask in
    let same = same_groups (ds s) (places_of (ds s)) (adds_of (ds s)) s.control.tree (grown_in s) in
    let other : m + 1 < 2 ^ s.control.tree.n = omega (arith, top_is s, same_top s, c.root-root.ensures.mask, c.climb.invariant.0) in
    let more = (node s.control.tree m).up in
    let low : more < 2 ^ s.control.tree.n = up_below (ds s) (places_of (ds s)) (adds_of (ds s)) s.control.tree (grown_in s) m other in
    let high : m < more = up_above (ds s) (places_of (ds s)) (adds_of (ds s)) s.control.tree (grown_in s) m other in (
      omega arith,
      climbs g.M.Measure.empty (ds s) S c.args.from c.requires.below s.control.next c.args.cells.now m more c.climb.invariant.0
          c.climb.cells c.empty_mask.new.cells high
          (λ k l a b. sym (climb_step (ds s) (places_of (ds s)) (adds_of (ds s)) s.control.tree (grown_in s) k m a (omega arith))
          ∙ release_below (ds s) (places_of (ds s)) (adds_of (ds s)) S k more b (omega arith))
          (λ k l b. climb_step (ds s) (places_of (ds s)) (adds_of (ds s)) s.control.tree (grown_in s) k m (omega arith) (omega arith))
          c.climb.invariant.1 (sym c.climb-test.ensures) c.empty_mask.ensures,
    )

pub returns : goal.returns
returns g c =
    let s = c.args.state.now in
    ends_within g.M.Measure.empty (ds s) (planned_scan (ds s) (limits s.shape)) c.args.from c.requires.below s.control.next c.args.cells.now c.climb.mask c.climb.cells c.climb.invariant.0 c.climb.invariant.1 (sym c.climb-test.ensures)

pub climb-smaller : goal.climb-smaller
climb-smaller g c =
    let s = c.args.state.now in
    let same = same_groups (ds s) (places_of (ds s)) (adds_of (ds s)) s.control.tree (grown_in s) in
    let m = c.climb.mask in
    let other : m + 1 < 2 ^ s.control.tree.n = omega (arith, top_is s, same_top s, c.root-root.ensures.mask, c.climb.invariant.0) in
    omega (
      arith,
      up_above (ds s) (places_of (ds s)) (adds_of (ds s)) s.control.tree (grown_in s) m other,
      up_below (ds s) (places_of (ds s)) (adds_of (ds s)) s.control.tree (grown_in s) m other,
    )
