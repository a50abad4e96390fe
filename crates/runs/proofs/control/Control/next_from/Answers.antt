use Rattle.std.proofs.Common.{◌∙◌, arith}
use Rattle.runs.proofs.Steering.{found_here, none_here, none_at_root, here_below}
use Rattle.runs.proofs.control.Control.next_from.Goals as goal

pub returns-in-Some : goal.returns-in-Some
returns-in-Some c =
    let self = c.args.self.now in (
      here_below self.tree self.passed c.loop-found.mask c.in-Some.found self.progress.counts c.loop-found.invariant.0 c.in-Some.ensures,
      λ ds place adds g. found_here ds place adds self.tree g self.passed c.loop-found.mask c.in-Some.found self.progress.counts c.loop-found.invariant.0 c.in-Some.ensures
          ∙ c.loop-found.invariant.1 ds place adds g,
    )

pub returns-then-mask-root : goal.returns-then-mask-root
returns-then-mask-root c =
    let self = c.args.self.now in (
      tt,
      λ ds place adds g. none_at_root ds place adds self.tree g self.passed c.loop-found.mask self.progress.counts (omega arith) c.in_default.ensures ∙ c.loop-found.invariant.1 ds place adds g,
    )

pub loop-found-preserved : goal.loop-found-preserved
loop-found-preserved c =
    let self = c.args.self.now in (
      (self.tree.climbs c.loop-found.mask (omega arith)).1,
      λ ds place adds g. none_here ds place adds self.tree g self.passed c.loop-found.mask self.progress.counts (omega arith) c.in_default.ensures ∙ c.loop-found.invariant.1 ds place adds g,
    )

pub loop-found-smaller : goal.loop-found-smaller
loop-found-smaller c = omega (arith, c.args.self.now.tree.climbs c.loop-found.mask (omega arith))
