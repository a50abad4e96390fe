use Rattle.std.proofs.Common.{◌≡◌, ℕ, ◌-◌, ◌^◌, length, sym, ap, ◌∙◌, arith}
use Rattle.runs.specs.declared.layouts.Region.{Region}
use Rattle.runs.specs.Grids.{child_at, block_joined, top}
use Rattle.runs.specs.Standing.{region_in, all_joined}
use Rattle.runs.proofs.Children.{child_found, child_none, child_step, other_step, ready_same}
use Rattle.runs.proofs.LaidRegions.{mask_few}
use Rattle.runs.proofs.bases.Regions.join_children.Goals as goal
use Rattle.runs.proofs.bases.Regions.join_children.Goals.{in-Some, in_default}

pub child-requires : goal.child-requires
child-requires g c = (omega arith, mask_few c.args.self.now.layout c.args.mask c.requires.below)

pub region-child-requires : goal.region-child-requires
region-child-requires g c =
    let found = child_found (child_at c.args.self.now.layout.adds c.args.mask c.loop-e.e) (c.args.mask - 2 ^ c.loop-e.e) c.in-Some.child (sym c.child.ensures ∙ c.in-Some.is) in
    omega (arith, found.1, c.requires.below)

pub join_block-requires : goal.join_block-requires
join_block-requires g c =
    let r = c.args.self.now in
    let by : ℕ → Region = λ m. region_in r m in
    let e = c.loop-e.e in
    let found = child_found (child_at r.layout.adds c.args.mask e) (c.args.mask - 2 ^ e) c.in-Some.child (sym c.child.ensures ∙ c.in-Some.is) in
    let ready = ready_same r.layout (by c.args.mask) c.region-parent.result (by (c.args.mask - 2 ^ e)) c.region-child.result c.args.block (length c.args.cells.now) (length c.loop-e.cells)
    c.region-parent.ensures (c.region-child.ensures ∙ ap by (sym found.1)) c.loop-e.auto.cells
    c.requires.inside (c.requires.joinable e (omega arith) found.0) in
    record { from_inside = ready.0; to_inside = ready.1; apart = ready.2 }

pub loop-e-preserved : goal.loop-e-preserved
loop-e-preserved g c =
    let m = g.M.Measure in
    let r = c.args.self.now in
    let y = r.layout in
    let by : ℕ → Region = λ k. region_in r k in
    let e = c.loop-e.e in
    let b = child_at y.adds c.args.mask e in
    elim c.match-child.branch [
      | in-Some w ↦
          let found = child_found b (c.args.mask - 2 ^ e) w.in-Some.child (sym c.child.ensures ∙ w.in-Some.is) in
          child_step m.empty m.op c.args.cells.now y y.adds r.bases (top y) c.args.mask c.args.block e c.loop-e.cells c.match-child.cells c.loop-e.invariant found.0
          (w.cells-is ∙ w.join_block.ensures
          ∙ ap (λ p. block_joined m.empty m.op c.loop-e.cells y p w.region-child.result c.args.block) c.region-parent.ensures
          ∙ ap (λ u. block_joined m.empty m.op c.loop-e.cells y (by c.args.mask) u c.args.block) (w.region-child.ensures ∙ ap by (sym found.1)))
      | in_default w ↦
          w.cells-is
          ∙ other_step m.empty m.op c.args.cells.now y y.adds r.bases (top y) c.args.mask c.args.block e c.loop-e.cells c.loop-e.invariant
          (child_none b (c.args.mask - 2 ^ e) (sym c.child.ensures ∙ w.in_default.is))
    ]

pub returns : goal.returns
returns g c =
    let m = g.M.Measure in
    let n : c.loop-e.e ≡ 6 = omega arith in
    c.loop-e.invariant ∙ ap (all_joined m.empty m.op c.args.cells.now c.args.self.now c.args.mask c.args.block) n
