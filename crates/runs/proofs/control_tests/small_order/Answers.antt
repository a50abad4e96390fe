use Rattle.runs.proofs.control_tests.small_order.Goals as goal

pub step-requires : goal.step-requires
step-requires g c =
    let t = c.in_ok-small_tree.ensures in
    record { dims = t.dims; place = t.place; adds = t.adds; controls = c.start-control.ensures.controls t.dims t.place t.adds t.grown }
