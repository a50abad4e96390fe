use Rattle.std.proofs.Common.{length}
use Rattle.shapes.specs.Arrays.{radix, group, counts}
use Rattle.cubes.specs.Scans.{scan_digits}
use Rattle.runs.specs.Controls.{handed_at}
use Rattle.runs.proofs.Stepping.{some_released, next_within, next_filled, named_next}
use Rattle.runs.proofs.control.Control.next_block.Goals as goal

pub returns : goal.returns
returns c = λ ds place adds s.
    let m = c.in_ok-mask.mask in
    let e = c.in_ok-mask.was in
    let self = c.args.self.now in (
      some_released ds place adds self s m e,
      named_next ds place adds self s m e c.next_at.result.number
          (c.next_at.ensures.number ds place adds s.grown (scan_digits place (radix (group (length ds) m) (counts ds)) (handed_at self.progress.counts m)) (next_within ds place adds self s m e)
          (next_filled ds place adds self s m e c.next_at.result.at (c.next_at.ensures.at ds place adds s))),
    )
