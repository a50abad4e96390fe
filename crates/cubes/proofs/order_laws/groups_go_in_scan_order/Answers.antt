use Rattle.shapes.specs.Arrays.{total_chunks}
use Rattle.std.proofs.Common.{arith}
use Rattle.cubes.proofs.Handing.{handed_in_order}
use Rattle.cubes.proofs.Naming.{released_within}
use Rattle.cubes.proofs.order_laws.groups_go_in_scan_order.Goals as goal

pub returns : goal.returns
returns c = record { order = handed_in_order; only = λ ds place adds all S. released_within ds place adds all S (total_chunks ds) (omega arith) }
