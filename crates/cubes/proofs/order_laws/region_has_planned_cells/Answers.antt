use Rattle.cubes.proofs.RegionCells.{region_has_cells, need_is_regions}
use Rattle.cubes.proofs.order_laws.region_has_planned_cells.Goals as goal

pub returns : goal.returns
returns c = record { each = λ ds place adds all divided S h has n. region_has_cells ds place adds all S h has n divided; together = need_is_regions }
