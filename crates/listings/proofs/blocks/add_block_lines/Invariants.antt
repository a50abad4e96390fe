use Rattle.std.proofs.Common.{◌≡◌, ◌++◌, drop, string_bytes}
use Rattle.listings.specs.Listings.{cell_lines}
use Rattle.listings.proofs.blocks.add_block_lines.Given as goal

abbrev pub invariant-loop-offset : goal.invariant-loop-offset
invariant-loop-offset g l =
    string_bytes l.text ++ cell_lines g.M.Measure.empty g.M.Measure.columns l.mask l.number l.offset (drop l.offset l.cells)
    ≡ string_bytes l.initial.text ++ cell_lines g.M.Measure.empty g.M.Measure.columns l.mask l.number 0 l.cells
