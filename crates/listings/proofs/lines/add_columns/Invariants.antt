use Rattle.std.proofs.Common.{◌≡◌, ◌++◌, map, take, string_bytes, decimal}
use Rattle.listings.specs.Lines.{spaced}
use Rattle.listings.proofs.lines.add_columns.Given as goal

abbrev pub invariant-loop-i : goal.invariant-loop-i
invariant-loop-i g l = string_bytes l.text ≡ string_bytes l.initial.text ++ spaced (map decimal (take l.i (g.M.Measure.columns l.value)))
