use Rattle.std.proofs.Common.{◌≡◌, ◌+◌, ◌*◌, ◌≤◌, drop}
use Rattle.chunk_files.specs.Layouts.{entries_from, entries_fault, ending}
use Rattle.chunk_files.proofs.checks.check_directory.Given as goal

-- what is left of the directory decides the check, and bodies are short
abbrev pub invariant-loop-j : goal.invariant-loop-j
invariant-loop-j l =
    (entries_fault l.cells l.j l.at (drop l.j (entries_from l.bytes l.from l.chunks)) ≡ entries_fault l.cells 0 (l.from + 8 * l.chunks) (entries_from l.bytes l.from l.chunks))
    × (ending l.cells l.at (drop l.j (entries_from l.bytes l.from l.chunks)) ≡ ending l.cells (l.from + 8 * l.chunks) (entries_from l.bytes l.from l.chunks))
    × (l.at ≤ 137438953524 + 98304 * l.j)
