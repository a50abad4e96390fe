use Rattle.std.proofs.Common.{◌≡◌, ℕ, ◌<◌, ◌≤◌, length, get_or, take, drop, None}
use Rattle.chunk_files.specs.Bodies.{pairs_in, pairs_fault, held}
use Rattle.chunk_files.specs.Contents.{cell_value}
use Rattle.chunk_files.proofs.bodies.read_pairs.Given as goal

-- what is left of the pairs decides the check; the cells are what the pairs so far hold, which lie below `low`
abbrev pub invariant-loop-k : goal.invariant-loop-k
invariant-loop-k g l =
    (pairs_fault (length l.initial.cells) l.k l.low (drop l.k (pairs_in l.raw l.count)) ≡ pairs_fault (length l.initial.cells) 0 0 (pairs_in l.raw l.count))
    × ((x : ℕ) → x < length l.cells → get_or l.cells x g.M.Measure.empty ≡ cell_value g.M.Measure.empty g.M.Measure.lifted (held (take l.k (pairs_in l.raw l.count)) x))
    × ((x : ℕ) → l.low ≤ x → held (take l.k (pairs_in l.raw l.count)) x ≡ None)
    × (l.low ≤ length l.initial.cells)
