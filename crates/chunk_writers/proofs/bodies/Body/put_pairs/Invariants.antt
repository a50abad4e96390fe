use Rattle.std.proofs.Common.{◌≡◌, ◌+◌, ◌*◌, map, drop}
use Rattle.std.specs.List.{flat_map}
use Rattle.chunk_files.specs.Bodies.{pair_bytes}
use Rattle.chunk_writers.specs.Keys.{pair_of}
use Rattle.chunk_writers.specs.Written.{put}
use Rattle.chunk_writers.proofs.bodies.Body.put_pairs.Given as goal

abbrev pub invariant-loop-i : goal.invariant-loop-i
invariant-loop-i l =
    put l.out (l.at + 6 * l.i) (flat_map pair_bytes (drop l.i (map (pair_of l.self.rows.now) l.self.keys.now)))
    ≡ put l.initial.out l.at (flat_map pair_bytes (map (pair_of l.self.rows.now) l.self.keys.now))
