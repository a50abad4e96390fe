use Rattle.std.proofs.Common.{◌≡◌, ◌+◌, ◌*◌, drop}
use Rattle.std.specs.List.{flat_map}
use Rattle.chunk_files.specs.Layouts.{dim_bytes}
use Rattle.chunk_writers.specs.Written.{put}
use Rattle.chunk_writers.proofs.puts.put_dims.Given as goal

abbrev pub invariant-loop-i : goal.invariant-loop-i
invariant-loop-i l = put l.out (l.at + 8 * l.i) (flat_map dim_bytes (drop l.i l.dims)) ≡ put l.initial.out l.at (flat_map dim_bytes l.dims)
