use Rattle.std.proofs.Common.{◌≡◌, ℕ, ◌+◌, ◌*◌, ◌<◌, length, get_or}
use Rattle.shapes.specs.Arrays.{none_dim}
use Rattle.chunk_files.specs.Layouts.{dim_at}
use Rattle.chunk_files.proofs.checks.read_dims.Given as goal

abbrev pub invariant-loop-i : goal.invariant-loop-i
invariant-loop-i l = (length l.dim-items ≡ 6) × ((k : ℕ) → k < l.i → get_or l.dim-items k none_dim ≡ dim_at l.bytes (0 + 8 * k))
