use Rattle.std.proofs.Common.{◌≡◌, ℕ, ◌+◌, ◌*◌, ◌≤◌, length}
use Rattle.shapes.specs.Arrays.{total_chunks}
use Rattle.shapes.specs.Views.{dims_of}
use Rattle.chunk_files.specs.Layouts.{bodies_at}
use Rattle.chunk_writers.specs.Keys.{Onward}
use Rattle.chunk_writers.specs.Tables.{cells_in}
use Rattle.chunk_writers.specs.Written.{file_bytes}
use Rattle.chunk_writers.proofs.Filed.{left_from}
use Rattle.chunk_writers.proofs.table.Table.size.Given as goal

abbrev pub invariant-loop-key : goal.invariant-loop-key
invariant-loop-key l = record {
  chunk : ℕ;
  within : chunk ≤ total_chunks (dims_of l.self.shape);
  onward : Onward l.self.keys.now chunk l.keys;
  left : l.size + length (left_from (dims_of l.self.shape) l.self.rows.now chunk) ≡ length (file_bytes (dims_of l.self.shape) (cells_in l.self));
  bound : l.size + 10 * length l.keys ≤ bodies_at (dims_of l.self.shape) + 10 * length l.self.keys.now;
}

abbrev pub decreases-loop-key : goal.decreases-loop-key
decreases-loop-key l = length l.keys
