use Rattle.std.proofs.Common.{◌≡◌, ◌+◌, ◌*◌, ◌≤◌, length, drop}
use Rattle.std.specs.List.{flat_map}
use Rattle.shapes.specs.Arrays.{volume}
use Rattle.shapes.specs.Views.{dims_of}
use Rattle.chunk_files.specs.Layouts.{entry_bytes, bodies_at}
use Rattle.chunk_writers.specs.Keys.{Onward}
use Rattle.chunk_writers.specs.Tables.{cells_in}
use Rattle.chunk_writers.specs.Written.{put, entries_of, file_bytes}
use Rattle.chunk_writers.proofs.Filed.{left_from}
use Rattle.chunk_writers.proofs.table.Table.put_chunks.Given as goal

abbrev pub invariant-loop-chunk : goal.invariant-loop-chunk
invariant-loop-chunk l = record {
  onward : Onward l.self.keys.now l.chunk l.keys;
  past : bodies_at (dims_of l.self.shape) ≤ l.at;
  left : l.at + length (left_from (dims_of l.self.shape) l.self.rows.now l.chunk) ≡ length (file_bytes (dims_of l.self.shape) (cells_in l.self));
  written :
      put (put l.out (l.from + 8 * l.chunk) (flat_map entry_bytes (entries_of (volume (dims_of l.self.shape)) l.at (drop l.chunk (cells_in l.self))))) l.at (left_from (dims_of l.self.shape) l.self.rows.now l.chunk)
      ≡ put (put l.initial.out l.from (flat_map entry_bytes (entries_of (volume (dims_of l.self.shape)) l.initial.at (cells_in l.self)))) l.initial.at (left_from (dims_of l.self.shape) l.self.rows.now 0);
}
