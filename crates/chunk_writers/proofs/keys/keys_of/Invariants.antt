use Rattle.std.proofs.Common.{◌≡◌, map, vec_items}
use Rattle.std.specs.List.{range_with_len}
use Rattle.shapes.specs.Views.{dims_of}
use Rattle.chunk_writers.specs.Keys.{key_of}
use Rattle.chunk_writers.proofs.keys.keys_of.Given as goal

abbrev pub invariant-loop-number : goal.invariant-loop-number
invariant-loop-number l = vec_items l.keys ≡ map (key_of (dims_of l.shape) l.rows) (range_with_len 0 l.number)
