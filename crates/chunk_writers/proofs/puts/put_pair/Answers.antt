use Rattle.std.proofs.Common.{arith}
use Rattle.chunk_files.specs.Layouts.{le2, le4}
use Rattle.chunk_writers.proofs.Putting.{put_both}
use Rattle.chunk_writers.proofs.puts.put_pair.Goals as goal

pub returns : goal.returns
returns c =
    put_both c.args.out.now c.put_bytes.new.out c.put_bytes-2.new.out c.args.at _ c.to_le_bytes.result c.to_le_bytes-2.result (le2 c.args.offset) (le4 c.args.reading) c.to_le_bytes.ensures c.to_le_bytes-2.ensures c.put_bytes.ensures c.put_bytes-2.ensures (omega arith) (omega arith)
