use Rattle.std.proofs.Common.{◌+◌, [], ◌∷◌, ◌++◌, refl, arith}
use Rattle.chunk_files.specs.Layouts.{le2, le4}
use Rattle.chunk_writers.proofs.Putting.{put_both, put_then}
use Rattle.chunk_writers.proofs.puts.put_entry.Goals as goal

pub returns : goal.returns
returns c =
    let p = put_both c.args.out.now c.put_bytes.new.out c.put_bytes-2.new.out c.args.at (c.args.at + 4) c.to_le_bytes.result c.to_le_bytes-2.result (le4 c.args.e.start) (le2 c.args.e.count) c.to_le_bytes.ensures c.to_le_bytes-2.ensures c.put_bytes.ensures c.put_bytes-2.ensures refl (omega arith) in
    put_then c.args.out.now c.put_bytes-2.new.out _ c.args.at (c.args.at + 6) (le4 c.args.e.start ++ le2 c.args.e.count) (c.args.e.kind ∷ c.args.e.spare ∷ []) p c.put_bytes-3.ensures refl (omega arith)
