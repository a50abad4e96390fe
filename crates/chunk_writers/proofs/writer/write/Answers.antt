use Rattle.std.proofs.Common.{length}
use Rattle.chunk_writers.proofs.Returned.{written_trip, written_is}
use Rattle.chunk_writers.proofs.writer.write.Goals as goal

pub returns-clause-trip : goal.returns-clause-trip
returns-clause-trip c = written_trip c.args.shape.now c.args.rows.now c.args.out.now c.write_file.new.out (length c.args.out.now) c.write_file.result c.write_file.ensures.answers c.write_file.ensures.bytes

pub returns-clause-written : goal.returns-clause-written
returns-clause-written c = written_is c.args.shape.now c.args.rows.now c.args.out.now c.write_file.new.out (length c.args.out.now) c.write_file.result c.write_file.ensures.answers c.write_file.ensures.bytes
