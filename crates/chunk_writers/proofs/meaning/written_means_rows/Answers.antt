use Rattle.shapes.specs.Views.{dims_of}
use Rattle.shapes.proofs.Held.{limits}
use Rattle.chunk_writers.proofs.Meant.{same_meaning}
use Rattle.chunk_writers.proofs.meaning.written_means_rows.Goals as goal

pub returns : goal.returns
returns g c = λ w. same_meaning g.M.Measure.empty g.M.Measure.op g.M.Measure.lifted g.M.Measure.lawful (dims_of c.args.table.now.shape) (limits c.args.table.now.shape) c.args.table.now.rows.now c.args.file.now.bytes.now w
