use Rattle.std.proofs.Common.{arith}
use Rattle.shapes.proofs.Held.{dims_few, chunks_few}
use Rattle.chunk_files.proofs.file.ChunkFile.entry.Goals as goal

pub overflow_mul-number : goal.overflow_mul-number
overflow_mul-number c = omega (arith, chunks_few c.args.self.now.shape)

pub overflow_add-dimensions-2 : goal.overflow_add-dimensions-2
overflow_add-dimensions-2 c = omega (arith, dims_few c.args.self.now.shape, chunks_few c.args.self.now.shape)
