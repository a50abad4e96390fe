use Rattle.std.proofs.Common.{sym, refl, ◌∙◌, arith}
use Rattle.chunk_files.specs.Layouts.{dim_bytes}
use Rattle.chunk_writers.proofs.Putting.{each_step, each_done}
use Rattle.chunk_writers.proofs.puts.put_dims.Goals as goal

pub loop-i-preserved : goal.loop-i-preserved
loop-i-preserved c = each_step dim_bytes 8 (λ d. refl) c.args.dims.now c.args.at c.loop-i.i c.loop-i.out c.put_dim.new.out _ (omega arith) (omega arith) c.put_dim.ensures ∙ c.loop-i.invariant

pub returns : goal.returns
returns c = sym (each_done dim_bytes 8 (λ d. refl) c.args.dims.now c.args.at c.loop-i.i c.loop-i.out (omega arith)) ∙ c.loop-i.invariant
