use Rattle.std.proofs.Common.{◌*◌, sym, arith}
use Rattle.std.proofs.lemmas.Bool.{cond-true, cond-false, lt-ltb, le-ltb}
use Rattle.chunk_files.specs.Bodies.{filled}
use Rattle.chunk_files.specs.declared.kind.BodyKind.TheVariants.{Pairs, Words}
use Rattle.chunk_writers.specs.Tables.{cells_of}
use Rattle.chunk_writers.specs.Written.{dense}
use Rattle.chunk_writers.proofs.Segmented.{body_filled}
use Rattle.chunk_writers.proofs.bodies.Body.kind.Goals as goal

pub returns-then-self : goal.returns-then-self
returns-then-self c =
    let b = c.args.self.now in
    let f = body_filled b in
    sym (cond-true (dense b.cells (filled (cells_of b))) Words Pairs (lt-ltb (b.cells * 2) (filled (cells_of b) * 5) (omega arith)))

pub returns-else-self : goal.returns-else-self
returns-else-self c =
    let b = c.args.self.now in
    let f = body_filled b in
    sym (cond-false (dense b.cells (filled (cells_of b))) Words Pairs (le-ltb (b.cells * 2) (filled (cells_of b) * 5) (omega arith)))
