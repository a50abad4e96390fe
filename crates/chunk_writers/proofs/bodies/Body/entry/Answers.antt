use Rattle.std.proofs.Common.{sym, ap, ◌∙◌}
use Rattle.chunk_files.specs.Bodies.{filled}
use Rattle.chunk_files.specs.Kinds.{kind_number}
use Rattle.chunk_writers.specs.Tables.{cells_of}
use Rattle.chunk_writers.proofs.Segmented.{body_filled, number_made}
use Rattle.chunk_writers.proofs.bodies.Body.entry.Goals as goal

pub returns : goal.returns
returns c =
    let b = c.args.self.now in
    let kind = c.from.ensures ∙ ap kind_number c.kind.ensures ∙ number_made b.cells (filled (cells_of b)) in
    λ i. record { start = c.args.start; count = sym (body_filled b) i; kind = kind i; spare = 0 }
