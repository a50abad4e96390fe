use Rattle.std.proofs.Common.{refl, arith}
use Rattle.std.proofs.lemmas.Result.{err_from_is_err_and}
use Rattle.chunk_files.specs.Refusals.{file_refusal}
use Rattle.chunk_files.proofs.Spelled.{Bytes}
use Rattle.chunk_files.proofs.Formed.{layout_found, layout_missed, layout_tells}
use Rattle.chunk_files.proofs.file.ChunkFile.open.Goals as goal

pub returns-in_err-shape : goal.returns-in_err-shape
returns-in_err-shape c =
    let bs = c.args.bytes.now in
    let p = err_from_is_err_and c.from_residual.result c.from_residual.ensures.1 in
    let h = c.in_err-shape.ensures in
    record { checks = rw (p.1, p.2) h; layout = layout_missed c.from_residual.result p.0 bs (file_refusal c.in_err-shape.field-0.0) p.1 h; tells = layout_tells bs }

pub returns : goal.returns
returns c =
    let bs = c.args.bytes.now in
    let small : Bytes bs = λ i. let f = c.type_inv.bytes i in omega arith in
    let h = c.in_ok-shape.ensures.0 in
    record { checks = (h, refl); layout = layout_found bs small h; tells = layout_tells bs }
