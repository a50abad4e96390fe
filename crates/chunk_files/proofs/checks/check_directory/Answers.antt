use Rattle.std.proofs.Common.{◌+◌, ◌*◌, [], ◌∷◌, drop, sym, refl, ap, ◌∙◌, arith}
use Rattle.shapes.proofs.Held.{dims_few, limits, chunks_few}
use Rattle.chunk_files.specs.Layouts.{entries_from, entries_fault, ending}
use Rattle.chunk_files.proofs.Directories.{directory_wrong, of_shape, turn_wrong, turn_right, turn_ending, body_small, ends_wrong, ends_right}
use Rattle.chunk_files.proofs.checks.check_directory.Goals as goal

pub overflow_mul-at : goal.overflow_mul-at
overflow_mul-at c = omega (arith, chunks_few c.args.shape.now)

pub overflow_add-at : goal.overflow_add-at
overflow_add-at c = omega (arith, dims_few c.args.shape.now, chunks_few c.args.shape.now)

pub loop-j-init : goal.loop-j-init
loop-j-init c = (refl, refl, omega (arith, dims_few c.args.shape.now, chunks_few c.args.shape.now))

pub returns-then-not-is_right : goal.returns-then-not-is_right
returns-then-not-is_right c =
    let bs = c.args.bytes.now in let from = 4 + 8 * c.dimensions.result in let v = c.chunk_cells-cells.result in let t = c.total_chunks-chunks.result in
    of_shape _ _ c.dimensions.ensures c.chunk_cells-cells.ensures c.total_chunks-chunks.ensures
    (directory_wrong bs from v t (omega arith) (9, c.loop-j.j ∷ [])
    (sym c.loop-j.invariant.0 ∙ turn_wrong bs from v t c.loop-j.j c.loop-j.at c.loop-j-test.true c.read_entry-e.result c.read_entry-e.ensures (sym c.is_right.ensures ∙ c.if-not-is_right.true)))

pub loop-j-preserved : goal.loop-j-preserved
loop-j-preserved c =
    let bs = c.args.bytes.now in let from = 4 + 8 * c.dimensions.result in let v = c.chunk_cells-cells.result in let t = c.total_chunks-chunks.result in
    let j = c.loop-j.j in let at = c.loop-j.at in
    let r = sym c.is_right.ensures ∙ c.if-not-is_right.false in
    let s = body_small v at c.read_entry-e.result (omega (arith, (limits c.args.shape.now).small_chunk)) r in
    let e = c.body_length-at.ensures in (
      ap (λ x. entries_fault v (j + 1) (at + x) (drop (j + 1) (entries_from bs from t))) e
          ∙ (turn_right bs from v t j at c.loop-j-test.true c.read_entry-e.result c.read_entry-e.ensures r ∙ c.loop-j.invariant.0),
      ap (λ x. ending v (at + x) (drop (j + 1) (entries_from bs from t))) e
          ∙ (turn_ending bs from v t j at c.loop-j-test.true c.read_entry-e.result c.read_entry-e.ensures ∙ c.loop-j.invariant.1),
      let b = c.loop-j.invariant.2 in omega arith,
    )

pub returns-then-at-bytes : goal.returns-then-at-bytes
returns-then-at-bytes c =
    of_shape _ _ c.dimensions.ensures c.chunk_cells-cells.ensures c.total_chunks-chunks.ensures
    (ends_wrong c.args.bytes.now _ _ _ c.loop-j.j c.loop-j.at c.loop-j-test.false c.if-bytes-at.false c.loop-j.invariant.0 c.loop-j.invariant.1 c.if-at-bytes.true)

pub returns : goal.returns
returns c =
    of_shape _ _ c.dimensions.ensures c.chunk_cells-cells.ensures c.total_chunks-chunks.ensures
    (ends_right c.args.bytes.now _ _ _ c.loop-j.j c.loop-j.at c.loop-j-test.false c.if-bytes-at.false c.loop-j.invariant.0 c.loop-j.invariant.1 c.if-at-bytes.false)
