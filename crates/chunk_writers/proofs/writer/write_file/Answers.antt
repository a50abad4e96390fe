use Rattle.std.proofs.Common.{None, Some, vec_items, sym, ◌∙◌, subst, inl}
use Rattle.shapes.specs.Views.{dims_of}
use Rattle.shapes.proofs.Held.{all_fit}
use Rattle.sources.specs.Rows.{first_outside, rows_answer}
use Rattle.chunk_writers.specs.Keys.{Keyed, Repeated}
use Rattle.chunk_writers.proofs.Answered.{rows_passed, in_range_from, refused_twice, none_twice, sound}
use Rattle.chunk_writers.proofs.writer.write_file.Goals as goal

pub sorted_keys-requires : goal.sorted_keys-requires
sorted_keys-requires c =
    let ds = dims_of c.args.shape.now in
    let rows = c.args.rows.now in
    in_range_from ds 0 rows (rows_passed (first_outside ds 0 rows) (c.in_ok-check.ensures ∙ (λ i. rows_answer (dims_of (c.new.ensures.0 i)) (c.new.ensures.1 i))))

pub returns-in-Some-clause-answers : goal.returns-in-Some-clause-answers
returns-in-Some-clause-answers c =
    let s = c.args.shape.now in
    let rows = c.args.rows.now in
    let passed = rows_passed (first_outside (dims_of s) 0 rows) (c.in_ok-check.ensures ∙ (λ i. rows_answer (dims_of (c.new.ensures.0 i)) (c.new.ensures.1 i))) in
    inl (sym (refused_twice (dims_of s) (all_fit s) rows (vec_items c.in_ok-keys.keys) passed c.in_ok-keys.ensures _ c.in-Some.row (subst (λ ks. Repeated ks (Some c.in-Some.row)) c.deref.ensures.value c.in-Some.ensures)))

pub invariant_of-table : goal.invariant_of-table
invariant_of-table c =
    let s = c.args.shape.now in
    let rows = c.args.rows.now in
    let passed = rows_passed (first_outside (dims_of s) 0 rows) (c.in_ok-check.ensures ∙ (λ i. rows_answer (dims_of (c.new.ensures.0 i)) (c.new.ensures.1 i))) in
    let K = subst (Keyed (dims_of s) rows) (sym c.deref-2.ensures.value) (sound (dims_of s) (all_fit s) rows (vec_items c.in_ok-keys.keys) passed c.in_ok-keys.ensures 0 (subst (λ ks. Repeated ks None) c.deref.ensures.value c.in_default.ensures)) in
    record { ranged = K.ranged; each = K.each; every = K.every; rises = K.rises }

pub returns-clause-answers : goal.returns-clause-answers
returns-clause-answers c =
    let s = c.args.shape.now in
    let rows = c.args.rows.now in
    let passed = rows_passed (first_outside (dims_of s) 0 rows) (c.in_ok-check.ensures ∙ (λ i. rows_answer (dims_of (c.new.ensures.0 i)) (c.new.ensures.1 i))) in
    inl (c.put_file.ensures.answers ∙ sym (none_twice (dims_of s) (all_fit s) rows (vec_items c.in_ok-keys.keys) passed c.in_ok-keys.ensures _ (subst (λ ks. Repeated ks None) c.deref.ensures.value c.in_default.ensures)))
