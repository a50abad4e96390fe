use Rattle.std.proofs.Common.{◌≡◌, ℕ, ◌+◌, Bool, length, is_err, count_by, sym, ap, ◌∙◌, ap₂, arith}
use Rattle.std.specs.List.{range_with_len}
use Rattle.shapes.specs.Arrays.{total_chunks}
use Rattle.sources.specs.Meanings.{Meaning, means, fetch_answer}
use Rattle.listings.proofs.Counting.{byte_counts, counted_more, count_bound, unfetched_unreadable}
use Rattle.listings.proofs.counts.count_unreadable.Goals as goal

pub overflow_add-count : goal.overflow_add-count
overflow_add-count g c =
    let σ = means g.S.Shaped.told g.S.Source.contents c.args.source.now in
    let one = byte_counts _ c.from-count.result c.from-count.ensures in
    omega (arith, c.loop-number.invariant.1, count_bound (λ k. is_err (fetch_answer σ k (length c.args.buffer.now))) c.loop-number.number)

pub loop-number-preserved : goal.loop-number-preserved
loop-number-preserved g c =
    let σ = means g.S.Shaped.told g.S.Source.contents c.args.source.now in
    let n = c.loop-number.number in
    let room = length c.args.buffer.now in
    let inv = c.loop-number.invariant in
    let test : ℕ → Bool = λ k. is_err (fetch_answer σ k room) in
    let tested : test n ≡ c.is_err.result =
    sym (c.is_err.ensures.value ∙ ap is_err (c.fetch.ensures.answers ∙ ap₂ (λ (τ : Meaning g.row.M.Denot) (r : ℕ). fetch_answer τ n r) inv.0 c.loop-number.auto.buffer)) in
    (c.fetch.ensures.same ∙ inv.0, counted_more test n c.loop-number.count _ c.is_err.result inv.1 tested (ap (λ m. c.loop-number.count + m) (byte_counts c.is_err.result c.from-count.result c.from-count.ensures).0))

pub returns : goal.returns
returns g c =
    let σ = means g.S.Shaped.told g.S.Source.contents c.args.source.now in
    let room = length c.args.buffer.now in
    let inv = c.loop-number.invariant in
    let all : c.loop-number.number ≡ total_chunks σ.dims = omega (arith, c.total_chunks-number-end.ensures, ap total_chunks c.shape.ensures) in
    let counted = inv.1 ∙ ap (λ n. count_by (λ k. is_err (fetch_answer σ k room)) (range_with_len 0 n)) all in
    record { same = inv.0; fetched = counted; counted = λ fits. counted ∙ unfetched_unreadable g.M.Measure.empty σ room fits }
