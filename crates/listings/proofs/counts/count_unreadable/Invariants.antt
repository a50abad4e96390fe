use Rattle.std.proofs.Common.{◌≡◌, length, is_err, count_by}
use Rattle.std.specs.List.{range_with_len}
use Rattle.sources.specs.Meanings.{means, fetch_answer}
use Rattle.listings.proofs.counts.count_unreadable.Given as goal

abbrev pub invariant-loop-number : goal.invariant-loop-number
invariant-loop-number g l =
    (means g.S.Shaped.told g.S.Source.contents l.source ≡ means g.S.Shaped.told g.S.Source.contents l.initial.source)
    × (l.count ≡ count_by (λ k. is_err (fetch_answer (means g.S.Shaped.told g.S.Source.contents l.initial.source) k (length l.initial.buffer))) (range_with_len 0 l.number))
