use Rattle.std.proofs.Common.{◌≡◌, [], ◌∷◌, ◌++◌, map, vec_items, sym, ◌∙◌, arith}
use Rattle.std.specs.List.{range_with_len}
use Rattle.std.proofs.lemmas.List.FromFn.{map-range_with_len_more}
use Rattle.shapes.specs.Views.{dims_of}
use Rattle.chunk_writers.specs.Keys.{key_of}
use Rattle.chunk_writers.proofs.keys.keys_of.Goals as goal

pub loop-number-preserved : goal.loop-number-preserved
loop-number-preserved c =
    let ds = dims_of c.args.shape.now in
    let rows = c.args.rows.now in
    let i = c.loop-number.number in
    let key : c.new.result ≡ key_of ds rows i = c.new.ensures in
    let grown : vec_items c.push.new.self ≡ map (key_of ds rows) (range_with_len 0 i) ++ key_of ds rows i ∷ [] =
    c.in_ok-push.ensures.items ∙ (λ z. c.loop-number.invariant z ++ key z ∷ []) in
    grown ∙ sym (map-range_with_len_more (key_of ds rows) 0 i i (omega arith))
