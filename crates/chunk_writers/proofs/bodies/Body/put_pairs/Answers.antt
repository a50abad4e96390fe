use Rattle.std.proofs.Common.{◌≡◌, ◌+◌, ◌*◌, map, get_or, sym, refl, ap, ◌∙◌, arith}
use Rattle.std.specs.List.{flat_map}
use Rattle.std.proofs.lemmas.List.{length-map, get_or-map}
use Rattle.chunk_files.specs.Bodies.{Pair, pair_bytes}
use Rattle.chunk_writers.specs.Keys.{none_key, pair_of}
use Rattle.chunk_writers.specs.Written.{put}
use Rattle.chunk_writers.proofs.Putting.{each_step, each_done}
use Rattle.chunk_writers.proofs.Segmented.{body_pairs}
use Rattle.chunk_writers.proofs.bodies.Body.put_pairs.Goals as goal

pub loop-i-preserved : goal.loop-i-preserved
loop-i-preserved c =
    let b = c.args.self.now in
    let rows = b.rows.now in
    let ks = b.keys.now in
    let i = c.loop-i.i in
    let n = length-map ks (pair_of rows) in
    let d : Pair = pair_of rows none_key in
    let here : pair_of rows (get_or ks i none_key) ≡ get_or (map (pair_of rows) ks) i d = sym (get_or-map (pair_of rows) ks i none_key d c.loop-i-test.true) in
    each_step pair_bytes 6 (λ p. refl) (map (pair_of rows) ks) c.args.at i c.loop-i.out c.put_pair.new.out d (omega arith) (omega arith) (c.put_pair.ensures ∙ ap (λ (p : Pair). put c.loop-i.out (c.args.at + 6 * i) (pair_bytes p)) here) ∙ c.loop-i.invariant

pub returns : goal.returns
returns c =
    let b = c.args.self.now in
    let ps = map (pair_of b.rows.now) b.keys.now in
    let n = length-map b.keys.now (pair_of b.rows.now) in
    sym (each_done pair_bytes 6 (λ p. refl) ps c.args.at c.loop-i.i c.loop-i.out (omega arith)) ∙ c.loop-i.invariant ∙ ap (λ qs. put c.args.out.now c.args.at (flat_map pair_bytes qs)) (sym (body_pairs b))
