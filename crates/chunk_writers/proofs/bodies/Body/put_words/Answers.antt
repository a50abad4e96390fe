use Rattle.std.proofs.Common.{◌≡◌, ◌+◌, ◌-◌, ◌*◌, List, [], map, length, get_or, take, drop, replicate, ap, ◌∙◌, subst, rules, arith}
use Rattle.std.proofs.lemmas.List.{length-drop, length-take-le, take_all}
use Rattle.chunk_files.specs.Bodies.{held}
use Rattle.chunk_files.specs.Layouts.{le4}
use Rattle.chunk_writers.specs.declared.keys.Key.{Key}
use Rattle.chunk_writers.specs.Keys.{none_key, pair_of}
use Rattle.chunk_writers.specs.Written.{put}
use Rattle.chunk_writers.proofs.Putting.{put_is}
use Rattle.chunk_writers.proofs.Worded.{words, length_words, words_none, words_step}
use Rattle.chunk_writers.proofs.bodies.Body.put_words.Goals as goal

pub loop-key-init : goal.loop-key-init
loop-key-init c =
    let b = c.args.self.now in
    let at = c.args.at in
    let room = c.requires in
    let d = length-drop at c.args.out.now in
    let n : length (take (at + 4 * b.cells - at) (drop at c.args.out.now)) ≡ 4 * b.cells = length-take-le (at + 4 * b.cells - at) (drop at c.args.out.now) (omega arith) ∙ omega arith in
    let w = length_words (held []) 0 b.cells in
    let empty : c.fill.new.self ≡ replicate (4 * b.cells) 255 = subst (λ m. c.fill.new.self ≡ replicate m 255) n (c.fill.ensures.after (λ y h. search rules)) in
    put_is c.args.out.now c.fill.new.self (words (held []) 0 b.cells) at (at + 4 * b.cells - at) (empty ∙ words_none 0 b.cells) (omega arith)

pub loop-key-preserved : goal.loop-key-preserved
loop-key-preserved c =
    let b = c.args.self.now in
    let at = c.args.at in
    let i = c.loop-key.key-index in
    let key = get_or b.keys.now i none_key in
    c.put_bytes.ensures
    ∙ ap (put c.loop-key.out (at + 4 * key.offset)) c.to_le_bytes.ensures
    ∙ ap (λ o. put o (at + 4 * key.offset) (le4 (pair_of b.rows.now key).reading)) c.loop-key.invariant
    ∙ words_step b i c.loop-key-test.true c.args.out.now at c.requires

pub returns : goal.returns
returns c =
    let b = c.args.self.now in
    c.loop-key.invariant ∙ ap (λ (ks : List Key). put c.args.out.now c.args.at (words (held (map (pair_of b.rows.now) ks)) 0 b.cells)) (take_all c.loop-key.key-index b.keys.now c.loop-key-test.false)
