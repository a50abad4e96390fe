use Rattle.std.proofs.Common.{eqb, map, length, take, drop, sym, ap, ◌∙◌, subst, arith}
use Rattle.std.specs.List.{range_with_len}
use Rattle.std.proofs.lemmas.List.Sums.{prefix_len-le-length}
use Rattle.chunk_files.specs.Bodies.{held}
use Rattle.chunk_writers.specs.declared.keys.Key.{Key}
use Rattle.chunk_writers.specs.Keys.{pair_of, Onward}
use Rattle.chunk_writers.specs.Segments.{Kept, Climbs}
use Rattle.shapes.proofs.Held.{limits}
use Rattle.chunk_writers.proofs.Tabled.{split_rest, split_cells, split_few, split_climbs, split_kept}
use Rattle.chunk_writers.proofs.table.Table.split_body.Goals as goal

pub split_at-requires : goal.split_at-requires
split_at-requires c = let l = prefix_len-le-length (λ (k : Key). eqb k.chunk c.args.chunk) c.args.keys.now in let e = c.count_front.ensures in omega arith

pub invariant_of-body : goal.invariant_of-body
invariant_of-body c =
    let t = c.args.self.now in
    let cells = c.chunk_cells.ensures in
    let small = (limits t.shape).small_chunk in
    let here = sym (c.split_at.ensures.front ∙ ap (λ n. take n c.args.keys.now) c.count_front.ensures) in
    let few = split_few t c.args.chunk c.requires.within c.args.keys.now c.requires.onward in
    let long = ap length here in
    record {
      small = omega arith;
      few = omega arith;
      kept = subst (λ v. Kept t.rows.now v c.split_at.result.0.now) (sym cells) (subst (Kept t.rows.now _) here (split_kept t c.args.chunk c.requires.within c.args.keys.now c.requires.onward));
      climbs = subst Climbs here (split_climbs t c.args.chunk c.requires.within c.args.keys.now c.requires.onward);
    }

pub returns-clause-body : goal.returns-clause-body
returns-clause-body c =
    let t = c.args.self.now in
    let cells = c.chunk_cells.ensures in
    let here = c.split_at.ensures.front ∙ ap (λ n. take n c.args.keys.now) c.count_front.ensures in
    (λ i. map (held (map (pair_of t.rows.now) (here i))) (range_with_len 0 (cells i))) ∙ split_cells t c.args.chunk c.requires.within c.args.keys.now c.requires.onward

pub returns-clause-onward : goal.returns-clause-onward
returns-clause-onward c =
    let t = c.args.self.now in
    let rest = c.split_at.ensures.back ∙ ap (λ n. drop n c.args.keys.now) c.count_front.ensures in
    subst (Onward t.keys.now _) (sym rest) (split_rest t c.args.chunk c.requires.within c.args.keys.now c.requires.onward)
