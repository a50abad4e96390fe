use Rattle.std.proofs.Common.{◌≡◌, rules, map, filter, ap, ◌∙◌, subst}
use Rattle.std.specs.Iterator.Runs.{ItemsMapTo}
use Rattle.std.specs.Slice.Iter.{iter_rest}
use Rattle.chunk_writers.specs.declared.keys.Key.{Key}
use Rattle.chunk_writers.specs.Keys.{repeats}
use Rattle.chunk_writers.proofs.Neighbours.{alike, least_from, rows_seen, neighbours_given}
use Rattle.chunk_writers.proofs.keys.least_repeated.Goals as goal

pub returns : goal.returns
returns c =
    let h = c.min.ensures.runs in
    let p = h.0 in
    let m = c.map.ensures.runs p p.seen h.1 in
    let q = m.0 in
    let f = c.filter.ensures.runs q q.seen m.1 in
    let r = f.0 in
    let z = c.zip.ensures.runs r r.seen f.1 in
    let u = z.0 in
    let v = z.2.0 in
    let s = c.skip.ensures.runs v v.seen (z.2.1 ∙ c.zip.ensures.second) in
    let w = s.0 in
    let mapped : p.items ≡ map (λ y. y.1.now.row) q.items = m.2.3 (λ y. y.1.now.row) (λ x r q k. search rules) in
    let filtered : q.items ≡ filter (λ y. alike y.0.now y.1.now) r.items = f.2.4 (λ y. alike y.0.now y.1.now) (λ x r q k. search rules) in
    let done = f.2.0 ∙ (m.2.0 ∙ h.2) in
    let first = subst (ItemsMapTo u (λ y. y.now)) (ap iter_rest z.1 ∙ c.iter.ensures.rest) (c.iter.ensures.runs u u.seen) in
    let second = subst (ItemsMapTo w (λ y. y.now)) (ap iter_rest s.1 ∙ c.iter-2.ensures.rest) (c.iter-2.ensures.runs w w.seen) in
    let pairs = neighbours_given r u v w c.args.keys.now z.2.2 s.2 first second done in
    let items : p.items ≡ repeats c.args.keys.now =
    mapped ∙ ap (map (λ y. y.1.now.row)) filtered ∙ rows_seen (λ y. y.0.now) (λ y. y.1.now) r.items ∙ ap (λ ps. map (λ (p : Key × Key). p.1.row) (filter (λ (p : Key × Key). alike p.0 p.1) ps)) pairs in
    least_from p (repeats c.args.keys.now) items c.min.result h.3
