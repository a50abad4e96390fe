use Rattle.std.proofs.Common.{◌≡◌, ◌^◌, length, set, sym, refl, ap, ◌∙◌, subst, arith}
use Rattle.std.proofs.lemmas.List.{length-set}
use Rattle.shapes.specs.Arrays.{product}
use Rattle.runs.specs.Boxes.{Positive, Within}
use Rattle.runs.proofs.Digits.{start_digits, start_place}
use Rattle.runs.proofs.Rows.{edges_positive, positive_at, rows_count, rows_positive, rows_within}
use Rattle.runs.proofs.walks.Rows.of.Goals as goal

pub nonzero_div-height : goal.nonzero_div-height
nonzero_div-height c = positive_at c.each-radices.result c.args.along (subst Positive (sym c.each-radices.ensures) (edges_positive c.args.edges)) (omega arith)

pub invariant_of-result : goal.invariant_of-result
invariant_of-result c =
    let ks = c.each-radices.result in
    let a = c.args.along in
    let f = c.args.from in
    let t = c.args.to in
    let is = c.each-radices.ensures in
    let pos = subst Positive (sym is) (edges_positive c.args.edges) in
    let rows : Positive (set ks a 1) = rows_positive ks a pos in
    let six : length (set ks a 1) ≡ 6 = omega (arith, length-set ks a 1) in
    record {
      six = (six, omega arith, omega arith);
      some = λ i l. omega (arith, positive_at (set ks a 1) i rows (omega arith));
      from_within = rows_within ks a f.start f.strides (2 ^ 64) pos (subst (λ z. Within z f.start f.strides (2 ^ 64)) (sym is) c.requires.from_within);
      to_within = rows_within ks a t.start t.strides (2 ^ 64) pos (subst (λ z. Within z t.start t.strides (2 ^ 64)) (sym is) c.requires.to_within);
      some_left = omega arith;
      at_digits = start_digits (set ks a 1) rows six;
      from_place = start_place (set ks a 1) f.strides f.start rows;
      to_place = start_place (set ks a 1) t.strides t.start rows;
    }

pub returns : goal.returns
returns c =
    let ks = c.each-radices.result in
    let a = c.args.along in
    let is = c.each-radices.ensures in
    let pos = subst Positive (sym is) (edges_positive c.args.edges) in
    record {
      grids = (refl, refl);
      rows = (ap (λ z. set z a 1) is, rows_count ks a c.product.result (omega arith) pos (c.product.ensures ∙ ap product (sym is)), refl);
    }
