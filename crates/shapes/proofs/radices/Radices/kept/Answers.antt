use Rattle.std.proofs.Common.{length, get_or, ap, ◌∙◌, arith}
use Rattle.shapes.specs.Arrays.{product, radix}
use Rattle.shapes.proofs.Radixes.{all_some, length-radix, radix_some, radix_product, some_at}
use Rattle.shapes.proofs.radices.Radices.kept.Goals as goal

pub invariant_of-result : goal.invariant_of-result
invariant_of-result c =
    let ks = c.args.self.now in
    let g = c.args.group in
    let e = c.each_kept.ensures in
    let n = length-radix g ks.each (omega (arith, ks.six)) in
    record {
      six = ap length e ∙ (n ∙ ks.six);
      some = λ i l. omega (arith, ap (λ xs. get_or xs i 0) e, some_at (radix g ks.each) i (radix_some g ks.each (all_some ks)) (omega (arith, n, ks.six)));
      small = omega (arith, ap product e, radix_product g ks.each (all_some ks), ks.small);
    }
