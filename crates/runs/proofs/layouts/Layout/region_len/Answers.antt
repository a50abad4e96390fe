use Rattle.std.proofs.Common.{◌≡◌, ◌+◌, ◌*◌, sym, ap, ◌∙◌, ap₂, arith}
use Rattle.cubes.specs.Summaries.{big}
use Rattle.runs.specs.Grids.{radix_at}
use Rattle.runs.proofs.Narrows.{narrow}
use Rattle.runs.proofs.Strides.{width_more}
use Rattle.runs.proofs.layouts.Layout.region_len.Goals as goal

pub overflow_mul-size : goal.overflow_mul-size
overflow_mul-size c =
    let f = radix_at c.args.self.now c.args.region in
    let e : c.loop-i.size * c.radix-size.result ≡ big 1 ◌*◌ f (c.loop-i.i + 1) = ap₂ ◌*◌ c.loop-i.invariant c.radix-size.ensures ∙ sym (width_more f c.loop-i.i) in
    omega (arith, narrow c.args.self.now c.args.region (c.loop-i.i + 1))

pub loop-i-preserved : goal.loop-i-preserved
loop-i-preserved c =
    let f = radix_at c.args.self.now c.args.region in
    ap₂ ◌*◌ c.loop-i.invariant c.radix-size.ensures ∙ sym (width_more f c.loop-i.i)

pub returns : goal.returns
returns c =
    let n : c.loop-i.i ≡ 6 = omega arith in
    c.loop-i.invariant ∙ ap (big 1 ◌*◌ (radix_at c.args.self.now c.args.region)) n
