use Rattle.std.proofs.Common.{◌≡◌, ℕ, ◌+◌, ◌*◌, false, cond, get_or, set, sym, ap, ◌∙◌, ap₂, arith, below_more}
use Rattle.std.proofs.lemmas.List.{length-set, get_or-set_same, get_or-set_other}
use Rattle.std.proofs.lemmas.List.FromFn.{fill_by_all}
use Rattle.cubes.specs.Summaries.{big}
use Rattle.runs.specs.Grids.{radix_at, stride_at, first_at}
use Rattle.cubes.proofs.Joins.{big_last}
use Rattle.cubes.proofs.ScanNumbers.{sums}
use Rattle.runs.proofs.Narrows.{narrow}
use Rattle.runs.proofs.Strides.{sum_part, width_more}
use Rattle.runs.proofs.layouts.Layout.grid.Goals as goal

pub overflow_mul-start : goal.overflow_mul-start
overflow_mul-start c =
    let y = c.args.self.now in
    let r = c.args.region in
    let i = c.loop-i.i in
    let f : ℕ → ℕ = λ i. first_at y r c.args.block i * stride_at y r i in
    let e : c.first.result * c.stride-stride.result ≡ f i = ap₂ ◌*◌ c.first.ensures (c.stride-stride.ensures ∙ ap (λ z. cond (get_or r.kept i false) z 0) c.loop-i.invariant.3) in
    omega (arith, c.requires, sum_part f i 6 (omega arith))

pub overflow_add-start : goal.overflow_add-start
overflow_add-start c =
    let y = c.args.self.now in
    let r = c.args.region in
    let i = c.loop-i.i in
    let f : ℕ → ℕ = λ i. first_at y r c.args.block i * stride_at y r i in
    let e : c.first.result * c.stride-stride.result ≡ f i = ap₂ ◌*◌ c.first.ensures (c.stride-stride.ensures ∙ ap (λ z. cond (get_or r.kept i false) z 0) c.loop-i.invariant.3) in
    omega (arith, c.requires, c.loop-i.invariant.2, sum_part f i 6 (omega arith))

pub overflow_mul-size : goal.overflow_mul-size
overflow_mul-size c =
    let y = c.args.self.now in
    let r = c.args.region in
    let i = c.loop-i.i in
    let e : c.loop-i.size * c.radix-size.result ≡ big 1 ◌*◌ (radix_at y r) (i + 1) = ap₂ ◌*◌ c.loop-i.invariant.3 c.radix-size.ensures ∙ sym (width_more (radix_at y r) i) in
    omega (arith, narrow y r (i + 1))

pub loop-i-preserved : goal.loop-i-preserved
loop-i-preserved c =
    let y = c.args.self.now in
    let r = c.args.region in
    let i = c.loop-i.i in
    let xs = c.loop-i.strides in
    let v = c.stride-stride.result in
    let f : ℕ → ℕ = λ i. first_at y r c.args.block i * stride_at y r i in
    let s : v ≡ stride_at y r i = c.stride-stride.ensures ∙ ap (λ z. cond (get_or r.kept i false) z 0) c.loop-i.invariant.3 in
    let e : c.first.result * v ≡ f i = ap₂ ◌*◌ c.first.ensures s in (
      length-set xs i v ∙ c.loop-i.invariant.0,
      below_more (λ k. get_or (set xs i v) k 0 ≡ stride_at y r k) i
          (λ k l. get_or-set_other xs i k v 0 (λ q. omega arith) ∙ c.loop-i.invariant.1 k l)
          (get_or-set_same xs i v 0 (omega (arith, c.loop-i.invariant.0)) ∙ s),
      omega (arith, c.loop-i.invariant.2, big_last 0 ◌+◌ sums f i),
      ap₂ ◌*◌ c.loop-i.invariant.3 c.radix-size.ensures ∙ sym (width_more (radix_at y r) i),
    )

pub returns : goal.returns
returns c =
    let y = c.args.self.now in
    let r = c.args.region in
    let n : c.loop-i.i ≡ 6 = omega arith in
    record {
      start = c.loop-i.invariant.2 ∙ ap (λ z. r.base + big 0 ◌+◌ (λ i. first_at y r c.args.block i * stride_at y r i) z) n;
      strides = fill_by_all (stride_at y r) c.loop-i.strides 6 0 c.loop-i.invariant.0 (λ k l. c.loop-i.invariant.1 k (omega arith));
    }
