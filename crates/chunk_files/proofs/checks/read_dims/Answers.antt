use Rattle.std.proofs.Common.{◌≡◌, ℕ, ◌+◌, ◌*◌, ◌<◌, map, length, take, ap, ◌∙◌, arith, length-set}
use Rattle.std.specs.List.{range_with_len}
use Rattle.std.proofs.lemmas.List.FromFn.{fill_by_all, take-map-range_with_len}
use Rattle.std.proofs.lemmas.List.Edits.{fill_by_more}
use Rattle.shapes.specs.declared.dims.Dim.{Dim}
use Rattle.shapes.specs.Arrays.{none_dim}
use Rattle.chunk_files.specs.Layouts.{dim_at}
use Rattle.chunk_files.proofs.checks.read_dims.Goals as goal

pub loop-i-preserved : goal.loop-i-preserved
loop-i-preserved c =
    let f : ℕ → Dim = λ k. dim_at c.args.bytes.now (0 + 8 * k) in
    let i = c.loop-i.i in
    let lt : i < length c.loop-i.dim-items = omega (arith, c.loop-i.invariant.0) in
    let e : c.read_dim.result ≡ f i = c.read_dim.ensures ∙ ap (dim_at c.args.bytes.now) (omega arith) in
    (length-set c.loop-i.dim-items i _ ∙ c.loop-i.invariant.0, rw e (fill_by_more f c.loop-i.dim-items i none_dim lt c.loop-i.invariant.1))

pub returns : goal.returns
returns c = λ n few.
    let f : ℕ → Dim = λ k. dim_at c.args.bytes.now (0 + 8 * k) in
    let all : c.loop-i.dim-items ≡ map f (range_with_len 0 6) = fill_by_all f c.loop-i.dim-items 6 none_dim c.loop-i.invariant.0 (λ k l. c.loop-i.invariant.1 k (omega arith)) in
    ap (take n) all ∙ take-map-range_with_len f 0 6 n few
