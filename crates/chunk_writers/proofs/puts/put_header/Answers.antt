use Rattle.std.proofs.Common.{◌≡◌, ◌≤◌, [], ◌∷◌, ◌++◌, List, length, take, replicate, sym, ap, ◌∙◌, arith}
use Rattle.std.specs.List.{flat_map}
use Rattle.std.proofs.lemmas.List.{take-take, take_at}
use Rattle.shapes.specs.declared.dims.Dim.{Dim}
use Rattle.shapes.specs.declared.shape.Shape.{Shape}
use Rattle.shapes.specs.Arrays.{none_dim}
use Rattle.shapes.specs.Views.{dims_of, six}
use Rattle.shapes.proofs.Held.{dims_few}
use Rattle.chunk_files.specs.Layouts.{dim_bytes}
use Rattle.chunk_writers.proofs.Putting.{put_both, length_put}
use Rattle.chunk_writers.proofs.puts.put_header.Goals as goal

-- the dimensions, of the six
first_dims : (s : Shape) (n : _) (dims : List Dim) → n ≡ length (dims_of s) → dims ≡ six none_dim (dims_of s) → take n dims ≡ dims_of s
first_dims s n dims e f =
    let few = dims_few s in
    let l : n ≤ 6 = omega arith in
    ap (take n) f ∙ take-take n 6 (dims_of s ++ replicate 6 none_dim) l ∙ take_at (dims_of s) (replicate 6 none_dim) n (sym e)

pub put_dims-requires : goal.put_dims-requires
put_dims-requires c =
    let s = c.args.shape.now in
    let e = ap length (first_dims s c.dimensions-n.result c.dims-dims.result c.dimensions-n.ensures c.dims-dims.ensures) in
    let room = c.requires in
    let n = ap length c.put_bytes.ensures ∙ length_put c.args.out.now 0 (1 ∷ c.dimensions-n.result ∷ 0 ∷ 0 ∷ []) (omega arith) in
    omega arith

pub returns : goal.returns
returns c =
    let s = c.args.shape.now in
    let room = c.requires in
    let first = first_dims s c.dimensions-n.result c.dims-dims.result c.dimensions-n.ensures c.dims-dims.ensures in
    put_both c.args.out.now c.put_bytes.new.out c.put_dims.new.out 0 4 (1 ∷ c.dimensions-n.result ∷ 0 ∷ 0 ∷ []) (flat_map dim_bytes (take c.dimensions-n.result c.dims-dims.result)) (1 ∷ length (dims_of s) ∷ 0 ∷ 0 ∷ []) (flat_map dim_bytes (dims_of s))
    (ap (λ n. 1 ∷ n ∷ 0 ∷ 0 ∷ []) c.dimensions-n.ensures) (ap (flat_map dim_bytes) first) c.put_bytes.ensures c.put_dims.ensures (omega arith) (omega arith)
