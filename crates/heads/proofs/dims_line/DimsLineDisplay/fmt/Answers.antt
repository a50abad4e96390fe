use Rattle.std.proofs.Common.{◌≡◌, List, ℕ, ◌++◌, length, take, codes, decimal, sym, ap, ◌∙◌, arith}
use Rattle.std.proofs.Output.{has_written_append, has_written_of_eq}
use Rattle.std.specs.List.{flat_map}
use Rattle.std.proofs.lemmas.List.{take_all}
use Rattle.std.proofs.lemmas.List.Folds.{flat_map-map}
use Rattle.shapes.specs.declared.dims.Dim.{Dim}
use Rattle.shapes.specs.Texts.{dim_text}
use Rattle.heads.specs.Heads.{dims_line}
use Rattle.heads.proofs.dims_line.DimsLineDisplay.fmt.Goals as goal

pub returns-clause-writes : goal.returns-clause-writes
returns-clause-writes g c = λ plain ok.
    let ds = c.args.self.now.0.now in
    let head : List ℕ = codes "DIMS " ++ decimal (length ds) in
    let fields : List Dim → List ℕ = flat_map (λ (d : Dim). codes " " ++ dim_text d) in
    let whole : (head ++ fields (take c.loop-d.d-index ds)) ++ codes "\n" ≡ dims_line ds =
    ap (λ es. (head ++ fields es) ++ codes "\n") (take_all c.loop-d.d-index ds (omega arith)) ∙ ap (λ xs. (head ++ xs) ++ codes "\n") (sym (flat_map-map (λ f. codes " " ++ f) dim_text ds)) in
    let before = c.loop-d.invariant plain in
    has_written_of_eq _ _ _ _ _ whole (has_written_append _ _ _ _ _ _ before (c.write_str.ensures.writes before.plain ok))
