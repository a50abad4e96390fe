use Rattle.std.proofs.Common.{◌++◌, length, take, codes, decimal}
use Rattle.std.specs.Fmt.{HasWritten, IsPlainFormatter}
use Rattle.std.specs.List.{flat_map}
use Rattle.shapes.specs.declared.dims.Dim.{Dim}
use Rattle.shapes.specs.Texts.{dim_text}
use Rattle.heads.proofs.dims_line.DimsLineDisplay.fmt.Given as goal

-- the fields so far have been written
abbrev pub invariant-loop-d : goal.invariant-loop-d
invariant-loop-d g l =
    IsPlainFormatter l.fn.f → HasWritten g.W.Write.write_str_gives l.fn.f ((codes "DIMS " ++ decimal (length l.d-items)) ++ flat_map (λ (d : Dim). codes " " ++ dim_text d) (take l.d-index l.d-items)) l.f
