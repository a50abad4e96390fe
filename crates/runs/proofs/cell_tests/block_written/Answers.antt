use Rattle.std.proofs.Common.{List, ℕ, [], ◌∷◌, true, false, ap, lit<, arith}
use Rattle.shapes.specs.Arrays.{product}
use Rattle.cubes.specs.Examples.{four_by_two}
use Rattle.runs.specs.declared.layouts.Region.{Region}
use Rattle.runs.specs.Grids.{block_edges, start_of, strides_in}
use Rattle.runs.proofs.Known.{within, edges_known, start_known, strides_known}
use Rattle.runs.proofs.Strides.{within_same}
use Rattle.runs.proofs.cell_tests.block_written.Goals as goal

pub write_block-requires : goal.write_block-requires
write_block-requires g c =
    let y = c.in_ok-layout.layout in
    let e = c.in_ok-layout.ensures in
    let ps : List ℕ = 1 ∷ 2 ∷ 0 ∷ 0 ∷ 0 ∷ 0 ∷ [] in
    let r : Region = record { base = 4; kept = true ∷ false ∷ false ∷ false ∷ false ∷ false ∷ []; lacked = 2 } in
    let b : List ℕ = 1 ∷ 0 ∷ 0 ∷ 0 ∷ 0 ∷ 0 ∷ [] in
    let ks : List ℕ = 2 ∷ 1 ∷ 1 ∷ 1 ∷ 1 ∷ 1 ∷ [] in
    record {
      room = omega (arith, ap product (edges_known four_by_two ps y e r));
      inside = within_same (block_edges y r) ks (start_of y r b) 6 (strides_in y r) b 8 (edges_known four_by_two ps y e r) (start_known four_by_two ps y e r b) (strides_known four_by_two ps y e r)
          (within ks b 6 8 (lit< tt));
    }
