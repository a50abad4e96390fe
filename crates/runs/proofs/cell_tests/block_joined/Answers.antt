use Rattle.std.proofs.Common.{List, ℕ, [], ◌∷◌, true, false, lit<}
use Rattle.cubes.specs.Examples.{four_by_two}
use Rattle.runs.specs.declared.layouts.Region.{Region}
use Rattle.runs.specs.Grids.{block_edges, start_of, strides_in}
use Rattle.runs.proofs.Known.{within, behind, edges_known, start_known, strides_known}
use Rattle.runs.proofs.Strides.{within_same, disjoint_same}
use Rattle.runs.proofs.cell_tests.block_joined.Goals as goal

pub join_block-requires : goal.join_block-requires
join_block-requires g c =
    let y = c.in_ok-layout.layout in
    let e = c.in_ok-layout.ensures in
    let ps : List ℕ = 1 ∷ 2 ∷ 0 ∷ 0 ∷ 0 ∷ 0 ∷ [] in
    let r : Region = record { base = 0; kept = true ∷ true ∷ false ∷ false ∷ false ∷ false ∷ []; lacked = 0 } in
    let u : Region = record { base = 4; kept = true ∷ false ∷ false ∷ false ∷ false ∷ false ∷ []; lacked = 2 } in
    let b : List ℕ = 1 ∷ 0 ∷ 0 ∷ 0 ∷ 0 ∷ 0 ∷ [] in
    let ks : List ℕ = 2 ∷ 2 ∷ 1 ∷ 1 ∷ 1 ∷ 1 ∷ [] in
    let fs : List ℕ = 1 ∷ 2 ∷ 0 ∷ 0 ∷ 0 ∷ 0 ∷ [] in
    let edges = edges_known four_by_two ps y e r in
    let from = start_known four_by_two ps y e r b in
    let to = start_known four_by_two ps y e u b in
    let from_strides = strides_known four_by_two ps y e r in
    let to_strides = strides_known four_by_two ps y e u in
    record {
      from_inside = within_same (block_edges y r) ks (start_of y r b) 0 (strides_in y r) fs 8 edges from from_strides (within ks fs 0 8 (lit< tt));
      to_inside = within_same (block_edges y r) ks (start_of y u b) 6 (strides_in y u) b 8 edges to to_strides (within ks b 6 8 (lit< tt));
      apart = disjoint_same (block_edges y r) ks (start_of y r b) 0 (strides_in y r) fs (start_of y u b) 6 (strides_in y u) b edges from from_strides to to_strides (behind ks fs b 0 6 (lit< tt));
    }
