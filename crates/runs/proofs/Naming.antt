-- The blocks of a group by chunk coordinates and by number, as a tree tells them.
use Rattle.std.proofs.Common.{◌≡◌, ℕ, ◌^◌, ◌<◌, ◌≤◌, List, length, get_or, sym, ap, ◌∙◌, subst, arith}
use Rattle.std.proofs.lemmas.List.{length-map}
use Rattle.shapes.specs.declared.dims.Dim.{Dim}
use Rattle.shapes.specs.Arrays.{Group, product, counts, chunks, total_chunks, group, radix}
use Rattle.shapes.specs.Views.{six}
use Rattle.shapes.proofs.Held.{count_at}
use Rattle.plans.specs.Views.{place_in}
use Rattle.cubes.specs.Scans.{scan_digits}
use Rattle.cubes.proofs.Cells.{chunks_positive}
use Rattle.cubes.proofs.Groups.{limits_edged}
use Rattle.runs.specs.declared.tree.Tree.{Tree}
use Rattle.runs.specs.Trees.{Grown}
use Rattle.runs.proofs.Widths.{radix_long}
use Rattle.runs.proofs.Filling.{product_radix_le}
use Rattle.runs.proofs.Growing.{chunks_few}
use Rattle.runs.proofs.SixRadices.{radix_six, scan_six}

pub counts_radix_le : (ds : List Dim) (g : Group) → ((i : ℕ) → i < length ds → 0 < chunks (get_or ds i (record { size = 1; edge = 1 }))) → product (radix g (counts ds)) ≤ total_chunks ds
counts_radix_le ds g some = (product_radix_le g (counts ds) (λ i l. let b : i < length ds = omega (arith, length-map ds chunks) in subst (λ k. 0 < k) (sym (count_at ds i b)) (some i b))).1

module _ (ds : List Dim) (place : ℕ → ℕ) (adds : Group → ℕ) (tr : Tree) (g : Grown ds place adds tr) where
  pub block_radix_le : (m : ℕ) → product (radix (group (length ds) m) (counts ds)) ≤ total_chunks ds
  block_radix_le m = counts_radix_le ds (group (length ds) m) (λ i l. chunks_positive ds i (limits_edged ds g.limits) l)

  pub block_radix_small : (m : ℕ) → product (radix (group (length ds) m) (counts ds)) ≤ 2 ^ 34
  block_radix_small m = omega (arith, block_radix_le m, chunks_few ds g.limits)

  pub block_radix_few : (m : ℕ) → length (radix (group (length ds) m) (counts ds)) ≤ 6
  block_radix_few m = omega (arith, radix_long (length ds) m (counts ds) (length-map ds chunks), g.limits.few_dims)

  pub group_radices : (m : ℕ) (rs : List ℕ) → rs ≡ radix (group 6 m) tr.chunks.each → rs ≡ six 1 (radix (group (length ds) m) (counts ds))
  group_radices m rs e = e ∙ (ap (radix (group 6 m)) g.chunks ∙ radix_six (length ds) m (counts ds) (length-map ds chunks))

  pub coordinates_are : (m s : ℕ) (rs r : List ℕ) → rs ≡ radix (group 6 m) tr.chunks.each → r ≡ scan_digits (place_in tr.places) rs s
      → r ≡ six 0 (scan_digits place (radix (group (length ds) m) (counts ds)) s)
  coordinates_are m s rs r e is = is ∙ (ap (λ ks. scan_digits (place_in tr.places) ks s) (group_radices m rs e)
      ∙ scan_six (place_in tr.places) place (radix (group (length ds) m) (counts ds)) s (block_radix_few m)
      (λ i l. g.places i (omega (arith, l, radix_long (length ds) m (counts ds) (length-map ds chunks)))))
