-- The tree of a shape is that of a scan.
use Rattle.std.proofs.Common.{◌≡◌, ℕ, ◌+◌, ◌^◌, ◌<◌, ◌≤◌, List, length, get_or, sym, refl, ap, ◌∙◌, subst, arith, pow_mono}
use Rattle.std.proofs.lemmas.List.{length-map}
use Rattle.std.proofs.lemmas.Nat.{mul-le, pow_pos}
use Rattle.std.proofs.ByRecursion.{All-get_or}
use Rattle.shapes.specs.declared.dims.Dim.{Dim}
use Rattle.shapes.specs.Arrays.{Group, product, counts, chunks, edges, none_dim, dim, total_chunks, group, groups, radix}
use Rattle.shapes.specs.Limits.{Limits}
use Rattle.shapes.specs.Views.{six}
use Rattle.shapes.proofs.Held.{edge_at}
use Rattle.shapes.proofs.Products.{total_le}
use Rattle.shapes.proofs.Insides.{radices-product}
use Rattle.shapes.proofs.Masks.{length-group, mask-group, group_with}
use Rattle.plans.specs.Plans.{Order, Parents, Lacks}
use Rattle.plans.specs.Views.{place_in}
use Rattle.cubes.specs.Scans.{width}
use Rattle.cubes.specs.Handing.{parent}
use Rattle.cubes.specs.Progress.{MaskTree}
use Rattle.cubes.proofs.Cells.{chunks_positive, radix_positive}
use Rattle.cubes.proofs.Counting.{mask_tree}
use Rattle.cubes.proofs.Groups.{parents_at, not_root_of, limits_edged, lattice_scan, groups_have}
use Rattle.cubes.proofs.Ranks.{width_parent}
use Rattle.runs.specs.declared.tree.Node.{Node}
use Rattle.runs.specs.Nodes.{no_node, Climbs}
use Rattle.runs.specs.Trees.{adds_in, node_of}
use Rattle.runs.proofs.Widths.{radix_long, width_some}
use Rattle.runs.proofs.Filling.{product_radix_le}
use Rattle.runs.proofs.SixRadices.{radix_six, width_six, width_alike}

pub chunks_few : (ds : List Dim) → Limits ds → total_chunks ds ≤ 2 ^ 34
chunks_few ds l = omega (arith, total_le ds l.each, l.small_array)

-- the edges of a shape, and the cells of a group's block
edge_some : (ds : List Dim) → Limits ds → (i : ℕ) → i < length ds → 0 < get_or (edges ds) i 1
edge_some ds l i h = subst (λ x. 0 < x) (sym (edge_at ds i h)) (All-get_or (λ (d : Dim). (1 ≤ d.edge) × (d.edge ≤ d.size)) ds i none_dim h (limits_edged ds l)).0

pub cells_are : (ds : List Dim) (m : ℕ) (ks rs : List ℕ) → Limits ds → ks ≡ six 1 (edges ds) → rs ≡ radix (group 6 m) ks
    → product rs ≡ product (radix (group (length ds) m) (edges ds))
cells_are ds m ks rs l k r = omega (
  arith,
  radices-product (radix (group (length ds) m) (edges ds)) rs (r ∙ (ap (radix (group 6 m)) k ∙ radix_six (length ds) m (edges ds) long))
      (omega (arith, radix_long (length ds) m (edges ds) long, l.few_dims)),
)
  where
    long : length (edges ds) ≡ length ds
    long = length-map ds (λ (d : Dim). d.edge)

pub cells_few : (ds : List Dim) (g : Group) → Limits ds → product (radix g (edges ds)) ≤ 16384
cells_few ds g l = omega (arith, l.small_chunk, (product_radix_le g (edges ds) (λ i h. edge_some ds l i (omega (arith, length-map ds (λ (d : Dim). d.edge))))).1)

-- the dimension added to a group
pub lacked : (ds : List Dim) (adds : Group → ℕ) → Parents ds adds → (m : ℕ) → m + 1 < 2 ^ length ds → Lacks ds (group (length ds) m) (adds (group (length ds) m))
lacked ds adds parents m l = parents_at ds adds parents (group (length ds) m) (length-group (length ds) m) (not_root_of (length ds) m l)

pub table_adds : (n m : ℕ) (adds : List ℕ) → m < 2 ^ n → get_or adds m 0 ≡ adds_in adds (group n m)
table_adds n m adds l = ap (λ k. get_or adds k 0) (sym (mask-group n m l))

module _ (ds : List Dim) (places table : List ℕ) (limits : Limits ds) (order : Order ds (place_in places)) (parents : Parents ds (adds_in table)) (m : ℕ) (l : m + 1 < 2 ^ length ds) where
  same : get_or table m 0 ≡ adds_in table (group (length ds) m)
  same = table_adds (length ds) m table (omega (arith, l))

  pub node_asks : (m < 64) × (get_or table m 0 < 6) × (place_in places (get_or table m 0) ≤ 6)
  node_asks = (
    omega (arith, pow_mono limits.few_dims),
    omega (arith, same, (lacked ds (adds_in table) parents m l).0, limits.few_dims),
    omega (arith, (order.within (get_or table m 0) (omega (arith, same, (lacked ds (adds_in table) parents m l).0))).1, limits.few_dims),
  )

-- nodes that are filled in are those of the tree
module _ (ds : List Dim) (place : ℕ → ℕ) (adds : Group → ℕ) (chunk_counts places table : List ℕ) (nodes : List Node) (limits : Limits ds) (order : Order ds place) (parents : Parents ds adds)
    (chunks_are : chunk_counts ≡ six 1 (counts ds)) (placed : (i : ℕ) → i < length ds → place_in places i ≡ place i)
    (added : (m : ℕ) → m + 1 < 2 ^ length ds → get_or table m 0 ≡ adds (group (length ds) m))
    (nodes_are : (m : ℕ) → m + 1 < 2 ^ length ds → get_or nodes m no_node ≡ node_of chunk_counts places m (get_or table m 0)) where
  -- a product of the radices of a group up to the place of the dimension added
  width_is : (h : Group) (k m : ℕ) → m + 1 < 2 ^ length ds → group (length ds) k ≡ h
      → width (place_in places) (radix (group 6 k) chunk_counts) (place_in places (get_or table m 0) + 1) ≡ width place (radix h (counts ds)) (place (adds (group (length ds) m)) + 1)
  width_is h k m l e =
      ap (λ ys. width (place_in places) ys (place_in places (get_or table m 0) + 1)) (ap (radix (group 6 k)) chunks_are ∙ radix_six (length ds) k (counts ds) long)
      ∙ (width_six (place_in places) (radix (group (length ds) k) (counts ds)) (place_in places (get_or table m 0) + 1) (omega (arith, kept_long, limits.few_dims))
      ∙ (ap (λ x. width (place_in places) (radix (group (length ds) k) (counts ds)) (x + 1)) (ap (place_in places) (added m l) ∙ placed (adds (group (length ds) m)) (lacked ds adds parents m l).0)
      ∙ (width_alike (place_in places) place (radix (group (length ds) k) (counts ds)) (place (adds (group (length ds) m)) + 1) (λ i b. placed i (omega (arith, kept_long)))
      ∙ ap (λ g. width place (radix g (counts ds)) (place (adds (group (length ds) m)) + 1)) e)))
    where
      long : length (counts ds) ≡ length ds
      long = length-map ds chunks

      kept_long : length (radix (group (length ds) k) (counts ds)) ≡ length ds
      kept_long = radix_long (length ds) k (counts ds) long

  pub ups_are : (m : ℕ) → m + 1 < 2 ^ length ds → (get_or nodes m no_node).up ≡ m + 2 ^ adds (group (length ds) m)
  ups_are m l = ap (λ x. x.up) (nodes_are m l) ∙ ap (λ x. m + 2 ^ x) (added m l)

  pub periods_are : (m : ℕ) → m + 1 < 2 ^ length ds
      → (get_or nodes m no_node).period ≡ width place (radix (parent adds (group (length ds) m)) (counts ds)) (place (adds (group (length ds) m)) + 1)
  periods_are m l = ap (λ x. x.period) (nodes_are m l) ∙ width_is (parent adds (group (length ds) m)) (m + 2 ^ get_or table m 0) m l
      (ap (λ x. group (length ds) (m + 2 ^ x)) (added m l) ∙ group_with (length ds) m (adds (group (length ds) m)) (lacked ds adds parents m l).1)

  pub shares_are : (m : ℕ) → m + 1 < 2 ^ length ds
      → (get_or nodes m no_node).share ≡ width place (radix (group (length ds) m) (counts ds)) (place (adds (group (length ds) m)) + 1)
  shares_are m l = ap (λ x. x.share) (nodes_are m l) ∙ width_is (group (length ds) m) m m l refl

  -- parents have higher masks, and of their blocks some complete a region
  pub climbing : (n : ℕ) → n ≡ length ds → Climbs n nodes
  climbing n e m l = (
    omega (arith, ups_are m low, pow_pos (adds (group (length ds) m))),
    omega (arith, ups_are m low, (laws.parent_mask m low (groups_have (length ds) (group (length ds) m) (length-group (length ds) m))).0, same),
    subst (λ k. 0 < k) (sym (periods_are m low)) (width_some place (radix (parent adds (group (length ds) m)) (counts ds)) (place (adds (group (length ds) m)) + 1)
        (λ i b. radix_positive ds (parent adds (group (length ds) m)) i (limits_edged ds limits))),
    omega (
      arith,
      periods_are m low,
      shares_are m low,
      width_parent ds place order (group (length ds) m) (adds (group (length ds) m)) (length-group (length ds) m) it.0 it.1,
      mul-le (width place (radix (group (length ds) m) (counts ds)) (place (adds (group (length ds) m)) + 1)) 1
          (width place (radix (group (length ds) m) (counts ds)) (place (adds (group (length ds) m)) + 1)) (chunks (dim ds (adds (group (length ds) m)))) (omega arith)
          (chunks_positive ds (adds (group (length ds) m)) (limits_edged ds limits) it.0),
    ),
  )
    where
      same : 2 ^ n ≡ 2 ^ length ds
      same = ap (λ k. 2 ^ k) e

      low : m + 1 < 2 ^ length ds
      low = omega (arith, same)

      laws : MaskTree ds place adds (groups (length ds))
      laws = mask_tree ds place adds (groups (length ds)) (lattice_scan ds place adds (limits_edged ds limits) order parents)

      it : Lacks ds (group (length ds) m) (adds (group (length ds) m))
      it = lacked ds adds parents m low
