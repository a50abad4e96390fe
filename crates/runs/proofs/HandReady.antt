-- What the functions on blocks require of the block that is next, where the root's mask is r.
use Rattle.std.proofs.Common.{◌≡◌, ℕ, ◌-◌, ◌^◌, ◌<◌, ◌≤◌, true, List, length, sym, ap, ◌∙◌, subst, arith, pow_mono}
use Rattle.shapes.specs.declared.dims.Dim.{Dim}
use Rattle.shapes.specs.Arrays.{product, radix, edges}
use Rattle.shapes.specs.Views.{six}
use Rattle.shapes.proofs.Held.{limits}
use Rattle.measures.specs.Laws.{Lawful}
use Rattle.runs.specs.declared.layouts.Layout.{Layout}
use Rattle.runs.specs.declared.layouts.Region.{Region}
use Rattle.runs.specs.declared.steps.NextBlock.{NextBlock}
use Rattle.runs.specs.Grids.{block_edges, Inside, Joinable, region_by, child_at}
use Rattle.runs.specs.Planned.{places_of, adds_of, need_of, block_size}
use Rattle.runs.specs.Holdings.{Moment, dims_in, root_mask}
use Rattle.runs.specs.Steps.{IsNextBlock}
use Rattle.runs.specs.Calls.{next_block}
use Rattle.runs.proofs.BlockSteps.{block_length, block_inside}
use Rattle.runs.proofs.ChildSteps.{children_ready}
use Rattle.runs.proofs.FromState.{divided_in, laid_in, top_is, adding_in, based_in}
use Rattle.runs.proofs.PlannedScans.{need_is}
use Rattle.runs.proofs.HandedOn.{mask_within, block_below}

module _ {M : Type 0} (empty : M) (op : M → M → M) (lawful : Lawful empty op) (b : Moment M) (x : NextBlock) (next : IsNextBlock b.state x) (r : ℕ) (is_root : r ≡ root_mask (dims_in b)) where
  abbrev ds : List Dim
  ds = dims_in b

  abbrev region : ℕ → ℕ → Region
  region root m = region_by b.state.regions.layout b.state.regions.layout.adds b.state.regions.bases root m

  -- the mask is none above the root's, and few are
  pub mask_below : x.mask ≤ r
  mask_below = omega (arith, is_root, mask_within empty op lawful b x next)

  pub mask_few : x.mask < 64
  mask_few = let few : 2 ^ length ds ≤ 2 ^ 6 = pow_mono (limits b.state.shape).few_dims in omega (arith, mask_within empty op lawful b x next, top_is b.state)

  -- the block's cells are as many as it is told, and few
  pub block_cells_are : product (block_edges b.state.regions.layout (region r x.mask)) ≡ block_size ds (next_block b)
  block_cells_are = ap (λ root. product (block_edges b.state.regions.layout (region root x.mask))) is_root
      ∙ block_length ds (places_of ds) (adds_of ds) (divided_in b.state) b.state.regions.layout (laid_in b.state) b.state.regions.layout.adds (root_mask ds) (top_is b.state) (adding_in b.state)
      b.state.regions.bases (based_in b.state) x.mask (mask_within empty op lawful b x next) (next_block b).at (block_below empty op lawful b x next)
      ∙ ap (λ g. product (radix g (edges ds))) (sym next.of)

  module _ (len : ℕ) (enough : need_of ds ≤ len) where
    -- what stands below the need stands below the cells lent
    wider : (y : Layout) (u : Region) (ks c : List ℕ) → Inside y u ks c (need_of ds) → Inside y u ks c len
    wider y u ks c below ls z = omega (arith, below ls z)

    -- its cells are among those lent
    pub block_within : Inside b.state.regions.layout (region r x.mask) (block_edges b.state.regions.layout (region r x.mask)) x.at len
    block_within = subst (λ root. Inside b.state.regions.layout (region root x.mask) (block_edges b.state.regions.layout (region root x.mask)) x.at len) (sym is_root)
        (subst (λ z. Inside b.state.regions.layout (region (root_mask ds) x.mask) (block_edges b.state.regions.layout (region (root_mask ds) x.mask)) z len) (sym next.at)
        (wider b.state.regions.layout (region (root_mask ds) x.mask) (block_edges b.state.regions.layout (region (root_mask ds) x.mask)) (six 0 (next_block b).at)
        (block_inside ds (places_of ds) (adds_of ds) (divided_in b.state) b.state.regions.layout (laid_in b.state) b.state.regions.layout.adds (root_mask ds) (top_is b.state) (adding_in b.state)
        b.state.regions.bases (based_in b.state) x.mask (mask_within empty op lawful b x next) (next_block b).at (block_below empty op lawful b x next)
        x.mask (need_of ds) (mask_within empty op lawful b x next) (omega (arith, need_is ds)))))

    -- it can be joined into the region of each child
    pub children_joinable : (e : ℕ) → e < 6 → child_at b.state.regions.layout.adds x.mask e ≡ true → Joinable b.state.regions.layout (region r x.mask) (region r (x.mask - 2 ^ e)) x.at len
    children_joinable e l t = subst (λ root. Joinable b.state.regions.layout (region root x.mask) (region root (x.mask - 2 ^ e)) x.at len) (sym is_root)
        (subst (λ z. Joinable b.state.regions.layout (region (root_mask ds) x.mask) (region (root_mask ds) (x.mask - 2 ^ e)) z len) (sym next.at)
        (wider b.state.regions.layout (region (root_mask ds) (x.mask - 2 ^ e)) (block_edges b.state.regions.layout (region (root_mask ds) x.mask)) (six 0 (next_block b).at) at_need.0, at_need.1))
      where
        at_need : Joinable b.state.regions.layout (region (root_mask ds) x.mask) (region (root_mask ds) (x.mask - 2 ^ e)) (six 0 (next_block b).at) (need_of ds)
        at_need = children_ready ds (places_of ds) (adds_of ds) (divided_in b.state) b.state.regions.layout (laid_in b.state) b.state.regions.layout.adds (root_mask ds) (top_is b.state) (adding_in b.state)
            b.state.regions.bases (based_in b.state) x.mask (mask_within empty op lawful b x next) (next_block b).at (block_below empty op lawful b x next)
            e (need_of ds) l t (omega (arith, need_is ds))
