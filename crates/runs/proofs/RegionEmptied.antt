-- The region of a group emptied, in a run's cells.
use Rattle.std.proofs.Common.{◌≡◌, ℕ, ◌+◌, ◌^◌, ◌<◌, ◌≤◌, List, length, sym, ap, subst, arith}
use Rattle.shapes.specs.declared.dims.Dim.{Dim}
use Rattle.shapes.specs.Views.{dims_of}
use Rattle.runs.specs.declared.state.State.{State}
use Rattle.runs.specs.declared.layouts.Layout.{Layout}
use Rattle.runs.specs.declared.layouts.Region.{Region}
use Rattle.runs.specs.Boxes.{emptied}
use Rattle.runs.specs.Grids.{cells_in, region_by, top}
use Rattle.runs.specs.Standing.{region_in}
use Rattle.runs.specs.Planned.{places_of, adds_of, need_of}
use Rattle.runs.specs.Holdings.{root_mask}
use Rattle.runs.specs.Emptying.{EmptiedMask}
use Rattle.runs.proofs.BlockSteps.{region_ready, emptied_region, emptied_others, emptied_past, length_emptied}
use Rattle.runs.proofs.PlannedScans.{need_is}
use Rattle.runs.proofs.FromState.{divided_in, laid_in, same_top, top_is, adding_in, based_in}

module _ {M : Type 0} (empty : M) (s : State) (xs : List M) (enough : need_of (dims_of s.shape) ≤ length xs) (m : ℕ) (lm : m < 2 ^ length (dims_of s.shape)) where
  abbrev ds : List Dim
  ds = dims_of s.shape

  abbrev y : Layout
  y = s.regions.layout

  abbrev own : Region
  own = region_by y y.adds s.regions.bases (root_mask ds) m

  is_own : own ≡ region_in s.regions m
  is_own = ap (λ k. region_by y y.adds s.regions.bases k m) (sym (same_top s))

  below : m ≤ root_mask ds
  below = omega (arith, top_is s)

  pub mask_below : m ≤ top y
  mask_below = omega (arith, below, same_top s)

  here : own.base + cells_in y own ≤ length xs
  here = region_ready ds (places_of ds) (adds_of ds) (divided_in s) y (laid_in s) y.adds (root_mask ds) (top_is s) (adding_in s) s.regions.bases (based_in s) empty xs m below (omega (arith, need_is ds))

  pub mask_ready : (region_in s.regions m).base + cells_in y (region_in s.regions m) ≤ length xs
  mask_ready = subst (λ (z : Region). z.base + cells_in y z ≤ length xs) is_own here

  pub mask_emptied : EmptiedMask empty ds m xs (emptied empty xs (region_in s.regions m).base (cells_in y (region_in s.regions m)))
  mask_emptied = subst (λ (z : Region). EmptiedMask empty ds m xs (emptied empty xs z.base (cells_in y z))) is_own (record {
    own = emptied_region ds (places_of ds) (adds_of ds) (divided_in s) y (laid_in s) y.adds (root_mask ds) (top_is s) (adding_in s) s.regions.bases (based_in s) empty xs m below
        (omega (arith, need_is ds));
    others = λ k l ne. emptied_others ds (places_of ds) (adds_of ds) (divided_in s) y (laid_in s) y.adds (root_mask ds) (top_is s) (adding_in s) s.regions.bases (based_in s) empty xs m below
        (omega (arith, need_is ds)) k (omega (arith, top_is s)) ne;
    past = λ q l. emptied_past ds (places_of ds) (adds_of ds) (divided_in s) y (laid_in s) y.adds (root_mask ds) (top_is s) (adding_in s) s.regions.bases (based_in s) empty xs m below
        (omega (arith, need_is ds)) q (omega (arith, need_is ds));
    long = length_emptied empty xs own.base (cells_in y own) here;
  })
