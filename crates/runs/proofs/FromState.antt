-- What the facts of a run's state say: the control is that of the plan's scan, and the regions are those of its order and parents.
use Rattle.std.proofs.Common.{◌≡◌, ℕ, ◌+◌, ◌-◌, ◌^◌, ◌<◌, List, length, get_or, ap, subst, arith}
use Rattle.std.proofs.lemmas.Nat.{pow_pos}
use Rattle.shapes.specs.declared.dims.Dim.{Dim}
use Rattle.shapes.specs.Arrays.{volume, group}
use Rattle.shapes.specs.Views.{dims_of}
use Rattle.shapes.proofs.Held.{limits}
use Rattle.cubes.specs.Summaries.{Divided}
use Rattle.runs.specs.declared.state.State.{State}
use Rattle.runs.specs.Trees.{Grown}
use Rattle.runs.specs.Controls.{Controls}
use Rattle.runs.specs.Grids.{LaidOut, Bases, top as top_mask}
use Rattle.runs.specs.Layouts.{mask_base}
use Rattle.runs.specs.Planned.{places_of, adds_of, need_of}
use Rattle.runs.proofs.FromShape.{shape_divided}
use Rattle.runs.proofs.Growing.{lacked}
use Rattle.runs.proofs.PlannedScans.{parents_are}
use Rattle.runs.proofs.Tables.{bases_are}

module _ (s : State) where
  abbrev pub ds : List Dim
  ds = dims_of s.shape

  abbrev pub top : ℕ
  top = 2 ^ length ds - 1

  pub divided_in : Divided ds
  divided_in = shape_divided s.shape

  pub controls_in : Controls ds (places_of ds) (adds_of ds) s.control
  controls_in = s.controls

  pub grown_in : Grown ds (places_of ds) (adds_of ds) s.control.tree
  grown_in = controls_in.grown

  pub needs : s.plan.need ≡ need_of ds
  unfolding need_of
  needs = s.planned.needing

  -- the regions: in the plan's order, with its parents
  pub laid_in : LaidOut ds (places_of ds) s.regions.layout
  laid_in = record { few = (limits s.shape).few_dims; shaped = ap dims_of s.laid; placed = s.placed }

  pub same_top : top_mask s.regions.layout ≡ top
  same_top = ap (λ h. 2 ^ length (dims_of h) - 1) s.laid

  pub top_is : top + 1 ≡ 2 ^ length ds
  top_is = omega (arith, pow_pos (length ds))

  pub adding_in : (m : ℕ) → m < top → (get_or s.regions.layout.adds m 0 ≡ adds_of ds (group (length ds) m)) × (get_or s.regions.layout.adds m 0 < length ds)
  adding_in m l =
      let other : m + 1 < 2 ^ length ds = omega arith in
      (s.adding m other, omega (arith, s.adding m other, (lacked ds (adds_of ds) (parents_are ds (limits s.shape)) m other).0))

  pub based_in : Bases s.regions.layout s.regions.layout.adds top (volume ds) s.regions.bases
  based_in = subst (λ h. Bases s.regions.layout s.regions.layout.adds (2 ^ length (dims_of h) - 1) (volume (dims_of h)) s.regions.bases) s.laid s.regions.starts

  pub starts_in : (m : ℕ) → m < 2 ^ length ds → get_or s.regions.bases m 0 ≡ mask_base ds (places_of ds) (adds_of ds) m
  starts_in m l = bases_are ds (places_of ds) (adds_of ds) divided_in s.regions.layout laid_in s.regions.layout.adds top top_is adding_in s.regions.bases based_in m (omega (arith, top_is))
