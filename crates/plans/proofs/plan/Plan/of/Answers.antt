use Rattle.std.proofs.Common.{◌≡◌, ℕ, ◌+◌, ◌^◌, ◌<◌, ◌≤◌, List, map, length, slice_index, take, sym, ap, ◌∙◌, subst, arith}
use Rattle.shapes.specs.declared.dims.Dim.{Dim}
use Rattle.shapes.specs.Arrays.{volume, extent, numbers, group}
use Rattle.shapes.specs.Views.{dims_of, six}
use Rattle.plans.specs.Plans.{Edged, plan_place, plan_adds, plan_need}
use Rattle.plans.proofs.LeastNeed.{least_need, need_bounded}
use Rattle.plans.proofs.Picking.{adds_inside}
use Rattle.plans.proofs.Planning.{few_dims, edged_dims, taken_dims, taken_places}
use Rattle.plans.proofs.plan.Plan.of.Goals as goal

pub invariant_of-draft : goal.invariant_of-draft
invariant_of-draft c =
    let s = c.args.shape.now in
    let n = c.dimensions-n.result in
    let ds = take n c.dims-dims.result in
    let e : dims_of s ≡ ds = sym (taken_dims s n c.dims-dims.result c.dimensions-n.ensures c.dims-dims.ensures) in
    let few : length ds ≤ 6 = subst (λ (es : List Dim). length es ≤ 6) e (few_dims s) in
    record {
      edged = subst (λ (es : List Dim). Edged es) e (edged_dims s);
      few = few;
      small = subst (λ (es : List Dim). extent es ≤ 2 ^ 34) e s.small_array;
      placed = taken_places ds few n c.places_of-places.result (c.dimensions-n.ensures ∙ ap length e) c.places_of-places.ensures;
    }

pub need-need-requires-clause-chunk : goal.need-need-requires-clause-chunk
need-need-requires-clause-chunk c =
    c.chunk_cells.ensures ∙ ap volume (sym (taken_dims c.args.shape.now c.dimensions-n.result c.dims-dims.result c.dimensions-n.ensures c.dims-dims.ensures))

pub invariant_of-result : goal.invariant_of-result
invariant_of-result c =
    let s = c.args.shape.now in
    let n = c.dimensions-n.result in
    let ds = take n c.dims-dims.result in
    let en : n ≡ length ds = c.dimensions-n.ensures ∙ ap length (sym (taken_dims s n c.dims-dims.result c.dimensions-n.ensures c.dims-dims.ensures)) in
    record {
      few = omega (arith, few_dims s, c.dimensions-n.ensures);
      below = subst (λ k. (m : ℕ) → m + 1 < 2 ^ k → slice_index c.adds-adds.result m < k) (sym en) (λ m h. rw (c.adds-adds.ensures.others m h) (adds_inside ds m h));
    }

pub returns : goal.returns
returns c =
    let s = c.args.shape.now in
    let e = taken_dims s c.dimensions-n.result c.dims-dims.result c.dimensions-n.ensures c.dims-dims.ensures in
    record {
      planned = record {
        counted = c.dimensions-n.ensures;
        placed = c.places_of-places.ensures ∙ ap (λ ds. six 0 (map (plan_place ds) (numbers ds))) e;
        adding = subst (λ (ds : List Dim). (m : ℕ) → m + 1 < 2 ^ length ds → slice_index c.adds-adds.result m ≡ plan_adds ds (group (length ds) m)) e c.adds-adds.ensures.others;
        needing = c.need-need.ensures ∙ ap plan_need e;
      };
      least = least_need (dims_of s) (edged_dims s);
      bounded = need_bounded (dims_of s) (edged_dims s);
    }
