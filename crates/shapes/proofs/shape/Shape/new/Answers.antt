use Rattle.std.proofs.Common.{◌≡◌, ◌≤◌, length, take, Some, None, Err, Result, sym, refl, ap, ◌∙◌, subst, arith, MatchResult, rules}
use borrow.Author.Tests.{tests}
use Rattle.std.proofs.lemmas.Result.{err_from_is_err_and}
use Rattle.shapes.specs.declared.dims.Dim.{Dim}
use Rattle.shapes.specs.declared.shape.Shape.{Shape}
use Rattle.shapes.specs.declared.refusals.ShapeRefusal.{ShapeRefusal}
use Rattle.shapes.specs.declared.refusals.ShapeRefusal.TheVariants.{Volume, Extent}
use Rattle.shapes.proofs.Made.{made_map}
use Rattle.shapes.specs.Arrays.{none_dim, product, volume, extent, total_chunks}
use Rattle.shapes.specs.Limits.{shape_fault}
use Rattle.shapes.specs.Views.{dims_of}
use Rattle.shapes.specs.Refusals.{shape_refusal}
use Rattle.shapes.proofs.Limited.{accepts_limits, limits_from, shape_unfit, shape_voluminous, shape_extensive, shape_good}
use Rattle.shapes.proofs.Making.{taken, long, past_last, all_product, all_fit, factors_fit, chunks_are, cells_some}
use Rattle.shapes.proofs.shape.Shape.new.Goals as goal

pub returns-in_err-check_dims : goal.returns-in_err-check_dims
returns-in_err-check_dims c =
    let ds = c.args.dims.now in
    let p = err_from_is_err_and c.from_residual.result c.from_residual.ensures.1 in
    let e : c.from_residual.result ≡ Err c.in_err-check_dims.field-0.0 = p.1 ∙ ap Err p.2 in
    let f = shape_unfit ds (omega arith) (omega arith) (shape_refusal c.in_err-check_dims.field-0.0) c.in_err-check_dims.ensures in
    record {
      answer = subst (λ r. MatchResult r (λ (s : Shape). (shape_fault ds ≡ None) × (dims_of s ≡ ds)) (λ e. shape_fault ds ≡ Some (shape_refusal e))) (sym e) f;
      limits = accepts_limits ds shape_refusal c.from_residual.result (subst (λ (r : Result Shape ShapeRefusal). MatchResult r (λ _. shape_fault ds ≡ None) (λ e. shape_fault ds ≡ Some (shape_refusal e))) (sym e) f);
    }

pub product_within-requires : goal.product_within-requires
product_within-requires c =
    let ds = c.args.dims.now in
    record { some = omega arith; small = omega arith; each = factors_fit ds c.filled_up-all.result c.filled_up-all.ensures (omega arith) c.in_ok-check_dims.ensures (λ (d : Dim). d.edge) c.map.result (made_map _ (λ (d : Dim). d.edge) none_dim 0 c.filled_up-all.result c.map.result c.map.ensures.items (long ds c.filled_up-all.result c.filled_up-all.ensures (omega arith)) (λ k y q l b. search (rules, tests))) (λ d f. (f.2, omega (arith, f.1, f.3))) }

pub product_within-requires-2 : goal.product_within-requires-2
product_within-requires-2 c =
    let ds = c.args.dims.now in
    record { some = omega arith; small = omega arith; each = factors_fit ds c.filled_up-all.result c.filled_up-all.ensures (omega arith) c.in_ok-check_dims.ensures (λ (d : Dim). d.size) c.map-2.result (made_map _ (λ (d : Dim). d.size) none_dim 0 c.filled_up-all.result c.map-2.result c.map-2.ensures.items (long ds c.filled_up-all.result c.filled_up-all.ensures (omega arith)) (λ k y q l b. search (rules, tests))) (λ d f. (f.0, f.1)) }

pub returns-in_default : goal.returns-in_default
returns-in_default c =
    let ds = c.args.dims.now in
    let v : product c.map.result ≡ volume ds = ap product (made_map _ (λ (d : Dim). d.edge) none_dim 0 c.filled_up-all.result c.map.result c.map.ensures.items (long ds c.filled_up-all.result c.filled_up-all.ensures (omega arith)) (λ k y q l b. search (rules, tests))) ∙ all_product ds c.filled_up-all.result c.filled_up-all.ensures (omega arith) (λ (d : Dim). d.edge) refl in
    let f = shape_voluminous ds (omega arith) (omega arith) c.in_ok-check_dims.ensures (omega (arith, v, c.in_default.ensures)) in
    record { answer = f; limits = accepts_limits {S = Shape} ds shape_refusal (Err Volume) f }

pub returns-in_default-product_within : goal.returns-in_default-product_within
returns-in_default-product_within c =
    let ds = c.args.dims.now in
    let v : product c.map.result ≡ volume ds = ap product (made_map _ (λ (d : Dim). d.edge) none_dim 0 c.filled_up-all.result c.map.result c.map.ensures.items (long ds c.filled_up-all.result c.filled_up-all.ensures (omega arith)) (λ k y q l b. search (rules, tests))) ∙ all_product ds c.filled_up-all.result c.filled_up-all.ensures (omega arith) (λ (d : Dim). d.edge) refl in
    let x : product c.map-2.result ≡ extent ds = ap product (made_map _ (λ (d : Dim). d.size) none_dim 0 c.filled_up-all.result c.map-2.result c.map-2.ensures.items (long ds c.filled_up-all.result c.filled_up-all.ensures (omega arith)) (λ k y q l b. search (rules, tests))) ∙ all_product ds c.filled_up-all.result c.filled_up-all.ensures (omega arith) (λ (d : Dim). d.size) refl in
    let k = c.in-Some.ensures in
    let f = shape_extensive ds (omega arith) (omega arith) c.in_ok-check_dims.ensures (omega (arith, v)) (omega (arith, x, c.in_default-product_within.ensures)) in
    record { answer = f; limits = accepts_limits {S = Shape} ds shape_refusal (Err Extent) f }

pub nonzero_div-result : goal.nonzero_div-result
nonzero_div-result c =
    let ds = c.args.dims.now in
    let v : product c.map.result ≡ volume ds = ap product (made_map _ (λ (d : Dim). d.edge) none_dim 0 c.filled_up-all.result c.map.result c.map.ensures.items (long ds c.filled_up-all.result c.filled_up-all.ensures (omega arith)) (λ k y q l b. search (rules, tests))) ∙ all_product ds c.filled_up-all.result c.filled_up-all.ensures (omega arith) (λ (d : Dim). d.edge) refl in
    let k = c.in-Some.ensures in
    let one = cells_some ds c.filled_up-all.result c.filled_up-all.ensures (omega arith) c.in_ok-check_dims.ensures in
    omega arith

pub invariant_of-result : goal.invariant_of-result
invariant_of-result c =
    let ds = c.args.dims.now in
    let all = c.filled_up-all.result in
    let is_six = c.filled_up-all.ensures in
    let few : length ds ≤ 6 = omega arith in
    let sound = c.in_ok-check_dims.ensures in
    let t : take (length ds) all ≡ ds = taken ds all is_six few in
    let v : c.in-Some.cells ≡ volume ds = c.in-Some.ensures.0 ∙ (ap product (made_map _ (λ (d : Dim). d.edge) none_dim 0 c.filled_up-all.result c.map.result c.map.ensures.items (long ds c.filled_up-all.result c.filled_up-all.ensures (omega arith)) (λ k y q l b. search (rules, tests))) ∙ all_product ds all is_six few (λ (d : Dim). d.edge) refl) in
    let x : c.in-Some-product_within.extent ≡ extent ds = c.in-Some-product_within.ensures.0 ∙ (ap product (made_map _ (λ (d : Dim). d.size) none_dim 0 c.filled_up-all.result c.map-2.result c.map-2.ensures.items (long ds c.filled_up-all.result c.filled_up-all.ensures (omega arith)) (λ k y q l b. search (rules, tests))) ∙ all_product ds all is_six few (λ (d : Dim). d.size) refl) in
    let v_low = c.in-Some.ensures.1 in
    let x_low = c.in-Some-product_within.ensures.1 in
    let v_at : volume (take (length ds) all) ≡ volume ds = ap volume t in
    let x_at : extent (take (length ds) all) ≡ extent ds = ap extent t in
    record {
      six = long ds all is_six few;
      few = (omega arith, few);
      each = λ i h. all_fit ds all is_six few sound i (omega arith);
      past = λ i h. (ap (λ (d : Dim). d.size) (past_last ds all is_six few i h), ap (λ (d : Dim). d.edge) (past_last ds all is_six few i h));
      small_chunk = omega (arith, v, v_at);
      small_array = omega (arith, x, x_at);
      volumes = v ∙ sym v_at;
      totals = chunks_are ds all is_six few sound c.in-Some-product_within.extent c.in-Some.cells x v ∙ ap total_chunks (sym t);
    }

pub returns : goal.returns
returns c =
    let ds = c.args.dims.now in
    let all = c.filled_up-all.result in
    let is_six = c.filled_up-all.ensures in
    let few : length ds ≤ 6 = omega arith in
    let sound = c.in_ok-check_dims.ensures in
    let v : c.in-Some.cells ≡ volume ds = c.in-Some.ensures.0 ∙ (ap product (made_map _ (λ (d : Dim). d.edge) none_dim 0 c.filled_up-all.result c.map.result c.map.ensures.items (long ds c.filled_up-all.result c.filled_up-all.ensures (omega arith)) (λ k y q l b. search (rules, tests))) ∙ all_product ds all is_six few (λ (d : Dim). d.edge) refl) in
    let x : c.in-Some-product_within.extent ≡ extent ds = c.in-Some-product_within.ensures.0 ∙ (ap product (made_map _ (λ (d : Dim). d.size) none_dim 0 c.filled_up-all.result c.map-2.result c.map-2.ensures.items (long ds c.filled_up-all.result c.filled_up-all.ensures (omega arith)) (λ k y q l b. search (rules, tests))) ∙ all_product ds all is_six few (λ (d : Dim). d.size) refl) in
    let v_low = c.in-Some.ensures.1 in
    let x_low = c.in-Some-product_within.ensures.1 in
    let f = shape_good ds (omega arith) few sound (omega (arith, v)) (omega (arith, x)) in
    record { answer = (f, taken ds all is_six few); limits = (λ _. limits_from ds f, λ _. refl) }
