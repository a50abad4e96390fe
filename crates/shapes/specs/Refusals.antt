-- The number and the values of each refusal. Assumes nothing.
use Rattle.std.specs.Prelude.{[], ◌∷◌}
use Rattle.shapes.specs.Limits.{Refusal}
use Rattle.shapes.specs.declared.refusals.ShapeRefusal.{ShapeRefusal}
use Rattle.shapes.specs.declared.refusals.ShapeRefusal.TheVariants.{Dimensions, Size, Edge, Division, Volume, Extent}

abbrev pub shape_refusal : ShapeRefusal → Refusal
shape_refusal Dimensions = (1, [])
shape_refusal (Size i) = (2, i ∷ [])
shape_refusal (Edge i) = (3, i ∷ [])
shape_refusal (Division i) = (4, i ∷ [])
shape_refusal Volume = (5, [])
shape_refusal Extent = (6, [])
