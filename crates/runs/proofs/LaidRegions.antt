-- The masks of a layout are few.
use Rattle.std.proofs.Common.{◌≡◌, ℕ, ◌+◌, ◌^◌, ◌<◌, ◌≤◌, length, arith, pow_mono}
use Rattle.std.proofs.lemmas.Nat.{pow_pos}
use Rattle.shapes.specs.Views.{dims_of}
use Rattle.shapes.proofs.Held.{limits}
use Rattle.runs.specs.declared.layouts.Layout.{Layout}
use Rattle.runs.specs.Grids.{top}

-- there are at most 64 masks
pub masks_few : (y : Layout) → 2 ^ length (dims_of y.shape) ≤ 64
masks_few y = pow_mono (limits y.shape).few_dims

pub top_of : (y : Layout) → top y + 1 ≡ 2 ^ length (dims_of y.shape)
top_of y = omega (arith, pow_pos (length (dims_of y.shape)))

pub mask_few : (y : Layout) (m : ℕ) → m ≤ top y → m < 64
mask_few y m l = omega (arith, masks_few y, top_of y)
