-- Six dimensions have few masks.
use Rattle.std.proofs.Common.{ℕ, ◌^◌, ◌≤◌, pow_mono}

pub few_masks : (n : ℕ) → n ≤ 6 → 2 ^ n ≤ 64
few_masks n h = pow_mono h
