-- A list that was filled with one value. Assumes nothing.
use Rattle.std.proofs.Common.{◌≡◌, List, [], ◌∷◌, length, replicate, refl, ap₂}
use Rattle.std.specs.List.{FoldsTo}

-- each call of f gave e, and left f as it was
pub filled : {F M : Type 0} (step : F → M → F → Type 0) (e : M) (f : F) → ((x : M) (g : F) → step f x g → (x ≡ e) × (g ≡ f)) → (xs : List M) (last : F) → FoldsTo step f xs last → xs ≡ replicate (length xs) e
filled step e f same [] last ran = refl
filled step e f same (x ∷ xs) last ran = let s = same x ran.0 ran.1 in ap₂ (λ y ys. y ∷ ys) s.0 (filled step e f same xs last (rw s.1 at ran.2))
