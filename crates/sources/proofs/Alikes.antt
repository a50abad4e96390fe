-- What a fetch answers and leaves, case by case. Assumes nothing.
use Rattle.std.proofs.Common.{◌≡◌, ℕ, ◌<◌, ◌≤◌, Bool, true, false, cond, ltb, leb, List, ◌++◌, length, take, drop, Ok, Err, Result, refl, ap, ◌∙◌, ap₂}
use Rattle.std.proofs.lemmas.List.{take_at, length-replicate}
use Rattle.std.proofs.lemmas.Bool.{lt-leb, le-ltb, leb-false, ltb-false}
use Rattle.shapes.specs.Arrays.{volume, total_chunks}
use Rattle.sources.specs.declared.refusals.SourceRefusal.{SourceRefusal}
use Rattle.sources.specs.declared.refusals.SourceRefusal.TheVariants.{Beyond, Short}
use Rattle.sources.specs.Meanings.{Chunk, values, faulty, Meaning, sized_chunk, Sized, read_answer, fetch_answer, cells_of, cells_after, room_answer}

module _ {M : Type 0} (empty : M) (m : Meaning M) (k : ℕ) where
  -- the first two checks refuse
  refused_by : (v : ℕ) (b d : Bool) (e : SourceRefusal) (xs ys : List M) (r : Result (Unit {0}) SourceRefusal) → cond b (Err Beyond) (cond d (Err (Short v)) (Ok v)) ≡ Err e
      → (cond b (Err Beyond) (cond d (Err (Short v)) r) ≡ Err e) × (cond b xs (cond d xs ys) ≡ xs)
  refused_by v true d e xs ys r h = (cc, refl)
  refused_by v false true e xs ys r h = (cc, refl)
  refused_by v false false e xs ys r h = cc

  pub room_refused : (e : SourceRefusal) (xs : List M) → room_answer m.dims k (length xs) ≡ Err e → (fetch_answer m k (length xs) ≡ Err e) × (cells_after empty m k xs ≡ xs)
  room_refused e xs h =
      refused_by (volume m.dims) (leb (total_chunks m.dims) k) (ltb (length xs) (volume m.dims)) e xs (cells_of empty (volume m.dims) (m.chunk k) ++ drop (volume m.dims) xs)
      (read_answer k (m.chunk k)) h

  -- they pass
  granted_by : (v w : ℕ) (b d : Bool) → cond b (Err Beyond) (cond d (Err (Short v)) (Ok v)) ≡ Ok w → (b ≡ false) × (d ≡ false) × (w ≡ v)
  granted_by v w true d h = cc
  granted_by v w false true h = cc
  granted_by v w false false h = (refl, refl, cc)

  pub room_granted : (w room : ℕ) → room_answer m.dims k room ≡ Ok w → (k < total_chunks m.dims) × (volume m.dims ≤ room) × (w ≡ volume m.dims)
  room_granted w room h =
      let g = granted_by (volume m.dims) w (leb (total_chunks m.dims) k) (ltb room (volume m.dims)) h in
      (leb-false (total_chunks m.dims) k g.0, ltb-false room (volume m.dims) g.1, g.2)

  module _ (below : k < total_chunks m.dims) where
    pub full_answer : (room : ℕ) → volume m.dims ≤ room → fetch_answer m k room ≡ read_answer k (m.chunk k)
    full_answer room h =
        ap₂ (λ b d. cond b (Err Beyond) (cond d (Err (Short (volume m.dims))) (read_answer k (m.chunk k)))) (lt-leb (total_chunks m.dims) k below) (le-ltb room (volume m.dims) h)

    pub full_cells : (xs : List M) → volume m.dims ≤ length xs → cells_after empty m k xs ≡ cells_of empty (volume m.dims) (m.chunk k) ++ drop (volume m.dims) xs
    full_cells xs h =
        ap₂ (λ b d. cond b xs (cond d xs (cells_of empty (volume m.dims) (m.chunk k) ++ drop (volume m.dims) xs))) (lt-leb (total_chunks m.dims) k below) (le-ltb (length xs) (volume m.dims) h)

pub length_cells : {M : Type 0} (empty : M) (v : ℕ) (c : Chunk M) → sized_chunk v c → length (cells_of empty v c) ≡ v
length_cells empty v (values vs) h = h
length_cells empty v (faulty cause entry) h = length-replicate v empty

-- the first cells after a fetch are the chunk's
pub first_cells : {M : Type 0} (empty : M) (m : Meaning M) (k : ℕ) (xs : List M) → Sized m → k < total_chunks m.dims → volume m.dims ≤ length xs
    → take (volume m.dims) (cells_after empty m k xs) ≡ cells_of empty (volume m.dims) (m.chunk k)
first_cells empty m k xs sized below room =
    ap (take (volume m.dims)) (full_cells empty m k below xs room)
    ∙ take_at (cells_of empty (volume m.dims) (m.chunk k)) (drop (volume m.dims) xs) (volume m.dims) (length_cells empty (volume m.dims) (m.chunk k) (sized k below))
