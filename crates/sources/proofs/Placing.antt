-- The cell of a row: its chunk's storage number and its offset. Assumes nothing.
use Rattle.std.proofs.Common.{◌≡◌, ℕ, zero, suc, ◌+◌, ◌*◌, ◌/◌, ◌<◌, ◌≤◌, true, ltb, List, [], ◌∷◌, ◌++◌, length, take, replicate, Some, None, Option, sym, refl, ap, ◌∙◌, ap₂, mod-lt, div-lt_iff_lt-mul, div-add-mod', arith}
use Rattle.std.specs.List.{AllByRecursion}
use Rattle.std.proofs.lemmas.List.{length-map}
use Rattle.std.proofs.lemmas.Bool.{and_parts, and_from, ltb-true, lt-ltb, cond-true}
use Rattle.shapes.specs.declared.dims.Dim.{Dim}
use Rattle.shapes.specs.declared.shape.Shape.{Shape}
use Rattle.shapes.specs.Arrays.{chunks, sizes, counts, edges, number, inside, numbered, Below, chunk_of, local_of, storage, offset}
use Rattle.shapes.specs.Limits.{Fit}
use Rattle.shapes.specs.Views.{dims_of, six}
use Rattle.shapes.proofs.Held.{dims_few, all_fit}
use Rattle.shapes.proofs.Numbering.{below_length}
use Rattle.sources.specs.declared.rows.Row.{Row}
use Rattle.sources.specs.Readings.{is_reading}
use Rattle.sources.specs.Rows.{in_range, place}

-- a list of digits filled up with zeros
pub inside_zeros : (n m : ℕ) → inside [] (take n (replicate m 0)) ≡ true
inside_zeros zero m = refl
inside_zeros (suc n) zero = refl
inside_zeros (suc n) (suc m) = inside_zeros n m

pub inside_filled : (ks ys : List ℕ) (n m : ℕ) → Below ks ys → length ys ≤ n → inside ks (take n (ys ++ replicate m 0)) ≡ true
inside_filled [] [] n m b l = inside_zeros n m
inside_filled [] (y ∷ ys) n m b l = absurd b
inside_filled (k ∷ ks) [] n m b l = absurd b
inside_filled (k ∷ ks) (y ∷ ys) zero m b l = absurd (omega arith)
inside_filled (k ∷ ks) (y ∷ ys) (suc n) m b l =
    and_from (ltb y k) (inside ks (take n (ys ++ replicate m 0))) (lt-ltb y k b.0) (inside_filled ks ys n m b.1 (omega arith))

pub number_filled : (ks ys : List ℕ) (n m : ℕ) → Below ks ys → length ys ≤ n → number ks (take n (ys ++ replicate m 0)) ≡ number ks ys
number_filled [] ys n m b l = refl
number_filled (k ∷ ks) [] n m b l = absurd b
number_filled (k ∷ ks) (y ∷ ys) zero m b l = absurd (omega arith)
number_filled (k ∷ ks) (y ∷ ys) (suc n) m b l = ap (λ s. y + k * s) (number_filled ks ys n m b.1 (omega arith))

numbered_six : (ks ys : List ℕ) → Below ks ys → length ks ≤ 6 → numbered ks (six 0 ys) ≡ Some (number ks ys)
numbered_six ks ys b few =
    let l : length ys ≤ 6 = omega (arith, below_length ks ys b) in
    cond-true (inside ks (six 0 ys)) (Some (number ks (six 0 ys))) None (inside_filled ks ys 6 6 b l) ∙ ap Some (number_filled ks ys 6 6 b l)

pub chunk_below : (x : ℕ) (d : Dim) → Fit d → x < d.size → x / d.edge < chunks d
chunk_below x d fit h =
    let even = fit.4 in
    let whole = div-add-mod' d.size d.edge in
    (div-lt_iff_lt-mul {k = d.edge} {x = x} {y = chunks d} fit.2).1 (omega arith)

chunks_below : (ds : List Dim) (xs : List ℕ) → AllByRecursion Fit ds → inside (sizes ds) xs ≡ true → Below (counts ds) (chunk_of ds xs)
chunks_below [] xs fit h = tt
chunks_below (d ∷ ds) [] fit h = cc
chunks_below (d ∷ ds) (x ∷ xs) fit h =
    let b = and_parts (ltb x d.size) (inside (sizes ds) xs) h in
    (chunk_below x d fit.0 (ltb-true x d.size b.0), chunks_below ds xs fit.1 b.1)

locals_below : (ds : List Dim) (xs : List ℕ) → AllByRecursion Fit ds → inside (sizes ds) xs ≡ true → Below (edges ds) (local_of ds xs)
locals_below [] xs fit h = tt
locals_below (d ∷ ds) [] fit h = cc
locals_below (d ∷ ds) (x ∷ xs) fit h =
    let b = and_parts (ltb x d.size) (inside (sizes ds) xs) h in
    (mod-lt x fit.0.2, locals_below ds xs fit.1 b.1)

module _ (s : Shape) (r : Row) (in-it : in_range (dims_of s) r ≡ true) where
  inside_it : inside (sizes (dims_of s)) r.at ≡ true
  inside_it = (and_parts (inside (sizes (dims_of s)) r.at) (is_reading r.reading) in-it).0

  storage_known : numbered (counts (dims_of s)) (six 0 (chunk_of (dims_of s) r.at)) ≡ Some (storage (dims_of s) r.at)
  storage_known =
      let few = dims_few s in
      numbered_six (counts (dims_of s)) (chunk_of (dims_of s) r.at) (chunks_below (dims_of s) r.at (all_fit s) inside_it) (rw length-map few)

  offset_known : numbered (edges (dims_of s)) (six 0 (local_of (dims_of s) r.at)) ≡ Some (offset (dims_of s) r.at)
  offset_known =
      let few = dims_few s in
      numbered_six (edges (dims_of s)) (local_of (dims_of s) r.at) (locals_below (dims_of s) r.at (all_fit s) inside_it) (rw length-map few)

  -- the two numbers as they are found, and no way to find none
  module _ (cs : List ℕ) (o : Option ℕ) (is_chunk : cs ≡ six 0 (chunk_of (dims_of s) r.at)) (is_number : o ≡ numbered (counts (dims_of s)) cs) where
    pub storage_found : o ≡ Some (storage (dims_of s) r.at)
    storage_found = is_number ∙ ap (numbered (counts (dims_of s))) is_chunk ∙ storage_known

    pub storage_missing : o ≡ None → ⊥
    storage_missing h = let found = storage_found in cc

  module _ (ls : List ℕ) (o : Option ℕ) (is_local : ls ≡ six 0 (local_of (dims_of s) r.at)) (is_number : o ≡ numbered (edges (dims_of s)) ls) where
    pub offset_found : o ≡ Some (offset (dims_of s) r.at)
    offset_found = is_number ∙ ap (numbered (edges (dims_of s))) is_local ∙ offset_known

    pub offset_missing : o ≡ None → ⊥
    offset_missing h = let found = offset_found in cc

  pub placed : (o u : Option ℕ) (p q : ℕ) → o ≡ Some (storage (dims_of s) r.at) → o ≡ Some p → u ≡ Some (offset (dims_of s) r.at) → u ≡ Some q → Some (p, q) ≡ place (dims_of s) r
  placed o u p q chunk is-p local is-q =
      let a : p ≡ storage (dims_of s) r.at = cc in
      let b : q ≡ offset (dims_of s) r.at = cc in
      let pair : ℕ → ℕ → Option (ℕ × ℕ) = λ x y. Some (x, y) in
      ap₂ pair a b ∙ sym (cond-true (in_range (dims_of s) r) (pair (storage (dims_of s) r.at) (offset (dims_of s) r.at)) None in-it)
