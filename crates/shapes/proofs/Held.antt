-- What a shape holds, dimension by dimension.
use Rattle.std.proofs.Common.{◌≡◌, ℕ, zero, suc, ◌+◌, ◌/◌, ◌%◌, ◌^◌, ◌<◌, ◌≤◌, List, [], ◌∷◌, map, length, get_or, take, set, sym, refl, ap, ◌∙◌, ⊎_elim, subst, arith}
use Rattle.std.specs.List.{AllByRecursion}
use Rattle.std.proofs.lemmas.List.{ext_get_or, length-take, get_or-take, get_or_default, get_or_past, get_or-map, take_all}
use Rattle.std.proofs.lemmas.Bool.{cases_lt}
use Rattle.std.proofs.lemmas.Nat.{le-div}
use Rattle.std.proofs.ByRecursion.{All-from_get_or}
use Rattle.shapes.specs.declared.dims.Dim.{Dim}
use Rattle.shapes.specs.declared.shape.Shape.{Shape}
use Rattle.shapes.specs.Arrays.{counts, edges, none_dim, dim, chunk_of, local_of, chunks, total_chunks}
use Rattle.shapes.specs.Limits.{Fit, Limits}
use Rattle.shapes.specs.Views.{dims_of, six}
use Rattle.shapes.proofs.Sixes.{length-six, six_at, six_more, six_taken, map-six}
use Rattle.shapes.proofs.Sizing.{dim_ext}
use Rattle.shapes.proofs.Limited.{six_fits}
use Rattle.shapes.proofs.Products.{total_le}

module _ (s : Shape) where
  pub dims_long : length (dims_of s) ≡ s.n
  dims_long = let a = s.six in let b = s.few.1 in length-take s.n s.dims ∙ omega arith

  -- the six dimensions are those of the shape, filled up
  pub held_six : s.dims ≡ six none_dim (dims_of s)
  held_six = six_taken none_dim s.dims s.n s.six (λ i h. dim_ext (get_or s.dims i none_dim) none_dim (s.past i h).0 (s.past i h).1)

  pub dims_few : length (dims_of s) ≤ 6
  dims_few = let a = dims_long in let b = s.few.1 in omega arith

  pub dim_held : (i : ℕ) (d : Dim) → i < s.n → get_or s.dims i d ≡ dim (dims_of s) i
  dim_held i d h =
      let long = s.six in
      let few = s.few.1 in
      get_or_default s.dims i d none_dim (omega arith) ∙ sym (get_or-take s.n s.dims i none_dim h)

  pub dim_fits : (i : ℕ) → i < s.n → Fit (dim (dims_of s) i)
  dim_fits i h = subst Fit (dim_held i none_dim h) (s.each i h)

  pub all_fit : AllByRecursion Fit (dims_of s)
  all_fit = All-from_get_or Fit (dims_of s) none_dim (λ i h. dim_fits i (omega (arith, dims_long)))

  pub limits : Limits (dims_of s)
  limits = record { some_dims = omega (arith, dims_long, s.few.0); few_dims = dims_few; each = all_fit; small_chunk = s.small_chunk; small_array = s.small_array }

  pub chunks_few : total_chunks (dims_of s) ≤ 2 ^ 34
  chunks_few = omega (arith, total_le (dims_of s) all_fit, s.small_array)

-- a list with a number for each dimension, made of the dimension's coordinate
module _ (op : ℕ → Dim → ℕ) (F : List Dim → List ℕ → List ℕ) (none : (xs : List ℕ) → F [] xs ≡ []) (more : (d : Dim) (ds : List Dim) (x : ℕ) (xs : List ℕ) → F (d ∷ ds) (x ∷ xs) ≡ op x d ∷ F ds xs) where
  pub length_by : (ds : List Dim) (xs : List ℕ) → length ds ≤ length xs → length (F ds xs) ≡ length ds
  length_by [] xs h = ap length (none xs)
  length_by (d ∷ ds) [] h = absurd (omega arith)
  length_by (d ∷ ds) (x ∷ xs) h = ap length (more d ds x xs) ∙ ap suc (length_by ds xs (omega arith))

  pub getD_by : (ds : List Dim) (xs : List ℕ) (i : ℕ) → length ds ≤ length xs → i < length ds → get_or (F ds xs) i 0 ≡ op (get_or xs i 0) (dim ds i)
  getD_by [] xs i h l = absurd (omega arith)
  getD_by (d ∷ ds) [] i h l = absurd (omega arith)
  getD_by (d ∷ ds) (x ∷ xs) zero h l = ap (λ ys. get_or ys 0 0) (more d ds x xs)
  getD_by (d ∷ ds) (x ∷ xs) (suc i) h l = ap (λ ys. get_or ys (suc i) 0) (more d ds x xs) ∙ getD_by ds xs i (omega arith) (omega arith)

-- a loop that fills in one element after the other of a list of at most six
module _ (x : ℕ) (xs : List ℕ) (few : length xs ≤ 6) where
  pub fills_more : (ys : List ℕ) (i y : ℕ) → i < length xs → ys ≡ six x (take i xs) → y ≡ get_or xs i x → set ys i y ≡ six x (take (i + 1) xs)
  fills_more ys i y l e at = ap (λ zs. set zs i y) e ∙ (ap (set (six x (take i xs)) i) at ∙ six_more x x xs i l few)

  pub fills_all : (ys : List ℕ) (i : ℕ) → length xs ≤ i → ys ≡ six x (take i xs) → ys ≡ six x xs
  fills_all ys i l e = e ∙ ap (six x) (take_all i xs l)

pub chunk_of_long : (ds : List Dim) (xs : List ℕ) → length ds ≤ length xs → length (chunk_of ds xs) ≡ length ds
chunk_of_long = length_by (λ x d. x / d.edge) chunk_of (λ _. refl) (λ _ _ _ _. refl)

pub chunk_of_at : (ds : List Dim) (xs : List ℕ) (i : ℕ) → length ds ≤ length xs → i < length ds → get_or (chunk_of ds xs) i 0 ≡ get_or xs i 0 / (dim ds i).edge
chunk_of_at = getD_by (λ x d. x / d.edge) chunk_of (λ _. refl) (λ _ _ _ _. refl)

pub local_of_long : (ds : List Dim) (xs : List ℕ) → length ds ≤ length xs → length (local_of ds xs) ≡ length ds
local_of_long = length_by (λ x d. x % d.edge) local_of (λ _. refl) (λ _ _ _ _. refl)

pub local_of_at : (ds : List Dim) (xs : List ℕ) (i : ℕ) → length ds ≤ length xs → i < length ds → get_or (local_of ds xs) i 0 ≡ get_or xs i 0 % (dim ds i).edge
local_of_at = getD_by (λ x d. x % d.edge) local_of (λ _. refl) (λ _ _ _ _. refl)

-- chunk counts and edges, one by one
pub count_at : (ds : List Dim) (i : ℕ) → i < length ds → get_or (counts ds) i 1 ≡ chunks (dim ds i)
count_at ds i l = get_or-map chunks ds i none_dim 1 l

pub edge_at : (ds : List Dim) (i : ℕ) → i < length ds → get_or (edges ds) i 1 ≡ (dim ds i).edge
edge_at ds i l = get_or-map (λ (d : Dim). d.edge) ds i none_dim 1 l

-- the same for a list with an element for each dimension of a shape
module _ (s : Shape) (x : ℕ) (xs : List ℕ) (long : length xs ≡ length (dims_of s)) where
  few_held : length xs ≤ 6
  few_held = let a = dims_few s in omega arith

  pub held_more : (ys : List ℕ) (i y : ℕ) → i < s.n → ys ≡ six x (take i xs) → y ≡ get_or xs i x → set ys i y ≡ six x (take (i + 1) xs)
  held_more ys i y l e at = let n = dims_long s in fills_more x xs few_held ys i y (omega arith) e at

  pub held_all : (ys : List ℕ) (i : ℕ) → s.n ≤ i → ys ≡ six x (take i xs) → ys ≡ six x xs
  held_all ys i l e = let n = dims_long s in fills_all x xs few_held ys i (omega arith) e

-- six numbers that are those of a list for each dimension of a shape, and 0 past the last
pub held_by : (s : Shape) (xs ys : List ℕ) → length ys ≡ 6 → length xs ≡ length (dims_of s) → ((i : ℕ) → i < s.n → get_or ys i 0 ≡ get_or xs i 0) → ((i : ℕ) → s.n ≤ i → get_or ys i 0 ≡ 0) → ys ≡ six 0 xs
held_by s xs ys six_long long below past =
    ext_get_or 0 ys (six 0 xs) (six_long ∙ sym (length-six 0 xs)) (λ i l.
    let i6 : i < 6 = omega arith in
    ⊎_elim (λ h. below i h ∙ sym (six_at 0 xs i i6)) (λ h. past i h ∙ sym (six_at 0 xs i i6 ∙ get_or_past xs i 0 (omega (arith, long, dims_long s)))) (cases_lt i s.n))

-- six numbers, each from 1 up
pub held_some : (s : Shape) (f : Dim → ℕ) → f none_dim ≡ 1 → ((d : Dim) → Fit d → 1 ≤ f d) → (i : ℕ) → i < 6 → 1 ≤ get_or (six 1 (map f (dims_of s))) i 0
held_some s f one h i l =
    let ds = dims_of s in
    let e : get_or (six 1 (map f ds)) i 0 ≡ f (get_or (six none_dim ds) i none_dim) =
    ap (λ x. get_or (six x (map f ds)) i 0) (sym one) ∙ (ap (λ xs. get_or xs i 0) (sym (map-six f none_dim ds)) ∙ get_or-map f (six none_dim ds) i none_dim 0 (omega (arith, length-six none_dim ds))) in
    omega (arith, e, h (get_or (six none_dim ds) i none_dim) (six_fits ds (all_fit s) i l))

pub count_some : (d : Dim) → Fit d → 1 ≤ chunks d
count_some d f = let p = f.2 in let q = f.3 in le-div 1 d.size d.edge p (omega arith)
