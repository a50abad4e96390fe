-- The check of a file, layer by layer, and the dimensions that bytes tell.
use Rattle.std.proofs.Common.{◌≡◌, ℕ, ◌+◌, ◌-◌, ◌*◌, ◌<◌, ◌≤◌, cond, List, [], ◌∷◌, map, length, get_or, drop, is_some, Some, None, Option, sym, refl, ap, ◌∙◌, arith}
use Rattle.std.specs.List.{range_with_len}
use Rattle.std.proofs.lemmas.List.{get_or-drop, length-drop}
use Rattle.std.proofs.lemmas.Bool.Decides.{nat_tests}
use Rattle.std.proofs.lemmas.List.FromFn.{length-map-range_with_len, get_or-map-range_with_len, fill_by_all}
use Rattle.shapes.specs.declared.dims.Dim.{Dim}
use Rattle.shapes.specs.Arrays.{volume, total_chunks, none_dim}
use Rattle.shapes.specs.Limits.{Limits, Refusal, or_else, shape_fault}
use Rattle.shapes.proofs.Limited.{limits_fault}
use Rattle.chunk_files.specs.Layouts.{word, directory_at, dim_at, dims_from, dims_in, head_fault, sizes_fault, directory_fault, file_fault, file_dims}

-- two lists by index are equal where they agree
pub map_counting_same : {X : Type 0} (d : X) (f g : ℕ → X) (n : ℕ) → ((k : ℕ) → k < n → f k ≡ g k) → map f (range_with_len 0 n) ≡ map g (range_with_len 0 n)
map_counting_same d f g n h = fill_by_all g (map f (range_with_len 0 n)) n d (length-map-range_with_len f 0 n) (λ k l. get_or-map-range_with_len f 0 n k k d l (omega arith) ∙ h k l)

word_drop : (m : ℕ) (bs : List ℕ) (p : ℕ) → word (drop m bs) p ≡ word bs (m + p)
word_drop m bs p =
    let a = get_or-drop m bs p 0 in
    let b : get_or (drop m bs) (p + 1) 0 ≡ get_or bs (m + p + 1) 0 = get_or-drop m bs (p + 1) 0 ∙ ap (λ i. get_or bs i 0) (omega arith) in
    let c : get_or (drop m bs) (p + 2) 0 ≡ get_or bs (m + p + 2) 0 = get_or-drop m bs (p + 2) 0 ∙ ap (λ i. get_or bs i 0) (omega arith) in
    let d : get_or (drop m bs) (p + 3) 0 ≡ get_or bs (m + p + 3) 0 = get_or-drop m bs (p + 3) 0 ∙ ap (λ i. get_or bs i 0) (omega arith) in
    omega (arith, a, b, c, d)

dim_drop : (m : ℕ) (bs : List ℕ) (p : ℕ) → dim_at (drop m bs) p ≡ dim_at bs (m + p)
dim_drop m bs p =
    let e = word_drop m bs (p + 4) ∙ ap (word bs) (omega arith) in
    λ i. record { size = word_drop m bs p i; edge = e i }

dims_after : (m : ℕ) (bs : List ℕ) (n : ℕ) → dims_from (drop m bs) 0 n ≡ dims_from bs m n
dims_after m bs n =
    map_counting_same none_dim (λ k. dim_at (drop m bs) (0 + 8 * k)) (λ k. dim_at bs (m + 8 * k)) n
    (λ k l. dim_drop m bs (0 + 8 * k) ∙ ap (dim_at bs) (omega arith))

pub length-dims : (bs : List ℕ) (from n : ℕ) → length (dims_from bs from n) ≡ n
length-dims bs from n = length-map-range_with_len (λ i. dim_at bs (from + 8 * i)) 0 n

-- The dimensions that bytes tell

pub dims_kept : (bs : List ℕ) → shape_fault (dims_in bs) ≡ None → file_dims bs ≡ dims_in bs
unfolding file_dims
dims_kept bs e = ap (λ o. cond (is_some o) (none_dim ∷ []) (dims_in bs)) e

-- The check, by its first fault

abbrev pub rest_fault : List ℕ → ℕ → Option Refusal
rest_fault rest n = or_else (sizes_fault n (length rest)) (shape_fault (dims_from rest 0 n))

abbrev pub late_fault : List ℕ → Option Refusal
late_fault bs = directory_fault bs (4 + 8 * get_or bs 1 0) (volume (dims_in bs)) (total_chunks (dims_in bs))

pub sizes_whole : (n len : ℕ) → 1 ≤ n → n ≤ 6 → 8 * n ≤ len → sizes_fault n len ≡ None
sizes_whole n len a b l = grind (arith, nat_tests)

pub rest_whole : (rest : List ℕ) (n : ℕ) (ds : List Dim) → 1 ≤ n → n ≤ 6 → 8 * n ≤ length rest → ds ≡ dims_from rest 0 n → rest_fault rest n ≡ shape_fault ds
rest_whole rest n ds a b l e = ap (λ o. or_else o (shape_fault (dims_from rest 0 n))) (sizes_whole n (length rest) a b l) ∙ ap shape_fault (sym e)

or_else_assoc : {X : Type 0} (o p q : Option X) → or_else (or_else o p) q ≡ or_else o (or_else p q)
or_else_assoc (Some x) p q = refl
or_else_assoc None p q = refl

file_staged : (bs : List ℕ) → file_fault bs ≡ or_else (head_fault bs) (or_else (rest_fault (drop 4 bs) (get_or bs 1 0)) (late_fault bs))
unfolding file_fault
file_staged bs =
    let n = get_or bs 1 0 in
    ap (or_else (head_fault bs))
    (sym (or_else_assoc (sizes_fault n (length bs - 4)) (shape_fault (dims_in bs)) (late_fault bs))
    ∙ (λ i. or_else (or_else (sizes_fault n (sym (length-drop 4 bs) i)) (shape_fault (sym (dims_after 4 bs n) i))) (late_fault bs)))

pub file_unmarked : (bs : List ℕ) (r : Refusal) → head_fault bs ≡ Some r → file_fault bs ≡ Some r
file_unmarked bs r e = file_staged bs ∙ ap (λ o. or_else o (or_else (rest_fault (drop 4 bs) (get_or bs 1 0)) (late_fault bs))) e

-- bytes with a mark, the number of dimensions, and the bytes from there on
module _ (bs : List ℕ) (marked : head_fault bs ≡ None) (n : ℕ) (rest : List ℕ) (at : n ≡ get_or bs 1 0) (is : rest ≡ drop 4 bs) where
  file_marked : file_fault bs ≡ or_else (rest_fault rest n) (late_fault bs)
  file_marked = file_staged bs ∙ (λ i. or_else (marked i) (or_else (rest_fault (sym is i) (sym at i)) (late_fault bs)))

  pub file_ill_shaped : (r : Refusal) → rest_fault rest n ≡ Some r → file_fault bs ≡ Some r
  file_ill_shaped r e = file_marked ∙ ap (λ o. or_else o (late_fault bs)) e

  -- the dimensions of the shape that was read
  module _ (ds : List Dim) (read : (rest_fault rest n ≡ None) × (ds ≡ dims_from rest 0 n)) where
    told : ds ≡ dims_in bs
    told = read.1 ∙ ((λ i. dims_from (is i) 0 (at i)) ∙ dims_after 4 bs (get_or bs 1 0))

    pub file_shaped : file_fault bs ≡ directory_fault bs (directory_at ds) (volume ds) (total_chunks ds)
    file_shaped =
        let m : length ds ≡ get_or bs 1 0 = ap length told ∙ length-dims bs 4 (get_or bs 1 0) in
        file_marked ∙ (ap (λ o. or_else o (late_fault bs)) read.0
        ∙ (λ i. directory_fault bs (4 + 8 * sym m i) (volume (sym told i)) (total_chunks (sym told i))))

    pub dims_read : Limits ds → ds ≡ file_dims bs
    dims_read l = told ∙ sym (dims_kept bs (ap shape_fault (sym told) ∙ limits_fault ds l))
