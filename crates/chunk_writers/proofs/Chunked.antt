-- The keys of a chunk, and its cells. Assumes nothing.
use Rattle.std.proofs.Common.{◌≡◌, ℕ, ◌+◌, ◌-◌, ◌<◌, ◌≤◌, true, false, ◌&&◌, eqb, ltb, ◌⊎◌, List, [], ◌∷◌, map, length, get_or, Some, None, sym, ap, ◌∙◌, subst, inl, inr, mod-lt, arith}
use Rattle.std.specs.List.{range_with_len, between, AllByRecursion}
use Rattle.std.proofs.lemmas.List.Edits.{length-between, get_or-between}
use Rattle.std.proofs.lemmas.List.{length-map, get_or-map}
use Rattle.std.proofs.lemmas.Bool.{and_parts, and_from, ltb-true, eq-eqb, eqb-true, cases_lt, cases_eq}
use Rattle.std.proofs.lemmas.Grind.{not_there}
use Rattle.shapes.specs.declared.dims.Dim.{Dim}
use Rattle.shapes.specs.Arrays.{sizes, counts, edges, inside, Below as Digits, chunk_of, local_of, storage, offset, volume, total_chunks}
use Rattle.shapes.specs.Limits.{Fit}
use Rattle.shapes.proofs.Numbering.{number_below}
use Rattle.sources.specs.declared.rows.Row.{Row}
use Rattle.sources.specs.Readings.{is_reading}
use Rattle.sources.specs.Rows.{in_range, on_cell}
use Rattle.chunk_files.specs.Bodies.{Pair, held, filled}
use Rattle.chunk_writers.specs.declared.keys.Key.{Key}
use Rattle.chunk_writers.specs.Keys.{none_key, row_at, pair_of, Keyed, Cut, Below}
use Rattle.chunk_writers.specs.Segments.{Climb}
use Rattle.chunk_writers.specs.Written.{pairs_of, in_cell, in_chunk}
use Rattle.chunk_writers.proofs.Pairing.{held_cases, first_cases, climb_from, pairs_held, length_pairs_of, map_counting_same}
use Rattle.sources.proofs.Placing.{chunk_below}

pub never : {A : Type 0} → false ≡ true → A
never e = absurd (cc)

chunks_below : (ds : List Dim) (xs : List ℕ) → AllByRecursion Fit ds → inside (sizes ds) xs ≡ true → Digits (counts ds) (chunk_of ds xs)
chunks_below [] xs fit h = tt
chunks_below (d ∷ ds) [] fit h = never h
chunks_below (d ∷ ds) (x ∷ xs) fit h =
    let b = and_parts (ltb x d.size) (inside (sizes ds) xs) h in
    (chunk_below x d fit.0 (ltb-true x d.size b.0), chunks_below ds xs fit.1 b.1)

locals_below : (ds : List Dim) (xs : List ℕ) → AllByRecursion Fit ds → inside (sizes ds) xs ≡ true → Digits (edges ds) (local_of ds xs)
locals_below [] xs fit h = tt
locals_below (d ∷ ds) [] fit h = never h
locals_below (d ∷ ds) (x ∷ xs) fit h =
    let b = and_parts (ltb x d.size) (inside (sizes ds) xs) h in
    (mod-lt x fit.0.2, locals_below ds xs fit.1 b.1)

-- a row in range lies in a chunk of the array, at an offset of the chunk
module _ (ds : List Dim) (fit : AllByRecursion Fit ds) (r : Row) (good : in_range ds r ≡ true) where
  pub storage_below : storage ds r.at < total_chunks ds
  storage_below = number_below (counts ds) (chunk_of ds r.at) (chunks_below ds r.at fit (and_parts (inside (sizes ds) r.at) (is_reading r.reading) good).0)

  pub offset_below : offset ds r.at < volume ds
  offset_below = number_below (edges ds) (local_of ds r.at) (locals_below ds r.at fit (and_parts (inside (sizes ds) r.at) (is_reading r.reading) good).0)

  pub on_own_cell : (k o : ℕ) → storage ds r.at ≡ k → offset ds r.at ≡ o → on_cell ds k o r ≡ true
  on_own_cell k o a b = and_from (in_range ds r) (eqb (storage ds r.at) k && eqb (offset ds r.at) o) good (and_from (eqb (storage ds r.at) k) (eqb (offset ds r.at) o) (eq-eqb (storage ds r.at) k a) (eq-eqb (offset ds r.at) o b))

pub cell_of_row : (ds : List Dim) (k o : ℕ) (r : Row) → on_cell ds k o r ≡ true → (storage ds r.at ≡ k) × (offset ds r.at ≡ o)
cell_of_row ds k o r h =
    let a = and_parts (in_range ds r) (eqb (storage ds r.at) k && eqb (offset ds r.at) o) h in
    let b = and_parts (eqb (storage ds r.at) k) (eqb (offset ds r.at) o) a.1 in
    (eqb-true (storage ds r.at) k b.0, eqb-true (offset ds r.at) o b.1)

module _ (ds : List Dim) (fit : AllByRecursion Fit ds) (rows : List Row) (ks : List Key) (K : Keyed ds rows ks) where
  -- where the keys of each key's own fields are
  pub key_chunk : (p : ℕ) (d : Key) → p < length ks → (get_or ks p d).chunk ≡ storage ds (row_at rows (get_or ks p d).row).at
  key_chunk p d l = (K.each p d l).1

  pub key_offset : (p : ℕ) (d : Key) → p < length ks → (get_or ks p d).offset ≡ offset ds (row_at rows (get_or ks p d).row).at
  key_offset p d l = (K.each p d l).2

  pub key_below : (p : ℕ) (d : Key) → p < length ks → ((get_or ks p d).chunk < total_chunks ds) × ((get_or ks p d).offset < volume ds)
  key_below p d l =
      let r = row_at rows (get_or ks p d).row in
      let good = K.ranged (get_or ks p d).row (K.each p d l).0 in
      let a = storage_below ds fit r good in
      let b = offset_below ds fit r good in
      let e = key_chunk p d l in
      let f = key_offset p d l in
      (omega arith, omega arith)

  -- keys of one cell are the same key
  one_place : (p q : ℕ) → p < length ks → q < length ks → (get_or ks p none_key).chunk ≡ (get_or ks q none_key).chunk → (get_or ks p none_key).offset ≡ (get_or ks q none_key).offset → p ≡ q
  one_place p q l m e f = elim (cases_lt p q) [
    | inl h ↦ absurd (apart p q e f (K.rises p q none_key h m))
    | inr h ↦ elim (cases_lt q p) [ inl g ↦ absurd (apart q p (sym e) (sym f) (K.rises q p none_key g l)) | inr g ↦ omega arith ]
  ]
    where
      apart : (a b : ℕ) → (get_or ks a none_key).chunk ≡ (get_or ks b none_key).chunk → (get_or ks a none_key).offset ≡ (get_or ks b none_key).offset → Below (get_or ks a none_key) (get_or ks b none_key) → ⊥
      apart a b e f h = let g = h.1 e in omega arith

  -- the keys of chunk j stand from k to e
  module _ (j k e : ℕ) (A : Cut ks j k) (B : Cut ks (j + 1) e) where
    abbrev pub segment : List Key
    segment = between k e ks

    pub length_segment : length segment ≡ e - k
    length_segment = length-between ks k e B.within

    at_segment : (p : ℕ) (d : Key) → p < length segment → get_or segment p d ≡ get_or ks (k + p) d
    at_segment p d l = let n = length_segment in get_or-between ks k e p d (omega arith)

    in_segment : (p : ℕ) (d : Key) → k ≤ p → p < e → (get_or ks p d).chunk ≡ j
    in_segment p d l m = let w = B.within in let a = A.after p d l (omega arith) in let b = B.before p d m in omega arith

    pub segment_rises : (p q : ℕ) (d : Key) → p < q → q < length segment → (get_or segment p d).offset < (get_or segment q d).offset
    segment_rises p q d l m =
        let n = length_segment in
        let w = B.within in
        let a = in_segment (k + p) d (omega arith) (omega arith) in
        let b = in_segment (k + q) d (omega arith) (omega arith) in
        let lower : (get_or ks (k + p) d).offset < (get_or ks (k + q) d).offset = (K.rises (k + p) (k + q) d (omega arith) (omega arith)).1 (a ∙ sym b) in
        let x = ap (λ (y : Key). y.offset) (at_segment p d (omega arith)) in
        let z = ap (λ (y : Key). y.offset) (at_segment q d m) in
        omega arith

    pub segment_climbs : Climb 0 (volume ds) (map (pair_of rows) segment)
    segment_climbs = climb_from rows segment 0 (volume ds)
        (λ p d l. let n = length_segment in let w = B.within in let x = ap (λ (y : Key). y.offset) (at_segment p d l) in let b = (key_below (k + p) d (omega arith)).1 in (omega arith, omega arith))
        segment_rises

    none_pair : Pair
    none_pair = pair_of rows none_key

    pair_at_place : (p : ℕ) → p < length segment → get_or (map (pair_of rows) segment) p none_pair ≡ pair_of rows (get_or ks (k + p) none_key)
    pair_at_place p l = get_or-map (pair_of rows) segment p none_key none_pair l ∙ ap (pair_of rows) (at_segment p none_key l)

    -- the key of a row on a cell of the chunk stands in the segment
    row_place : (i x q : ℕ) → on_cell ds j x (row_at rows i) ≡ true → q < length ks → (get_or ks q none_key).row ≡ i → (p : ℕ) × (p < length segment) × (k + p ≡ q) × ((get_or ks (k + p) none_key).offset ≡ x)
    row_place i x q h m r =
        let cell = cell_of_row ds j x (row_at rows i) h in
        let at_row = λ (f : List ℕ → ℕ). ap (λ z. f (row_at rows z).at) r in
        let chunk : (get_or ks q none_key).chunk ≡ j = key_chunk q none_key m ∙ at_row (storage ds) ∙ cell.0 in
        let place : (get_or ks q none_key).offset ≡ x = key_offset q none_key m ∙ at_row (offset ds) ∙ cell.1 in
        let low : k ≤ q = elim (cases_lt q k) [ inl g ↦ let b = A.before q none_key g in absurd (omega arith) | inr g ↦ g ] in
        let high : q < e = elim (cases_lt q e) [ inl g ↦ g | inr g ↦ let b = B.after q none_key g m in absurd (omega arith) ] in
        let n = length_segment in
        let back : k + (q - k) ≡ q = omega arith in
        (q - k, omega arith, back, ap (λ z. (get_or ks z none_key).offset) back ∙ place)

    -- a key of the segment is for a row on its cell
    key_row : (p x : ℕ) → p < length segment → (get_or ks (k + p) none_key).offset ≡ x → on_cell ds j x (row_at rows (get_or ks (k + p) none_key).row) ≡ true
    key_row p x l o =
        let n = length_segment in
        let w = B.within in
        let q = get_or ks (k + p) none_key in
        let there : k + p < length ks = omega arith in
        let chunk = in_segment (k + p) none_key (omega arith) (omega arith) in
        on_own_cell ds fit (row_at rows q.row) (K.ranged q.row (K.each (k + p) none_key there).0) j x (sym (key_chunk (k + p) none_key there) ∙ chunk) (sym (key_offset (k + p) none_key there) ∙ o)

    -- a key of the segment on a row's cell is that row's
    same_row : (p i x : ℕ) → p < length segment → (get_or ks (k + p) none_key).offset ≡ x → on_cell ds j x (row_at rows i) ≡ true → (q : ℕ) × (q < length ks) × ((get_or ks q none_key).row ≡ i) → (get_or ks (k + p) none_key).row ≡ i
    same_row p i x l o h q =
        let n = length_segment in
        let w = B.within in
        let g = row_place i x q.0 h q.1 q.2 in
        let m = g.1 in
        let chunk = in_segment (k + p) none_key (omega arith) (omega arith) ∙ sym (in_segment (k + g.0) none_key (omega arith) (omega arith)) in
        let same : k + p ≡ k + g.0 = one_place (k + p) (k + g.0) (omega arith) (omega arith) chunk (o ∙ sym g.3) in
        ap (λ z. (get_or ks z none_key).row) (same ∙ g.2) ∙ q.2

    pub in_cell_held : (x : ℕ) → in_cell ds rows j x ≡ held (map (pair_of rows) segment) x
    in_cell_held x = elim (held_cases (map (pair_of rows) segment) x) [
      | inl h ↦ filled_by h.0 (let l = h.1 in let m = length-map segment (pair_of rows) in omega arith) (h.2 none_pair).0 (h.2 none_pair).1 (first_cases (on_cell ds j x) rows)
      | inr h ↦ filled_not h.0 h.1 (first_cases (on_cell ds j x) rows)
    ]
      where
        ps : List Pair
        ps = map (pair_of rows) segment

        filled_by : (p : ℕ) → p < length segment → (get_or (map (pair_of rows) segment) p none_pair).offset ≡ x → held (map (pair_of rows) segment) x ≡ Some (get_or (map (pair_of rows) segment) p none_pair).reading
            → ((i : ℕ) × (i < length rows) × (on_cell ds j x (row_at rows i) ≡ true) × (in_cell ds rows j x ≡ Some (row_at rows i).reading)) ⊎ ((in_cell ds rows j x ≡ None) × ((i : ℕ) → i < length rows → on_cell ds j x (row_at rows i) ≡ false))
            → in_cell ds rows j x ≡ held (map (pair_of rows) segment) x
        filled_by p l o is (inl f) =
            let n = length_segment in
            let w = B.within in
            let at_p = pair_at_place p l in
            let o' : (get_or ks (k + p) none_key).offset ≡ x = sym (ap (λ (y : Pair). y.offset) at_p) ∙ o in
            let row : (get_or ks (k + p) none_key).row ≡ f.0 = elim (cases_eq (get_or ks (k + p) none_key).row f.0) [
              | inl same ↦ same
              | inr other ↦ absurd (not_there (K.every f.0 f.1) (λ q. other (same_row p f.0 x l o' f.2 q)))
            ] in
            f.3 ∙ sym (is ∙ ap (λ (y : Pair). Some y.reading) at_p ∙ ap (λ z. Some (row_at rows z).reading) row)
        filled_by p l o is (inr f) =
            let n = length_segment in
            let w = B.within in
            let at_p = pair_at_place p l in
            let o' : (get_or ks (k + p) none_key).offset ≡ x = sym (ap (λ (y : Pair). y.offset) at_p) ∙ o in
            never (sym (f.1 (get_or ks (k + p) none_key).row (K.each (k + p) none_key (omega arith)).0) ∙ key_row p x l o')

        filled_not : held (map (pair_of rows) segment) x ≡ None → ((p : ℕ) (d : Pair) → p < length (map (pair_of rows) segment) → (get_or (map (pair_of rows) segment) p d).offset ≡ x → ⊥)
            → ((i : ℕ) × (i < length rows) × (on_cell ds j x (row_at rows i) ≡ true) × (in_cell ds rows j x ≡ Some (row_at rows i).reading)) ⊎ ((in_cell ds rows j x ≡ None) × ((i : ℕ) → i < length rows → on_cell ds j x (row_at rows i) ≡ false))
            → in_cell ds rows j x ≡ held (map (pair_of rows) segment) x
        filled_not is none (inl f) =
            let m = length-map segment (pair_of rows) in
            absurd (not_there (K.every f.0 f.1) (λ q.
            let g = row_place f.0 x q.0 f.2 q.1 q.2 in
            let l = g.1 in
            none g.0 none_pair (omega arith) (ap (λ (y : Pair). y.offset) (pair_at_place g.0 l) ∙ g.3)))
        filled_not is none (inr f) = f.0 ∙ sym is

    pub chunk_cells : in_chunk ds rows j ≡ map (held (map (pair_of rows) segment)) (range_with_len 0 (volume ds))
    chunk_cells = map_counting_same (in_cell ds rows j) (held (map (pair_of rows) segment)) 0 (volume ds) (λ x l m. in_cell_held x)

    pub chunk_pairs : pairs_of 0 (in_chunk ds rows j) ≡ map (pair_of rows) segment
    chunk_pairs =
        let high : volume ds ≡ 0 + volume ds = omega arith in
        ap (pairs_of 0) chunk_cells ∙ pairs_held (volume ds) 0 (map (pair_of rows) segment) (subst (λ h. Climb 0 h (map (pair_of rows) segment)) high segment_climbs)

    pub chunk_filled : filled (in_chunk ds rows j) ≡ e - k
    chunk_filled = sym (length_pairs_of 0 (in_chunk ds rows j)) ∙ ap length chunk_pairs ∙ length-map segment (pair_of rows) ∙ length_segment
