-- The lemmas of files, at a table and at what is left of its keys. Assumes nothing.
use Rattle.std.proofs.Common.{◌≡◌, ℕ, ◌+◌, ◌-◌, ◌*◌, ◌<◌, ◌≤◌, eqb, ◌⊎◌, List, [], ◌∷◌, map, length, get_or, take, drop, Some, None, slice_get, sym, refl, ap, ◌∙◌, subst, inl, inr, arith}
use Rattle.std.specs.List.{range_with_len, flat_map, between, prefix_len}
use Rattle.std.proofs.lemmas.List.{length-drop, get_or-drop, get_or_default, drop-drop}
use Rattle.std.proofs.lemmas.List.Edits.{length-between, get_or-between}
use Rattle.std.proofs.lemmas.List.FromFn.{length-map-range_with_len}
use Rattle.std.proofs.lemmas.List.Sums.{prefix_len-le-length, prefix_len_passes, prefix_len_stops}
use Rattle.std.proofs.lemmas.Bool.{eqb-true, eqb-false, cases_lt}
use Rattle.shapes.specs.declared.dims.Dim.{Dim}
use Rattle.shapes.specs.Arrays.{volume, total_chunks}
use Rattle.shapes.specs.Views.{dims_of}
use Rattle.sources.specs.declared.rows.Row.{Row}
use Rattle.chunk_files.specs.Layouts.{entry_bytes}
use Rattle.chunk_files.specs.Bodies.{held, filled}
use Rattle.chunk_writers.specs.declared.keys.Key.{Key}
use Rattle.chunk_writers.specs.declared.table.Table.{Table}
use Rattle.chunk_writers.specs.Keys.{none_key, pair_of, Cut, Onward}
use Rattle.chunk_writers.specs.Segments.{Kept, Climbs}
use Rattle.chunk_writers.specs.Tables.{cells_in}
use Rattle.chunk_writers.specs.Written.{body_bytes, made_entry, entries_of, in_chunk}
use Rattle.chunk_writers.proofs.Chunked.{chunk_cells, key_below, segment_rises}
use Rattle.chunk_writers.proofs.Filed.{left_from, first_cut, cut_ends, length_joined, length_entries_of, fit, keyed, rising, css_more, few_keys, skipped, nothing_left, next_cut}

-- the first key, where there is one
pub first_key : (ks : List Key) (k : Key) → Some k ≡ slice_get ks 0 → (0 < length ks) × (get_or ks 0 k ≡ k)
first_key [] k e = cc
first_key (q ∷ ks) k e = (omega arith, cc)

pub no_key : (ks : List Key) → None ≡ slice_get ks 0 → length ks ≡ 0
no_key [] e = refl
no_key (q ∷ ks) e = cc

module _ (t : Table) where
  abbrev ds : List Dim
  ds = dims_of t.shape

  abbrev rows : List Row
  rows = t.rows.now

  abbrev ks : List Key
  ks = t.keys.now

  pub table_begins : Onward t.keys.now 0 t.keys.now
  table_begins = record { place = 0; cut = first_cut ks; is = refl }

  pub table_entries : (j at : ℕ) → j < total_chunks (dims_of t.shape) → entries_of (volume (dims_of t.shape)) at (drop j (cells_in t)) ≡ made_entry (volume (dims_of t.shape)) at (filled (in_chunk (dims_of t.shape) t.rows.now j)) ∷ entries_of (volume (dims_of t.shape)) (at + length (body_bytes (volume (dims_of t.shape)) (in_chunk (dims_of t.shape) t.rows.now j))) (drop (j + 1) (cells_in t))
  table_entries j at l = ap (entries_of (volume ds) at) (css_more t j l)

  pub table_listed : (j at : ℕ) → length (flat_map entry_bytes (entries_of (volume (dims_of t.shape)) at (drop j (cells_in t)))) ≡ 8 * (total_chunks (dims_of t.shape) - j)
  table_listed j at =
      let a = length_joined entry_bytes 8 (λ x. refl) (entries_of (volume ds) at (drop j (cells_in t))) in
      let b = length_entries_of (volume ds) at (drop j (cells_in t)) in
      let c = length-drop j (cells_in t) in
      let d = length-map-range_with_len (in_chunk ds rows) 0 (total_chunks ds) in
      omega arith

  -- where no key is left, no body is
  pub table_done : (c : ℕ) (rest : List Key) → c ≤ total_chunks (dims_of t.shape) → Onward t.keys.now c rest → length rest ≡ 0 → length (left_from (dims_of t.shape) t.rows.now c) ≡ 0
  table_done c rest l O none =
      let n = ap length O.is ∙ length-drop O.place ks in
      let w = O.cut.within in
      nothing_left t c l (subst (Cut ks c) (let z : O.place ≡ length ks = omega arith in z) O.cut)

  -- the next chunk that has a key, and that no chunk before it has a body
  pub table_next : (c : ℕ) (rest : List Key) (first : Key) → Onward t.keys.now c rest → 0 < length rest → get_or rest 0 first ≡ first → Onward t.keys.now first.chunk rest × (first.chunk < total_chunks (dims_of t.shape)) × (length (left_from (dims_of t.shape) t.rows.now c) ≡ length (left_from (dims_of t.shape) t.rows.now first.chunk))
  table_next c rest first O some is =
      let n = ap length O.is ∙ length-drop O.place ks in
      let here : O.place < length ks = omega arith in
      let key : get_or ks O.place none_key ≡ first = get_or_default ks O.place none_key first here ∙ (ap (λ z. get_or ks z first) (let z : O.place ≡ O.place + 0 = omega arith in z) ∙ sym (get_or-drop O.place ks 0 first) ∙ ap (λ (xs : List Key). get_or xs 0 first) (sym O.is)) ∙ is in
      let chunk = ap (λ (k : Key). k.chunk) key in
      let next = next_cut t c O.place here O.cut in
      let cut = subst (λ j. Cut ks j O.place) chunk next.0 in
      let up = next.1 in
      let below = next.2 in
      (record { place = O.place; cut = cut; is = O.is }, omega arith, skipped t c first.chunk O.place (omega arith) (omega arith) O.cut cut)

  -- the keys of a chunk, of those from it on
  module _ (j : ℕ) (l : j < total_chunks (dims_of t.shape)) (rest : List Key) (O : Onward t.keys.now j rest) where
    abbrev n : ℕ
    n = prefix_len (λ (k : Key). eqb k.chunk j) rest

    length_rest : O.place + length rest ≡ length ks
    length_rest = let a = ap length O.is ∙ length-drop O.place ks in let w = O.cut.within in omega arith

    at_rest : (p : ℕ) (d : Key) → get_or rest p d ≡ get_or ks (O.place + p) d
    at_rest p d = ap (λ (xs : List Key). get_or xs p d) O.is ∙ get_or-drop O.place ks p d

    ends : Cut ks (j + 1) (O.place + n)
    ends = cut_ends ks j O.place (O.place + n) (rising t) O.cut (omega arith) (let b = prefix_len-le-length (λ (k : Key). eqb k.chunk j) rest in let r = length_rest in omega arith) inside outside
      where
        inside : (p : ℕ) (d : Key) → O.place ≤ p → p < O.place + n → (get_or ks p d).chunk ≤ j
        inside p d a b =
            let e : O.place + (p - O.place) ≡ p = omega arith in
            let h = eqb-true (get_or rest (p - O.place) d).chunk j (prefix_len_passes (λ (k : Key). eqb k.chunk j) rest (p - O.place) d (omega arith)) in
            let s = ap (λ (k : Key). k.chunk) (at_rest (p - O.place) d) in
            let f = ap (λ z. (get_or ks z d).chunk) e in
            omega arith

        outside : (length ks ≤ O.place + n) ⊎ (j < (get_or ks (O.place + n) none_key).chunk)
        outside = elim (cases_lt (O.place + n) (length ks)) [
          | inr g ↦ inl g
          | inl g ↦
              let r = length_rest in
              let h = eqb-false (get_or rest n none_key).chunk j (prefix_len_stops (λ (k : Key). eqb k.chunk j) rest none_key (omega arith)) in
              let s = ap (λ (k : Key). k.chunk) (at_rest n none_key) in
              let up = O.cut.after (O.place + n) none_key (omega arith) g in
              inr (omega arith)
        ]

    here_is : between O.place (O.place + n) ks ≡ take n rest
    here_is = ap (λ m. take m (drop O.place ks)) (let z : O.place + n - O.place ≡ n = omega arith in z) ∙ ap (take n) (sym O.is)

    pub split_rest : Onward t.keys.now (j + 1) (drop n rest)
    split_rest = record { place = O.place + n; cut = ends; is = ap (drop n) O.is ∙ drop-drop n O.place ks }

    pub split_cells : map (held (map (pair_of t.rows.now) (take n rest))) (range_with_len 0 (volume (dims_of t.shape))) ≡ in_chunk (dims_of t.shape) t.rows.now j
    split_cells = sym (chunk_cells ds (fit t) rows ks (keyed t) j O.place (O.place + n) O.cut ends ∙ ap (λ (xs : List Key). map (held (map (pair_of rows) xs)) (range_with_len 0 (volume ds))) here_is)

    pub split_few : length (take n rest) ≤ volume (dims_of t.shape)
    split_few =
        let a = few_keys t j O.place (O.place + n) l O.cut ends in
        let b = ap length (sym here_is) ∙ length-between ks O.place (O.place + n) ends.within in
        omega arith

    pub split_climbs : Climbs (take n rest)
    split_climbs = subst Climbs here_is (segment_rises ds (fit t) rows ks (keyed t) j O.place (O.place + n) O.cut ends)

    pub split_kept : Kept t.rows.now (volume (dims_of t.shape)) (take n rest)
    split_kept = subst (Kept rows (volume ds)) here_is (λ p d m.
        let w = ends.within in
        let b = length-between ks O.place (O.place + n) ends.within in
        let is : get_or (between O.place (O.place + n) ks) p d ≡ get_or ks (O.place + p) d = get_or-between ks O.place (O.place + n) p d (omega arith) in
        let there : O.place + p < length ks = omega arith in
        let r = ap (λ (y : Key). y.row) is in
        let o = ap (λ (y : Key). y.offset) is in
        let a = (t.each (O.place + p) d there).0 in
        let c = (key_below ds (fit t) rows ks (keyed t) (O.place + p) d there).1 in
        (omega arith, omega arith))
