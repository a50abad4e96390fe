-- A written file means what its rows mean. Assumes nothing.
use Rattle.std.proofs.Common.{◌≡◌, ℕ, ◌+◌, ◌<◌, ◌≤◌, Bool, true, false, cond, List, [], ◌∷◌, ◌++◌, map, length, is_some, Some, None, filter, Option, sym, refl, ap, ◌∙◌, subst, arith}
use Rattle.std.specs.List.{range_with_len}
use Rattle.std.proofs.lemmas.List.Elements.{filter-append}
use Rattle.std.proofs.lemmas.List.{append_assoc, append-nil, length-append}
use Rattle.shapes.specs.declared.dims.Dim.{Dim}
use Rattle.shapes.specs.declared.readings.Reading.{Reading}
use Rattle.shapes.specs.Arrays.{storage, offset, volume, total_chunks}
use Rattle.shapes.specs.Limits.{Limits}
use Rattle.measures.specs.Laws.{Lawful, total}
use Rattle.sources.specs.declared.rows.Row.{Row}
use Rattle.sources.specs.Meanings.{values, Alike}
use Rattle.sources.specs.Readings.{reading_of, lifts, lift_before}
use Rattle.sources.specs.Rows.{on_cell, row_value, row_chunks}
use Rattle.chunk_files.specs.Contents.{lift_or, cell_value, chunk_value, file_chunk}
use Rattle.chunk_writers.specs.Written.{first_of, in_cell}
use Rattle.chunk_writers.specs.Answers.{first_twice}
use Rattle.chunk_writers.specs.Trips.{ReadBack, WrittenOf, file_meaning, rows_meaning}
use Rattle.chunk_writers.proofs.Chunked.{cell_of_row}
use Rattle.chunk_writers.proofs.Pairing.{map_counting_same}
use Rattle.chunk_writers.proofs.Returned.{write_granted, granted_back}
use mathlib.Core.List.{map-map}

none_first : (rs : List Row) → is_some (first_of (map (λ (r : Row). r.reading) rs)) ≡ false → length rs ≡ 0
none_first [] h = refl
none_first (r ∷ rs) h = absurd (cc)

taken_not : {X : Type 0} (b : Bool) (i : X) (o : Option X) → cond b (Some i) o ≡ None → (b ≡ false) × (o ≡ None)
taken_not true i o h = absurd (cc)
taken_not false i o h = (refl, h)

-- where no row is on a taken cell, a cell has one row at most
one_row : (ds : List Dim) (k o i : ℕ) (seen rows : List Row) → first_twice ds i seen rows ≡ None → length (filter (on_cell ds k o) seen) ≤ 1 → length (filter (on_cell ds k o) (seen ++ rows)) ≤ 1
one_row ds k o i seen [] h l = subst (λ rs. length (filter (on_cell ds k o) rs) ≤ 1) (sym (append-nil seen)) l
one_row ds k o i seen (r ∷ rows) h l =
    let t = taken_not (is_some (in_cell ds seen (storage ds r.at) (offset ds r.at))) i (first_twice ds (i + 1) (seen ++ r ∷ []) rows) h in
    subst (λ rs. length (filter (on_cell ds k o) rs) ≤ 1) (append_assoc seen (r ∷ []) rows) (one_row ds k o (i + 1) (seen ++ r ∷ []) rows t.1 (go (on_cell ds k o r) refl t.0))
  where
    go : (b : Bool) → on_cell ds k o r ≡ b → is_some (in_cell ds seen (storage ds r.at) (offset ds r.at)) ≡ false → length (filter (on_cell ds k o) (seen ++ r ∷ [])) ≤ 1
    go true e free =
        let cell = cell_of_row ds k o r e in
        let none : length (filter (on_cell ds k o) seen) ≡ 0 = none_first (filter (on_cell ds k o) seen) ((λ z. is_some (in_cell ds seen (sym cell.0 z) (sym cell.1 z))) ∙ free) in
        let a = ap length (filter-append (on_cell ds k o) seen (r ∷ [])) ∙ length-append (filter (on_cell ds k o) seen) (filter (on_cell ds k o) (r ∷ [])) in
        let b : length (filter (on_cell ds k o) (r ∷ [])) ≡ 1 = ap (λ t. length (cond t (r ∷ []) [])) e in
        omega arith
    go false e free =
        let a = ap length (filter-append (on_cell ds k o) seen (r ∷ [])) ∙ length-append (filter (on_cell ds k o) seen) (filter (on_cell ds k o) (r ∷ [])) in
        let b : length (filter (on_cell ds k o) (r ∷ [])) ≡ 0 = ap (λ t. length (cond t (r ∷ []) [])) e in
        omega arith

module _ {M : Type 0} (empty : M) (op : M → M → M) (lifted : Reading → M) (lawful : Lawful empty op) where
  alone : (o : Option Reading) → lift_or empty lifted o ≡ total empty op (lift_before lifted o [])
  alone None = refl
  alone (Some r) = sym (lawful.comm (lifted r) empty ∙ lawful.neutral (lifted r))

  single : (rs : List Row) → length rs ≤ 1 → cell_value empty lifted (first_of (map (λ (r : Row). r.reading) rs)) ≡ total empty op (lifts lifted (map (λ (r : Row). r.reading) rs))
  single [] l = refl
  single (r ∷ []) l = alone (reading_of r.reading)
  single (r ∷ q ∷ rs) l = absurd (omega arith)

  module _ (ds : List Dim) (limits : Limits ds) (rows : List Row) (bs : List ℕ) (w : WrittenOf ds rows bs) where
    back : ReadBack ds rows bs
    back = subst (ReadBack ds rows) (sym w.bytes) (granted_back ds limits rows w.room (length bs) w.answers)

    cell_same : (k o : ℕ) → cell_value empty lifted (in_cell ds rows k o) ≡ row_value empty op lifted ds rows k o
    cell_same k o = single (filter (on_cell ds k o) rows) (one_row ds k o 0 [] rows (write_granted ds rows w.room (length bs) w.answers).1 (omega arith))

    chunk_same : (k : ℕ) → k < total_chunks ds → file_chunk empty lifted bs k ≡ row_chunks empty op lifted ds rows k
    chunk_same k l =
        ap (chunk_value empty lifted) (back.chunks k l)
        ∙ ap values (map-map (cell_value empty lifted) (in_cell ds rows k) (range_with_len 0 (volume ds)) ∙ map_counting_same (λ o. cell_value empty lifted (in_cell ds rows k o)) (row_value empty op lifted ds rows k) 0 (volume ds) (λ o a b. cell_same k o))

    pub same_meaning : Alike (file_meaning empty op lifted bs) (rows_meaning empty op lifted ds rows)
    same_meaning = record { same_dims = back.dims; same_chunks = λ k l. chunk_same k (subst (λ es. k < total_chunks es) back.dims l) }
