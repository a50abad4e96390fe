-- Rows as corrections of the cells of a chunk. Assumes nothing.
use Rattle.std.proofs.Common.{◌≡◌, ℕ, ◌+◌, ◌≤◌, Bool, true, false, cond, not, ◌&&◌, eqb, List, [], ◌∷◌, ◌++◌, map, length, get_or, take, drop, filter, replicate, Some, None, Option, refl, ap, ◌∙◌, ap₂, ⊎_elim, arith}
use Rattle.std.specs.List.{range_with_len, filter_map, cons_option, position, position_from}
use Rattle.std.proofs.lemmas.List.{length-take-le, length-replicate, get_or-replicate, get_or_past}
use Rattle.std.proofs.lemmas.Iterator.Adapters.{position_from-zero}
use Rattle.std.proofs.lemmas.Bool.{cases_lt}
use Rattle.shapes.specs.declared.dims.Dim.{Dim}
use Rattle.shapes.specs.declared.readings.Reading.{Reading}
use Rattle.shapes.specs.Arrays.{storage, offset}
use Rattle.measures.specs.Laws.{Lawful, total}
use Rattle.sources.specs.declared.rows.Row.{Row}
use Rattle.sources.specs.declared.table.Correction.{Correction}
use Rattle.sources.specs.Corrected.{corrects, correction_value}
use Rattle.sources.specs.Joins.{joined_with}
use Rattle.sources.specs.Readings.{lifts}
use Rattle.sources.specs.Rows.{in_range, on_cell, row_correction, cell_readings, row_value, first_outside}
use Rattle.sources.proofs.Joining.{joined_fresh}

-- the first row out of range, by its position
from_position : (ds : List Dim) (i : ℕ) (rows : List Row) → position_from (λ r. not (in_range ds r)) i rows ≡ first_outside ds i rows
from_position ds i [] = refl
from_position ds i (r ∷ rows) = either (in_range ds r) (from_position ds (i + 1) rows) where
  either : (b : Bool) {o u : Option ℕ} → o ≡ u → cond (not b) (Some i) o ≡ cond b u (Some i)
  either true same = same
  either false same = refl

pub first_outside_at : (ds : List Dim) (rows : List Row) → position (λ r. not (in_range ds r)) rows ≡ first_outside ds 0 rows
first_outside_at ds rows = position_from-zero (λ r. not (in_range ds r)) rows ∙ from_position ds 0 rows

-- the readings of the rows on a cell are those of their corrections
correction_readings : (ds : List Dim) (rows : List Row) (k o : ℕ) → map (λ (c : Correction). c.reading) (filter (corrects k o) (filter_map (row_correction ds) rows)) ≡ cell_readings ds rows k o
correction_readings ds [] k o = refl
correction_readings ds (r ∷ rows) k o = either (in_range ds r) (correction_readings ds rows k o) where
  here : Correction
  here = record { number = storage ds r.at; offset = offset ds r.at; reading = r.reading }

  lies : Bool
  lies = eqb (storage ds r.at) k && eqb (offset ds r.at) o

  pick : (d : Bool) (cs : List Correction) (qs : List Row) → map (λ (c : Correction). c.reading) cs ≡ map (λ (q : Row). q.reading) qs
      → map (λ (c : Correction). c.reading) (cond d (here ∷ cs) cs) ≡ map (λ (q : Row). q.reading) (cond d (r ∷ qs) qs)
  pick true cs qs same = ap (λ ns. r.reading ∷ ns) same
  pick false cs qs same = same

  either : (b : Bool) → map (λ (c : Correction). c.reading) (filter (corrects k o) (filter_map (row_correction ds) rows)) ≡ map (λ (q : Row). q.reading) (filter (on_cell ds k o) rows)
      → map (λ (c : Correction). c.reading) (filter (corrects k o) (cons_option (cond b (Some here) None) (filter_map (row_correction ds) rows)))
      ≡ map (λ (q : Row). q.reading) (cond (b && lies) (r ∷ filter (on_cell ds k o) rows) (filter (on_cell ds k o) rows))
  either true same = pick lies _ _ same
  either false same = same

module _ {M : Type 0} {empty : M} {op : M → M → M} (lawful : Lawful empty op) (lifted : Reading → M) where
  -- the corrections that the rows make give each cell the value of its rows
  rows_corrected : (ds : List Dim) (rows : List Row) (k : ℕ) → correction_value empty op lifted (filter_map (row_correction ds) rows) k ≡ row_value empty op lifted ds rows k
  rows_corrected ds rows k = λ i o. total empty op (lifts lifted (correction_readings ds rows k o i))

  -- cells that were emptied and then joined with what the rows make
  pub fresh_cells : (ds : List Dim) (rows : List Row) (cs : List Correction) (k v : ℕ) (xs ys zs : List M) → cs ≡ filter_map (row_correction ds) rows → v ≤ length xs
      → ys ≡ replicate (length (take v xs)) empty → zs ≡ joined_with empty op (correction_value empty op lifted cs k) ys
      → zs ++ drop v xs ≡ map (row_value empty op lifted ds rows k) (range_with_len 0 v) ++ drop v xs
  fresh_cells ds rows cs k v xs ys zs made room emptied joined =
      let values : correction_value empty op lifted cs k ≡ row_value empty op lifted ds rows k = ap (λ es. correction_value empty op lifted es k) made ∙ rows_corrected ds rows k in
      let fresh : ys ≡ replicate v empty = emptied ∙ ap (λ n. replicate n empty) (length-take-le v xs room) in
      ap (λ us. us ++ drop v xs)
      (joined ∙ ap₂ (joined_with empty op) values fresh ∙ joined_fresh lawful (row_value empty op lifted ds rows k) (replicate v empty) (all_empty v)
      ∙ ap (λ n. map (row_value empty op lifted ds rows k) (range_with_len 0 n)) (length-replicate v empty)) where
        all_empty : (n k : ℕ) → get_or (replicate n empty) k empty ≡ empty
        all_empty n k = ⊎_elim (λ l. get_or-replicate n k empty empty l) (λ l. get_or_past (replicate n empty) k empty (omega (arith, length-replicate n empty))) (cases_lt k n)
