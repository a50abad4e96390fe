-- What a layer of corrections makes of a chunk, and what adding a correction answers and leaves. Assumes nothing.
use Rattle.std.specs.Prelude.{ℕ, Bool, cond, ◌&&◌, List, [], ◌∷◌, ◌++◌, map, length, is_ok, Ok, Err, filter, Result, ◌==◌, nat_lt}
use Rattle.arrayvec.specs.ArrayVec.{ArrayVec}
use Rattle.shapes.specs.declared.dims.Dim.{Dim}
use Rattle.shapes.specs.declared.readings.Reading.{Reading}
use Rattle.shapes.specs.Arrays.{volume, total_chunks}
use Rattle.measures.specs.Laws.{total}
use Rattle.sources.specs.declared.table.Correction.{Correction}
use Rattle.sources.specs.declared.refusals.CorrectionRefusal.{CorrectionRefusal}
use Rattle.sources.specs.declared.refusals.CorrectionRefusal.TheVariants.{OutOfRange, Full}
use Rattle.sources.specs.Meanings.{Chunk, values, faulty}
use Rattle.sources.specs.Readings.{is_reading, lifts}
use Rattle.sources.specs.Joins.{joined_with}

-- the corrections in a table, in the order in which they were added
abbrev pub held_in : ArrayVec Correction → List Correction
held_in t = t.items

-- a correction is for the cell at offset o of chunk k
abbrev pub corrects : ℕ → ℕ → Correction → Bool
corrects k o c = c.number == k && c.offset == o

module _ {M : Type 0} (empty : M) (op : M → M → M) (lifted : Reading → M) where
  -- the total of the lifts of the cell's corrections
  abbrev pub correction_value : List Correction → ℕ → ℕ → M
  correction_value cs k o = total empty op (lifts lifted (map (λ (c : Correction). c.reading) (filter (corrects k o) cs)))

  -- each value below, joined with that total; a fault passes through whole
  abbrev pub corrected : List Correction → ℕ → Chunk M → Chunk M
  corrected cs k (values vs) = values (joined_with empty op (correction_value cs k) vs)
  corrected cs k (faulty cause entry) = faulty cause entry

-- a correction in range: there is such a chunk and such an offset, and the reading is one
abbrev pub has_cell : List Dim → Correction → Bool
has_cell ds c = nat_lt c.number (total_chunks ds) && (nat_lt c.offset (volume ds) && is_reading c.reading)

-- what adding a correction to those held answers: 12, then 13
abbrev pub add_answer : List Dim → List Correction → Correction → Result (Unit {0}) CorrectionRefusal
add_answer ds cs c = cond (has_cell ds c) (cond (nat_lt (length cs) 32) (Ok tt) (Err Full)) (Err OutOfRange)

-- the corrections held then
abbrev pub held_after : List Dim → List Correction → Correction → List Correction
held_after ds cs c = cond (is_ok (add_answer ds cs c)) (cs ++ c ∷ []) cs
