-- Corrections joined to the cells of a chunk. Assumes nothing.
use Rattle.std.proofs.Common.{◌≡◌, ℕ, Bool, true, false, cond, ◌&&◌, eqb, ltb, leb, List, [], ◌∷◌, ◌++◌, length, take, drop, Option, Ok, Err, sym, refl, ap, ◌∙◌, ap₂}
use Rattle.std.specs.Iterator.{Drains}
use Rattle.std.proofs.lemmas.Iterator.{YieldsList, items_from_drains}
use Rattle.std.proofs.lemmas.List.{take_at, drop_at, map-id}
use Rattle.std.proofs.lemmas.Bool.{and_left, eq-eqb, ne_eqb, leb-false}
use Rattle.shapes.specs.declared.readings.Reading.{Reading}
use Rattle.shapes.specs.Arrays.{volume, total_chunks}
use Rattle.measures.specs.Laws.{Lawful}
use Rattle.sources.specs.declared.refusals.SourceRefusal.TheVariants.{Beyond, Short}
use Rattle.sources.specs.declared.table.Correction.{Correction}
use Rattle.sources.specs.Corrected.{corrects, correction_value, corrected}
use Rattle.sources.specs.Joins.{joined_with, joined_at}
use Rattle.sources.specs.Meanings.{Chunk, values, faulty, Meaning, sized_chunk, Sized, read_answer, fetch_answer, cells_of, cells_after}
use Rattle.sources.proofs.Joining.{joined_miss, joined_hit, joined_append, length_joined}

-- what an iterator gave, where it shows what it gives
pub drained : {S A : Type 0} {steps : S → Option A → S → Type 0} {s : S} {all : List A} (xs : List A) → Drains steps s xs → YieldsList steps (λ x. x) s all → xs ≡ all
drained xs ran shown = sym (map-id xs) ∙ items_from_drains xs (ran.1.0, ran.1.1, λ w. (ran.0, ran.1.2)) shown

module _ {M : Type 0} {empty : M} {op : M → M → M} (lawful : Lawful empty op) (lifted : Reading → M) where
  module _ (c : Correction) (k : ℕ) (vs : List M) where
    pub correction_elsewhere : (c.number ≡ k → ⊥) → vs ≡ joined_with empty op (correction_value empty op lifted (c ∷ []) k) vs
    correction_elsewhere ne = joined_miss lawful lifted (corrects k) (λ (x : Correction). x.reading) c vs (λ o. and_left (eqb c.number k) (eqb c.offset o) (ne_eqb c.number k ne))

    pub correction_here : c.number ≡ k → joined_at empty op lifted vs c.offset c.reading ≡ joined_with empty op (correction_value empty op lifted (c ∷ []) k) vs
    correction_here e = joined_hit lawful lifted (corrects k) (λ (x : Correction). x.reading) c c.offset vs (λ o. ap (λ b. b && eqb c.offset o) (eq-eqb c.number k e))

  -- one correction more of a list
  pub correction_more : (cs : List Correction) (c : Correction) (k : ℕ) (vs ws us : List M) → ws ≡ joined_with empty op (correction_value empty op lifted cs k) vs
      → us ≡ joined_with empty op (correction_value empty op lifted (c ∷ []) k) ws → us ≡ joined_with empty op (correction_value empty op lifted (cs ++ c ∷ []) k) vs
  correction_more cs c k vs ws us before after =
      after ∙ ap (joined_with empty op (correction_value empty op lifted (c ∷ []) k)) before
      ∙ joined_append lawful lifted (corrects k) (λ (x : Correction). x.reading) cs (c ∷ []) vs

  module _ (cs : List Correction) where
    -- what a source means with corrections over it
    abbrev pub over : Meaning M → Meaning M
    over m = record { dims = m.dims; chunk = λ k. corrected empty op lifted cs k (m.chunk k) }

    chunk_sized : (k v : ℕ) (c : Chunk M) → sized_chunk v c → sized_chunk v (corrected empty op lifted cs k c)
    chunk_sized k v (values vs) h = length_joined lawful (correction_value empty op lifted cs k) vs ∙ h
    chunk_sized k v (faulty cause entry) h = tt

    pub over_sized : (m : Meaning M) → Sized m → Sized (over m)
    over_sized m h k below = chunk_sized k (volume m.dims) (m.chunk k) (h k below)

    -- one that goes well, corrected
    filled_by : (b d : Bool) (v k : ℕ) (xs : List M) (c : Chunk M) → (b ≡ false → sized_chunk v c) → cond b (Err Beyond) (cond d (Err (Short v)) (read_answer k c)) ≡ Ok tt
        → joined_with empty op (correction_value empty op lifted cs k) (take v (cond b xs (cond d xs (cells_of empty v c ++ drop v xs)))) ++ drop v (cond b xs (cond d xs (cells_of empty v c ++ drop v xs)))
        ≡ cond b xs (cond d xs (cells_of empty v (corrected empty op lifted cs k c) ++ drop v xs))
    filled_by true d v k xs c z h = cc
    filled_by false true v k xs c z h = cc
    filled_by false false v k xs (values vs) z h =
        ap₂ (λ a b. joined_with empty op (correction_value empty op lifted cs k) a ++ b) (take_at vs (drop v xs) v (z refl)) (drop_at vs (drop v xs) v (z refl))
    filled_by false false v k xs (faulty cause entry) z h = cc

  pub cells_corrected : (m : Meaning M) (cs made : List Correction) (k v : ℕ) (xs ys zs : List M) → Sized m → fetch_answer m k (length xs) ≡ Ok tt → ys ≡ cells_after empty m k xs → v ≡ volume m.dims
      → made ≡ cs → zs ≡ joined_with empty op (correction_value empty op lifted made k) (take v ys) → zs ++ drop v ys ≡ cells_after empty (over cs m) k xs
  cells_corrected m cs made k v xs ys zs sized ok fetched whole same joined =
      rw (joined, same, whole, fetched)
      (filled_by cs (leb (total_chunks m.dims) k) (ltb (length xs) (volume m.dims)) (volume m.dims) k xs (m.chunk k) (λ e. sized k (leb-false (total_chunks m.dims) k e)) ok)
