-- What a fetch from a chunk file answers and leaves.
use Rattle.std.proofs.Common.{◌≡◌, ℕ, ◌*◌, ◌<◌, ◌≤◌, Bool, true, false, cond, eqb, List, ◌++◌, map, length, take, drop, Some, None, Ok, Err, Option, Result, sym, ap, ◌∙◌, ap₂}
use Rattle.std.proofs.lemmas.List.FromFn.{length-map-range_with_len}
use Rattle.std.proofs.lemmas.List.{length-map, length-take-le}
use Rattle.shapes.specs.declared.dims.Dim.{Dim}
use Rattle.shapes.specs.declared.readings.Reading.{Reading}
use Rattle.shapes.specs.Arrays.{volume, total_chunks}
use Rattle.sources.specs.declared.refusals.SourceRefusal.{SourceRefusal}
use Rattle.sources.specs.Meanings.{Chunk, Meaning, sized_chunk, Sized, read_answer, fetch_answer, cells_of, cells_after, room_answer}
use Rattle.sources.proofs.Alikes.{room_refused, room_granted, full_answer, full_cells}
use Rattle.chunk_files.specs.declared.entry.Entry.{Entry}
use Rattle.chunk_files.specs.Layouts.{word, file_dims}
use Rattle.chunk_files.specs.Bodies.{Fault, pairs_in, held, sparse_fault, sparse_cells, dense_fault, dense_cells, unless, body, body_of, entry_of, readings}
use Rattle.chunk_files.specs.Contents.{cell_value, chunk_value, file_chunk}

module _ {M : Type 0} (empty : M) (lifted : Reading → M) where
  -- a body that can be read has a value for each cell
  unless_sized : (v : ℕ) (o : Option Fault) (cs : List (Option ℕ)) → length cs ≡ v → sized_chunk v (chunk_value empty lifted (unless o cs))
  unless_sized v (Some f) cs e = tt
  unless_sized v None cs e = length-map cs (cell_value empty lifted) ∙ e

  dense_long : (v : ℕ) (b : List ℕ) → length (dense_cells v b) ≡ v
  dense_long v b = length-map (map (λ k. word b (4 * k)) (Rattle.std.specs.List.range_with_len 0 v)) _ ∙ length-map-range_with_len (λ k. word b (4 * k)) 0 v

  body_sized : (v : ℕ) (e : Entry) (b : List ℕ) → sized_chunk v (chunk_value empty lifted (body v e b))
  body_sized v e b = go (eqb e.kind 0)
    where
      go : (t : Bool) → sized_chunk v (chunk_value empty lifted (cond t (unless (sparse_fault v e.count b) (sparse_cells v e.count b)) (unless (dense_fault v e.count b) (dense_cells v b))))
      go true = unless_sized v (sparse_fault v e.count b) (sparse_cells v e.count b) (length-map-range_with_len (held (pairs_in b e.count)) 0 v)
      go false = unless_sized v (dense_fault v e.count b) (dense_cells v b) (dense_long v b)

  abbrev pub meaning : List ℕ → Meaning M
  meaning bs = record { dims = file_dims bs; chunk = file_chunk empty lifted bs }

  pub file_sized : (bs : List ℕ) → Sized (meaning bs)
  unfolding readings
  file_sized bs k below = body_sized (volume (file_dims bs)) (entry_of bs k) (body_of bs (volume (file_dims bs)) (entry_of bs k))

  module _ (bs : List ℕ) (k : ℕ) (xs : List M) (ds : List Dim) (told : ds ≡ file_dims bs) where
    pub refused : (e : SourceRefusal) → room_answer ds k (length xs) ≡ Err e → (fetch_answer (meaning bs) k (length xs) ≡ Err e) × (cells_after empty (meaning bs) k xs ≡ xs)
    refused e h = room_refused empty (meaning bs) k e xs (ap (λ d. room_answer d k (length xs)) (sym told) ∙ h)

    pub granted : (v : ℕ) → room_answer ds k (length xs) ≡ Ok v → (k < total_chunks (file_dims bs)) × (volume (file_dims bs) ≤ length xs) × (v ≡ volume (file_dims bs))
    granted v h = room_granted empty (meaning bs) k v (length xs) (ap (λ d. room_answer d k (length xs)) (sym told) ∙ h)

    -- the chunk is read into the first v cells
    module _ (v : ℕ) (room : room_answer ds k (length xs) ≡ Ok v) (e : Entry) (entry : e ≡ entry_of bs k) where
      abbrev size : ℕ
      size = length (take v xs)

      abbrev pub chunk_read : Chunk M
      chunk_read = chunk_value empty lifted (body size e (body_of bs size e))

      size_is : size ≡ volume (file_dims bs)
      size_is = let g = granted v room in ap (λ n. length (take n xs)) g.2 ∙ length-take-le (volume (file_dims bs)) xs g.1

      read_is : body size e (body_of bs size e) ≡ readings bs k
      unfolding readings
      read_is = λ i. body (size_is i) (entry i) (body_of bs (size_is i) (entry i))

      pub answered : (r : Result (Unit {0}) SourceRefusal) → r ≡ read_answer k chunk_read → r ≡ fetch_answer (meaning bs) k (length xs)
      answered r a = let g = granted v room in a ∙ (ap (λ b. read_answer k (chunk_value empty lifted b)) read_is ∙ sym (full_answer empty (meaning bs) k g.0 (length xs) g.1))

      pub filled_up : (ys : List M) → ys ≡ cells_of empty size chunk_read → ys ++ drop v xs ≡ cells_after empty (meaning bs) k xs
      filled_up ys f =
          let g = granted v room in
          ap₂ (λ us n. us ++ drop n xs) (f ∙ (λ i. cells_of empty (size_is i) (chunk_value empty lifted (read_is i)))) g.2
          ∙ sym (full_cells empty (meaning bs) k g.0 xs g.1)
