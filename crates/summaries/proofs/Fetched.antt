-- What a chunk that was fetched brings to a summary cell.
use Rattle.std.proofs.Common.{◌≡◌, ℕ, ◌<◌, ◌≤◌, Bool, false, cond, ◌&&◌, List, length, get_or, take, drop, Ok, Err, Result, sym, refl, ap, ◌∙◌, ap₂, arith}
use Rattle.std.proofs.lemmas.List.{length-map, drop_at}
use Rattle.shapes.specs.declared.dims.Dim.{Dim}
use Rattle.shapes.specs.Arrays.{Group, digits, edges, counts, chunks, volume, total_chunks, cell_at, agrees, none_dim}
use Rattle.shapes.specs.Views.{six}
use Rattle.shapes.proofs.Numbering.{length_digits}
use Rattle.measures.specs.Laws.{Lawful}
use Rattle.sources.specs.declared.refusals.SourceRefusal.{SourceRefusal}
use Rattle.sources.specs.Meanings.{Chunk, values, faulty, Meaning, Sized, fetch_answer, read_answer, cells_after, cells_of}
use Rattle.sources.proofs.Alikes.{full_answer, full_cells, first_cells, length_cells}
use Rattle.cubes.specs.Meanings.{is_readable, values_of}
use Rattle.cubes.specs.Summaries.{big}
use Rattle.cubes.proofs.Joins.{big_cong, big_none}
use Rattle.summaries.specs.Answers.{brings}
use Rattle.summaries.proofs.Agreeing.{agrees_six, digits-six}

module _ {M : Type 0} (empty : M) (op : M → M → M) (laws : Lawful empty op) where
  -- over lists filled up to six
  pub sum-six : (ds : List Dim) (g kept : Group) (x : List ℕ) (k : ℕ) (ys : List M) (chunk : List ℕ)
      → length ds ≤ 6 → length g ≡ length ds → k < total_chunks ds → length ys ≡ volume ds → chunk ≡ digits (six 1 (counts ds)) k → kept ≡ six false g
      → big empty op (λ o. cond (agrees kept x (cell_at (six none_dim ds) chunk (digits (six 1 (edges ds)) o))) (get_or ys o empty) empty) (length ys)
      ≡ big empty op (λ o. cond (agrees g x (cell_at ds (digits (counts ds) k) (digits (edges ds) o))) (get_or ys o empty) empty) (volume ds)
  sum-six ds g kept x k ys chunk few long there whole d e =
      big_cong empty op laws (λ o. cond (agrees kept x (cell_at (six none_dim ds) chunk (digits (six 1 (edges ds)) o))) (get_or ys o empty) empty)
      (λ o. cond (agrees g x (cell_at ds (digits (counts ds) k) (digits (edges ds) o))) (get_or ys o empty) empty) (length ys)
      (λ o l. ap (λ t. cond t (get_or ys o empty) empty) (tests o (omega arith)))
      ∙ ap (big empty op (λ o. cond (agrees g x (cell_at ds (digits (counts ds) k) (digits (edges ds) o))) (get_or ys o empty) empty)) whole where
        count_long : length (counts ds) ≡ length ds
        count_long = length-map ds chunks

        edge_long : length (edges ds) ≡ length ds
        edge_long = length-map ds (λ (d : Dim). d.edge)

        chunk_is : chunk ≡ six 0 (digits (counts ds) k)
        chunk_is = d ∙ digits-six (counts ds) k (omega (arith, count_long)) there

        tests : (o : ℕ) → o < volume ds → agrees kept x (cell_at (six none_dim ds) chunk (digits (six 1 (edges ds)) o)) ≡ agrees g x (cell_at ds (digits (counts ds) k) (digits (edges ds) o))
        tests o l =
            ap (λ h. agrees h x (cell_at (six none_dim ds) chunk (digits (six 1 (edges ds)) o))) e
            ∙ (ap₂ (λ cs ls. agrees (six false g) x (cell_at (six none_dim ds) cs ls)) chunk_is (digits-six (edges ds) o (omega (arith, edge_long)) l)
            ∙ agrees_six g x ds (digits (counts ds) k) (digits (edges ds) o) (omega arith) (sym long) (length_digits (counts ds) k ∙ (count_long ∙ sym long)) (length_digits (edges ds) o ∙ (edge_long ∙ sym long)))

  never : {A : Type 0} {e : SourceRefusal} → ◌≡◌ {A = Result (Unit {0}) SourceRefusal} (Ok tt) (Err e) → A
  never h = let z : ◌≡◌ {A = ℕ} 0 1 = cc in absurd (omega arith)

  -- a chunk that can be read, and one that can't
  filled : (test : ℕ → Bool) (v k : ℕ) (c : Chunk M) → read_answer k c ≡ Ok tt
      → big empty op (λ o. cond (test o) (get_or (cells_of empty v c) o empty) empty) v ≡ big empty op (λ o. cond (is_readable c && test o) (get_or (values_of c) o empty) empty) v
  filled test v k (values vs) h = refl
  filled test v k (faulty cause entry) h = never (sym h)

  unfilled : (test : ℕ → Bool) (v k : ℕ) (c : Chunk M) (e : SourceRefusal) → read_answer k c ≡ Err e → empty ≡ big empty op (λ o. cond (is_readable c && test o) (get_or (values_of c) o empty) empty) v
  unfilled test v k (values vs) e h = never h
  unfilled test v k (faulty cause entry) e h = sym (big_none empty op laws (λ o. empty) v (λ _ _. refl))

  module _ (m : Meaning M) (k : ℕ) (there : k < total_chunks m.dims) (g : Group) (x : List ℕ) (xs : List M) (room : volume m.dims ≤ length xs) where
    pub sum_readable : Sized m → fetch_answer m k (length xs) ≡ Ok tt
        → big empty op (λ o. cond (agrees g x (cell_at m.dims (digits (counts m.dims) k) (digits (edges m.dims) o))) (get_or (take (volume m.dims) (cells_after empty m k xs)) o empty) empty) (volume m.dims)
        ≡ big empty op (brings empty m g x k) (volume m.dims)
    sum_readable sized ok =
        ap (λ ys. big empty op (λ o. cond (agrees g x (cell_at m.dims (digits (counts m.dims) k) (digits (edges m.dims) o))) (get_or ys o empty) empty) (volume m.dims)) (first_cells empty m k xs sized there room)
        ∙ filled (λ o. agrees g x (cell_at m.dims (digits (counts m.dims) k) (digits (edges m.dims) o))) (volume m.dims) k (m.chunk k) (sym (full_answer empty m k there (length xs) room) ∙ ok)

    pub sum_unreadable : (e : SourceRefusal) → fetch_answer m k (length xs) ≡ Err e → empty ≡ big empty op (brings empty m g x k) (volume m.dims)
    sum_unreadable e h =
        unfilled (λ o. agrees g x (cell_at m.dims (digits (counts m.dims) k) (digits (edges m.dims) o))) (volume m.dims) k (m.chunk k) e (sym (full_answer empty m k there (length xs) room) ∙ h)

-- what lies past the first cells stays
pub rest_stays : {M : Type 0} (empty : M) (m : Meaning M) (k : ℕ) → k < total_chunks m.dims → (xs : List M) → volume m.dims ≤ length xs → Sized m
    → drop (volume m.dims) (cells_after empty m k xs) ≡ drop (volume m.dims) xs
rest_stays empty m k there xs room sized =
    ap (drop (volume m.dims)) (full_cells empty m k there xs room)
    ∙ drop_at (cells_of empty (volume m.dims) (m.chunk k)) (drop (volume m.dims) xs) (volume m.dims) (length_cells empty (volume m.dims) (m.chunk k) (sized k there))

pub first_long : {M : Type 0} (empty : M) (m : Meaning M) (k : ℕ) → k < total_chunks m.dims → (xs : List M) → volume m.dims ≤ length xs → Sized m
    → length (take (volume m.dims) (cells_after empty m k xs)) ≡ volume m.dims
first_long empty m k there xs room sized = ap length (first_cells empty m k xs sized there room) ∙ length_cells empty (volume m.dims) (m.chunk k) (sized k there)
