-- A direct summary, chunk by chunk and offset by offset.
use Rattle.std.proofs.Common.{◌≡◌, ℕ, ◌+◌, ◌*◌, ◌<◌, Bool, cond, ◌&&◌, List, [], ◌∷◌, length, get_or, sym, refl, ap, ◌∙◌, ap₂, arith}
use Rattle.std.proofs.lemmas.List.{length-map}
use Rattle.shapes.specs.declared.dims.Dim.{Dim}
use Rattle.shapes.specs.Arrays.{Group, number, digits, sizes, edges, counts, chunks, volume, total_chunks, cell_at, storage, offset, agrees}
use Rattle.shapes.proofs.Numbering.{length_digits, digits_below, number_digits}
use Rattle.measures.specs.Laws.{Lawful}
use Rattle.sources.specs.Meanings.{Meaning}
use Rattle.cubes.specs.Meanings.{is_readable, values_of}
use Rattle.cubes.specs.Summaries.{Divided, big, readable, value, direct}
use Rattle.summaries.specs.Answers.{brings}
use Rattle.cubes.proofs.Joins.{nest, big_cong, big_swap, big_mul, nest_digits, total_kept_digits}
use Rattle.cubes.proofs.Cells.{chunk_of_cell, local_of_cell}
use Rattle.cubes.proofs.Summaries.{divided_at}

module _ {M : Type 0} (empty : M) (op : M → M → M) (laws : Lawful empty op) where
  -- joins over digits and over a number go in either order
  nest_big : (ks : List ℕ) (h : List ℕ → ℕ → M) (n : ℕ) → big empty op (λ l. nest empty op ks (λ cs. h cs l)) n ≡ nest empty op ks (λ cs. big empty op (h cs) n)
  nest_big [] h n = refl
  nest_big (k ∷ ks) h n =
      big_swap empty op laws (λ l v. nest empty op ks (λ cs. h (v ∷ cs) l)) n k
      ∙ big_cong empty op laws (λ v. big empty op (λ l. nest empty op ks (λ cs. h (v ∷ cs) l)) n) (λ v. nest empty op ks (λ cs. big empty op (h (v ∷ cs)) n)) k
      (λ v _. nest_big ks (λ cs. h (v ∷ cs)) n)

  -- the cells of an array are those of its chunks
  pub nest_chunks : (ds : List Dim) (f : List ℕ → M) → Divided ds → nest empty op (sizes ds) f ≡ nest empty op (counts ds) (λ cs. nest empty op (edges ds) (λ ls. f (cell_at ds cs ls)))
  nest_chunks [] f h = refl
  nest_chunks (d ∷ ds) f h =
      let whole : d.size ≡ chunks d * d.edge = sym (divided_at (d ∷ ds) 0 h (omega arith)) in
      ap (big empty op (λ v. nest empty op (sizes ds) (λ ys. f (v ∷ ys)))) whole
      ∙ (big_mul empty op laws (λ v. nest empty op (sizes ds) (λ ys. f (v ∷ ys))) (chunks d) d.edge
      ∙ big_cong empty op laws (λ k. big empty op (λ l. nest empty op (sizes ds) (λ ys. f ((k * d.edge + l) ∷ ys))) d.edge)
      (λ k. nest empty op (counts ds) (λ cs. big empty op (λ l. nest empty op (edges ds) (λ ls. f ((k * d.edge + l) ∷ cell_at ds cs ls))) d.edge)) (chunks d)
      (λ k _. big_cong empty op laws (λ l. nest empty op (sizes ds) (λ ys. f ((k * d.edge + l) ∷ ys)))
      (λ l. nest empty op (counts ds) (λ cs. nest empty op (edges ds) (λ ls. f ((k * d.edge + l) ∷ cell_at ds cs ls)))) d.edge (λ l _. nest_chunks ds (λ ys. f ((k * d.edge + l) ∷ ys)) h.1)
      ∙ nest_big (counts ds) (λ cs l. nest empty op (edges ds) (λ ls. f ((k * d.edge + l) ∷ cell_at ds cs ls))) d.edge))

  pub direct_chunkwise : (σ : Meaning M) (g : Group) (x : List ℕ) → Divided σ.dims
      → direct empty op σ g x ≡ big empty op (λ k. big empty op (brings empty σ g x k) (volume σ.dims)) (total_chunks σ.dims)
  direct_chunkwise σ g x h =
      total_kept_digits empty op laws (sizes ds) test (value empty σ)
      ∙ (nest_chunks ds (λ y. cond (test y) (value empty σ y) empty) h
      ∙ (sym (nest_digits empty op laws (counts ds) (λ cs. nest empty op (edges ds) (λ ls. cond (test (cell_at ds cs ls)) (value empty σ (cell_at ds cs ls)) empty)))
      ∙ big_cong empty op laws (λ k. nest empty op (edges ds) (λ ls. cond (test (cell_at ds (digits (counts ds) k) ls)) (value empty σ (cell_at ds (digits (counts ds) k) ls)) empty))
      (λ k. big empty op (brings empty σ g x k) (volume ds)) (total_chunks ds) each_chunk)) where
        ds : List Dim
        ds = σ.dims

        test : List ℕ → Bool
        test y = readable σ y && agrees g x y

        at : ℕ → ℕ → List ℕ
        at k o = cell_at σ.dims (digits (counts σ.dims) k) (digits (edges σ.dims) o)

        each_cell : (k : ℕ) → k < total_chunks σ.dims → (o : ℕ) → o < volume σ.dims → cond (test (at k o)) (value empty σ (at k o)) empty ≡ brings empty σ g x k o
        each_cell k l o m =
            let below = digits_below (edges σ.dims) o m in
            let long : length (digits (counts σ.dims) k) ≡ length σ.dims = length_digits (counts σ.dims) k ∙ length-map σ.dims chunks in
            let chunk_is : storage σ.dims (at k o) ≡ k =
            ap (number (counts σ.dims)) (chunk_of_cell σ.dims (digits (counts σ.dims) k) (digits (edges σ.dims) o) long below) ∙ number_digits (counts σ.dims) k l in
            let offset_is : offset σ.dims (at k o) ≡ o =
            ap (number (edges σ.dims)) (local_of_cell σ.dims (digits (counts σ.dims) k) (digits (edges σ.dims) o) long below) ∙ number_digits (edges σ.dims) o m in
            ap₂ (λ c p. cond (is_readable (σ.chunk c) && agrees g x (at k o)) (get_or (values_of (σ.chunk c)) p empty) empty) chunk_is offset_is

        each_chunk : (k : ℕ) → k < total_chunks σ.dims → nest empty op (edges σ.dims) (λ ls. cond (test (cell_at σ.dims (digits (counts σ.dims) k) ls)) (value empty σ (cell_at σ.dims (digits (counts σ.dims) k) ls)) empty) ≡ big empty op (brings empty σ g x k) (volume σ.dims)
        each_chunk k l =
            sym (nest_digits empty op laws (edges σ.dims) (λ ls. cond (test (cell_at σ.dims (digits (counts σ.dims) k) ls)) (value empty σ (cell_at σ.dims (digits (counts σ.dims) k) ls)) empty))
            ∙ big_cong empty op laws (λ o. cond (test (at k o)) (value empty σ (at k o)) empty) (brings empty σ g x k) (volume σ.dims) (each_cell k l)
