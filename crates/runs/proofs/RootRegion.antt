-- The root's region: the first V cells, by offset. What a fetch into them leaves.
use Rattle.std.proofs.Common.{◌≡◌, ℕ, ◌+◌, ◌-◌, ◌^◌, ◌<◌, ◌≤◌, cond, ◌⊎◌, List, ◌++◌, length, get_or, drop, replicate, sym, refl, ap, ◌∙◌, subst, inl, inr, zero-add, arith}
use Rattle.std.proofs.lemmas.List.{ext_get_or, length-map, length-replicate, length-append, length-drop, get_or_append_left, get_or-append_right, get_or-drop, get_or-replicate, drop_at}
use Rattle.std.proofs.lemmas.Bool.{cases_lt}
use Rattle.shapes.specs.declared.dims.Dim.{Dim}
use Rattle.shapes.specs.Arrays.{Group, number, volume, storage, offset, Below, sizes, counts, chunks, group, root, chunk_of, cleared}
use Rattle.shapes.proofs.Numbering.{below_length}
use Rattle.measures.specs.Laws.{Lawful}
use Rattle.sources.specs.Meanings.{Chunk, values, faulty, sized_chunk, cells_of}
use Rattle.cubes.specs.Meanings.{meaning, is_readable, values_of}
use Rattle.cubes.specs.Summaries.{Divided, direct, base}
use Rattle.cubes.proofs.Cells.{chunk_below, cleared_below, radix_all, offset_below}
use Rattle.cubes.proofs.Groups.{root_of, mask_root}
use Rattle.cubes.proofs.Summaries.{direct_root}
use Rattle.runs.specs.Boxes.{emptied}
use Rattle.runs.specs.Layouts.{mask_cells, mask_base, standing}
use Rattle.runs.specs.Contents.{CompleteBlock, SameRegion, EmptyRegion}
use Rattle.runs.proofs.RegionBases.{root_base, root_cells, root_standing, other_base}

pub root_group : (n : ℕ) → group n (2 ^ n - 1) ≡ root n
root_group n = root_of n (2 ^ n - 1) (omega (arith, mask_root n))

module _ {M : Type 0} (empty : M) (ds : List Dim) (place : ℕ → ℕ) (adds : Group → ℕ) where
  abbrev top : ℕ
  top = 2 ^ length ds - 1

  abbrev V : ℕ
  V = volume ds

  -- the cells past the first V stay
  pub filled_past : (xs old : List M) (q : ℕ) → length xs ≡ V → V ≤ q → get_or (xs ++ drop V old) q empty ≡ get_or old q empty
  filled_past xs old q l m = get_or-append_right xs (drop V old) V q empty l m ∙ get_or-drop V old (q - V) empty ∙ ap (λ z. get_or old z empty) back
    where
      back : V + (q - V) ≡ q
      back = omega arith

  pub filled_others : (xs old : List M) (m : ℕ) → length xs ≡ V → m + 1 < 2 ^ length ds → SameRegion empty ds place adds m old (xs ++ drop V old)
  filled_others xs old m l lm q lo hi = filled_past xs old q l (omega (arith, other_base ds place adds m lm))

  own : (q : ℕ) → q < mask_base ds place adds top + mask_cells ds place adds top → q < V
  own q l = omega (arith, root_base ds place adds, root_cells ds place adds)

  -- a chunk that can't be read leaves the root's region empty
  pub filled_empty : (old : List M) → EmptyRegion empty ds place adds top (replicate V empty ++ drop V old)
  filled_empty old q lo hi = get_or_append_left (replicate V empty) (drop V old) empty q (omega (arith, own q hi, length-replicate V empty))
      ∙ get_or-replicate V q empty empty (own q hi)

  -- where the root's region was empty, emptying it again after a fetch gives back the cells as they were
  pub empty_again : (old : List M) → V ≤ length old → EmptyRegion empty ds place adds top old → replicate V empty ++ drop V old ≡ old
  empty_again old fits none = ext_get_or empty (replicate V empty ++ drop V old) old
      (length-append (replicate V empty) (drop V old) ∙ omega (arith, length-replicate V empty, length-drop V old))
      (λ q l. by q (cases_lt q V))
    where
      by : (q : ℕ) → (q < V) ⊎ (V ≤ q) → get_or (replicate V empty ++ drop V old) q empty ≡ get_or old q empty
      by q (inl l) = filled_empty old q low high ∙ sym (none q low high)
        where
          low : mask_base ds place adds top ≤ q
          low = omega (arith, root_base ds place adds)

          high : q < mask_base ds place adds top + mask_cells ds place adds top
          high = omega (arith, root_base ds place adds, root_cells ds place adds)
      by q (inr l) = filled_past (replicate V empty) old q (length-replicate V empty) l

  pub emptied_after : (xs old : List M) → length xs ≡ V → emptied empty (xs ++ drop V old) 0 V ≡ replicate V empty ++ drop V old
  emptied_after xs old l = ap (λ z. replicate V empty ++ drop z (xs ++ drop V old)) (zero-add V) ∙ ap (λ z. replicate V empty ++ z) (drop_at xs (drop V old) V l)

  module _ (op : M → M → M) (lawful : Lawful empty op) (mean : ℕ → Chunk M) (divided : Divided ds) (c : List ℕ) (below_c : Below (counts ds) c)
      (sized : sized_chunk V (mean (number (counts ds) c))) where
    -- a fetched chunk fills V cells
    pub length_fetched : length (cells_of empty V (mean (number (counts ds) c))) ≡ V
    length_fetched = by (mean (number (counts ds) c)) sized
      where
        by : (k : Chunk M) → sized_chunk V k → length (cells_of empty V k) ≡ V
        by (values vs) z = z
        by (faulty cause entry) z = length-replicate V empty

    -- after a fetch the root's region holds the root's block: readable values, or empty ones
    pub filled_root : (old : List M) → CompleteBlock empty op (meaning ds mean) (group (length ds) top) c (standing ds place adds top) (cells_of empty V (mean (number (counts ds) c)) ++ drop V old)
    filled_root old x below_x at =
        ap (λ z. get_or (cells_of empty V (mean (number (counts ds) c)) ++ drop V old) z empty) (root_standing ds place adds x length_x)
        ∙ ap (λ k. get_or (cells_of empty V k ++ drop V old) (offset ds x) empty) (ap mean (sym stored))
        ∙ by (mean (storage ds x)) refl (subst (sized_chunk V) (ap mean (sym stored)) sized)
        ∙ sym (direct_root empty op lawful ds mean x below_x)
        ∙ ap (λ g. direct empty op (meaning ds mean) g x) (sym (root_group (length ds)))
      where
        length_x : length x ≡ length ds
        length_x = below_length (sizes ds) x below_x ∙ length-map ds (λ (d : Dim). d.size)

        below_chunk : Below (counts ds) (chunk_of ds x)
        below_chunk = chunk_below ds x divided below_x

        chunk_is : chunk_of ds x ≡ c
        chunk_is = sym (cleared_below (root (length ds)) (counts ds) (chunk_of ds x) (subst (λ ks. Below ks (chunk_of ds x)) (sym (radix_all (counts ds) (length ds) (length-map ds chunks))) below_chunk))
            ∙ ap (λ g. cleared g (chunk_of ds x)) (sym (root_group (length ds))) ∙ at

        stored : storage ds x ≡ number (counts ds) c
        stored = ap (number (counts ds)) chunk_is

        inside : offset ds x < V
        inside = offset_below ds x divided length_x

        by : (k : Chunk M) → mean (storage ds x) ≡ k → sized_chunk V k → get_or (cells_of empty V k ++ drop V old) (offset ds x) empty ≡ base empty (meaning ds mean) x
        by (values vs) is z = get_or_append_left vs (drop V old) empty (offset ds x) (omega (arith, inside, z))
            ∙ sym (ap (λ k. cond (is_readable k) (get_or (values_of k) (offset ds x) empty) empty) is)
        by (faulty cause entry) is z = get_or_append_left (replicate V empty) (drop V old) empty (offset ds x) (omega (arith, inside, length-replicate V empty))
            ∙ get_or-replicate V (offset ds x) empty empty inside
            ∙ sym (ap (λ k. cond (is_readable k) (get_or (values_of k) (offset ds x) empty) empty) is)
