-- The direct summaries, and what a region of a group holds while its parent's blocks are joined into it. Assumes nothing.
-- Cells, chunks and blocks go by their coordinates, listed by dimension number; a block has 0 in each dropped dimension.
use Rattle.std.specs.Prelude.{◌≡◌, ℕ, zero, suc, ◌+◌, ◌*◌, ◌%◌, ◌≤◌, Bool, true, cond, ◌&&◌, List, map, filter, nat_lt, slice_index_or, slice_set}
use Rattle.std.specs.List.{AllByRecursion}
use Rattle.shapes.specs.declared.dims.Dim.{Dim}
use Rattle.shapes.specs.Arrays.{Group, number, digits, all_digits, radix, sizes, edges, chunks, dim, chunk_of, cell_at, storage, offset, agrees, cleared}
use Rattle.measures.specs.Laws.{total}
use Rattle.sources.specs.Meanings.{Meaning}
use Rattle.cubes.specs.Meanings.{is_readable, values_of}

-- each edge is 1 to the size, and divides it
abbrev pub Divided : List Dim → Type 0
Divided ds = AllByRecursion (λ (d : Dim). (1 ≤ d.edge) × (d.edge ≤ d.size) × (d.size % d.edge ≡ 0)) ds

-- the join of the empty value and of f at the numbers below n
abbrev pub big : {M : Type 0} → M → (M → M → M) → (ℕ → M) → ℕ → M
big empty op f zero = empty
big empty op f (suc n) = op (big empty op f n) (f n)

-- a base cell is readable if its chunk has no fault
abbrev pub readable : {M : Type 0} → Meaning M → List ℕ → Bool
readable σ x = is_readable (σ.chunk (storage σ.dims x))

-- the value of a base cell: what stands at its offset in its chunk
abbrev pub value : {M : Type 0} → M → Meaning M → List ℕ → M
value empty σ x = slice_index_or (values_of (σ.chunk (storage σ.dims x))) (offset σ.dims x) empty

-- the direct summary of the group g at the cell x: the total of all base cells that are readable and agree with x in the kept dimensions
abbrev pub direct : {M : Type 0} → M → (M → M → M) → Meaning M → Group → List ℕ → M
direct empty op σ g x = total empty op (map (value empty σ) (filter (λ y. readable σ y && agrees g x y) (all_digits (sizes σ.dims))))

-- the value of a base cell, empty where it is not readable
abbrev pub base : {M : Type 0} → M → Meaning M → List ℕ → M
base empty σ x = cond (readable σ x) (value empty σ x) empty

-- the block of the group g at the chunk coordinates c: its direct summaries by offset
abbrev pub block : {M : Type 0} → M → (M → M → M) → Meaning M → Group → List ℕ → List M
block empty op σ g c = map (λ ls. direct empty op σ g (cell_at σ.dims c ls)) (all_digits (radix g (edges σ.dims)))

-- A group h and its parent, which adds the dimension e

-- the parent's block with the chunk coordinates of the cell x in the dimensions of h, and k in e
abbrev pub parent_block : List Dim → Group → ℕ → List ℕ → ℕ → List ℕ
parent_block ds h e x k = slice_set (cleared h (chunk_of ds x)) e k

-- what that block contributes to the cell x of h: the join of its cells along e
abbrev pub contribution : {M : Type 0} → M → (M → M → M) → Meaning M → Group → ℕ → List ℕ → ℕ → M
contribution empty op σ h e x k = big empty op (λ l. direct empty op σ (slice_set h e true) (slice_set x e (k * (dim σ.dims e).edge + l))) (dim σ.dims e).edge

-- what the cell x of h holds once the parent's blocks of scan number below d have been joined: the join of what they contribute
abbrev pub content : {M : Type 0} → M → (M → M → M) → Meaning M → (List ℕ → ℕ) → Group → ℕ → List ℕ → ℕ → M
content empty op σ scan h e x d =
    big empty op (λ k. cond (nat_lt (scan (parent_block σ.dims h e x k)) d) (contribution empty op σ h e x k) empty) (chunks (dim σ.dims e))

-- the offset in a block of h to which the offset o of its parent's block is projected: the coordinate in e is dropped
abbrev pub projected_offset : List Dim → Group → ℕ → ℕ → ℕ
projected_offset ds h e o = number (radix h (edges ds)) (cleared h (digits (radix (slice_set h e true) (edges ds)) o))
