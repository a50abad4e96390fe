-- What is proved of the summaries for a measure, whatever the source means. Assumes nothing.
use Rattle.std.specs.Prelude.{◌≡◌, ℕ, ◌+◌, ◌<◌, true, cond, List, length, take, ◌≢◌, slice_index, slice_index_or, slice_set}
use Rattle.shapes.specs.declared.dims.Dim.{Dim}
use Rattle.shapes.specs.Arrays.{Group, Below, radix, sizes, counts, dim, chunk_of, agrees, cleared, root}
use Rattle.plans.specs.Plans.{Lacks, Order}
use Rattle.sources.specs.Meanings.{Meaning}
use Rattle.cubes.specs.Summaries.{Divided, big, direct, base, contribution, content}
use Rattle.cubes.specs.Scans.{scan_number, Highest, Lowest, InRegion}
use Rattle.cubes.specs.Handing.{Block, parent, handing, tally, Scan}

-- a cell of the root is its base cell
abbrev pub RootIsBase : {M : Type 0} → M → (M → M → M) → Type 0
RootIsBase {M} empty op = (σ : Meaning M) (x : List ℕ) → Below (sizes σ.dims) x → direct empty op σ (root (length σ.dims)) x ≡ base empty σ x

-- a child's direct summary is the join of its parent's along the dimension that it drops
abbrev pub ChildJoins : {M : Type 0} → M → (M → M → M) → Type 0
ChildJoins {M} empty op = (σ : Meaning M) (h : Group) (e : ℕ) (x : List ℕ)
    → length h ≡ length σ.dims → length x ≡ length σ.dims → Lacks σ.dims h e
    → direct empty op σ h x ≡ big empty op (λ v. direct empty op σ (slice_set h e true) (slice_set x e v)) (dim σ.dims e).size

-- the scan number of a block of the group that adds e to h
abbrev pub parent_scan : List Dim → (ℕ → ℕ) → Group → ℕ → List ℕ → ℕ
parent_scan ds place h e = scan_number place (radix (slice_set h e true) (counts ds))

-- what the cell x of h holds where d of its parent's blocks have been joined
abbrev pub held : {M : Type 0} → M → (M → M → M) → Meaning M → (ℕ → ℕ) → Group → ℕ → List ℕ → ℕ → M
held empty op σ place h e x d = content empty op σ (parent_scan σ.dims place h e) h e x d

-- what the region of a group h holds, from one block of its parent to the next; the parent adds e
pub record RegionContents {M : Type 0} (empty : M) (op : M → M → M) (σ : Meaning M) (place : ℕ → ℕ) (h : Group) (e : ℕ) : Type 0 where
  -- a region begins empty: before a block that is lowest up to the place of e, and the first block is
  pub first : (c : List ℕ) → Below (radix (slice_set h e true) (counts σ.dims)) c → parent_scan σ.dims place h e c ≡ 0 → Lowest σ.dims place h e c
  pub fresh : (c x : List ℕ) → Below (radix (slice_set h e true) (counts σ.dims)) c → Below (sizes σ.dims) x → InRegion σ.dims place h e c x
      → Lowest σ.dims place h e c → held empty op σ place h e x (parent_scan σ.dims place h e c) ≡ empty
  -- the block c is joined: a cell that agrees with it gets what it contributes, and the others stay
  pub joined : (c x : List ℕ) → Below (radix (slice_set h e true) (counts σ.dims)) c → Below (sizes σ.dims) x
      → held empty op σ place h e x (parent_scan σ.dims place h e c + 1)
      ≡ cond (agrees h (chunk_of σ.dims x) c)
      (op (held empty op σ place h e x (parent_scan σ.dims place h e c)) (contribution empty op σ h e x (slice_index c e)))
      (held empty op σ place h e x (parent_scan σ.dims place h e c))
  -- after a block that completes the region its cells are the direct summaries
  pub complete : (c x : List ℕ) → Below (radix (slice_set h e true) (counts σ.dims)) c → Below (sizes σ.dims) x → InRegion σ.dims place h e c x
      → Highest σ.dims place h e c → held empty op σ place h e x (parent_scan σ.dims place h e c + 1) ≡ direct empty op σ h x
  -- then the region is emptied: the next block c' begins another
  pub emptied : (c c' x : List ℕ) → Below (radix (slice_set h e true) (counts σ.dims)) c → Below (radix (slice_set h e true) (counts σ.dims)) c'
      → parent_scan σ.dims place h e c' ≡ parent_scan σ.dims place h e c + 1 → Below (sizes σ.dims) x → InRegion σ.dims place h e c' x
      → Highest σ.dims place h e c → held empty op σ place h e x (parent_scan σ.dims place h e c + 1) ≡ empty
  -- after any other block the next has the same region
  pub stays : (c c' x : List ℕ) → Below (radix (slice_set h e true) (counts σ.dims)) c → Below (radix (slice_set h e true) (counts σ.dims)) c'
      → parent_scan σ.dims place h e c' ≡ parent_scan σ.dims place h e c + 1 → (Highest σ.dims place h e c → ⊥)
      → InRegion σ.dims place h e c' x → InRegion σ.dims place h e c x

abbrev pub RegionsHold : {M : Type 0} → M → (M → M → M) → Type 0
RegionsHold {M} empty op = (σ : Meaning M) (place : ℕ → ℕ) (h : Group) (e : ℕ)
    → Divided σ.dims → Order σ.dims place → length h ≡ length σ.dims → Lacks σ.dims h e → RegionContents empty op σ place h e

-- when a block is handed out, the blocks of its parent that were handed out before, joined, make each of its cells the direct summary
abbrev pub CompleteWhenHanded : {M : Type 0} → M → (M → M → M) → Type 0
CompleteWhenHanded {M} empty op = (σ : Meaning M) (place : ℕ → ℕ) (adds : Group → ℕ) (all : List Group) → Divided σ.dims → Scan σ.dims place adds all
    → (i : ℕ) (b : Block) → i < length (handing σ.dims place adds all) → slice_index_or (handing σ.dims place adds all) i b ≡ b → (b.of ≢ root (length σ.dims))
    → (x : List ℕ) → Below (sizes σ.dims) x → cleared b.of (chunk_of σ.dims x) ≡ b.at
    → held empty op σ place b.of (adds b.of) x (tally (take i (handing σ.dims place adds all)) (parent adds b.of)) ≡ direct empty op σ b.of x
