-- Scan order: an order gives each dimension its place, and the dimension of the earliest place changes fastest. Assumes nothing.
-- A group h has the parent that adds the dimension e; its region at a block of the parent is the part of its blocks that is complete together.
use Rattle.std.specs.Prelude.{◌≡◌, ℕ, ◌+◌, ◌-◌, ◌*◌, ◌/◌, ◌%◌, ◌<◌, ◌≤◌, true, cond, List, map, length, nat_lt, slice_index, slice_index_or, slice_set}
use Rattle.std.specs.List.{range_with_len}
use Rattle.shapes.specs.declared.dims.Dim.{Dim}
use Rattle.shapes.specs.Arrays.{Group, Below, chunks, dim, keeps, chunk_of}
use Rattle.cubes.specs.Summaries.{big}

-- the product of the radices at places before p
abbrev pub width : (ℕ → ℕ) → List ℕ → ℕ → ℕ
width place ks p = big 1 ◌*◌ (λ j. cond (nat_lt (place j) p) (slice_index_or ks j 1) 1) (length ks)

-- the product of the radices at places before that of i
abbrev pub weight : (ℕ → ℕ) → List ℕ → ℕ → ℕ
weight place ks i = width place ks (place i)

-- the scan number of coordinates: the sum of each times the weight of its dimension
abbrev pub scan_number : (ℕ → ℕ) → List ℕ → List ℕ → ℕ
scan_number place ks cs = big 0 ◌+◌ (λ i. slice_index cs i * weight place ks i) (length ks)

-- the coordinates of a scan number
abbrev pub scan_digits : (ℕ → ℕ) → List ℕ → ℕ → List ℕ
scan_digits place ks d = map (λ i. d / weight place ks i % slice_index_or ks i 1) (range_with_len 0 (length ks))

-- no two lists of coordinates below the radices have one number
abbrev pub Injective : (List ℕ → ℕ) → List ℕ → Type 0
Injective scan ks = (a b : List ℕ) → Below ks a → Below ks b → scan a ≡ scan b → a ≡ b

-- the block c of the parent has the highest chunk coordinate in each of its dimensions up to the place of e
abbrev pub Highest : List Dim → (ℕ → ℕ) → Group → ℕ → List ℕ → Type 0
Highest ds place h e c =
    (i : ℕ) → i < length ds → keeps (slice_set h e true) i ≡ true → place i ≤ place e → slice_index c i + 1 ≡ chunks (dim ds i)

-- it has the lowest there
abbrev pub Lowest : List Dim → (ℕ → ℕ) → Group → ℕ → List ℕ → Type 0
Lowest ds place h e c = (i : ℕ) → i < length ds → keeps (slice_set h e true) i ≡ true → place i ≤ place e → slice_index c i ≡ 0

-- the cell x of h lies in a block of the region of c: it agrees with c at all places after that of e
abbrev pub InRegion : List Dim → (ℕ → ℕ) → Group → ℕ → List ℕ → List ℕ → Type 0
InRegion ds place h e c x = (i : ℕ) → i < length ds → keeps h i ≡ true → place e < place i → slice_index (chunk_of ds x) i ≡ slice_index c i

-- the block of the parent that completes the region of the cell x: the highest up to the place of e, and after it where x lies
abbrev pub last_block : List Dim → (ℕ → ℕ) → Group → ℕ → List ℕ → List ℕ
last_block ds place h e x =
    map (λ i. cond (keeps (slice_set h e true) i) (cond (nat_lt (place e) (place i)) (slice_index (chunk_of ds x) i) (chunks (dim ds i) - 1)) 0) (range_with_len 0 (length ds))
