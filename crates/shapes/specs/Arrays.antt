-- Chunked arrays: dimensions, coordinates, numbers in mixed radix, groups of kept dimensions. Assumes nothing.
-- Dimensions, and the coordinates of a cell, a chunk or a block, are listed by dimension number, from 0.
use Rattle.std.specs.Prelude.{ℕ, zero, suc, ◌+◌, ◌*◌, ◌/◌, ◌%◌, ◌^◌, ◌<◌, Bool, true, false, cond, ◌&&◌, List, [], ◌∷◌, map, length, take, replicate, Some, None, sum, Option, ◌==◌, nat_lt, slice_index, slice_index_or}
use Rattle.std.specs.List.{range_with_len}
use Rattle.shapes.specs.declared.dims.Dim.{Dim}

-- how many chunks lie along a dimension
abbrev pub chunks : Dim → ℕ
chunks d = d.size / d.edge

abbrev pub product : List ℕ → ℕ
product [] = 1
product (k ∷ ks) = k * product ks

abbrev pub sizes : List Dim → List ℕ
sizes ds = map (λ (d : Dim). d.size) ds

abbrev pub edges : List Dim → List ℕ
edges ds = map (λ (d : Dim). d.edge) ds

abbrev pub counts : List Dim → List ℕ
counts ds = map chunks ds

-- V, the cells of a chunk
abbrev pub volume : List Dim → ℕ
volume ds = product (edges ds)

-- the cells of the array
abbrev pub extent : List Dim → ℕ
extent ds = product (sizes ds)

-- T, the chunks of the array
abbrev pub total_chunks : List Dim → ℕ
total_chunks ds = product (counts ds)

-- a dimension that is not there: one cell, one chunk
abbrev pub none_dim : Dim
none_dim = record { size = 1; edge = 1 }

abbrev pub dim : List Dim → ℕ → Dim
dim ds i = slice_index_or ds i none_dim

-- the dimensions by number
abbrev pub numbers : List Dim → List ℕ
numbers ds = range_with_len 0 (length ds)

-- Numbers in mixed radix

-- the number of a list of digits: the first digit changes fastest
abbrev pub number : List ℕ → List ℕ → ℕ
number [] cs = 0
number (k ∷ ks) [] = 0
number (k ∷ ks) (c ∷ cs) = c + k * number ks cs

-- the same in words: the sum of each digit times the product of the radices before it
abbrev pub weighted : List ℕ → List ℕ → ℕ
weighted ks cs = sum (map (λ i. slice_index cs i * product (take i ks)) (range_with_len 0 (length ks)))

-- the digits of a number
abbrev pub digits : List ℕ → ℕ → List ℕ
digits [] s = []
digits (k ∷ ks) s = s % k ∷ digits ks (s / k)

-- the lists of digits below the radices, by rising number
abbrev pub all_digits : List ℕ → List (List ℕ)
all_digits ks = map (digits ks) (range_with_len 0 (product ks))

-- a digit for each radix, and below it
abbrev pub Below : List ℕ → List ℕ → Type 0
Below [] [] = Unit {0}
Below [] (x ∷ xs) = ⊥
Below (k ∷ ks) [] = ⊥
Below (k ∷ ks) (x ∷ xs) = (x < k) × Below ks xs

-- whether there is a digit below each radix, and 0 past the last
abbrev pub inside : List ℕ → List ℕ → Bool
inside [] [] = true
inside [] (x ∷ xs) = x == 0 && inside [] xs
inside (k ∷ ks) [] = false
inside (k ∷ ks) (x ∷ xs) = nat_lt x k && inside ks xs

-- the number of the digits, where they lie inside
abbrev pub numbered : List ℕ → List ℕ → Option ℕ
numbered ks xs = cond (inside ks xs) (Some (number ks xs)) None

-- Cells and chunks

-- the chunk that a cell lies in, and the cell's local coordinates there
abbrev pub chunk_of : List Dim → List ℕ → List ℕ
chunk_of [] xs = []
chunk_of (d ∷ ds) [] = []
chunk_of (d ∷ ds) (x ∷ xs) = x / d.edge ∷ chunk_of ds xs

abbrev pub local_of : List Dim → List ℕ → List ℕ
local_of [] xs = []
local_of (d ∷ ds) [] = []
local_of (d ∷ ds) (x ∷ xs) = x % d.edge ∷ local_of ds xs

-- the cell at local coordinates ls of the chunk cs
abbrev pub cell_at : List Dim → List ℕ → List ℕ → List ℕ
cell_at [] cs ls = []
cell_at (d ∷ ds) [] ls = []
cell_at (d ∷ ds) (c ∷ cs) [] = []
cell_at (d ∷ ds) (c ∷ cs) (l ∷ ls) = (c * d.edge + l) ∷ cell_at ds cs ls

-- the storage number of the chunk that a cell lies in, and the cell's offset there
abbrev pub storage : List Dim → List ℕ → ℕ
storage ds x = number (counts ds) (chunk_of ds x)

abbrev pub offset : List Dim → List ℕ → ℕ
offset ds x = number (edges ds) (local_of ds x)

-- Groups

-- a group of kept dimensions: a flag for each dimension
abbrev pub Group : Type 0
Group = List Bool

abbrev pub keeps : Group → ℕ → Bool
keeps g i = slice_index_or g i false

-- the sum of 2 ^ i over the kept dimensions i
abbrev pub mask : Group → ℕ
mask [] = 0
mask (b ∷ g) = cond b 1 0 + 2 * mask g

-- the group of n dimensions with a mask
abbrev pub group : ℕ → ℕ → Group
group zero m = []
group (suc n) m = (m % 2 == 1) ∷ group n (m / 2)

-- the groups of n dimensions by rising mask
abbrev pub groups : ℕ → List Group
groups n = map (group n) (range_with_len 0 (2 ^ n))

-- the group of a number, where it is a mask of n dimensions; and the mask of a group that keeps no dimension from n on
abbrev pub group_of : ℕ → ℕ → Option Group
group_of n m = cond (nat_lt m (2 ^ n)) (Some (group n m)) None

abbrev pub mask_of : ℕ → Group → Option ℕ
mask_of n g = cond (nat_lt (mask g) (2 ^ n)) (Some (mask g)) None

-- the group that keeps every dimension
abbrev pub root : ℕ → Group
root n = replicate n true

-- the radices of a group: a dropped dimension counts once
abbrev pub radix : Group → List ℕ → List ℕ
radix [] ks = []
radix (b ∷ g) [] = []
radix (b ∷ g) (k ∷ ks) = cond b k 1 ∷ radix g ks

-- the elements of a list that stand at the kept dimensions
abbrev pub only : {A : Type 0} → Group → List A → List A
only [] xs = []
only (b ∷ g) [] = []
only (b ∷ g) (x ∷ xs) = cond b (x ∷ only g xs) (only g xs)

-- the coordinates with 0 in each dropped dimension
abbrev pub cleared : Group → List ℕ → List ℕ
cleared [] xs = []
cleared (b ∷ g) [] = []
cleared (b ∷ g) (x ∷ xs) = cond b x 0 ∷ cleared g xs

-- the two agree in every kept dimension
abbrev pub agrees : Group → List ℕ → List ℕ → Bool
agrees [] xs ys = true
agrees (b ∷ g) [] ys = true
agrees (b ∷ g) (x ∷ xs) [] = true
agrees (b ∷ g) (x ∷ xs) (y ∷ ys) = cond b (x == y) true && agrees g xs ys
