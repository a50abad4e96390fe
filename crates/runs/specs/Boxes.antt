-- Boxes of cells in one row of cells: where each cell stands, and what is copied and joined. Assumes nothing.
-- A box has a radix for each dimension, its start, and a stride for each dimension: the cell with the digits ls stands at the start plus the sum of each digit times its stride.
use Rattle.std.specs.Prelude.{◌≡◌, ℕ, ◌+◌, ◌*◌, ◌<◌, cond, List, [], ◌∷◌, ◌++◌, map, length, get_or, take, drop, replicate, ◌==◌, ◌≢◌, nat_lt, slice_index, slice_index_or}
use Rattle.std.specs.List.{range_with_len}
use Rattle.shapes.specs.Arrays.{product, digits, all_digits, Below}
use Rattle.cubes.specs.Summaries.{big}

-- the sum of each digit times its stride
abbrev pub dot : List ℕ → List ℕ → ℕ
dot [] ls = 0
dot (s ∷ ss) [] = 0
dot (s ∷ ss) (l ∷ ls) = l * s + dot ss ls

-- the digits after cs, the first changing fastest; after the last come the first
abbrev pub next_digits : List ℕ → List ℕ → List ℕ
next_digits [] cs = []
next_digits (k ∷ ks) [] = []
next_digits (k ∷ ks) (c ∷ cs) = cond (nat_lt (c + 1) k) ((c + 1) ∷ cs) (0 ∷ next_digits ks cs)

-- every radix is positive
abbrev pub Positive : List ℕ → Type 0
Positive [] = Unit {0}
Positive (k ∷ ks) = (0 < k) × Positive ks

-- each radix before the dimension r is 1: along r the offsets of a box follow one another
abbrev pub Leads : List ℕ → ℕ → Type 0
Leads ks r = (r < length ks) × ((i : ℕ) → i < r → slice_index ks i ≡ 1)

-- every cell of a box stands below n
abbrev pub Within : List ℕ → ℕ → List ℕ → ℕ → Type 0
Within ks s ss n = (ls : List ℕ) → Below ks ls → s + dot ss ls < n

-- no cell of the box at f is a cell of the box at t
abbrev pub Disjoint : List ℕ → ℕ → List ℕ → ℕ → List ℕ → Type 0
Disjoint ks f fs t ts = (us vs : List ℕ) → Below ks us → Below ks vs → f + dot fs us ≢ t + dot ts vs

-- the cells of a box, by offset
abbrev pub box_cells : {M : Type 0} → M → List M → List ℕ → ℕ → List ℕ → List M
box_cells empty cells ks s ss = map (λ ls. get_or cells (s + dot ss ls) empty) (all_digits ks)

-- the join of those cells of the box at f that have the digits of a cell of the box at t which stands at q
abbrev pub joined_at : {M : Type 0} → M → (M → M → M) → List M → List ℕ → ℕ → List ℕ → ℕ → List ℕ → ℕ → M
joined_at empty op cells ks f fs t ts q =
    big empty op (λ o. cond (t + dot ts (digits ks o) == q) (slice_index_or cells (f + dot fs (digits ks o)) empty) empty) (product ks)

-- the cells after each cell of the box at f is joined into the one of the box at t with the same digits
abbrev pub box_joined : {M : Type 0} → M → (M → M → M) → List M → List ℕ → ℕ → List ℕ → ℕ → List ℕ → List M
box_joined empty op cells ks f fs t ts = map (λ q. op (slice_index_or cells q empty) (joined_at empty op cells ks f fs t ts q)) (range_with_len 0 (length cells))

-- the cells after the n from b on are emptied
abbrev pub emptied : {M : Type 0} → M → List M → ℕ → ℕ → List M
emptied empty cells b n = take b cells ++ replicate n empty ++ drop (b + n) cells

-- One row: n cells from f on, fs apart

abbrev pub row_cells : {M : Type 0} → M → List M → ℕ → ℕ → ℕ → List M
row_cells empty cells n f fs = map (λ l. get_or cells (f + l * fs) empty) (range_with_len 0 n)

-- the row stands below m
abbrev pub RowWithin : ℕ → ℕ → ℕ → ℕ → Type 0
RowWithin n f fs m = (l : ℕ) → l < n → f + l * fs < m

-- it has no cell in common with the row from t on, ts apart
abbrev pub RowsDisjoint : ℕ → ℕ → ℕ → ℕ → ℕ → Type 0
RowsDisjoint n f fs t ts = (i j : ℕ) → i < n → j < n → f + i * fs ≢ t + j * ts

-- the cells after the row from f on is joined into that from t on
abbrev pub row_joined : {M : Type 0} → M → (M → M → M) → List M → ℕ → ℕ → ℕ → ℕ → ℕ → List M
row_joined empty op cells n f fs t ts =
    map (λ q. op (slice_index_or cells q empty) (big empty op (λ l. cond (t + l * ts == q) (slice_index_or cells (f + l * fs) empty) empty) n)) (range_with_len 0 (length cells))
