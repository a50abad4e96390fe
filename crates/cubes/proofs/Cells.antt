-- Chunks and their cells; coordinates with 0 in the dropped dimensions; radices of a group.
use Rattle.std.proofs.Common.{◌≡◌, ℕ, zero, suc, ◌+◌, ◌*◌, ◌<◌, true, false, cond, eqb, List, [], ◌∷◌, length, get_or, set, replicate, refl, ap, ap₂, mul-le-mul_right, div-add-mod', arith}
use lib.Arith.{digits_div, digits_mod}
use Rattle.std.proofs.lemmas.Nat.{div_below, mod_below, le-div}
use Rattle.std.proofs.lemmas.Bool.{eq-eqb, eqb-true, true≢false, and_parts}
use Rattle.shapes.specs.declared.dims.Dim.{Dim}
use Rattle.shapes.specs.Arrays.{chunks, product, sizes, edges, counts, dim, Below, chunk_of, local_of, cell_at, storage, offset, Group, keeps, radix, cleared, agrees}
use Rattle.shapes.proofs.Numbering.{number_below}
use Rattle.plans.specs.Plans.{Edged}
use Rattle.cubes.specs.Summaries.{Divided}

-- chunks and cells
pub chunk_below : (ds : List Dim) (x : List ℕ) → Divided ds → Below (sizes ds) x → Below (counts ds) (chunk_of ds x)
chunk_below [] x divided b = tt
chunk_below (d ∷ ds) [] divided b = absurd b
chunk_below (d ∷ ds) (x ∷ xs) divided b =
    (div_below x d.edge (chunks d) divided.0.0 (omega (arith, b.0, divided.0.2, div-add-mod' d.size d.edge)), chunk_below ds xs divided.1 b.1)

pub local_below : (ds : List Dim) (x : List ℕ) → Divided ds → length x ≡ length ds → Below (edges ds) (local_of ds x)
local_below [] x divided b = tt
local_below (d ∷ ds) [] divided b = absurd (omega arith)
local_below (d ∷ ds) (x ∷ xs) divided b = (mod_below x d.edge divided.0.0, local_below ds xs divided.1 (omega arith))

pub storage_below : (ds : List Dim) (x : List ℕ) → Divided ds → Below (sizes ds) x → storage ds x < product (counts ds)
storage_below ds x divided b = number_below (counts ds) (chunk_of ds x) (chunk_below ds x divided b)

pub offset_below : (ds : List Dim) (x : List ℕ) → Divided ds → length x ≡ length ds → offset ds x < product (edges ds)
offset_below ds x divided l = number_below (edges ds) (local_of ds x) (local_below ds x divided l)

-- a cell is given by its chunk and its local coordinates
pub cell_of_parts : (ds : List Dim) (x : List ℕ) → length x ≡ length ds → cell_at ds (chunk_of ds x) (local_of ds x) ≡ x
cell_of_parts [] [] l = refl
cell_of_parts [] (x ∷ xs) l = absurd (omega arith)
cell_of_parts (d ∷ ds) [] l = absurd (omega arith)
cell_of_parts (d ∷ ds) (x ∷ xs) l = ap₂ ◌∷◌ (div-add-mod' x d.edge) (cell_of_parts ds xs (omega arith))

pub chunk_of_cell : (ds : List Dim) (cs ls : List ℕ) → length cs ≡ length ds → Below (edges ds) ls → chunk_of ds (cell_at ds cs ls) ≡ cs
chunk_of_cell [] [] ls l b = refl
chunk_of_cell [] (c ∷ cs) ls l b = absurd (omega arith)
chunk_of_cell (d ∷ ds) [] ls l b = absurd (omega arith)
chunk_of_cell (d ∷ ds) (c ∷ cs) [] l b = absurd b
chunk_of_cell (d ∷ ds) (c ∷ cs) (m ∷ ms) l b = ap₂ ◌∷◌ (digits_div c b.0) (chunk_of_cell ds cs ms (omega arith) b.1)

pub local_of_cell : (ds : List Dim) (cs ls : List ℕ) → length cs ≡ length ds → Below (edges ds) ls → local_of ds (cell_at ds cs ls) ≡ ls
local_of_cell [] cs [] l b = refl
local_of_cell [] cs (m ∷ ms) l b = absurd b
local_of_cell (d ∷ ds) [] ls l b = absurd (omega arith)
local_of_cell (d ∷ ds) (c ∷ cs) [] l b = absurd b
local_of_cell (d ∷ ds) (c ∷ cs) (m ∷ ms) l b = ap₂ ◌∷◌ (digits_mod c b.0) (local_of_cell ds cs ms (omega arith) b.1)

pub cell_below : (ds : List Dim) (cs ls : List ℕ) → Divided ds → Below (counts ds) cs → Below (edges ds) ls → Below (sizes ds) (cell_at ds cs ls)
cell_below [] cs ls divided b l = tt
cell_below (d ∷ ds) [] ls divided b l = absurd b
cell_below (d ∷ ds) (c ∷ cs) [] divided b l = absurd l
cell_below (d ∷ ds) (c ∷ cs) (m ∷ ms) divided b l =
    (omega (arith, l.0, divided.0.2, div-add-mod' d.size d.edge, mul-le-mul_right d.edge b.0), cell_below ds cs ms divided.1 b.1 l.1)

-- coordinates with 0 in the dropped dimensions
pub cleared_below : (g : Group) (ks cs : List ℕ) → Below (radix g ks) cs → cleared g cs ≡ cs
cleared_below [] ks [] b = refl
cleared_below [] ks (c ∷ cs) b = absurd b
cleared_below (f ∷ g) [] [] b = refl
cleared_below (f ∷ g) [] (c ∷ cs) b = absurd b
cleared_below (f ∷ g) (k ∷ ks) [] b = refl
cleared_below (true ∷ g) (k ∷ ks) (c ∷ cs) b = ap (λ z. c ∷ z) (cleared_below g ks cs b.1)
cleared_below (false ∷ g) (k ∷ ks) (c ∷ cs) b = ap₂ ◌∷◌ (omega (arith, b.0)) (cleared_below g ks cs b.1)

pub below_cleared : (g : Group) (ks cs : List ℕ) → Below ks cs → Below (radix g ks) (cleared g cs)
below_cleared [] ks cs b = tt
below_cleared (f ∷ g) [] [] b = tt
below_cleared (f ∷ g) [] (c ∷ cs) b = absurd b
below_cleared (f ∷ g) (k ∷ ks) [] b = absurd b
below_cleared (true ∷ g) (k ∷ ks) (c ∷ cs) b = (b.0, below_cleared g ks cs b.1)
below_cleared (false ∷ g) (k ∷ ks) (c ∷ cs) b = (omega arith, below_cleared g ks cs b.1)

-- a coordinate more: the parent's block from the child's
pub cleared-set : (h : Group) (cs : List ℕ) (e : ℕ) → set (cleared h cs) e (get_or cs e 0) ≡ cleared (set h e true) cs
cleared-set [] cs e = refl
cleared-set (f ∷ h) [] zero = refl
cleared-set (f ∷ h) [] (suc e) = refl
cleared-set (f ∷ h) (c ∷ cs) zero = refl
cleared-set (f ∷ h) (c ∷ cs) (suc e) = ap (λ z. cond f c 0 ∷ z) (cleared-set h cs e)

pub below_set : (h : Group) (ks cs : List ℕ) (e k : ℕ) → Below (radix h ks) cs → k < get_or ks e 0 → Below (radix (set h e true) ks) (set cs e k)
below_set [] ks [] e k b l = tt
below_set [] ks (c ∷ cs) e k b l = absurd b
below_set (f ∷ h) [] cs e k b l = absurd (omega arith)
below_set (f ∷ h) (j ∷ ks) [] e k b l = absurd b
below_set (f ∷ h) (j ∷ ks) (c ∷ cs) zero k b l = (l, b.1)
below_set (f ∷ h) (j ∷ ks) (c ∷ cs) (suc e) k b l = (b.0, below_set h ks cs e k b.1 l)

-- agreement is equality of what is kept
pub agrees_same : (g : Group) (xs : List ℕ) → agrees g xs xs ≡ true
agrees_same [] xs = refl
agrees_same (b ∷ g) [] = refl
agrees_same (true ∷ g) (x ∷ xs) = rw (eq-eqb x x refl) (agrees_same g xs)
agrees_same (false ∷ g) (x ∷ xs) = agrees_same g xs

pub cleared_from_agrees : (g : Group) (xs ys : List ℕ) → length xs ≡ length ys → agrees g xs ys ≡ true → cleared g xs ≡ cleared g ys
cleared_from_agrees [] xs ys l a = refl
cleared_from_agrees (b ∷ g) [] [] l a = refl
cleared_from_agrees (b ∷ g) [] (y ∷ ys) l a = absurd (omega arith)
cleared_from_agrees (b ∷ g) (x ∷ xs) [] l a = absurd (omega arith)
cleared_from_agrees (true ∷ g) (x ∷ xs) (y ∷ ys) l a =
    ap₂ ◌∷◌ (eqb-true x y (and_parts (eqb x y) (agrees g xs ys) a).0) (cleared_from_agrees g xs ys (omega arith) (and_parts (eqb x y) (agrees g xs ys) a).1)
cleared_from_agrees (false ∷ g) (x ∷ xs) (y ∷ ys) l a = ap (λ z. 0 ∷ z) (cleared_from_agrees g xs ys (omega arith) a)

pub agrees_own : (g : Group) (xs : List ℕ) → agrees g xs (cleared g xs) ≡ true
agrees_own [] xs = refl
agrees_own (b ∷ g) [] = refl
agrees_own (true ∷ g) (x ∷ xs) = rw (eq-eqb x x refl) (agrees_own g xs)
agrees_own (false ∷ g) (x ∷ xs) = agrees_own g xs

-- coordinates agree with their parent's block
pub agrees_parent : (g : Group) (xs : List ℕ) (e k : ℕ) → keeps g e ≡ false → agrees g xs (set (cleared g xs) e k) ≡ true
agrees_parent [] xs e k lacks = refl
agrees_parent (b ∷ g) [] e k lacks = refl
agrees_parent (true ∷ g) (x ∷ xs) zero k lacks = absurd (true≢false lacks)
agrees_parent (false ∷ g) (x ∷ xs) zero k lacks = agrees_own g xs
agrees_parent (true ∷ g) (x ∷ xs) (suc e) k lacks = rw (eq-eqb x x refl) (agrees_parent g xs e k lacks)
agrees_parent (false ∷ g) (x ∷ xs) (suc e) k lacks = agrees_parent g xs e k lacks

pub length-cleared : (g : Group) (xs : List ℕ) → length g ≡ length xs → length (cleared g xs) ≡ length xs
length-cleared [] [] l = refl
length-cleared [] (x ∷ xs) l = absurd (omega arith)
length-cleared (b ∷ g) [] l = refl
length-cleared (b ∷ g) (x ∷ xs) l = ap suc (length-cleared g xs (omega arith))

-- a block's coordinate in a kept dimension
pub below_added : (h : Group) (ks cs : List ℕ) (e : ℕ) → e < length h → e < length ks → Below (radix (set h e true) ks) cs → get_or cs e 0 < get_or ks e 0
below_added [] ks cs e lh lk b = absurd (omega arith)
below_added (f ∷ h) [] cs e lh lk b = absurd (omega arith)
below_added (f ∷ h) (k ∷ ks) [] zero lh lk b = absurd b
below_added (f ∷ h) (k ∷ ks) [] (suc e) lh lk b = absurd b
below_added (f ∷ h) (k ∷ ks) (c ∷ cs) zero lh lk b = b.0
below_added (f ∷ h) (k ∷ ks) (c ∷ cs) (suc e) lh lk b = below_added h ks cs e (omega arith) (omega arith) b.1

-- fewer dimensions are kept
below_cleared_own : (h : Group) (ks cs : List ℕ) → Below (radix h ks) cs → Below (radix h ks) (cleared h cs)
below_cleared_own h ks cs b = rw (cleared_below h ks cs b) b

pub below_fewer : (h : Group) (ks cs : List ℕ) (e : ℕ) → Below (radix (set h e true) ks) cs → Below (radix h ks) (cleared h cs)
below_fewer [] ks cs e b = tt
below_fewer (f ∷ h) [] [] e b = tt
below_fewer (f ∷ h) [] (c ∷ cs) zero b = absurd b
below_fewer (f ∷ h) [] (c ∷ cs) (suc e) b = absurd b
below_fewer (f ∷ h) (k ∷ ks) [] zero b = absurd b
below_fewer (f ∷ h) (k ∷ ks) [] (suc e) b = absurd b
below_fewer (true ∷ h) (k ∷ ks) (c ∷ cs) zero b = (b.0, below_cleared_own h ks cs b.1)
below_fewer (false ∷ h) (k ∷ ks) (c ∷ cs) zero b = (omega arith, below_cleared_own h ks cs b.1)
below_fewer (true ∷ h) (k ∷ ks) (c ∷ cs) (suc e) b = (b.0, below_fewer h ks cs e b.1)
below_fewer (false ∷ h) (k ∷ ks) (c ∷ cs) (suc e) b = (omega arith, below_fewer h ks cs e b.1)

pub getD_radix : (h : Group) (ks : List ℕ) (e d : ℕ) → e < length h → e < length ks → get_or (radix (set h e true) ks) e d ≡ get_or ks e d
getD_radix [] ks e d lh lk = absurd (omega arith)
getD_radix (f ∷ h) [] e d lh lk = absurd (omega arith)
getD_radix (f ∷ h) (k ∷ ks) zero d lh lk = refl
getD_radix (f ∷ h) (k ∷ ks) (suc e) d lh lk = getD_radix h ks e d (omega arith) (omega arith)

-- a block's coordinates are coordinates: each radix is positive
pub below_edges : (ds : List Dim) (g : Group) (ls : List ℕ) → Divided ds → length g ≡ length ds → Below (radix g (edges ds)) ls → Below (edges ds) ls
below_edges [] [] ls divided l b = b
below_edges [] (f ∷ g) ls divided l b = absurd (omega arith)
below_edges (d ∷ ds) [] ls divided l b = absurd (omega arith)
below_edges (d ∷ ds) (f ∷ g) [] divided l b = absurd b
below_edges (d ∷ ds) (true ∷ g) (m ∷ ms) divided l b = (b.0, below_edges ds g ms divided.1 (omega arith) b.1)
below_edges (d ∷ ds) (false ∷ g) (m ∷ ms) divided l b = (omega (arith, b.0, divided.0), below_edges ds g ms divided.1 (omega arith) b.1)

-- the cells of cleared blocks
pub cell_cleared : (ds : List Dim) (h : Group) (x : List ℕ) → length h ≡ length ds → length x ≡ length ds
    → cell_at ds (cleared h (chunk_of ds x)) (cleared h (local_of ds x)) ≡ cleared h x
cell_cleared [] [] x lh lx = refl
cell_cleared [] (f ∷ h) x lh lx = absurd (omega arith)
cell_cleared (d ∷ ds) [] x lh lx = absurd (omega arith)
cell_cleared (d ∷ ds) (f ∷ h) [] lh lx = absurd (omega arith)
cell_cleared (d ∷ ds) (true ∷ h) (x ∷ xs) lh lx = ap₂ ◌∷◌ (div-add-mod' x d.edge) (cell_cleared ds h xs (omega arith) (omega arith))
cell_cleared (d ∷ ds) (false ∷ h) (x ∷ xs) lh lx = ap₂ ◌∷◌ (omega arith) (cell_cleared ds h xs (omega arith) (omega arith))

pub cell_parent : (ds : List Dim) (h : Group) (x : List ℕ) (e k l : ℕ) → length h ≡ length ds → length x ≡ length ds → e < length ds
    → cell_at ds (set (cleared h (chunk_of ds x)) e k) (set (cleared h (local_of ds x)) e l) ≡ cleared (set h e true) (set x e (k * (dim ds e).edge + l))
cell_parent [] h x e k l lh lx le = absurd (omega arith)
cell_parent (d ∷ ds) [] x e k l lh lx le = absurd (omega arith)
cell_parent (d ∷ ds) (f ∷ h) [] e k l lh lx le = absurd (omega arith)
cell_parent (d ∷ ds) (f ∷ h) (x ∷ xs) zero k l lh lx le = ap (λ z. (k * d.edge + l) ∷ z) (cell_cleared ds h xs (omega arith) (omega arith))
cell_parent (d ∷ ds) (true ∷ h) (x ∷ xs) (suc e) k l lh lx le =
    ap₂ ◌∷◌ (div-add-mod' x d.edge) (cell_parent ds h xs e k l (omega arith) (omega arith) (omega arith))
cell_parent (d ∷ ds) (false ∷ h) (x ∷ xs) (suc e) k l lh lx le = ap₂ ◌∷◌ (omega arith) (cell_parent ds h xs e k l (omega arith) (omega arith) (omega arith))

pub radix_all : (ks : List ℕ) (n : ℕ) → length ks ≡ n → radix (replicate n true) ks ≡ ks
radix_all [] zero l = refl
radix_all [] (suc n) l = refl
radix_all (k ∷ ks) zero l = absurd (omega arith)
radix_all (k ∷ ks) (suc n) l = ap (λ z. k ∷ z) (radix_all ks n (omega arith))

pub below_counts : (ds : List Dim) (g : Group) (cs : List ℕ) → Divided ds → length g ≡ length ds → Below (radix g (counts ds)) cs → Below (counts ds) cs
below_counts [] [] cs divided l b = b
below_counts [] (f ∷ g) cs divided l b = absurd (omega arith)
below_counts (d ∷ ds) [] cs divided l b = absurd (omega arith)
below_counts (d ∷ ds) (f ∷ g) [] divided l b = absurd b
below_counts (d ∷ ds) (true ∷ g) (c ∷ cs) divided l b = (b.0, below_counts ds g cs divided.1 (omega arith) b.1)
below_counts (d ∷ ds) (false ∷ g) (c ∷ cs) divided l b =
    (omega (arith, b.0, le-div 1 d.size d.edge divided.0.0 (omega (arith, divided.0.1))), below_counts ds g cs divided.1 (omega arith) b.1)

-- each dimension has a chunk
pub divided_edged : (ds : List Dim) → Divided ds → Edged ds
divided_edged [] divided = tt
divided_edged (d ∷ ds) divided = ((divided.0.0, divided.0.1), divided_edged ds divided.1)

pub chunks_positive : (ds : List Dim) (i : ℕ) → Edged ds → i < length ds → 0 < chunks (dim ds i)
chunks_positive [] i edged l = absurd (omega arith)
chunks_positive (d ∷ ds) zero edged l = le-div 1 d.size d.edge edged.0.0 (omega (arith, edged.0.1))
chunks_positive (d ∷ ds) (suc i) edged l = chunks_positive ds i edged.1 (omega arith)

pub radix_positive : (ds : List Dim) (g : Group) (i : ℕ) → Edged ds → 0 < get_or (radix g (counts ds)) i 1
radix_positive [] [] i edged = omega arith
radix_positive [] (b ∷ g) i edged = omega arith
radix_positive (d ∷ ds) [] i edged = omega arith
radix_positive (d ∷ ds) (true ∷ g) zero edged = chunks_positive (d ∷ ds) 0 edged (omega arith)
radix_positive (d ∷ ds) (false ∷ g) zero edged = omega arith
radix_positive (d ∷ ds) (b ∷ g) (suc i) edged = radix_positive ds g i edged.1
