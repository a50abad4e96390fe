-- The handing order: which blocks the scan hands out, and in which order. Assumes nothing.
-- place gives each dimension its place, from 1. adds gives for each group but the root the dimension that its parent has more.
-- all lists the groups by rising mask: each once, and with each group but the root its parent.
use Rattle.std.specs.Prelude.{◌≡◌, ℕ, zero, suc, ◌+◌, ◌<◌, Bool, true, false, cond, not, ◌&&◌, ◌||◌, List, [], ◌∷◌, map, length, filter, ◌==◌, ◌≢◌, nat_le, nat_lt, slice_index, slice_index_or, slice_set}
use Rattle.std.specs.List.{range_with_len, flat_map, ContainsAt as Has, AllByRecursion}
use Rattle.shapes.specs.declared.dims.Dim.{Dim}
use Rattle.shapes.specs.Arrays.{Group, product, number, radix, counts, chunks, total_chunks, dim, keeps, mask, root}
use Rattle.plans.specs.Plans.{Edged, Lacks, Order}
use Rattle.cubes.specs.Scans.{scan_digits}

-- a block of a group: its chunk coordinates by dimension number, 0 in each dropped dimension
pub record Block : Type 0 where
  pub of : Group
  pub at : List ℕ

-- whether two groups keep the same dimensions
abbrev pub same_group : Group → Group → Bool
same_group [] [] = true
same_group [] (b ∷ h) = false
same_group (a ∷ g) [] = false
same_group (a ∷ g) (b ∷ h) = cond a b (not b) && same_group g h

-- the dimension is there, and the group does not keep it
abbrev pub lacks : Group → ℕ → Bool
lacks h e = not (slice_index_or h e true)

-- the parent of a group has one dimension more
abbrev pub parent : (Group → ℕ) → Group → Group
parent adds h = slice_set h (adds h) true

-- h is a child of g: g is its parent
abbrev pub child : (Group → ℕ) → Group → Group → Bool
child adds g h = lacks h (adds h) && same_group (parent adds h) g

-- the children of a group, by rising mask
abbrev pub children : (Group → ℕ) → List Group → Group → List Group
children adds all g = filter (child adds g) all

-- the blocks of a group in scan order, by their chunk coordinates
abbrev pub blocks : List Dim → (ℕ → ℕ) → Group → List (List ℕ)
blocks ds place h = map (scan_digits place (radix h (counts ds))) (range_with_len 0 (product (radix h (counts ds))))

-- the test holds of each number below n
abbrev pub each_below : ℕ → (ℕ → Bool) → Bool
each_below zero test = true
each_below (suc n) test = each_below n test && test n

-- a block b of h's parent completes h's region: it has the highest chunk coordinate in each of its own dimensions up to the place of the one that h lacks,
-- that one included
abbrev pub completes : List Dim → (ℕ → ℕ) → (Group → ℕ) → Group → List ℕ → Bool
completes ds place adds h b =
    each_below (length ds) (λ i. not (keeps (parent adds h) i && nat_le (place i) (place (adds h))) || slice_index b i + 1 == chunks (dim ds i))

-- two blocks agree at all places later than that of e
abbrev pub later_agree : List Dim → (ℕ → ℕ) → ℕ → List ℕ → List ℕ → Bool
later_agree ds place e b c = each_below (length ds) (λ i. not (nat_lt (place e) (place i)) || slice_index b i == slice_index c i)

-- h's region at a block b of its parent: those of h's blocks, in scan order, that agree with b at all later places
abbrev pub region : List Dim → (ℕ → ℕ) → (Group → ℕ) → Group → List ℕ → List (List ℕ)
region ds place adds h b = filter (later_agree ds place (adds h) b) (blocks ds place h)

-- how many blocks a region of h has: those of the region at the parent's first block
abbrev pub region_blocks : List Dim → (ℕ → ℕ) → (Group → ℕ) → Group → ℕ
region_blocks ds place adds h = length (region ds place adds h (scan_digits place (radix (parent adds h) (counts ds)) 0))

-- to release a group goes through the blocks of its region: each is handed out, and then each child whose region it completes is released, by rising mask.
-- A child has a dimension less, so there are at most as many levels below a group as it keeps dimensions.
unfoldable pub release : List Dim → (ℕ → ℕ) → (Group → ℕ) → List Group → ℕ → Group → List (List ℕ) → List Block
release ds place adds all zero g bs = []
release ds place adds all (suc levels) g bs =
    flat_map (λ b. record { of = g; at = b }
    ∷ flat_map (λ h. cond (completes ds place adds h b) (release ds place adds all levels h (region ds place adds h b)) []) (children adds all g)) bs

-- what the release of the root hands out after the chunk of scan number s
abbrev pub release_of : List Dim → (ℕ → ℕ) → (Group → ℕ) → List Group → ℕ → List Block
release_of ds place adds all s = release ds place adds all (suc (length ds)) (root (length ds)) (scan_digits place (counts ds) s ∷ [])

-- what the first t chunks release
abbrev pub released_by : List Dim → (ℕ → ℕ) → (Group → ℕ) → List Group → ℕ → List Block
released_by ds place adds all t = flat_map (release_of ds place adds all) (range_with_len 0 t)

-- how many blocks the first t chunks release
abbrev pub released : List Dim → (ℕ → ℕ) → (Group → ℕ) → List Group → ℕ → ℕ
released ds place adds all t = length (released_by ds place adds all t)

-- the handing order: what all chunks release, in scan order
abbrev pub handing : List Dim → (ℕ → ℕ) → (Group → ℕ) → List Group → List Block
handing ds place adds all = released_by ds place adds all (total_chunks ds)

-- after t chunks a block waits while they release more blocks than were handed out
abbrev pub Waits : List Dim → (ℕ → ℕ) → (Group → ℕ) → List Group → ℕ → ℕ → Type 0
Waits ds place adds all t handed = handed < released ds place adds all t

-- a block by the mask of its group and its block number
abbrev pub named : List Dim → Block → ℕ × ℕ
named ds b = (mask b.of, number (radix b.of (counts ds)) b.at)

-- whether a block is of the group h
abbrev pub of_group : Group → Block → Bool
of_group h b = same_group b.of h

-- the blocks of a group, in scan order
abbrev pub blocks_of : List Dim → (ℕ → ℕ) → Group → List Block
blocks_of ds place h = map (λ c. record { of = h; at = c }) (blocks ds place h)

-- how many blocks of a group a list has
abbrev pub tally : List Block → Group → ℕ
tally xs h = length (filter (of_group h) xs)

-- no two elements are the same
abbrev pub Distinct : {X : Type 0} → List X → Type 0
Distinct [] = Unit {0}
Distinct (x ∷ xs) = AllByRecursion (λ y. y ≢ x) xs × Distinct xs

-- the blocks of all groups of all dimensions: the product of the chunk counts, each plus 1
abbrev pub block_count : List Dim → ℕ
block_count ds = product (map (λ d. chunks d + 1) ds)

-- the groups of a scan: each once, the root among them, and with each other group its parent, which adds a dimension that the group lacks
pub record Grouped (ds : List Dim) (adds : Group → ℕ) (all : List Group) : Type 0 where
  pub sized : AllByRecursion (λ h. length h ≡ length ds) all
  pub once : Distinct all
  pub has_root : Has all (root (length ds))
  pub lacking : (h : Group) → Has all h → (h ≢ root (length ds)) → Lacks ds h (adds h)
  pub has_parent : (h : Group) → Has all h → (h ≢ root (length ds)) → Has all (parent adds h)

-- a scan: dimensions whose edges are 1 to the size, an order of them, and the groups that are summarised with a choice of their parents
pub record Scan (ds : List Dim) (place : ℕ → ℕ) (adds : Group → ℕ) (all : List Group) : Type 0 where
  pub edged : Edged ds
  pub order : Order ds place
  pub grouped : Grouped ds adds all
