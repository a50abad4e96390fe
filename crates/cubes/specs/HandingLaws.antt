-- What is proved of the handing order, for every order of the dimensions, every choice of parents and every list of groups with their parents. Assumes nothing.
use Rattle.std.specs.Prelude.{◌≡◌, ℕ, suc, ◌+◌, ◌*◌, ◌<◌, ◌≤◌, true, cond, ◌↔◌, List, [], ◌∷◌, ◌++◌, map, length, sum, filter, ◌≢◌}
use Rattle.std.specs.List.{flat_map, ContainsAt as Has, AllByRecursion}
use Rattle.shapes.specs.declared.dims.Dim.{Dim}
use Rattle.shapes.specs.Arrays.{Group, Below, product, number, radix, only, edges, counts, total_chunks, agrees, groups, root}
use Rattle.plans.specs.Plans.{Edged, Order, Parents, cells, need, others}
use Rattle.cubes.specs.Summaries.{Divided}
use Rattle.cubes.specs.Scans.{scan_number, scan_digits, Highest}
use Rattle.cubes.specs.Handing.{Block, parent, children, blocks, completes, region, region_blocks, release, released_by, handing, named, of_group, blocks_of, Distinct, block_count, Scan}

-- all groups, with any choice of parents, are the groups of a scan
abbrev pub LatticeIsScanned : Type 0
LatticeIsScanned = (ds : List Dim) (place : ℕ → ℕ) (adds : Group → ℕ) → Edged ds → Order ds place → Parents ds adds → Scan ds place adds (groups (length ds))

-- a group's blocks are numbered in scan order: each list of chunk coordinates has its scan number, and each number below the number of blocks its coordinates
abbrev pub ScanNumbers : Type 0
ScanNumbers = (ds : List Dim) (place : ℕ → ℕ) → Edged ds → Order ds place → (g : Group) → length g ≡ length ds
    → ((c : List ℕ) → Below (radix g (counts ds)) c
    → (scan_number place (radix g (counts ds)) c < product (radix g (counts ds)))
    × (scan_digits place (radix g (counts ds)) (scan_number place (radix g (counts ds)) c) ≡ c))
    × ((s : ℕ) → s < product (radix g (counts ds))
    → Below (radix g (counts ds)) (scan_digits place (radix g (counts ds)) s)
    × (scan_number place (radix g (counts ds)) (scan_digits place (radix g (counts ds)) s) ≡ s))

-- the count of levels cuts nothing off: a release hands out each block, and then releases each child whose region the block completes
abbrev pub ReleaseIsWhole : Type 0
ReleaseIsWhole = (ds : List Dim) (place : ℕ → ℕ) (adds : Group → ℕ) (all : List Group) → Scan ds place adds all → (g : Group) (bs : List (List ℕ)) → Has all g
    → release ds place adds all (suc (length ds)) g bs
    ≡ flat_map (λ b. record { of = g; at = b }
    ∷ flat_map (λ h. cond (completes ds place adds h b) (release ds place adds all (suc (length ds)) h (region ds place adds h b)) []) (children adds all g)) bs

-- a block of its parent completes a group's region if it is highest up to the place of the dimension that the group lacks
abbrev pub Completion : Type 0
Completion = (ds : List Dim) (place : ℕ → ℕ) (adds : Group → ℕ) (h : Group) (b : List ℕ) → (completes ds place adds h b ≡ true) ↔ Highest ds place h (adds h) b

-- each group's blocks are handed out in scan order, and each once
abbrev pub InScanOrder : Type 0
InScanOrder = (ds : List Dim) (place : ℕ → ℕ) (adds : Group → ℕ) (all : List Group) → Scan ds place adds all
    → (h : Group) → Has all h → filter (of_group h) (handing ds place adds all) ≡ blocks_of ds place h

-- what is handed out are blocks of the groups
abbrev pub BlocksOfGroups : Type 0
BlocksOfGroups = (ds : List Dim) (place : ℕ → ℕ) (adds : Group → ℕ) (all : List Group) → Scan ds place adds all
    → AllByRecursion (λ b. Has all b.of × Below (radix b.of (counts ds)) b.at) (handing ds place adds all)

-- no block is handed out twice, also as named by mask and block number
abbrev pub EachBlockOnce : Type 0
EachBlockOnce = (ds : List Dim) (place : ℕ → ℕ) (adds : Group → ℕ) (all : List Group) → Scan ds place adds all
    → Distinct (handing ds place adds all) × Distinct (map (named ds) (handing ds place adds all))

-- the block number of each block counts over the kept dimensions alone
abbrev pub NumbersOverKept : Type 0
NumbersOverKept = (ds : List Dim) (place : ℕ → ℕ) (adds : Group → ℕ) (all : List Group) → Scan ds place adds all
    → AllByRecursion (λ b. number (radix b.of (counts ds)) b.at ≡ number (only b.of (counts ds)) (only b.of b.at)) (handing ds place adds all)

-- there are as many blocks as the groups have, and of all groups the product of the chunk counts, each plus 1
pub record HowManyBlocks : Type 0 where
  pub by_group : (ds : List Dim) (place : ℕ → ℕ) (adds : Group → ℕ) (all : List Group) → Scan ds place adds all
      → length (handing ds place adds all) ≡ sum (map (λ h. product (radix h (counts ds))) all)
  pub of_all_groups : (ds : List Dim) (place : ℕ → ℕ) (adds : Group → ℕ) → Edged ds → Order ds place → Parents ds adds
      → length (handing ds place adds (groups (length ds))) ≡ block_count ds

-- what the first t chunks release is a front of the handing order
abbrev pub ReleasedIsFront : Type 0
ReleasedIsFront = (ds : List Dim) (place : ℕ → ℕ) (adds : Group → ℕ) (all : List Group) (t : ℕ) → t ≤ total_chunks ds
    → (rest : List Block) × (handing ds place adds all ≡ released_by ds place adds all t ++ rest)

-- when a block is handed out, all chunks beneath it have been passed: those that agree with it in the kept dimensions
abbrev pub ChunksPassed : Type 0
ChunksPassed = (ds : List Dim) (place : ℕ → ℕ) (adds : Group → ℕ) (all : List Group) → Scan ds place adds all → (t : ℕ) → t ≤ total_chunks ds
    → AllByRecursion (λ b. (c : List ℕ) → Below (counts ds) c → agrees b.of b.at c ≡ true → scan_number place (counts ds) c < t) (released_by ds place adds all t)

-- each region of a group has as many blocks and, times the cells of one, the cells that the plan counts for the group;
-- so the need is the cells of the root's block and those of one region of every other group
pub record RegionCells : Type 0 where
  pub each : (ds : List Dim) (place : ℕ → ℕ) (adds : Group → ℕ) (all : List Group) → Divided ds → Scan ds place adds all
      → (h : Group) → Has all h → (h ≢ root (length ds))
      → AllByRecursion (λ b. (length (region ds place adds h b) ≡ region_blocks ds place adds h)
      × (length (region ds place adds h b) * product (radix h (edges ds)) ≡ cells ds place h (adds h))) (blocks ds place (parent adds h))
  pub together : (ds : List Dim) (place : ℕ → ℕ) (adds : Group → ℕ) → Divided ds → Order ds place → Parents ds adds
      → need ds place adds
      ≡ product (radix (root (length ds)) (edges ds)) + sum (map (λ h. region_blocks ds place adds h * product (radix h (edges ds))) (others ds))
