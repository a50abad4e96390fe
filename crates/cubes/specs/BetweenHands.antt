-- What the region of each group holds between two hands, for a measure and whatever the source means. Assumes nothing.
use Rattle.std.specs.Prelude.{◌≡◌, ℕ, ◌+◌, ◌*◌, ◌/◌, ◌<◌, true, cond, List, length, ◌≢◌, slice_index, slice_index_or}
use Rattle.std.specs.List.{ContainsAt as Has}
use Rattle.shapes.specs.declared.dims.Dim.{Dim}
use Rattle.shapes.specs.Arrays.{Group, Below, radix, sizes, counts, chunk_of, agrees, cleared, root}
use Rattle.sources.specs.Meanings.{Meaning}
use Rattle.cubes.specs.Summaries.{Divided, direct, contribution}
use Rattle.cubes.specs.Scans.{scan_number}
use Rattle.cubes.specs.Handing.{Block, parent, region_blocks, handing, Scan}
use Rattle.cubes.specs.Turns.{handed_of, next_group, regions_over, parent_blocks, in_release, Turns}
use Rattle.cubes.specs.SummaryLaws.{held}

-- the cell x of h lies in the region that is at its turn after the first i blocks
abbrev pub AtTurn : List Dim → (ℕ → ℕ) → (Group → ℕ) → List Group → Group → ℕ → List ℕ → Type 0
AtTurn ds place adds all h i x =
    scan_number place (radix h (counts ds)) (cleared h (chunk_of ds x)) / region_blocks ds place adds h ≡ regions_over ds place adds all h i

-- what that cell holds then: what the blocks of h's parent among the first i contribute
abbrev pub region_holds : {M : Type 0} → M → (M → M → M) → Meaning M → (ℕ → ℕ) → (Group → ℕ) → List Group → Group → ℕ → List ℕ → M
region_holds empty op σ place adds all h i x = held empty op σ place h (adds h) x (handed_of σ.dims place adds all (parent adds h) i)

-- from one block handed out to the next, for a group h that has a parent
pub record BetweenHands {M : Type 0} (empty : M) (op : M → M → M) (σ : Meaning M) (place : ℕ → ℕ) (adds : Group → ℕ) (all : List Group) (h : Group) : Type 0 where
  -- the regions have their turns one after another
  pub turns : Turns σ.dims place adds all h
  -- fresh: while no block of the parent has gone into the region at its turn it is empty, and so it is at the start
  pub start : (x : List ℕ) → region_holds empty op σ place adds all h 0 x ≡ empty
  pub fresh : (i : ℕ) (x : List ℕ) → Below (sizes σ.dims) x → AtTurn σ.dims place adds all h i x
      → handed_of σ.dims place adds all (parent adds h) i ≡ regions_over σ.dims place adds all h i * parent_blocks σ.dims place adds h
      → region_holds empty op σ place adds all h i x ≡ empty
  -- joined: a block b of the parent is handed out; each cell that agrees with it gets what it contributes, and the others stay
  pub joined : (i : ℕ) (b : Block) → i < length (handing σ.dims place adds all) → slice_index_or (handing σ.dims place adds all) i b ≡ b → b.of ≡ parent adds h
      → (x : List ℕ) → Below (sizes σ.dims) x
      → region_holds empty op σ place adds all h (i + 1) x
      ≡ cond (agrees h (chunk_of σ.dims x) b.at)
      (op (region_holds empty op σ place adds all h i x) (contribution empty op σ h (adds h) x (slice_index b.at (adds h))))
      (region_holds empty op σ place adds all h i x)
  -- any other block leaves it
  pub stays : (i : ℕ) → i < length (handing σ.dims place adds all) → (next_group σ.dims place adds all i ≢ parent adds h)
      → (x : List ℕ) → region_holds empty op σ place adds all h (i + 1) x ≡ region_holds empty op σ place adds all h i x
  -- complete: while the region is released, each of its cells is the direct summary
  pub complete : (i : ℕ) → in_release σ.dims adds h (next_group σ.dims place adds all i) ≡ true
      → (x : List ℕ) → Below (sizes σ.dims) x → AtTurn σ.dims place adds all h i x → region_holds empty op σ place adds all h i x ≡ direct empty op σ h x
  -- emptied: where the turn ends, the next region begins empty
  pub emptied : (i : ℕ) → i < length (handing σ.dims place adds all) → regions_over σ.dims place adds all h (i + 1)
      ≡ regions_over σ.dims place adds all h i + 1
      → (x : List ℕ) → Below (sizes σ.dims) x → AtTurn σ.dims place adds all h (i + 1) x → region_holds empty op σ place adds all h (i + 1) x ≡ empty

abbrev pub RegionsBetweenHands : {M : Type 0} → M → (M → M → M) → Type 0
RegionsBetweenHands {M} empty op = (σ : Meaning M) (place : ℕ → ℕ) (adds : Group → ℕ) (all : List Group) → Divided σ.dims → Scan σ.dims place adds all
    → (h : Group) → Has all h → (h ≢ root (length σ.dims)) → BetweenHands empty op σ place adds all h
