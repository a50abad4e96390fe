-- What the regions hold from one block handed out to the next: begun, joined, complete, emptied, left as it was.
use Rattle.std.proofs.Common.{◌≡◌, ℕ, ◌+◌, ◌/◌, ◌^◌, ◌<◌, ◌≤◌, true, false, cond, List, [], length, get_or, set, sym, ap, ◌∙◌, subst, ap₂, arith}
use Rattle.std.specs.List.{ContainsAt as Has}
use Rattle.std.proofs.lemmas.List.{get_or_default, length-set}
use Rattle.shapes.specs.declared.dims.Dim.{Dim}
use Rattle.shapes.specs.Arrays.{Group, Below, radix, sizes, counts, keeps, group, root, chunk_of, cleared, agrees}
use Rattle.shapes.specs.Views.{six}
use Rattle.shapes.proofs.Masks.{length-group}
use Rattle.measures.specs.Laws.{Lawful}
use Rattle.sources.specs.Meanings.{Meaning}
use Rattle.cubes.specs.Summaries.{Divided, direct, contribution}
use Rattle.cubes.specs.Scans.{width, scan_number, InRegion}
use Rattle.cubes.specs.Handing.{Block, Scan, parent, region_blocks, handing}
use Rattle.cubes.specs.SummaryLaws.{parent_scan}
use Rattle.cubes.specs.Turns.{handed_of, next_group, regions_over}
use Rattle.cubes.specs.BetweenHands.{AtTurn, region_holds, BetweenHands}
use Rattle.cubes.proofs.Cells.{chunk_below, below_cleared}
use Rattle.cubes.proofs.Ranks.{rank_region}
use Rattle.cubes.proofs.RegionSteps.{getD_cleared}
use Rattle.cubes.proofs.Groups.{not_root_of}
use Rattle.cubes.proofs.Trees.{ChildOf, is_child, inside, lacks_keeps}
use Rattle.cubes.proofs.Complete.{of_a_group, scan_is, complete_when_handed}
use Rattle.cubes.proofs.RegionTurns.{share_is, period_is}
use Rattle.cubes.proofs.HandSteps.{between_hands}
use Rattle.runs.specs.declared.layouts.Layout.{Layout}
use Rattle.runs.specs.declared.layouts.Region.{Region}
use Rattle.runs.specs.Layouts.{lacked_place, mask_cells, mask_base, standing, cell_number}
use Rattle.runs.specs.Grids.{block_joined, LaidOut, RegionOf}
use Rattle.runs.specs.Contents.{CompleteBlock, RegionHeld, SameRegion, EmptyRegion}
use Rattle.runs.proofs.RegionBases.{other_lacks, other_cells, standing_within}
use Rattle.runs.proofs.BlockCells.{joins_at}
use Rattle.runs.proofs.BlockJoins.{joined_cells}

module _ {M : Type 0} (empty : M) (op : M → M → M) (lawful : Lawful empty op) (σ : Meaning M) (place : ℕ → ℕ) (adds : Group → ℕ) (all : List Group)
    (divided : Divided σ.dims) (S : Scan σ.dims place adds all) (m : ℕ) (other : m + 1 < 2 ^ length σ.dims) (has : Has all (group (length σ.dims) m)) where
  abbrev ds : List Dim
  ds = σ.dims

  abbrev h : Group
  h = group (length ds) m

  abbrev e : ℕ
  e = adds h

  lh : length h ≡ length ds
  lh = length-group (length ds) m

  not_root : h ≡ root (length ds) → ⊥
  not_root = not_root_of (length ds) m other

  child : ChildOf adds all h
  child = is_child ds place adds all S h has not_root

  le : e < length ds
  le = inside ds place adds all S h child

  lacks : keeps h e ≡ false
  lacks = lacks_keeps h e child.1

  between : BetweenHands empty op σ place adds all h
  between = between_hands empty op lawful σ place adds all divided S h has not_root

  -- a cell stands in its own region
  own_cell : (x : List ℕ) → Below (sizes ds) x
      → (mask_base ds place adds m ≤ standing ds place adds m x) × (standing ds place adds m x < mask_base ds place adds m + mask_cells ds place adds m)
  own_cell x b = standing_within ds place adds m x divided b

  -- what a region holds depends on its own cells alone
  pub held_kept : (i : ℕ) (s s' : List M) → SameRegion empty ds place adds m s s' → RegionHeld empty op σ place adds all m i s
      → RegionHeld empty op σ place adds all m i s'
  held_kept i s s' same held x b t = same (standing ds place adds m x) (own_cell x b).0 (own_cell x b).1 ∙ held x b t

  -- at the start the regions are empty
  pub held_start : (s : List M) → EmptyRegion empty ds place adds m s → RegionHeld empty op σ place adds all m 0 s
  held_start s none x b t = none (standing ds place adds m x) (own_cell x b).0 (own_cell x b).1 ∙ sym (between.start x)

  -- the turn of the region ends, and it was emptied: the next region begins
  pub held_emptied : (i : ℕ) (s : List M) → i < length (handing ds place adds all) → regions_over ds place adds all h (i + 1) ≡ regions_over ds place adds all h i + 1
      → EmptyRegion empty ds place adds m s → RegionHeld empty op σ place adds all m (i + 1) s
  held_emptied i s l ends none x b t = none (standing ds place adds m x) (own_cell x b).0 (own_cell x b).1 ∙ sym (between.emptied i l ends x b t)

  -- a block of another group than the parent is handed out, and the turn goes on
  pub held_stays : (i : ℕ) (s s' : List M) → i < length (handing ds place adds all) → (next_group ds place adds all i ≡ parent adds h → ⊥)
      → regions_over ds place adds all h (i + 1) ≡ regions_over ds place adds all h i → SameRegion empty ds place adds m s s'
      → RegionHeld empty op σ place adds all m i s → RegionHeld empty op σ place adds all m (i + 1) s'
  held_stays i s s' l ne goes_on same held x b t = same (standing ds place adds m x) (own_cell x b).0 (own_cell x b).1
      ∙ held x b (t ∙ goes_on) ∙ sym (between.stays i l ne x)

  -- the block that is handed out
  module _ (i : ℕ) (b : Block) (l : i < length (handing ds place adds all)) (is : get_or (handing ds place adds all) i b ≡ b) where
    -- of the group itself: its cells are the direct summaries
    pub held_block : (s : List M) → b.of ≡ h → RegionHeld empty op σ place adds all m i s → CompleteBlock empty op σ h b.at (standing ds place adds m) s
    held_block s of held x below_x at = held x below_x turn ∙ subst whole of (λ z. complete_when_handed empty op lawful σ place adds all divided S i b l is z x below_x) not_root at
      where
        whole : Group → Type 0
        whole g = (g ≡ root (length ds) → ⊥) → cleared g (chunk_of ds x) ≡ b.at → region_holds empty op σ place adds all g i x ≡ direct empty op σ g x

        turn : AtTurn ds place adds all h i x
        turn = ap (λ z. scan_number place (radix h (counts ds)) z / region_blocks ds place adds h) at
            ∙ ap (λ z. z / region_blocks ds place adds h) (subst (λ g. scan_number place (radix g (counts ds)) b.at ≡ handed_of ds place adds all g i) of (scan_is ds place adds all S i b l is))
            ∙ (between.turns.own i l (ap (λ c. c.of) (get_or_default (handing ds place adds all) i (record { of = []; at = [] }) b l ∙ is) ∙ of)).0

    module _ (of : b.of ≡ parent adds h) where
      next_is : next_group ds place adds all i ≡ parent adds h
      next_is = ap (λ c. c.of) (get_or_default (handing ds place adds all) i (record { of = []; at = [] }) b l ∙ is) ∙ of

      below_b : Below (radix (parent adds h) (counts ds)) b.at
      below_b = subst (λ g. Below (radix g (counts ds)) b.at) of (of_a_group ds place adds all S i b l is).1

      number : parent_scan ds place h e b.at ≡ handed_of ds place adds all (parent adds h) i
      number = subst (λ g. scan_number place (radix g (counts ds)) b.at ≡ handed_of ds place adds all g i) of (scan_is ds place adds all S i b l is)

      -- a block of the parent goes into the region that is at its turn
      pub turn_region : (x : List ℕ) → Below (sizes ds) x → AtTurn ds place adds all h i x → InRegion ds place h e b.at x
      turn_region x below_x turn j lj t q =
          sym (getD_cleared h (chunk_of ds x) j (rw lh lj) ∙ ap (λ z. cond z (get_or (chunk_of ds x) j 0) 0) t)
          ∙ rank_region ds place S.order h e lh le lacks (cleared h (chunk_of ds x)) b.at (below_cleared h (counts ds) (chunk_of ds x) (chunk_below ds x divided below_x)) below_b ranks j lj t q
        where
          ranks : scan_number place (radix h (counts ds)) (cleared h (chunk_of ds x)) / width place (radix h (counts ds)) (place e + 1)
              ≡ scan_number place (radix (set h e true) (counts ds)) b.at / width place (radix (set h e true) (counts ds)) (place e + 1)
          ranks = ap (λ z. scan_number place (radix h (counts ds)) (cleared h (chunk_of ds x)) / z) (sym (share_is ds place adds all S h child))
              ∙ turn ∙ sym (between.turns.joined i l next_is).0
              ∙ ap₂ ◌/◌ (sym number) (period_is ds place adds all S h child)

      -- the block is joined: the region holds what one block more of the parent contributes
      module _ (y : Layout) (laid : LaidOut ds place y) (mp : ℕ) (up : group (length ds) mp ≡ parent adds h) (r u : Region) (c6 : List ℕ) (padded : c6 ≡ six 0 b.at)
          (of_r : RegionOf ds (group (length ds) mp) (mask_base ds place adds mp) (lacked_place ds place adds mp) r)
          (of_u : RegionOf ds h (mask_base ds place adds m) (lacked_place ds place adds m) u) where
        pub held_joined : (s s' : List M) → mask_base ds place adds m + mask_cells ds place adds m ≤ length s
            → CompleteBlock empty op σ (group (length ds) mp) b.at (standing ds place adds mp) s
            → SameRegion empty ds place adds m (block_joined empty op s y r u c6) s'
            → RegionHeld empty op σ place adds all m i s → RegionHeld empty op σ place adds all m (i + 1) s'
        held_joined s s' fits whole same held x below_x turn =
            same (standing ds place adds m x) (own_cell x below_x).0 (own_cell x below_x).1
            ∙ ap (λ z. get_or (block_joined empty op s y r u c6) z empty) (stands x)
            ∙ joined_cells empty op lawful ds place S.order divided h e lh le lacks (mask_base ds place adds m) (mask_base ds place adds mp) (lacked_place ds place adds mp)
            b.at below_b s (block_joined empty op s y r u c6) (omega (arith, fits, other_cells ds place adds m other))
            (joins_at ds place divided y laid (set h e true) (length-set h e true ∙ lh) b.at c6 below_b padded (mask_base ds place adds mp) (lacked_place ds place adds mp) r
            (subst (λ g. RegionOf ds g (mask_base ds place adds mp) (lacked_place ds place adds mp) r) up of_r) empty s op lawful σ.chunk h lh (mask_base ds place adds m) (place e) u
            (subst (λ p. RegionOf ds h (mask_base ds place adds m) p u) (other_lacks ds place adds m other) of_u))
            σ.chunk (subst (λ g. CompleteBlock empty op σ g b.at (λ z. mask_base ds place adds mp + cell_number ds place g (lacked_place ds place adds mp) z) s) up whole)
            x below_x (turn_region x below_x before)
            ∙ ap (λ z. cond (agrees h (chunk_of ds x) b.at) (op z (contribution empty op σ h e x (get_or b.at e 0))) z)
            (ap (λ z. get_or s z empty) (sym (stands x)) ∙ held x below_x before)
            ∙ sym (between.joined i b l is of x below_x)
          where
            before : AtTurn ds place adds all h i x
            before = turn ∙ (between.turns.joined i l next_is).1

            stands : (x : List ℕ) → standing ds place adds m x ≡ mask_base ds place adds m + cell_number ds place h (place e) x
            stands x = ap (λ p. mask_base ds place adds m + cell_number ds place h p x) (other_lacks ds place adds m other)
