-- A block handed out: what the regions of all groups but the root hold afterwards.
use Rattle.std.proofs.Common.{◌≡◌, ℕ, ◌+◌, ◌^◌, ◌<◌, ◌≤◌, Bool, true, false, cond, not, ◌&&◌, ◌⊎◌, List, [], length, get_or, sym, refl, ap, ◌∙◌, subst, inl, inr, arith}
use Rattle.std.specs.List.{ContainsAt as Has}
use Rattle.std.proofs.lemmas.List.{get_or_default, length-set}
use Rattle.std.proofs.lemmas.Bool.{cases_eq}
use Rattle.shapes.specs.declared.dims.Dim.{Dim}
use Rattle.shapes.specs.Arrays.{Group, Below, radix, volume, counts, keeps, mask, group, groups}
use Rattle.shapes.specs.Views.{six}
use Rattle.shapes.proofs.Masks.{length-group, mask-group}
use Rattle.measures.specs.Laws.{Lawful}
use Rattle.sources.specs.Meanings.{Meaning}
use Rattle.plans.specs.Plans.{need}
use Rattle.cubes.specs.Summaries.{Divided}
use Rattle.cubes.specs.Handing.{Block, Scan, parent, handing}
use Rattle.cubes.specs.Turns.{next_group, regions_over, in_release}
use Rattle.cubes.proofs.Groups.{groups_have, not_root_of, mask_back}
use Rattle.cubes.proofs.Trees.{is_child, lacks_keeps}
use Rattle.cubes.proofs.Complete.{of_a_group}
use Rattle.cubes.proofs.HandSteps.{between_hands}
use Rattle.runs.specs.declared.layouts.Layout.{Layout}
use Rattle.runs.specs.Grids.{LaidOut, Bases, region_by, children_joined}
use Rattle.runs.specs.Layouts.{standing}
use Rattle.runs.specs.Contents.{CompleteBlock, RegionHeld, SameRegion, EmptyRegion}
use Rattle.runs.proofs.RegionBases.{region_within}
use Rattle.runs.proofs.HeldRegions.{held_emptied, held_stays, held_joined}
use Rattle.runs.proofs.BlockSteps.{region_here}
use Rattle.runs.proofs.ChildSteps.{child_joined, other_kept}

module _ {M : Type 0} (empty : M) (op : M → M → M) (lawful : Lawful empty op) (σ : Meaning M) (place : ℕ → ℕ) (adds : Group → ℕ) (divided : Divided σ.dims)
    (S : Scan σ.dims place adds (groups (length σ.dims))) (y : Layout) (laid : LaidOut σ.dims place y) (table : List ℕ) (root : ℕ)
    (is_root : root + 1 ≡ 2 ^ length σ.dims)
    (adding : (m : ℕ) → m < root → (get_or table m 0 ≡ adds (group (length σ.dims) m)) × (get_or table m 0 < length σ.dims))
    (bases : List ℕ) (based : Bases y table root (volume σ.dims) bases) where
  abbrev ds : List Dim
  ds = σ.dims

  abbrev n : ℕ
  n = length ds

  abbrev all : List Group
  all = groups n

  has : (m : ℕ) → Has all (group n m)
  has m = groups_have n (group n m) (length-group n m)

  lacking : (m : ℕ) → m < root → keeps (group n m) (adds (group n m)) ≡ false
  lacking m l = lacks_keeps (group n m) (adds (group n m)) (is_child ds place adds all S (group n m) (has m) (not_root_of n m (omega arith))).1

  -- a turn goes on or ends
  turn : (m i : ℕ) → m < root → i < length (handing ds place adds all)
      → (regions_over ds place adds all (group n m) (i + 1) ≡ regions_over ds place adds all (group n m) i) ⊎ (regions_over ds place adds all (group n m) (i + 1) ≡ regions_over ds place adds all (group n m) i + 1)
  turn m i l li = by (in_release ds adds (group n m) (next_group ds place adds all i) && not (in_release ds adds (group n m) (next_group ds place adds all (i + 1))))
      ((between_hands empty op lawful σ place adds all divided S (group n m) (has m) (not_root_of n m (omega arith))).turns.ends i li)
    where
      over : ℕ
      over = regions_over ds place adds all (group n m) i

      by : (b : Bool) → regions_over ds place adds all (group n m) (i + 1) ≡ over + cond b 1 0
          → (regions_over ds place adds all (group n m) (i + 1) ≡ over) ⊎ (regions_over ds place adds all (group n m) (i + 1) ≡ over + 1)
      by true e = inr e
      by false e = inl (omega arith)

  -- the block b of the group with mask p comes after the first i
  module _ (i : ℕ) (b : Block) (li : i < length (handing ds place adds all)) (is : get_or (handing ds place adds all) i b ≡ b) (p : ℕ) (lp : p ≤ root) (of : b.of ≡ group n p)
      (s s' : List M) (enough : need ds place adds ≤ length s) where
    -- it is joined into all children, and then the regions whose turn ends are emptied
    pub all_held : CompleteBlock empty op σ (group n p) b.at (standing ds place adds p) s
        → ((m : ℕ) → m < root → regions_over ds place adds all (group n m) (i + 1) ≡ regions_over ds place adds all (group n m) i
        → SameRegion empty ds place adds m (children_joined empty op s y table bases root p (six 0 b.at) 6) s')
        → ((m : ℕ) → m < root → regions_over ds place adds all (group n m) (i + 1) ≡ regions_over ds place adds all (group n m) i + 1 → EmptyRegion empty ds place adds m s')
        → ((m : ℕ) → m < root → RegionHeld empty op σ place adds all m i s) → (m : ℕ) → m < root → RegionHeld empty op σ place adds all m (i + 1) s'
    all_held whole same none held m l = by (turn m i l li) (cases_eq (mask (parent adds h)) p)
      where
        h : Group
        h = group n m

        other : m + 1 < 2 ^ n
        other = omega arith

        below_b : Below (radix (group n p) (counts ds)) b.at
        below_b = subst (λ g. Below (radix g (counts ds)) b.at) of (of_a_group ds place adds all S i b li is).1

        next_is : next_group ds place adds all i ≡ group n p
        next_is = ap (λ c. c.of) (get_or_default (handing ds place adds all) i (record { of = []; at = [] }) b li ∙ is) ∙ of

        parent_is : mask (parent adds h) ≡ p → parent adds h ≡ group n p
        parent_is e = sym (mask_back n (parent adds h) (length-set h (adds h) true ∙ length-group n m)) ∙ ap (group n) e

        by : (regions_over ds place adds all h (i + 1) ≡ regions_over ds place adds all h i) ⊎ (regions_over ds place adds all h (i + 1) ≡ regions_over ds place adds all h i + 1)
            → (mask (parent adds h) ≡ p) ⊎ (mask (parent adds h) ≡ p → ⊥) → RegionHeld empty op σ place adds all m (i + 1) s'
        by (inr ends) q = held_emptied empty op lawful σ place adds all divided S m other (has m) i s' li ends (none m l ends)
        by (inl on) (inl e) = held_joined empty op lawful σ place adds all divided S m other (has m) i b li is (of ∙ sym (parent_is e)) y laid p (sym (parent_is e))
            (region_by y table bases root p) (region_by y table bases root m) (six 0 b.at) refl
            (region_here ds place adds divided y laid table root is_root adding bases based p lp) (region_here ds place adds divided y laid table root is_root adding bases based m (omega arith))
            s s' (omega (arith, region_within ds place adds m (omega arith))) whole
            (λ q lo hi. same m l on q lo hi
            ∙ child_joined ds place adds divided y laid table root is_root adding bases based p lp lacking b.at below_b empty op lawful σ.chunk s enough m l (parent_is e) q lo hi)
            (held m l)
        by (inl on) (inr ne) = held_stays empty op lawful σ place adds all divided S m other (has m) i s s' li
            (λ z. ne (ap mask (sym z ∙ next_is) ∙ mask-group n p (omega arith))) on
            (λ q lo hi. same m l on q lo hi
            ∙ other_kept ds place adds divided y laid table root is_root adding bases based p lp lacking b.at below_b empty op lawful σ.chunk s enough m (omega arith)
            (λ _ z. ne (ap mask z ∙ mask-group n p (omega arith))) q lo hi)
            (held m l)
