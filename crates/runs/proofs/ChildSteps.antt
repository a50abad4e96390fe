-- A block joined into the regions of all children, by mask: each child's region gets what the block alone gives it, and every other region stays.
use Rattle.std.proofs.Common.{◌≡◌, ℕ, zero, suc, ◌+◌, ◌-◌, ◌^◌, ◌<◌, ◌≤◌, Bool, true, false, cond, not, ◌&&◌, eqb, ◌⊎◌, List, length, get_or, set, replicate, sym, refl, ap, ◌∙◌, subst, ap₂, inl, inr, arith}
use lib.Pow.{pow-lt}
use Rattle.std.proofs.lemmas.Nat.{pow_pos}
use Rattle.std.proofs.lemmas.List.{get_or_default, get_or-set_same, get_or_append_left}
use Rattle.std.proofs.lemmas.Bool.{cases_eq, cases_Bool, eq-eqb}
use Rattle.shapes.specs.declared.dims.Dim.{Dim}
use Rattle.shapes.specs.Arrays.{Group, product, volume, digits, Below, radix, edges, counts, keeps, mask, group, cell_at}
use Rattle.shapes.specs.Views.{six}
use Rattle.shapes.proofs.Masks.{length-group, mask-group, group_with}
use Rattle.shapes.proofs.Numbering.{digits_below}
use Rattle.measures.specs.Laws.{Lawful}
use Rattle.sources.specs.Meanings.{Chunk}
use Rattle.plans.specs.Plans.{need}
use Rattle.cubes.specs.Summaries.{Divided, big}
use Rattle.cubes.specs.Handing.{parent, lacks}
use Rattle.cubes.proofs.Joins.{big_cong}
use Rattle.cubes.proofs.Groups.{mask-set}
use Rattle.runs.specs.declared.layouts.Layout.{Layout}
use Rattle.runs.specs.declared.layouts.Region.{Region}
use Rattle.runs.specs.Layouts.{lacked_place, mask_cells, mask_base, cell_number}
use Rattle.runs.specs.Grids.{block_joined, Joinable, LaidOut, Bases, region_by, child_at, children_joined}
use Rattle.runs.specs.Contents.{SameRegion}
use Rattle.runs.proofs.RegionBases.{region_within}
use Rattle.runs.proofs.BlockCells.{joins_at, reached_below}
use Rattle.runs.proofs.BlockSteps.{region_here, block_inside, block_apart, length_joined, joined_others}
use Rattle.runs.proofs.Children.{kept_power, child_kept, child_adds}
use Rattle.runs.proofs.Padding.{group_pad}

module _ (ds : List Dim) (place : ℕ → ℕ) (adds : Group → ℕ) (divided : Divided ds) (y : Layout) (laid : LaidOut ds place y) (table : List ℕ) (root : ℕ)
    (is_root : root + 1 ≡ 2 ^ length ds) (adding : (m : ℕ) → m < root → (get_or table m 0 ≡ adds (group (length ds) m)) × (get_or table m 0 < length ds))
    (bases : List ℕ) (based : Bases y table root (volume ds) bases) (p : ℕ) (lp : p ≤ root) where
  abbrev n : ℕ
  n = length ds

  abbrev region : ℕ → Region
  region m = region_by y table bases root m

  power_below : (e : ℕ) → e < 6 → child_at table p e ≡ true → 2 ^ e ≤ p
  power_below e l t = kept_power 6 p e l (child_kept table p e t)

  power_some : (e : ℕ) → 0 < 2 ^ e
  power_some e = pow_pos e

  -- a child is another group, and two dimensions give two children
  pub child_differs : (e : ℕ) → e < 6 → child_at table p e ≡ true → p ≡ p - 2 ^ e → ⊥
  child_differs e l t q = omega (arith, power_below e l t, power_some e)

  children_differ : (e k : ℕ) → e < k → k < 6 → child_at table p e ≡ true → child_at table p k ≡ true → p - 2 ^ k ≡ p - 2 ^ e → ⊥
  children_differ e k l lk te tk q = omega (arith, power_below e (omega arith) te, power_below k lk tk, pow-lt l)

  module _ (c : List ℕ) (below_c : Below (radix (group n p) (counts ds)) c) where
    -- what a join into each child requires
    pub children_ready : (e len : ℕ) → e < 6 → child_at table p e ≡ true → need ds place adds ≤ len → Joinable y (region p) (region (p - 2 ^ e)) (six 0 c) len
    children_ready e len l t enough = (
      block_inside ds place adds divided y laid table root is_root adding bases based p lp c below_c (p - 2 ^ e) len (omega arith) enough,
      block_apart ds place adds divided y laid table root is_root adding bases based p lp c below_c (p - 2 ^ e) (omega arith) (child_differs e l t),
    )

    module _ {M : Type 0} (empty : M) (op : M → M → M) (lawful : Lawful empty op) (mean : ℕ → Chunk M) (s : List M) (enough : need ds place adds ≤ length s) where
      abbrev after : ℕ → List M
      after k = children_joined empty op s y table bases root p (six 0 c) k

      abbrev joined : List M → ℕ → List M
      joined t m = block_joined empty op t y (region p) (region m) (six 0 c)

      pub length_children : (k : ℕ) → length (after k) ≡ length s
      length_children zero = refl
      length_children (suc k) = by (child_at table p k) (length_children k)
        where
          by : (b : Bool) → length (after k) ≡ length s → length (cond b (joined (after k) (p - 2 ^ k)) (after k)) ≡ length s
          by true ih = length_joined ds place adds divided y laid table root is_root adding bases based p lp c below_c empty op lawful mean (after k) (p - 2 ^ k) ∙ ih
          by false ih = ih

      enough_after : (k : ℕ) → need ds place adds ≤ length (after k)
      enough_after k = omega (arith, length_children k)

      -- a region that is no child's stays
      pub children_keep : (k j : ℕ) → k ≤ 6 → j ≤ root → ((e : ℕ) → e < k → child_at table p e ≡ true → p - 2 ^ e ≡ j → ⊥) → SameRegion empty ds place adds j s (after k)
      children_keep zero j l lj none q lo hi = refl
      children_keep (suc k) j l lj none q lo hi = by (cases_Bool (child_at table p k)) (children_keep k j (omega arith) lj (λ e m. none e (omega arith)) q lo hi)
        where
          by : (child_at table p k ≡ true) ⊎ (child_at table p k ≡ false) → get_or (after k) q empty ≡ get_or s q empty → get_or (after (suc k)) q empty ≡ get_or s q empty
          by (inl t) ih = ap (λ z. get_or (cond z (joined (after k) (p - 2 ^ k)) (after k)) q empty) t
              ∙ joined_others ds place adds divided y laid table root is_root adding bases based p lp c below_c empty op lawful mean (after k) (p - 2 ^ k) j (omega arith) lj (none k (omega arith) t) (enough_after k) q lo hi
              ∙ ih
          by (inr t) ih = ap (λ z. get_or (cond z (joined (after k) (p - 2 ^ k)) (after k)) q empty) t ∙ ih

      -- what a join gives to a region depends on that region and the parent's alone
      same_input : (t : List M) (m : ℕ) → m ≤ root → length t ≡ length s → SameRegion empty ds place adds p s t → SameRegion empty ds place adds m s t → SameRegion empty ds place adds m (joined s m) (joined t m)
      same_input t m lm lt same-p same-m q lo hi =
          at t (omega (arith, inner))
          ∙ ap₂ op (same-m q lo hi) (big_cong empty op lawful (part t) (part s) (product rg) (λ o l. ap (λ z. cond (eqb (base_m + cell_number ds place (group n m) (lacked_place ds place adds m) (cell o)) q) z empty) (above o l)))
          ∙ sym (at s inner)
        where
          rg : List ℕ
          rg = radix (group n p) (edges ds)

          base_p : ℕ
          base_p = mask_base ds place adds p

          base_m : ℕ
          base_m = mask_base ds place adds m

          cell : ℕ → List ℕ
          cell o = cell_at ds c (digits rg o)

          inner : q < length s
          inner = omega (arith, region_within ds place adds m (omega arith))

          part : List M → ℕ → M
          part t o = cond (eqb (base_m + cell_number ds place (group n m) (lacked_place ds place adds m) (cell o)) q) (get_or t (base_p + cell_number ds place (group n p) (lacked_place ds place adds p) (cell o)) empty) empty

          at : (t : List M) → q < length t → get_or (joined t m) q empty ≡ op (get_or t q empty) (big empty op (part t) (product rg))
          at t l = joins_at ds place divided y laid (group n p) (length-group n p) c (six 0 c) below_c refl base_p (lacked_place ds place adds p) (region p)
              (region_here ds place adds divided y laid table root is_root adding bases based p lp) empty t op lawful mean (group n m) (length-group n m) base_m (lacked_place ds place adds m) (region m)
              (region_here ds place adds divided y laid table root is_root adding bases based m lm) q l

          above : (o : ℕ) → o < product rg
              → get_or t (base_p + cell_number ds place (group n p) (lacked_place ds place adds p) (cell o)) empty ≡ get_or s (base_p + cell_number ds place (group n p) (lacked_place ds place adds p) (cell o)) empty
          above o l = same-p (base_p + cell_number ds place (group n p) (lacked_place ds place adds p) (cell o)) (omega arith)
              (omega (
                arith,
                reached_below ds place divided y laid (group n p) (length-group n p) c (six 0 c) below_c refl (group n p) (length-group n p) base_p (lacked_place ds place adds p) (region p)
                    (region_here ds place adds divided y laid table root is_root adding bases based p lp) (digits rg o) (digits_below rg o l),
              ))

      -- each child's region is as after the join into it alone
      pub children_own : (k e : ℕ) → k ≤ 6 → e < k → child_at table p e ≡ true → SameRegion empty ds place adds (p - 2 ^ e) (joined s (p - 2 ^ e)) (after k)
      children_own zero e l le te = absurd (omega arith)
      children_own (suc k) e l le te = by (cases_eq e k) (λ m. children_own k e (omega arith) m te)
        where
          by : (e ≡ k) ⊎ (e ≡ k → ⊥) → (e < k → SameRegion empty ds place adds (p - 2 ^ e) (joined s (p - 2 ^ e)) (after k))
              → SameRegion empty ds place adds (p - 2 ^ e) (joined s (p - 2 ^ e)) (after (suc k))
          by (inl is) ih = subst (λ z. SameRegion empty ds place adds (p - 2 ^ z) (joined s (p - 2 ^ z)) (after (suc k))) (sym is)
              (λ q lo hi. ap (λ z. get_or (cond z (joined (after k) (p - 2 ^ k)) (after k)) q empty) tk
              ∙ same_input (after k) (p - 2 ^ k) (omega arith) (length_children k)
              (children_keep k p (omega arith) lp (λ d ld td z. child_differs d (omega arith) td (sym z)))
              (children_keep k (p - 2 ^ k) (omega arith) (omega arith) (λ d ld td z. children_differ d k ld (omega arith) td tk (sym z))) q lo hi)
            where
              tk : child_at table p k ≡ true
              tk = ap (child_at table p) (sym is) ∙ te
          by (inr ne) ih = λ q lo hi. next q lo hi (cases_Bool (child_at table p k))
            where
              less : e < k
              less = omega arith

              next : (q : ℕ) → mask_base ds place adds (p - 2 ^ e) ≤ q → q < mask_base ds place adds (p - 2 ^ e) + mask_cells ds place adds (p - 2 ^ e)
                  → (child_at table p k ≡ true) ⊎ (child_at table p k ≡ false) → get_or (after (suc k)) q empty ≡ get_or (joined s (p - 2 ^ e)) q empty
              next q lo hi (inl t) = ap (λ z. get_or (cond z (joined (after k) (p - 2 ^ k)) (after k)) q empty) t
                  ∙ joined_others ds place adds divided y laid table root is_root adding bases based p lp c below_c empty op lawful mean (after k) (p - 2 ^ k) (p - 2 ^ e) (omega arith) (omega arith)
                  (children_differ e k less (omega arith) te t) (enough_after k) q lo hi
                  ∙ ih less q lo hi
              next q lo hi (inr t) = ap (λ z. get_or (cond z (joined (after k) (p - 2 ^ k)) (after k)) q empty) t ∙ ih less q lo hi

  -- The children by their groups: those whose parent is the group with mask p

  kept_six : (e : ℕ) → e < n → get_or (group 6 p) e false ≡ keeps (group n p) e
  kept_six e l =
      let z : n + (6 - n) ≡ 6 = omega (arith, laid.few) in
      ap (λ k. get_or (group k p) e false) (sym z) ∙ ap (λ g. get_or g e false) (group_pad n (6 - n) p (omega arith))
      ∙ get_or_append_left (group n p) (replicate (6 - n) false) false e (rw (length-group n p) l)

  module _ (lacking : (m : ℕ) → m < root → keeps (group n m) (adds (group n m)) ≡ false) where
    -- a child's parent has the mask p
    pub child_parent : (e : ℕ) → e < 6 → child_at table p e ≡ true → (p - 2 ^ e < root) × (parent adds (group n (p - 2 ^ e)) ≡ group n p)
    child_parent e l t = (less, ap (λ d. set (group n m) d true) adds_is ∙ sym (group_with n m e (ap (keeps (group n m)) (sym adds_is) ∙ lacking m less)) ∙ ap (group n) back)
      where
        m : ℕ
        m = p - 2 ^ e

        less : m < root
        less = omega (arith, power_below e l t, power_some e)

        adds_is : adds (group n m) ≡ e
        adds_is = sym (adding m less).0 ∙ child_adds table p e t

        back : m + 2 ^ e ≡ p
        back = omega (arith, power_below e l t)

    -- a group whose parent has the mask p is a child
    pub parent_child : (m : ℕ) → m < root → parent adds (group n m) ≡ group n p → (p - 2 ^ adds (group n m) ≡ m) × (child_at table p (adds (group n m)) ≡ true) × (adds (group n m) < 6)
    parent_child m l up = (back, ap₂ ◌&&◌ kept (eq-eqb (get_or table (p - 2 ^ e) 0) e (ap (λ z. get_or table z 0) back ∙ (adding m l).0)), omega (arith, inner, laid.few))
      where
        e : ℕ
        e = adds (group n m)

        inner : e < n
        inner = omega (arith, (adding m l).0, (adding m l).1)

        lacks_e : lacks (group n m) e ≡ true
        lacks_e = ap not (get_or_default (group n m) e true false (rw (length-group n m) inner) ∙ lacking m l)

        masks : m + 2 ^ e ≡ p
        masks = sym (mask-set (group n m) e lacks_e ∙ ap (λ z. z + 2 ^ e) (mask-group n m (omega arith))) ∙ ap mask up ∙ mask-group n p (omega arith)

        back : p - 2 ^ e ≡ m
        back = omega (arith, masks)

        kept : get_or (group 6 p) e false ≡ true
        kept = kept_six e inner ∙ ap (λ g. keeps g e) (sym up) ∙ get_or-set_same (group n m) e true false (rw (length-group n m) inner)

    module _ (c : List ℕ) (below_c : Below (radix (group n p) (counts ds)) c) {M : Type 0} (empty : M) (op : M → M → M) (lawful : Lawful empty op) (mean : ℕ → Chunk M) (s : List M)
        (enough : need ds place adds ≤ length s) where
      -- the region of each group whose parent has the mask p is as after the join into it alone
      pub child_joined : (m : ℕ) → m < root → parent adds (group n m) ≡ group n p
          → SameRegion empty ds place adds m (block_joined empty op s y (region p) (region m) (six 0 c)) (children_joined empty op s y table bases root p (six 0 c) 6)
      child_joined m l up = let q = parent_child m l up in
          subst (λ z. SameRegion empty ds place adds z (block_joined empty op s y (region p) (region z) (six 0 c)) (children_joined empty op s y table bases root p (six 0 c) 6)) q.0
          (children_own c below_c empty op lawful mean s enough 6 (adds (group n m)) (omega arith) q.2 q.1)

      -- every other region stays
      pub other_kept : (j : ℕ) → j ≤ root → (j < root → parent adds (group n j) ≡ group n p → ⊥) → SameRegion empty ds place adds j s (children_joined empty op s y table bases root p (six 0 c) 6)
      other_kept j lj none = children_keep c below_c empty op lawful mean s enough 6 j (omega arith) lj
          (λ e l t z. let q = child_parent e l t in none (subst (λ k. k < root) z q.0) (ap (λ k. parent adds (group n k)) (sym z) ∙ q.1))
