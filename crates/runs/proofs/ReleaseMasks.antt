-- Releases by masks: a group is of the release of each group that climbing from it by parents comes to.
use Rattle.std.proofs.Common.{◌≡◌, ℕ, zero, suc, ◌+◌, ◌^◌, ◌<◌, ◌≤◌, true, false, eqb, ◌⊎◌, List, length, sym, refl, ap, ◌∙◌, subst, inl, inr, ⊎_elim, arith}
use Rattle.std.specs.List.{ContainsAt as Has}
use Rattle.std.proofs.lemmas.Bool.{cases_Bool, cases_eq, cases_lt, eq-eqb, ne_eqb, or_cases, or_left, or_right}
use Rattle.shapes.specs.declared.dims.Dim.{Dim}
use Rattle.shapes.specs.Arrays.{Group, mask, group, groups, root}
use Rattle.shapes.proofs.Masks.{length-group, mask-group}
use Rattle.cubes.specs.Control.{tree}
use Rattle.cubes.specs.Handing.{Scan, parent, same_group}
use Rattle.cubes.specs.Turns.{stands_below, in_release}
use Rattle.cubes.proofs.Groups.{groups_have, not_root_of, mask-set}
use Rattle.cubes.proofs.Machine.{Under, same_group_true, same_group_refl, under_level}
use Rattle.cubes.proofs.Trees.{ChildOf, level, level_le, laws, is_child}
use Rattle.cubes.proofs.Climbing.{below_under, under_below}
use Rattle.cubes.proofs.Counting.{mask_tree}
use Rattle.runs.specs.declared.tree.Tree.{Tree}
use Rattle.runs.specs.Trees.{Grown, node}
use Rattle.runs.specs.Emptying.{of_release}
use Rattle.runs.proofs.Steering.{scanned, same_groups}
use Rattle.std.specs.Cmp.{both_ways as same_test}

module _ (ds : List Dim) (place : ℕ → ℕ) (adds : Group → ℕ) (S : Scan ds place adds (groups (length ds))) where
  abbrev n : ℕ
  n = length ds

  abbrev all : List Group
  all = groups n

  abbrev Above : ℕ → Group → Group → Type 0
  Above j h z = Under (tree ds place adds all) (ChildOf adds all) j h z

  has : (m : ℕ) → Has all (group n m)
  has m = groups_have n (group n m) (length-group n m)

  -- to be of a release is to come there by so many parents
  release_above : (h z : Group) → Has all z → in_release ds adds h z ≡ true → (j : ℕ) × Above j h z
  release_above h z k t = ⊎_elim (λ e. (0, same_group_true z h e)) (λ e. let (j, u) = below_under ds place adds all S n z h k e in (suc j, u))
      (or_cases (same_group z h) (stands_below adds n z h) t)

  above_release : (j : ℕ) (h z : Group) → length h ≡ n → Above j h z → in_release ds adds h z ≡ true
  above_release zero h z l u = or_left (same_group z h) (stands_below adds n z h) (ap (λ g. same_group g h) u ∙ same_group_refl h)
  above_release (suc j) h z l u = or_right (same_group z h) (stands_below adds n z h)
      (under_below ds place adds all S j n z h u
      (omega (arith, under_level (tree ds place adds all) (root n) (ChildOf adds all) level (laws ds place adds all S) (suc j) h z u, level_le h, l)))

  -- a parent has a higher mask
  above_mask : (j : ℕ) (h z : Group) → Above j h z → mask z ≤ mask h
  above_mask zero h z u = omega (arith, ap mask u)
  above_mask (suc j) h z u = omega (arith, above_mask j h (parent adds z) u.1, mask-set z (adds z) u.0.1)

  above_trans : (i j : ℕ) (h a z : Group) → Above i h a → Above j a z → Above (j + i) h z
  above_trans i zero h a z u v = subst (λ k. Above k h z) (let e : i ≡ 0 + i = omega arith in e) (subst (Above i h) (sym v) u)
  above_trans i (suc j) h a z u v = subst (λ k. Above k h z) (let e : suc (j + i) ≡ suc j + i = omega arith in e) (v.0, above_trans i j h a (parent adds z) u v.1)

  -- what is of the release of a group is of the release of each group above it
  pub release_trans : (k m j : ℕ) → of_release ds adds k m ≡ true → of_release ds adds m j ≡ true → of_release ds adds k j ≡ true
  unfolding of_release
  release_trans k m j a b =
      let (x, u) = release_above (group n k) (group n m) (has m) a in
      let (y, v) = release_above (group n m) (group n j) (has j) b in
      above_release (y + x) (group n k) (group n j) (length-group n k) (above_trans x y (group n k) (group n m) (group n j) u v)

  child : (m : ℕ) → m + 1 < 2 ^ n → ChildOf adds all (group n m)
  child m l = is_child ds place adds all S (group n m) (has m) (not_root_of n m l)

  pub parent_mask : (m : ℕ) → m + 1 < 2 ^ n → parent adds (group n m) ≡ group n (m + 2 ^ adds (group n m))
  parent_mask m l = ((mask_tree ds place adds all S).parent_mask m l (has m)).1

  pub release_self : (k : ℕ) → of_release ds adds k k ≡ true
  unfolding of_release
  release_self k = above_release 0 (group n k) (group n k) (length-group n k) refl

  -- what stands higher is not of the release
  pub release_below : (k m : ℕ) → k < m → m < 2 ^ n → of_release ds adds k m ≡ false
  unfolding of_release
  release_below k m l lm = ⊎_elim
      (λ t. let (j, u) = release_above (group n k) (group n m) (has m) t in
      absurd (omega (arith, above_mask j (group n k) (group n m) u, mask-group n k (omega arith), mask-group n m lm)))
      (λ t. t) (cases_Bool (in_release ds adds (group n k) (group n m)))

  -- another group is of it exactly if its parent is
  pub release_up : (k m : ℕ) → k < 2 ^ n → m + 1 < 2 ^ n → (m ≡ k → ⊥) → of_release ds adds k (m + 2 ^ adds (group n m)) ≡ of_release ds adds k m
  unfolding of_release
  release_up k m lk lm ne = ap (in_release ds adds (group n k)) (sym (parent_mask m lm))
      ∙ same_test (in_release ds adds (group n k) (parent adds (group n m))) (in_release ds adds (group n k) (group n m))
      (λ t. let (j, u) = release_above (group n k) (parent adds (group n m)) (subst (Has all) (sym (parent_mask m lm)) (has (m + 2 ^ adds (group n m)))) t in
      above_release (suc j) (group n k) (group n m) (length-group n k) (child m lm, u))
      (λ t. go (release_above (group n k) (group n m) (has m) t))
    where
      go : ((j : ℕ) × Above j (group n k) (group n m)) → in_release ds adds (group n k) (parent adds (group n m)) ≡ true
      go (zero, u) = absurd (ne (sym (mask-group n m (omega arith)) ∙ ap mask u ∙ mask-group n k lk))
      go (suc j, u) = above_release j (group n k) (parent adds (group n m)) (length-group n k) u.1

-- Climbing by a tree that was made for the scan
module _ (ds : List Dim) (place : ℕ → ℕ) (adds : Group → ℕ) (tr : Tree) (g : Grown ds place adds tr) where
  pub climb_step : (k m : ℕ) → m < k → k < 2 ^ tr.n → of_release ds adds k (node tr m).up ≡ of_release ds adds k m
  climb_step k m l lk =
      let a : k < 2 ^ length ds = omega (arith, same_groups ds place adds tr g) in
      let b : m + 1 < 2 ^ length ds = omega arith in
      ap (of_release ds adds k) (g.ups m b) ∙ release_up ds place adds (scanned ds place adds tr g) k m a b (λ e. omega arith)

  pub climb_end : (k m : ℕ) → k ≤ m → m < 2 ^ tr.n → eqb m k ≡ of_release ds adds k m
  climb_end k m l lm = by (cases_eq m k)
    where
      by : (m ≡ k) ⊎ (m ≡ k → ⊥) → eqb m k ≡ of_release ds adds k m
      by (inl e) = eq-eqb m k e ∙ sym (ap (of_release ds adds k) e ∙ release_self ds place adds (scanned ds place adds tr g) k)
      by (inr ne) = ne_eqb m k ne ∙ sym (release_below ds place adds (scanned ds place adds tr g) k m (less (cases_lt k m)) (omega (arith, same_groups ds place adds tr g)))
        where
          less : (k < m) ⊎ (m ≤ k) → k < m
          less (inl z) = z
          less (inr z) = absurd (ne (omega arith))
