-- What is next, by the masks of a tree.
use Rattle.std.proofs.Common.{◌≡◌, ℕ, suc, ◌+◌, ◌*◌, ◌/◌, ◌^◌, ◌<◌, ◌≤◌, Bool, true, false, cond, ◌&&◌, eqb, ltb, List, length, get_or, Some, None, Option, sym, refl, ap, ◌∙◌, subst, inl, inr, ⊎_elim, arith}
use Rattle.std.specs.List.{ContainsAt as Has}
use Rattle.std.specs.Prelude.{MatchOption}
use Rattle.std.proofs.lemmas.Bool.{eq-eqb, ne_eqb, cases_eq, cases_lt, and_left, and_right, and_from}
use Rattle.shapes.specs.declared.dims.Dim.{Dim}
use Rattle.shapes.specs.Arrays.{Group, group, groups}
use Rattle.shapes.proofs.Masks.{length-group}
use Rattle.cubes.specs.Handing.{Scan, parent, child}
use Rattle.cubes.specs.Control.{tree, waits, first, or_next, next_from}
use Rattle.cubes.specs.Progress.{table_of, MaskTree}
use Rattle.cubes.proofs.Counting.{mask_tree, first_by_mask}
use Rattle.cubes.proofs.Groups.{lattice_scan, groups_have, limits_edged}
use Rattle.runs.specs.declared.tree.Tree.{Tree}
use Rattle.runs.specs.Trees.{Grown, node}
use Rattle.runs.specs.Controls.{handed_at, counts_in, waiting, is_waiting, FirstChild, Here, next_seen}
use Rattle.runs.proofs.Waiting.{count_is}

module _ (ds : List Dim) (place : ℕ → ℕ) (adds : Group → ℕ) (tr : Tree) (g : Grown ds place adds tr) where
  pub scanned : Scan ds place adds (groups (length ds))
  scanned = lattice_scan ds place adds (limits_edged ds g.limits) g.order g.parents

  laws : MaskTree ds place adds (groups (length ds))
  laws = mask_tree ds place adds (groups (length ds)) scanned

  has : (m : ℕ) → Has (groups (length ds)) (group (length ds) m)
  has m = groups_have (length ds) (group (length ds) m) (length-group (length ds) m)

  pub same_groups : 2 ^ tr.n ≡ 2 ^ length ds
  same_groups = ap (λ k. 2 ^ k) g.dimensions

  below : (m : ℕ) → m < 2 ^ tr.n → m < 2 ^ length ds
  below m l = omega (arith, same_groups)

  other : (m : ℕ) → m + 1 < 2 ^ tr.n → m + 1 < 2 ^ length ds
  other m l = omega (arith, same_groups)

  pub up_below : (m : ℕ) → m + 1 < 2 ^ tr.n → (node tr m).up < 2 ^ tr.n
  up_below m l = (tr.climbs m l).1

  pub up_above : (m : ℕ) → m + 1 < 2 ^ tr.n → m < (node tr m).up
  up_above m l = (tr.climbs m l).0

  -- which groups wait
  waits_is : (t m : ℕ) (tb : List ℕ) → m + 1 < 2 ^ tr.n
      → waits (tree ds place adds (groups (length ds))) t (table_of (counts_in (length ds) tb)) (group (length ds) m) ≡ waiting tr tb m
  waits_is t m tb l = laws.waits_mask t m (counts_in (length ds) tb) (other m l) (has m)
      ∙ (ap (λ k. ltb k ((get_or (counts_in (length ds) tb) (m + 2 ^ adds (group (length ds) m)) 0 / (tree ds place adds (groups (length ds))).period (group (length ds) m))
      * (tree ds place adds (groups (length ds))).share (group (length ds) m))) (count_is (length ds) tb m (omega (arith, other m l)))
      ∙ (ap (λ k. ltb (handed_at tb m) ((k / (tree ds place adds (groups (length ds))).period (group (length ds) m))
      * (tree ds place adds (groups (length ds))).share (group (length ds) m)))
      (ap (λ k. get_or (counts_in (length ds) tb) k 0) (sym (g.ups m (other m l))) ∙ count_is (length ds) tb (node tr m).up (below (node tr m).up (up_below m l)))
      ∙ (ap (λ k. ltb (handed_at tb m) ((handed_at tb (node tr m).up / k) * (tree ds place adds (groups (length ds))).share (group (length ds) m)))
      (sym (g.periods m (other m l)))
      ∙ ap (λ k. ltb (handed_at tb m) ((handed_at tb (node tr m).up / (node tr m).period) * k)) (sym (g.shares m (other m l))))))

  child_is : (p m : ℕ) → p < 2 ^ tr.n → m + 1 < 2 ^ tr.n → child adds (group (length ds) p) (group (length ds) m) ≡ eqb (node tr m).up p
  child_is p m lp l = laws.child_mask p m (below p lp) (other m l) (has m) ∙ ap (λ k. eqb k p) (sym (g.ups m (other m l)))

  -- a test that a group is a child of another and waits
  child_waits : ℕ → List ℕ → ℕ → ℕ → Bool
  child_waits t tb p m = child adds (group (length ds) p) (group (length ds) m)
      && waits (tree ds place adds (groups (length ds))) t (table_of (counts_in (length ds) tb)) (group (length ds) m)

  passed_over : (t p m : ℕ) (tb : List ℕ) → p < 2 ^ tr.n → m + 1 < 2 ^ tr.n → ((node tr m).up ≡ p → waiting tr tb m ≡ false) → child_waits t tb p m ≡ false
  unfolding child_waits
  passed_over t p m tb lp l none = ⊎_elim
      (λ e. and_right (child adds (group (length ds) p) (group (length ds) m))
      (waits (tree ds place adds (groups (length ds))) t (table_of (counts_in (length ds) tb)) (group (length ds) m)) (waits_is t m tb l ∙ none e))
      (λ d. and_left (child adds (group (length ds) p) (group (length ds) m))
      (waits (tree ds place adds (groups (length ds))) t (table_of (counts_in (length ds) tb)) (group (length ds) m)) (child_is p m lp l ∙ ne_eqb (node tr m).up p d))
      (cases_eq (node tr m).up p)

  -- where no child waits: the group itself, else what is above
  above : ℕ → List ℕ → ℕ → Option Group
  above t tb p = next_from (tree ds place adds (groups (length ds))) t (suc (length ds)) (table_of (counts_in (length ds) tb)) (parent adds (group (length ds) p))

  at_it : ℕ → List ℕ → ℕ → Option Group
  at_it t tb p = cond (waits (tree ds place adds (groups (length ds))) t (table_of (counts_in (length ds) tb)) (group (length ds) p)) (Some (group (length ds) p))
      (cond ((tree ds place adds (groups (length ds))).is_root (group (length ds) p)) None (above t tb p))

  seen : (t p : ℕ) (tb : List ℕ) → next_seen ds place adds t tb p
      ≡ or_next (first (waits (tree ds place adds (groups (length ds))) t (table_of (counts_in (length ds) tb)))
      ((tree ds place adds (groups (length ds))).children_of (group (length ds) p))) (at_it t tb p)
  unfolding next_seen at_it above
  seen t p tb = laws.seen_from t p (table_of (counts_in (length ds) tb)) (has p)

  child_next : (t p m : ℕ) (tb : List ℕ) → p < 2 ^ tr.n → FirstChild tr tb p (Some m) → next_seen ds place adds t tb p ≡ Some (group (length ds) m)
  unfolding child_waits
  child_next t p m tb lp (low, is, sure, none) = seen t p tb
      ∙ ap (λ o. or_next o (at_it t tb p)) ((first_by_mask (length ds) adds).hit (group (length ds) p)
      (waits (tree ds place adds (groups (length ds))) t (table_of (counts_in (length ds) tb))) m (omega (arith, below p lp))
      (λ j l. passed_over t p j tb lp (omega arith) (none j l))
      (and_from (child adds (group (length ds) p) (group (length ds) m))
      (waits (tree ds place adds (groups (length ds))) t (table_of (counts_in (length ds) tb)) (group (length ds) m))
      (child_is p m lp (omega arith) ∙ eq-eqb (node tr m).up p is) (waits_is t m tb (omega arith) ∙ sure)))

  no_child : (t p : ℕ) (tb : List ℕ) → p < 2 ^ tr.n → FirstChild tr tb p None → next_seen ds place adds t tb p ≡ at_it t tb p
  unfolding child_waits
  no_child t p tb lp none = seen t p tb
      ∙ ap (λ o. or_next o (at_it t tb p)) ((first_by_mask (length ds) adds).miss (group (length ds) p)
      (waits (tree ds place adds (groups (length ds))) t (table_of (counts_in (length ds) tb)))
      (λ j l. ⊎_elim (λ b. passed_over t p j tb lp (omega arith) (none j b)) (high j (omega (arith, l, same_groups))) (cases_lt j p)))
    where
      high : (j : ℕ) → j < 2 ^ tr.n → p ≤ j → child_waits t tb p j ≡ false
      high j l b = ⊎_elim
          (λ e. and_left (child adds (group (length ds) p) (group (length ds) j))
          (waits (tree ds place adds (groups (length ds))) t (table_of (counts_in (length ds) tb)) (group (length ds) j)) (laws.root_mask p j (e ∙ same_groups)))
          (λ d. passed_over t p j tb lp (omega arith) (λ q. absurd (omega (arith, q, up_above j (omega arith))))) (cases_eq (j + 1) (2 ^ tr.n))

  -- at the root
  root_next : (t p : ℕ) (tb : List ℕ) → p + 1 ≡ 2 ^ tr.n → FirstChild tr tb p None
      → next_seen ds place adds t tb p ≡ cond (ltb (handed_at tb p) t) (Some (group (length ds) p)) None
  unfolding at_it
  root_next t p tb e none = no_child t p tb (omega arith) none
      ∙ (ap (λ b. cond b (Some (group (length ds) p)) (cond ((tree ds place adds (groups (length ds))).is_root (group (length ds) p)) None (above t tb p)))
      (laws.waits_root t p (counts_in (length ds) tb) (e ∙ same_groups) ∙ ap (λ k. ltb k t) (count_is (length ds) tb p (omega (arith, same_groups))))
      ∙ ap (λ b. cond (ltb (handed_at tb p) t) (Some (group (length ds) p)) (cond b None (above t tb p))) (laws.is_root p (e ∙ same_groups)))

  -- and elsewhere
  other_next : (t p : ℕ) (tb : List ℕ) → p + 1 < 2 ^ tr.n → FirstChild tr tb p None
      → next_seen ds place adds t tb p ≡ cond (waiting tr tb p) (Some (group (length ds) p)) (next_seen ds place adds t tb (node tr p).up)
  unfolding at_it above next_seen
  other_next t p tb l none = no_child t p tb (omega arith) none
      ∙ (ap (λ b. cond b (Some (group (length ds) p)) (cond ((tree ds place adds (groups (length ds))).is_root (group (length ds) p)) None (above t tb p)))
      (waits_is t p tb l)
      ∙ (ap (λ b. cond (waiting tr tb p) (Some (group (length ds) p)) (cond b None (above t tb p))) (laws.not_root p (other p l))
      ∙ ap (λ h. cond (waiting tr tb p) (Some (group (length ds) p)) (next_from (tree ds place adds (groups (length ds))) t (suc (length ds)) (table_of (counts_in (length ds) tb)) h))
      ((laws.parent_mask p (other p l) (has p)).1 ∙ ap (group (length ds)) (sym (g.ups p (other p l))))))

  waits_root : (t p : ℕ) (tb : List ℕ) → p + 1 ≡ 2 ^ tr.n → is_waiting tr t tb p ≡ ltb (handed_at tb p) t
  waits_root t p tb e = ap (λ b. cond b (ltb (handed_at tb p) t) (waiting tr tb p)) (eq-eqb (p + 1) (2 ^ tr.n) e)

  waits_other : (t p : ℕ) (tb : List ℕ) → p + 1 < 2 ^ tr.n → is_waiting tr t tb p ≡ waiting tr tb p
  waits_other t p tb l = ap (λ b. cond b (ltb (handed_at tb p) t) (waiting tr tb p)) (ne_eqb (p + 1) (2 ^ tr.n) (λ e. omega arith))

  -- what a look at a group tells
  pub found_here : (t p m : ℕ) (tb : List ℕ) → p < 2 ^ tr.n → Here tr t tb p (Some m) → Some (group (length ds) m) ≡ next_seen ds place adds t tb p
  found_here t p m tb lp (inl it) = sym (child_next t p m tb lp it)
  found_here t p m tb lp (inr (e, none, sure)) = ap (λ k. Some (group (length ds) k)) e ∙ sym (⊎_elim
      (λ q. root_next t p tb q none ∙ ap (λ b. cond b (Some (group (length ds) p)) None) (sym (waits_root t p tb q) ∙ sure))
      (λ d. other_next t p tb (omega arith) none
      ∙ ap (λ b. cond b (Some (group (length ds) p)) (next_seen ds place adds t tb (node tr p).up)) (sym (waits_other t p tb (omega arith)) ∙ sure))
      (cases_eq (p + 1) (2 ^ tr.n)))

  pub none_at_root : (t p : ℕ) (tb : List ℕ) → p + 1 ≡ 2 ^ tr.n → Here tr t tb p None → None ≡ next_seen ds place adds t tb p
  none_at_root t p tb e (none, rests) = sym (root_next t p tb e none ∙ ap (λ b. cond b (Some (group (length ds) p)) None) (sym (waits_root t p tb e) ∙ rests))

  pub none_here : (t p : ℕ) (tb : List ℕ) → p + 1 < 2 ^ tr.n → Here tr t tb p None → next_seen ds place adds t tb (node tr p).up ≡ next_seen ds place adds t tb p
  none_here t p tb l (none, rests) = sym (other_next t p tb l none
      ∙ ap (λ b. cond b (Some (group (length ds) p)) (next_seen ds place adds t tb (node tr p).up)) (sym (waits_other t p tb l) ∙ rests))

-- the mask found is one
pub here_below : (tr : Tree) (t p m : ℕ) (tb : List ℕ) → p < 2 ^ tr.n → Here tr t tb p (Some m) → m < 2 ^ tr.n
here_below tr t p m tb lp (inl it) = omega (arith, it.0)
here_below tr t p m tb lp (inr it) = omega (arith, it.0)

-- what a search through the masks below a group's finds
pub first_child_is : (tr : Tree) (tb : List ℕ) (g : ℕ) (r : Option ℕ)
    → MatchOption r ((k : ℕ) → 0 ≤ k → k < g → (node tr k).up ≡ g → waiting tr tb k ≡ false)
    (λ m. (0 ≤ m) × (m < g) × (((node tr m).up ≡ g) × (waiting tr tb m ≡ true)) × ((k : ℕ) → 0 ≤ k → k < m → (node tr k).up ≡ g → waiting tr tb k ≡ false))
    → FirstChild tr tb g r
first_child_is tr tb g None h = λ k l. h k (omega arith) l
first_child_is tr tb g (Some m) h = (h.1, h.2.0, h.2.1, λ k l. h.3 k (omega arith) l)

-- where no child waits: the group itself, if it waits
pub here_is : {A : Type 0} (tr : Tree) (t : ℕ) (tb : List ℕ) (g : ℕ) (first r : Option ℕ) → FirstChild tr tb g first → MatchOption first A (λ m. r ≡ Some m)
    → (A → r ≡ cond (is_waiting tr t tb g) (Some g) None) → Here tr t tb g r
here_is tr t tb g None r none other own = subst (Here tr t tb g) (sym (own other)) (by (is_waiting tr t tb g) refl)
  where
    by : (b : Bool) → is_waiting tr t tb g ≡ b → Here tr t tb g (cond b (Some g) None)
    by true e = inr (refl, none, e)
    by false e = (none, e)
here_is tr t tb g (Some m) r child e own = subst (Here tr t tb g) (sym e) (inl child)
