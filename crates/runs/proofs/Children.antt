-- The children of a group, and a block joined into the regions of all of them.
use Rattle.std.proofs.Common.{◌≡◌, ℕ, ◌+◌, ◌-◌, ◌%◌, ◌^◌, ◌<◌, ◌≤◌, Bool, true, false, cond, eqb, ◌⊎◌, List, get_or, Some, None, sym, refl, ap, ◌∙◌, subst, inl, inr, add-one, arith}
use native.Mathlib.Nat.{div-eq_of_lt}
use Rattle.std.proofs.lemmas.Bool.{cases_lt, both_ways, eqb-true, and_parts}
use Rattle.shapes.specs.Arrays.{group}
use Rattle.shapes.proofs.Masks.{keeps_bit}
use Rattle.runs.specs.declared.layouts.Layout.{Layout}
use Rattle.runs.specs.declared.layouts.Region.{Region}
use Rattle.runs.specs.Grids.{block_edges, block_joined, Inside, ApartUnder, Joinable, region_by, child_at, children_joined}

-- a mask is at least 2 ^ e where its group keeps e
pub kept_power : (n m e : ℕ) → e < n → get_or (group n m) e false ≡ true → 2 ^ e ≤ m
kept_power n m e l t = by (cases_lt m (2 ^ e))
  where
    by : (m < 2 ^ e) ⊎ (2 ^ e ≤ m) → 2 ^ e ≤ m
    by (inl q) = absurd (both_ways (get_or (group n m) e false) (keeps_bit n m e l ∙ ap (λ z. eqb (z % 2) 1) (div-eq_of_lt q)) t)
    by (inr q) = q

pub child_kept : (adds : List ℕ) (p e : ℕ) → child_at adds p e ≡ true → get_or (group 6 p) e false ≡ true
child_kept adds p e t = (and_parts (get_or (group 6 p) e false) (eqb (get_or adds (p - 2 ^ e) 0) e) t).0

pub child_adds : (adds : List ℕ) (p e : ℕ) → child_at adds p e ≡ true → get_or adds (p - 2 ^ e) 0 ≡ e
child_adds adds p e t = eqb-true (get_or adds (p - 2 ^ e) 0) e (and_parts (get_or (group 6 p) e false) (eqb (get_or adds (p - 2 ^ e) 0) e) t).1

-- what a search for a child answers
pub child_found : (b : Bool) (v w : ℕ) → cond b (Some v) None ≡ Some w → (b ≡ true) × (v ≡ w)
child_found true v w e = (refl, cc)
child_found false v w e = absurd (let z : ◌≡◌ {A = ℕ} 0 1 = cc in omega arith)

pub child_none : (b : Bool) (v : ℕ) → cond b (Some v) None ≡ None → b ≡ false
child_none true v e = absurd (let z : ◌≡◌ {A = ℕ} 0 1 = cc in omega arith)
child_none false v e = refl

module _ {M : Type 0} (empty : M) (op : M → M → M) (s : List M) (y : Layout) (adds bases : List ℕ) (root p : ℕ) (c : List ℕ) where
  abbrev after : ℕ → List M
  after k = children_joined empty op s y adds bases root p c k

  next : (k : ℕ) → after (k + 1) ≡ cond (child_at adds p k) (block_joined empty op (after k) y (region_by y adds bases root p) (region_by y adds bases root (p - 2 ^ k)) c) (after k)
  next k = ap after (add-one k)

  pub child_step : (k : ℕ) (now now' : List M) → now ≡ after k → child_at adds p k ≡ true
      → now' ≡ block_joined empty op now y (region_by y adds bases root p) (region_by y adds bases root (p - 2 ^ k)) c → now' ≡ after (k + 1)
  child_step k now now' inv t is = is ∙ ap (λ z. block_joined empty op z y (region_by y adds bases root p) (region_by y adds bases root (p - 2 ^ k)) c) inv
      ∙ sym (next k ∙ ap (λ z. cond z (block_joined empty op (after k) y (region_by y adds bases root p) (region_by y adds bases root (p - 2 ^ k)) c) (after k)) t)

  pub other_step : (k : ℕ) (now : List M) → now ≡ after k → child_at adds p k ≡ false → now ≡ after (k + 1)
  other_step k now inv t = inv ∙ sym (next k ∙ ap (λ z. cond z (block_joined empty op (after k) y (region_by y adds bases root p) (region_by y adds bases root (p - 2 ^ k)) c) (after k)) t)

abbrev Ready : Layout → Region → Region → List ℕ → ℕ → Type 0
Ready y r u c n = Inside y r (block_edges y r) c n × Inside y u (block_edges y r) c n × ApartUnder y r u c

-- what a join requires, of regions that are the same
pub ready_same : (y : Layout) (r r' u u' : Region) (c : List ℕ) (n n' : ℕ) → r' ≡ r → u' ≡ u → n' ≡ n → Inside y r (block_edges y r) c n → Joinable y r u c n → Ready y r' u' c n'
ready_same y r r' u u' c n n' er eu en own joinable =
    subst (λ z. Ready y z u' c n') (sym er) (subst (λ z. Ready y r z c n') (sym eu) (subst (Ready y r u c) (sym en) (own, joinable.0, joinable.1)))
