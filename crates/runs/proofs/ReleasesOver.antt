-- Climbing from the group of a block and emptying regions on the way: which regions were emptied so far.
use Rattle.std.proofs.Common.{◌≡◌, ℕ, ◌^◌, ◌<◌, ◌≤◌, Bool, true, false, not, ◌⊎◌, List, length, get_or, Some, None, Option, sym, refl, ◌∙◌, subst, inl, inr, ⊎_elim, arith}
use Rattle.std.proofs.lemmas.Bool.{cases_lt, cases_eq, cases_Bool, both_ways, and_parts, and_from, not-true, not_from_false}
use Rattle.shapes.specs.declared.dims.Dim.{Dim}
use Rattle.shapes.specs.Arrays.{groups}
use Rattle.cubes.specs.Handing.{Scan}
use Rattle.runs.specs.Contents.{SameRegion, EmptyRegion}
use Rattle.runs.specs.Planned.{places_of, adds_of, need_of}
use Rattle.runs.specs.Emptying.{of_release, next_of_release, release_over, EmptiedMask, EmptiedOver}
use Rattle.runs.proofs.ReleaseMasks.{release_self, release_below, release_trans}

-- of the groups whose release the block of the mask j is of, those of masks below `upto` were emptied, and nothing else changed
pub record EmptiedBelow {M : Type 0} (empty : M) (ds : List Dim) (j : ℕ) (next : Option ℕ) (upto : ℕ) (before after : List M) : Type 0 where
  pub visited : (k : ℕ) → k < 2 ^ length ds → k < upto → of_release ds (adds_of ds) k j ≡ true
      → (next_of_release ds (adds_of ds) k next ≡ false) × EmptyRegion empty ds (places_of ds) (adds_of ds) k after
  pub others : (k : ℕ) → k < 2 ^ length ds → (k < upto → of_release ds (adds_of ds) k j ≡ false) → SameRegion empty ds (places_of ds) (adds_of ds) k before after
  pub climbed : (k : ℕ) → k < 2 ^ length ds → upto ≤ k → of_release ds (adds_of ds) k upto ≡ of_release ds (adds_of ds) k j
  pub past : (q : ℕ) → need_of ds ≤ q → get_or after q empty ≡ get_or before q empty
  pub long : length after ≡ length before

module _ {M : Type 0} (empty : M) (ds : List Dim) (S : Scan ds (places_of ds) (adds_of ds) (groups (length ds))) (j : ℕ) (lj : j < 2 ^ length ds) (next : Option ℕ) (before : List M) where
  abbrev of : ℕ → ℕ → Bool
  of k m = of_release ds (adds_of ds) k m

  pub begins_at : EmptiedBelow empty ds j next j before before
  begins_at = record {
    visited = λ k l b t. absurd (both_ways (of k j) (release_below ds (places_of ds) (adds_of ds) S k j b lj) t);
    others = λ k l f q lo hi. refl;
    climbed = λ k l b. refl;
    past = λ q l. refl;
    long = refl;
  }

  -- the region of the mask m is emptied; the climb goes on at `more`
  module _ (m more : ℕ) (lm : m < 2 ^ length ds) (now now' : List M) (up : m < more) (between : (k : ℕ) → k < 2 ^ length ds → m < k → k < more → of k m ≡ false)
      (parent : (k : ℕ) → k < 2 ^ length ds → more ≤ k → of k more ≡ of k m) (inv : EmptiedBelow empty ds j next m before now)
      (over : next_of_release ds (adds_of ds) m next ≡ false) (step : EmptiedMask empty ds m now now') where
    own : of m j ≡ true
    own = sym (inv.climbed m lm (omega arith)) ∙ release_self ds (places_of ds) (adds_of ds) S m

    kept_empty : (k : ℕ) → k < 2 ^ length ds → (m ≡ k → ⊥) → EmptyRegion empty ds (places_of ds) (adds_of ds) k now → EmptyRegion empty ds (places_of ds) (adds_of ds) k now'
    kept_empty k l ne none q lo hi = step.others k l ne q lo hi ∙ none q lo hi

    visits : (k : ℕ) → k < 2 ^ length ds → k < more → of k j ≡ true → (k < m) ⊎ (m ≤ k) → (m ≡ k) ⊎ (m ≡ k → ⊥)
        → (next_of_release ds (adds_of ds) k next ≡ false) × EmptyRegion empty ds (places_of ds) (adds_of ds) k now'
    visits k l b t (inl c) e = let it = inv.visited k l c t in (it.0, kept_empty k l (λ z. omega arith) it.1)
    visits k l b t (inr c) (inl e) =
        subst (λ z. (next_of_release ds (adds_of ds) z next ≡ false) × EmptyRegion empty ds (places_of ds) (adds_of ds) z now') e (over, step.own)
    visits k l b t (inr c) (inr ne) = absurd (both_ways (of k m) (between k l (less (cases_lt m k)) b) (inv.climbed k l c ∙ t))
      where
        less : (m < k) ⊎ (k ≤ m) → m < k
        less (inl z) = z
        less (inr z) = absurd (ne (omega arith))

    leaves : (k : ℕ) → k < 2 ^ length ds → (k < more → of k j ≡ false) → (m ≡ k) ⊎ (m ≡ k → ⊥) → SameRegion empty ds (places_of ds) (adds_of ds) k before now'
    leaves k l f (inl e) = absurd (both_ways (of k j) (f (omega arith)) (subst (λ z. of z j ≡ true) e own))
    leaves k l f (inr ne) = λ q lo hi. step.others k l ne q lo hi ∙ inv.others k l (λ b. f (omega arith)) q lo hi

    pub climbs : EmptiedBelow empty ds j next more before now'
    climbs = record {
      visited = λ k l b t. visits k l b t (cases_lt k m) (cases_eq m k);
      others = λ k l f. leaves k l f (cases_eq m k);
      climbed = λ k l b. parent k l b ∙ inv.climbed k l (omega arith);
      past = λ q l. step.past q l ∙ inv.past q l;
      long = step.long ∙ inv.long;
    }

  -- where the next block is of the release of the mask m, the climb ends; at the root it ends too
  module _ (m : ℕ) (now : List M) (inv : EmptiedBelow empty ds j next m before now)
      (rest : (k : ℕ) → k < 2 ^ length ds → m ≤ k → of k j ≡ true → next_of_release ds (adds_of ds) k next ≡ true) where
    is_over : (k : ℕ) → k < 2 ^ length ds → release_over ds (adds_of ds) j next k ≡ true → (k < m) ⊎ (m ≤ k) → EmptyRegion empty ds (places_of ds) (adds_of ds) k now
    is_over k l t (inl b) = (inv.visited k l b (and_parts (of k j) (not (next_of_release ds (adds_of ds) k next)) t).0).1
    is_over k l t (inr b) =
        let both = and_parts (of k j) (not (next_of_release ds (adds_of ds) k next)) t in
        absurd (both_ways (next_of_release ds (adds_of ds) k next) (not-true (next_of_release ds (adds_of ds) k next) both.1) (rest k l b both.0))

    not_over : (k : ℕ) → k < 2 ^ length ds → release_over ds (adds_of ds) j next k ≡ false → k < m → of k j ≡ false
    not_over k l f b = ⊎_elim
        (λ t. absurd (both_ways (release_over ds (adds_of ds) j next k) f
        (and_from (of k j) (not (next_of_release ds (adds_of ds) k next)) t (not_from_false (next_of_release ds (adds_of ds) k next) (inv.visited k l b t).0))))
        (λ t. t) (cases_Bool (of k j))

    pub ends_at : EmptiedOver empty ds j next before now
    ends_at = record {
      over = λ k l t. is_over k l t (cases_lt k m);
      others = λ k l f. inv.others k l (not_over k l f);
      past = inv.past;
      long = inv.long;
    }

  -- the next block is of the release of the mask m, and so of each above it
  pub ends_within : (m : ℕ) (now : List M) → m < 2 ^ length ds → EmptiedBelow empty ds j next m before now → next_of_release ds (adds_of ds) m next ≡ true → EmptiedOver empty ds j next before now
  ends_within m now lm inv goes = ends_at m now inv (λ k l b t. above next goes k l b t)
    where
      above : (o : Option ℕ) → next_of_release ds (adds_of ds) m o ≡ true → (k : ℕ) → k < 2 ^ length ds → m ≤ k → of k j ≡ true → next_of_release ds (adds_of ds) k o ≡ true
      above None g k l b t = g
      above (Some z) g k l b t = release_trans ds (places_of ds) (adds_of ds) S k m z (inv.climbed k l b ∙ t) g

  -- no mask is left
  pub ends_past : (now : List M) → EmptiedBelow empty ds j next (2 ^ length ds) before now → EmptiedOver empty ds j next before now
  ends_past now inv = ends_at (2 ^ length ds) now inv (λ k l b t. absurd (omega arith))
