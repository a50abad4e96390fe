-- Cells joined with the totals of what lies on them: item by item, it comes to the same. Assumes nothing.
use Rattle.std.proofs.Common.{◌≡◌, ℕ, ◌<◌, ◌≤◌, Bool, true, false, cond, eqb, List, [], ◌∷◌, ◌++◌, map, length, get_or, set, filter, sym, refl, ap, ◌∙◌, ⊎_elim, zero-add}
use Rattle.std.specs.List.{range_with_len}
use Rattle.std.proofs.lemmas.List.FromFn.{fill_by_all, length-map-range_with_len, get_or-map-range_with_len}
use Rattle.std.proofs.lemmas.List.Elements.{filter-append}
use Rattle.std.proofs.lemmas.List.{map-append, length-set, get_or-set_same, get_or-set_other, set_past, set-get_or}
use Rattle.std.proofs.lemmas.Bool.{cases_eq, eq-eqb, ne_eqb, cond-true, cond-false}
use Rattle.shapes.specs.declared.readings.Reading.{Reading}
use Rattle.measures.specs.Laws.{Lawful, total}
use Rattle.measures.proofs.Totalled.{total_append, neutral_right}
use Rattle.sources.specs.Readings.{lifts}
use Rattle.sources.specs.Joins.{joined_with, joined_at}
use Rattle.sources.proofs.Lifting.{lifts_append, lift_some, lift_none}

module _ {M : Type 0} {empty : M} {op : M → M → M} (lawful : Lawful empty op) where
  pub length_joined : (f : ℕ → M) (vs : List M) → length (joined_with empty op f vs) ≡ length vs
  length_joined f vs = length-map-range_with_len (λ o. op (get_or vs o empty) (f o)) 0 (length vs)

  pub getD_joined : (f : ℕ → M) (vs : List M) (o : ℕ) (d : M) → o < length vs → get_or (joined_with empty op f vs) o d ≡ op (get_or vs o empty) (f o)
  getD_joined f vs o d h = get_or-map-range_with_len (λ o. op (get_or vs o empty) (f o)) 0 (length vs) o o d h (zero-add o)

  -- nothing joined
  pub joined_nothing : (vs : List M) → joined_with empty op (λ o. empty) vs ≡ vs
  joined_nothing vs = sym (fill_by_all (λ o. op (get_or vs o empty) empty) vs (length vs) empty refl (λ k h. sym (neutral_right lawful (get_or vs k empty))))

  -- joined to cells that are all empty
  pub joined_fresh : (f : ℕ → M) (vs : List M) → ((k : ℕ) → get_or vs k empty ≡ empty) → joined_with empty op f vs ≡ map f (range_with_len 0 (length vs))
  joined_fresh f vs h =
      fill_by_all f (joined_with empty op f vs) (length vs) empty (length_joined f vs)
      (λ k l. getD_joined f vs k empty l ∙ ap (λ v. op v (f k)) (h k) ∙ lawful.neutral (f k))

  -- joined with two values in turn
  pub joined_twice : (f g : ℕ → M) (vs : List M) → joined_with empty op g (joined_with empty op f vs) ≡ joined_with empty op (λ o. op (f o) (g o)) vs
  joined_twice f g vs =
      let ws = joined_with empty op f vs in
      fill_by_all (λ o. op (get_or vs o empty) (op (f o) (g o))) (joined_with empty op g ws) (length vs) empty (length_joined g ws ∙ length_joined f vs)
      (λ k h. getD_joined g ws k empty (rw (length_joined f vs) h) ∙ ap (λ v. op v (g k)) (getD_joined f vs k empty h) ∙ lawful.assoc (get_or vs k empty) (f k) (g k))

  -- one cell joined
  pub joined_one : (vs : List M) (p : ℕ) (v : M) → set vs p (op (get_or vs p empty) v) ≡ joined_with empty op (λ o. cond (eqb p o) v empty) vs
  joined_one vs p v =
      fill_by_all (λ o. op (get_or vs o empty) (cond (eqb p o) v empty)) (set vs p (op (get_or vs p empty) v)) (length vs) empty (length-set vs p (op (get_or vs p empty) v))
      (λ k h. ⊎_elim (here k h) (there k) (cases_eq p k)) where
        here : (k : ℕ) → k < length vs → p ≡ k → get_or (set vs p (op (get_or vs p empty) v)) k empty ≡ op (get_or vs k empty) (cond (eqb p k) v empty)
        here k h e =
            rw e (get_or-set_same vs k (op (get_or vs k empty) v) empty h ∙ ap (op (get_or vs k empty)) (sym (cond-true (eqb k k) v empty (eq-eqb k k refl))))

        there : (k : ℕ) → (p ≡ k → ⊥) → get_or (set vs p (op (get_or vs p empty) v)) k empty ≡ op (get_or vs k empty) (cond (eqb p k) v empty)
        there k ne =
            get_or-set_other vs p k (op (get_or vs p empty) v) empty (λ e. ne (sym e))
            ∙ sym (ap (op (get_or vs k empty)) (cond-false (eqb p k) v empty (ne_eqb p k ne)) ∙ neutral_right lawful (get_or vs k empty))

  module _ (lifted : Reading → M) where
    -- a number that is no reading, or an offset past the last cell, changes nothing
    pub no_reading : (vs : List M) (p n : ℕ) → 16777215 < n → vs ≡ joined_at empty op lifted vs p n
    no_reading vs p n h =
        sym (ap (λ ws. set vs p (op (get_or vs p empty) (total empty op ws))) (lift_none lifted n h)
        ∙ ap (set vs p) (neutral_right lawful (get_or vs p empty)) ∙ set-get_or vs p empty)

    pub no_cell : (vs : List M) (p n : ℕ) → length vs ≤ p → vs ≡ joined_at empty op lifted vs p n
    no_cell vs p n h = sym (set_past vs p _ h)

    pub one_reading : (vs : List M) (p n : ℕ) (r : Reading) → r.value ≡ n → set vs p (op (get_or vs p empty) (lifted r)) ≡ joined_at empty op lifted vs p n
    one_reading vs p n r h =
        sym (ap (λ ws. set vs p (op (get_or vs p empty) (total empty op ws))) (lift_some lifted n r h)
        ∙ ap (λ v. set vs p (op (get_or vs p empty) v)) (neutral_right lawful (lifted r)))

    module _ {R : Type 0} (on : ℕ → R → Bool) (num : R → ℕ) where
      -- the total of the lifts of the items on a cell
      abbrev pub sum_on : List R → ℕ → M
      sum_on xs o = total empty op (lifts lifted (map num (filter (on o) xs)))

      sum-append : (xs ys : List R) (o : ℕ) → sum_on (xs ++ ys) o ≡ op (sum_on xs o) (sum_on ys o)
      sum-append xs ys o =
          ap (λ zs. total empty op (lifts lifted (map num zs))) (filter-append (on o) xs ys)
          ∙ ap (λ ns. total empty op (lifts lifted ns)) (map-append num (filter (on o) xs) (filter (on o) ys))
          ∙ ap (total empty op) (lifts_append lifted (map num (filter (on o) xs)) (map num (filter (on o) ys)))
          ∙ total_append lawful (lifts lifted (map num (filter (on o) xs))) (lifts lifted (map num (filter (on o) ys)))

      pub joined_append : (xs ys : List R) (vs : List M) → joined_with empty op (sum_on ys) (joined_with empty op (sum_on xs) vs) ≡ joined_with empty op (sum_on (xs ++ ys)) vs
      joined_append xs ys vs = joined_twice (sum_on xs) (sum_on ys) vs ∙ ap (λ f. joined_with empty op f vs) (λ i o. sym (sum-append xs ys o) i)

      -- one item, on no cell; and on the cell at offset p
      pub joined_miss : (x : R) (vs : List M) → ((o : ℕ) → on o x ≡ false) → vs ≡ joined_with empty op (sum_on (x ∷ [])) vs
      joined_miss x vs h =
          sym (ap (λ f. joined_with empty op f vs) (λ i o. ap (λ b. total empty op (lifts lifted (map num (cond b (x ∷ []) [])))) (h o) i) ∙ joined_nothing vs)

      sum_one : (b : Bool) (x : R) → total empty op (lifts lifted (map num (cond b (x ∷ []) []))) ≡ cond b (total empty op (lifts lifted (num x ∷ []))) empty
      sum_one true x = refl
      sum_one false x = refl

      pub joined_hit : (x : R) (p : ℕ) (vs : List M) → ((o : ℕ) → on o x ≡ eqb p o) → joined_at empty op lifted vs p (num x) ≡ joined_with empty op (sum_on (x ∷ [])) vs
      joined_hit x p vs h =
          joined_one vs p (total empty op (lifts lifted (num x ∷ [])))
          ∙ ap (λ f. joined_with empty op f vs) (λ i o. (sym (sum_one (eqb p o) x) ∙ ap (λ b. total empty op (lifts lifted (map num (cond b (x ∷ []) [])))) (sym (h o))) i)
