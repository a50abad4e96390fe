-- Arrays that a closure makes, element by element, where no call changes the closure.
use Rattle.std.proofs.Common.{◌≡◌, ℕ, zero, suc, ◌+◌, ◌<◌, ◌≤◌, List, map, length, get_or, sym, ap, ◌∙◌, ⊎_elim, subst, refl, arith}
use Rattle.std.specs.Array.{IsFromFnResult, IsFromFnResultFrom, IsMapOf, MapsFrom}
use Rattle.std.specs.Fn.{Called}
use Rattle.std.proofs.lemmas.List.{ext_get_or, get_or-map, length-map}
use Rattle.std.proofs.lemmas.Bool.{cases_eq}
use denote.Param.Members.{Mut}

-- a call for each index made ys: it is the list that has those elements
module _ {F B : Type 0} {g : Mut F (ℕ × Unit {0}) B} (f : F) (h : ℕ → B) (d : B) (ys zs : List B) where
  from_index : (n i : ℕ) (p : F) → p ≡ f → IsFromFnResultFrom g p ys i n → ((k : ℕ) (y : B) (q : F) → k < i + n → Called g f (k, tt) y q → (q ≡ f) × (y ≡ h k)) → (k : ℕ) → i ≤ k → k < i + n → get_or ys k d ≡ h k
  from_index zero i p same made each k low high = absurd (omega arith)
  from_index (suc n) i p same made each k low high =
      let first = each i made.1 made.0 (omega arith) (subst (λ r. Called g r (i, tt) made.1 made.0) same made.3) in
      ⊎_elim (λ e. ap (λ j. get_or ys j d) e ∙ (made.2.1 d ∙ (first.1 ∙ sym (ap h e)))) (λ ne. from_index n (i + 1) made.0 first.0 made.4 (λ j y q l. each j y q (omega arith)) k (omega arith) (omega arith)) (cases_eq k i)

  pub made_from_fn : {n : ℕ} → IsFromFnResult g f ys n → length zs ≡ n → ((k : ℕ) (y : B) (q : F) → k < n → Called g f (k, tt) y q → (q ≡ f) × (y ≡ h k)) → ((k : ℕ) → k < n → h k ≡ get_or zs k d) → ys ≡ zs
  made_from_fn {n} made long each at =
      ext_get_or d ys zs (made.long ∙ sym long) (λ k l. from_index n 0 f refl made.each (λ j y q b. each j y q (omega (arith, b))) k (omega arith) (omega (arith, l, made.long)) ∙ at k (omega (arith, l, made.long)))

-- the same of a call for each element of xs
module _ {F A B : Type 0} {g : Mut F (A × Unit {0}) B} (f : F) (h : A → B) (c : A) (d : B) (xs : List A) (ys : List B) where
  map_from : (n i : ℕ) (p : F) → p ≡ f → MapsFrom g p xs ys i n → ((k : ℕ) (y : B) (q : F) → k < i + n → Called g f (get_or xs k c, tt) y q → (q ≡ f) × (y ≡ h (get_or xs k c))) → (k : ℕ) → i ≤ k → k < i + n → get_or ys k d ≡ h (get_or xs k c)
  map_from zero i p same made each k low high = absurd (omega arith)
  map_from (suc n) i p same made each k low high =
      let first = each i made.2 made.0 (omega arith) (subst (λ r. Called g r (get_or xs i c, tt) made.2 made.0) same (subst (λ x. Called g p (x, tt) made.2 made.0) (sym (made.3.1 c)) made.5)) in
      ⊎_elim (λ e. ap (λ j. get_or ys j d) e ∙ (made.4.1 d ∙ (first.1 ∙ sym (ap (λ j. h (get_or xs j c)) e)))) (λ ne. map_from n (i + 1) made.0 first.0 made.6 (λ j y q l. each j y q (omega arith)) k (omega arith) (omega arith)) (cases_eq k i)

  pub made_map : {n : ℕ} → IsMapOf g f xs ys n → length xs ≡ n → ((k : ℕ) (y : B) (q : F) → k < n → Called g f (get_or xs k c, tt) y q → (q ≡ f) × (y ≡ h (get_or xs k c))) → ys ≡ map h xs
  made_map {n} made long each =
      ext_get_or d ys (map h xs) (made.long ∙ (sym long ∙ sym (length-map xs h))) (λ k l.
      map_from n 0 f refl made.each (λ j y q b. each j y q (omega (arith, b))) k (omega arith) (omega (arith, l, made.long))
      ∙ sym (get_or-map h xs k c d (omega (arith, l, made.long, long))))
