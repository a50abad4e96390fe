-- A whole run by counts: what was handed out, what comes next, and how the counts of a group and its parent stand to each other.
use Rattle.std.proofs.Common.{◌≡◌, ℕ, zero, suc, ◌+◌, ◌*◌, ◌/◌, ◌%◌, ◌<◌, ◌≤◌, Bool, eqb, List, [], ◌∷◌, ◌++◌, map, Some, None, filter, Option, sym, refl, ap, ◌∙◌, subst, ⊎_elim, append_assoc, zero-mul, arith}
use native.Mathlib.Nat.{zero-div}
use Rattle.std.specs.List.{range_with_len, flat_map}
use Rattle.std.proofs.lemmas.List.Elements.{filter-append}
use Rattle.std.proofs.lemmas.Bool.{eq-eqb, ne_eqb, cases_eq}
use Rattle.std.proofs.lemmas.List.{append-nil}
use Rattle.shapes.specs.Arrays.{Group}
use Rattle.cubes.specs.Handing.{same_group}
use Rattle.cubes.specs.Control.{Numbered, Tree, Table, due, due_below, WithinDue, due_by, waits, one_more}
use Rattle.cubes.proofs.Machine.{not_waiting, is_waiting, same_group_refl, same_group_ne, cases_group, one_more_same, one_more_other, quotient_steps, quotient_stands, release_numbers, TreeLaws, Under, due_from, Settled, next_after, Hands, Runs, next_above, Done, release_run, runs_like}
use Rattle.cubes.proofs.Listing.{append_split, counting_suc, map_counting_suc, joined_append}

-- the numbered blocks of a group, among others
abbrev pub is_of : Group → Numbered → Bool
is_of h x = same_group x.of h

abbrev pub numbered : Group → ℕ → Numbered
numbered h s = record { of = h; number = s }

-- what the first t chunks release, by numbers
abbrev pub numbered_by : Tree → Group → ℕ → ℕ → List Numbered
numbered_by S top n t = flat_map (λ s. release_numbers S (suc n) top (s ∷ [])) (range_with_len 0 t)

-- t chunks have been passed, xs handed out and the rest not yet; o tells where the next block is, and d how many blocks of each group were handed out
pub record State (S : Tree) (top : Group) (Child : Group → Type 0) (n t : ℕ) (xs rest : List Numbered) (o : Option Group) (d : Table) : Type 0 where
  pub whole : numbered_by S top n t ≡ xs ++ rest
  pub end : Table
  pub runs : Runs S Child n t o d rest None end
  pub end_top : end top ≡ t
  pub end_settled : Settled S Child end top
  pub counts : (h : Group) → filter (is_of h) xs ≡ map (numbered h) (range_with_len 0 (d h))
  pub within_due : (h : Group) → Child h → WithinDue S d h

counts_more : (xs : List Numbered) (d : Table) (x : Numbered) → ((h : Group) → filter (is_of h) xs ≡ map (numbered h) (range_with_len 0 (d h))) → d x.of ≡ x.number
    → (h : Group) → filter (is_of h) (xs ++ (x ∷ [])) ≡ map (numbered h) (range_with_len 0 (one_more d x.of h))
counts_more xs d x c e h = ⊎_elim same other (cases_group h x.of)
  where
    same : h ≡ x.of → filter (is_of h) (xs ++ (x ∷ [])) ≡ map (numbered h) (range_with_len 0 (one_more d x.of h))
    same p = subst (λ g. filter (is_of g) (xs ++ (x ∷ [])) ≡ map (numbered g) (range_with_len 0 (one_more d x.of g))) (sym p)
        (filter-append (is_of x.of) xs (x ∷ [])
        ∙ (rw (same_group_refl x.of, c x.of)
        (sym (map_counting_suc (numbered x.of) (d x.of) ∙ ap (λ m. map (numbered x.of) (range_with_len 0 (d x.of)) ++ (numbered x.of m ∷ [])) e))))

    other : (h ≡ x.of → ⊥) → filter (is_of h) (xs ++ (x ∷ [])) ≡ map (numbered h) (range_with_len 0 (one_more d x.of h))
    other n = filter-append (is_of h) xs (x ∷ [])
        ∙ (rw (same_group_ne x.of h (λ q. n (sym q)), same_group_ne h x.of n) (append-nil (filter (is_of h) xs) ∙ c h))

module _ (S : Tree) (top : Group) (Child : Group → Type 0) (level : Group → ℕ) (L : TreeLaws S top Child level) where
  pub state_none : (t : ℕ) (xs rest : List Numbered) (d : Table) → State S top Child (level top) t xs rest None d → (numbered_by S top (level top) t ≡ xs)
      × (d top ≡ t) × Settled S Child d top
  state_none t xs [] d s = (s.whole ∙ append-nil xs, rw s.runs.1 s.end_top, subst (λ d'. Settled S Child d' top) (sym s.runs.1) s.end_settled)
  state_none t xs (x ∷ rest) d s = absurd (let z : ◌≡◌ {A = ℕ} 0 1 = cc s.runs.0.next in omega arith)

  within_due_more : (t : ℕ) (o : Option Group) (d : Table) (x : Numbered) → Hands S Child t o d x → ((h : Group) → Child h → WithinDue S d h) → (h : Group)
      → Child h → WithinDue S (one_more d x.of) h
  within_due_more t o d x hands steps h k = ⊎_elim same other (cases_group h x.of)
    where
      g : Group
      g = x.of

      -- h goes on, and its parent does not
      same : h ≡ g → WithinDue S (one_more d g) h
      same p = record {
        no_more = omega (arith, a, b, w);
        no_less = omega (arith, a, b, (steps h k).no_less);
        meanwhile = λ l. ap (λ m. m % S.period h) up'
            ∙ (steps h k).meanwhile (omega (arith, a, b));
      }
        where
          a : one_more d g h ≡ suc (d h)
          a = ap (one_more d g) p ∙ (one_more_same d g ∙ ap (λ z. suc (d z)) (sym p))

          up' : one_more d g (S.parent_of h) ≡ d (S.parent_of h)
          up' = one_more_other d g (S.parent_of h) (λ q. omega (arith, L.level_up h k, ap level q, ap level p))

          b : due_below S (one_more d g) h ≡ due_below S d h
          b = ap (λ m. (m / S.period h) * S.share h) up'

          w : d h < due_below S d h
          w = rw (L.child_not_root h k) at (subst (λ z. d z < due S t d z) (sym p) hands.waiting)

      other : (h ≡ g → ⊥) → WithinDue S (one_more d g) h
      other n = ⊎_elim is_child far (cases_group (S.parent_of h) g)
        where
          far : (S.parent_of h ≡ g → ⊥) → WithinDue S (one_more d g) h
          far m = record {
            no_more = omega (arith, a, b, (steps h k).no_more);
            no_less = omega (arith, a, b, (steps h k).no_less);
            meanwhile = λ l. ap (λ q. q % S.period h) up' ∙ (steps h k).meanwhile (omega (arith, a, b));
          }
            where
              a : one_more d g h ≡ d h
              a = one_more_other d g h n

              up' : one_more d g (S.parent_of h) ≡ d (S.parent_of h)
              up' = one_more_other d g (S.parent_of h) m

              b : due_below S (one_more d g) h ≡ due_below S d h
              b = ap (λ q. (q / S.period h) * S.share h) up'

          is_child : S.parent_of h ≡ g → WithinDue S (one_more d g) h
          is_child u = ⊎_elim yes' no' (cases_eq (suc (d (S.parent_of h)) % S.period h) 0)
            where
              a : one_more d g h ≡ d h
              a = one_more_other d g h n

              up' : one_more d g (S.parent_of h) ≡ suc (d (S.parent_of h))
              up' = ap (one_more d g) u ∙ (one_more_same d g ∙ ap (λ z. suc (d z)) (sym u))

              b : due_below S (one_more d g) h ≡ due_from S (suc (d (S.parent_of h))) h
              b = ap (λ q. (q / S.period h) * S.share h) up'

              even : d h ≡ due_from S (d (S.parent_of h)) h
              even = hands.below 0 h (k, u)

              yes' : suc (d (S.parent_of h)) % S.period h ≡ 0 → WithinDue S (one_more d g) h
              yes' e = record {
                no_more = omega (arith, a, b, even, step);
                no_less = omega (arith, a, b, even, step);
                meanwhile = λ l. ap (λ q. q % S.period h) up'
                    ∙ e;
              }
                where
                  step : due_from S (suc (d (S.parent_of h))) h ≡ due_from S (d (S.parent_of h)) h + S.share h
                  step = ap (λ q. q * S.share h) (quotient_steps (d (S.parent_of h)) (S.period h) (L.period_some h k) e) ∙ (omega arith)

              no' : (suc (d (S.parent_of h)) % S.period h ≡ 0 → ⊥) → WithinDue S (one_more d g) h
              no' e = record {
                no_more = omega (arith, a, b, even, step);
                no_less = omega (arith, a, b, even, step);
                meanwhile = λ l. absurd (omega (arith, a, b, even, step));
              }
                where
                  step : due_from S (suc (d (S.parent_of h))) h ≡ due_from S (d (S.parent_of h)) h
                  step = ap (λ q. q * S.share h) (quotient_stands (d (S.parent_of h)) (S.period h) (L.period_some h k) e)

  -- after a block the children wait whose regions it completes
  pub child_waits : (t : ℕ) (o : Option Group) (d : Table) (x : Numbered) → Hands S Child t o d x → (h : Group) → Child h → S.parent_of h ≡ x.of
      → waits S t (one_more d x.of) h ≡ eqb (suc (d x.of) % S.period h) 0
  child_waits t o d x hands h k u = ⊎_elim yes' no' (cases_eq (suc (d x.of) % S.period h) 0)
    where
      a : one_more d x.of h ≡ due_from S (d x.of) h
      a = one_more_other d x.of h (λ q. omega (arith, L.level_up h k, ap level q, ap level u)) ∙ (hands.below 0 h (k, u) ∙ ap (λ m. due_from S (d m) h) u)

      b : due_below S (one_more d x.of) h ≡ due_from S (suc (d x.of)) h
      b = ap (λ m. due_from S m h) (ap (one_more d x.of) u ∙ one_more_same d x.of)

      yes' : suc (d x.of) % S.period h ≡ 0 → waits S t (one_more d x.of) h ≡ eqb (suc (d x.of) % S.period h) 0
      yes' e = is_waiting S top Child level L t (one_more d x.of) h k (omega (arith, a, b, step, L.share_some h k))
          ∙ sym (eq-eqb (suc (d x.of) % S.period h) 0 e)
        where
          step : due_from S (suc (d x.of)) h ≡ due_from S (d x.of) h + S.share h
          step = ap (λ q. q * S.share h) (quotient_steps (d x.of) (S.period h) (L.period_some h k) e) ∙ (omega arith)

      no' : (suc (d x.of) % S.period h ≡ 0 → ⊥) → waits S t (one_more d x.of) h ≡ eqb (suc (d x.of) % S.period h) 0
      no' e = not_waiting S top Child level L t (one_more d x.of) h k
          (a ∙ sym (b ∙ ap (λ q. q * S.share h) (quotient_stands (d x.of) (S.period h) (L.period_some h k) e)))
          ∙ sym (ne_eqb (suc (d x.of) % S.period h) 0 e)

  pub state_next : (t : ℕ) (xs : List Numbered) (x : Numbered) (rest : List Numbered) (o : Option Group) (d : Table)
      → State S top Child (level top) t xs (x ∷ rest) o d
      → State S top Child (level top) t (xs ++ (x ∷ [])) rest (next_after S (level top) t (one_more d x.of) x.of) (one_more d x.of)
  state_next t xs x rest o d s =
      record {
        whole = s.whole ∙ sym (append_assoc xs (x ∷ []) rest);
        end = s.end;
        runs = s.runs.1;
        end_top = s.end_top;
        end_settled = s.end_settled;
        counts = counts_more xs d x s.counts s.runs.0.number;
        within_due = within_due_more t o d x s.runs.0 s.within_due;
      }

  -- where a group is next, its next block is handed out
  pub state_hand : (t : ℕ) (xs rest : List Numbered) (g : Group) (d : Table) → State S top Child (level top) t xs rest (Some g) d → (rest' : List Numbered)
      × (rest ≡ numbered g (d g) ∷ rest') × State S top Child (level top) t (xs ++ (numbered g (d g) ∷ [])) rest' (next_after S (level top) t (one_more d g) g)
      (one_more d g)
  state_hand t xs [] g d s = absurd (let z : ◌≡◌ {A = ℕ} 0 1 = cc s.runs.0 in omega arith)
  state_hand t xs (x ∷ rest) g d s = (
    rest,
    ap (λ y. y ∷ rest) is,
    subst
        (λ y. State S top Child (level top) t (xs ++ (y ∷ [])) rest (next_after S (level top) t (one_more d y.of) y.of) (one_more d y.of)) is
        (state_next t xs x rest (Some g) d s),
  )
    where
      of_is : x.of ≡ g
      of_is = cc s.runs.0.next

      is : x ≡ numbered g (d g)
      is = ap (numbered x.of) (sym s.runs.0.number) ∙ ap (λ h. numbered h (d h)) of_is

  pub state_start : State S top Child (level top) 0 [] [] None (λ _. 0)
  state_start = record {
    whole = refl;
    end = λ _. 0;
    runs = (refl, refl);
    end_top = refl;
    end_settled = λ j z u. none z;
    counts = λ h. refl;
    within_due = λ h k. record { no_more = omega arith; no_less = omega (arith, none h); meanwhile = λ l. absurd (omega (arith, none h)) };
  }
    where
      none : (h : Group) → 0 ≡ due_below S (λ _. 0) h
      none h = sym (ap (λ q. q * S.share h) (zero-div (S.period h)) ∙ zero-mul (S.share h))

  pub numbered_more : (t : ℕ) → numbered_by S top (level top) (suc t) ≡ numbered_by S top (level top) t ++ release_numbers S (suc (level top)) top (t ∷ [])
  numbered_more t = ap (flat_map (λ s. release_numbers S (suc (level top)) top (s ∷ []))) (counting_suc t)
      ∙ (joined_append (λ s. release_numbers S (suc (level top)) top (s ∷ [])) (range_with_len 0 t) (t ∷ [])
      ∙ ap (λ ys. numbered_by S top (level top) t ++ ys) (append-nil (release_numbers S (suc (level top)) top (t ∷ []))))

  pub state_take : (t : ℕ) (xs rest : List Numbered) (d : Table) → State S top Child (level top) t xs rest None d
      → State S top Child (level top) (suc t) xs (release_numbers S (suc (level top)) top (t ∷ [])) (Some top) d
  state_take t xs rest d s = record {
    whole = numbered_more t ∙ ap (λ ys. ys ++ release_numbers S (suc (level top)) top (t ∷ [])) was.0;
    end = run.table;
    runs = runs_like S Child (level top) (suc t) _ _ d _ _ _ _ run.table refl refl (sym out) run.runs;
    end_top = run.count ∙ (omega arith);
    end_settled =
        run.settled;
    counts = s.counts;
    within_due = s.within_due;
  }
    where
      was : (numbered_by S top (level top) t ≡ xs) × (d top ≡ t) × Settled S Child d top
      was = state_none t xs rest d s

      due_by : due S (suc t) d top ≡ t + 1
      due_by = rw L.root_is (omega arith)

      run : Done S Child (level top) (suc t) top d (release_numbers S (suc (level top)) top (range_with_len t 1)) (λ d'. next_above S (level top) (suc t) d' top) (t + 1)
      run = release_run S top Child level L (suc t) (level top) top 0 refl (omega arith) d t 0 was.1 due_by was.2

      out : next_above S (level top) (suc t) run.table top ≡ None
      out = rw L.root_is

  -- the machine hands out all that waits
  pub state_advance : (t : ℕ) (ys xs zs : List Numbered) (o : Option Group) (d : Table) → State S top Child (level top) t xs (ys ++ zs) o d → (o' : Option Group)
      × (d' : Table) × State S top Child (level top) t (xs ++ ys) zs o' d'
  state_advance t [] xs zs o d s = (o, d, subst (λ ws. State S top Child (level top) t ws zs o d) (sym (append-nil xs)) s)
  state_advance t (y ∷ ys) xs zs o d s =
      let (o', d', s') = state_advance t ys (xs ++ (y ∷ [])) zs (next_after S (level top) t (one_more d y.of) y.of) (one_more d y.of)
      (state_next t xs y (ys ++ zs) o d s) in
      (o', d', subst (λ ws. State S top Child (level top) t ws zs o' d') (append_assoc xs (y ∷ []) ys) s')

  pub state_end : (t : ℕ) (xs : List Numbered) (o : Option Group) (d : Table) → State S top Child (level top) t xs [] o d → o ≡ None
  state_end t xs o d s = s.runs.0

  -- after t chunks and all that they release
  pub state_all : (t : ℕ) → (d : Table) × State S top Child (level top) t (numbered_by S top (level top) t) [] None d
  state_all zero = (λ _. 0, state_start)
  state_all (suc t) =
      let (d, s) = state_all t in
      let (o', d', s') = state_advance (suc t) (release_numbers S (suc (level top)) top (t ∷ [])) (numbered_by S top (level top) t) [] (Some top) d
      (subst (λ ws. State S top Child (level top) (suc t) (numbered_by S top (level top) t) ws (Some top) d)
      (sym (append-nil (release_numbers S (suc (level top)) top (t ∷ [])))) (state_take t (numbered_by S top (level top) t) [] d s)) in (
        d',
        subst (λ ws. State S top Child (level top) (suc t) ws [] None d') (sym (numbered_more t))
            (subst (λ o. State S top Child (level top) (suc t) (numbered_by S top (level top) t ++ release_numbers S (suc (level top)) top (t ∷ [])) [] o d')
            (state_end (suc t) _ o' d' s') s'),
      )

  -- every front of the order is where the machine comes by
  pub state_front : (t : ℕ) (xs ys : List Numbered) → numbered_by S top (level top) t ≡ xs ++ ys → (u : ℕ) × (rest : List Numbered) × (o : Option Group)
      × (d : Table) × State S top Child (level top) u xs rest o d
  state_front zero [] ys e = (0, [], None, λ _. 0, state_start)
  state_front zero (x ∷ xs) ys e = absurd (let z : ◌≡◌ {A = ℕ} 0 1 = cc in omega arith)
  state_front (suc t) xs ys e = ⊎_elim (λ w. state_front t xs w.0 w.1) late
      (append_split (numbered_by S top (level top) t) (release_numbers S (suc (level top)) top (t ∷ [])) xs ys (sym (numbered_more t) ∙ e))
    where
      late : (zs : List Numbered) × (xs ≡ numbered_by S top (level top) t ++ zs) × (release_numbers S (suc (level top)) top (t ∷ []) ≡ zs ++ ys) → (u : ℕ)
          × (rest : List Numbered) × (o : Option Group) × (d : Table) × State S top Child (level top) u xs rest o d
      late w =
          let (d, s) = state_all t in
          let (o', d', s') = state_advance (suc t) w.0 (numbered_by S top (level top) t) ys (Some top) d
          (subst (λ ws. State S top Child (level top) (suc t) (numbered_by S top (level top) t) ws (Some top) d) w.2
          (state_take t (numbered_by S top (level top) t) [] d s)) in
          (suc t, ys, o', d', subst (λ ws. State S top Child (level top) (suc t) ws ys o' d') (sym w.1) s')

  -- what t chunks make due of each group
  pub due_by_is : (t : ℕ) (d : Table) → d top ≡ t → Settled S Child d top → (j f : ℕ) (h : Group) → Under S Child j top h → j ≤ f → due_by S t f h ≡ d h
  due_by_is t d e r zero zero h u l = sym (ap d u ∙ e)
  due_by_is t d e r zero (suc f) h u l = rw (ap S.is_root u ∙ L.root_is) (sym (ap d u ∙ e))
  due_by_is t d e r (suc j) zero h u l = absurd (omega arith)
  due_by_is t d e r (suc j) (suc f) h u l =
      rw (L.child_not_root h u.0) (ap (λ m. (m / S.period h) * S.share h) (due_by_is t d e r j f (S.parent_of h) u.1 (omega arith)) ∙ sym (r j h u))
