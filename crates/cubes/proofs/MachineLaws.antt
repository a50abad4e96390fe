-- The machine by counts hands out the handing order.
use Rattle.std.proofs.Common.{◌≡◌, ℕ, zero, suc, ◌*◌, ◌/◌, ◌%◌, ◌<◌, ◌≤◌, Bool, true, cond, eqb, ltb, List, [], ◌∷◌, ◌++◌, map, length, get_or, take, Some, None, Option, sym, refl, ap, ◌∙◌, subst, ⊎_elim, append_assoc, le_trans, arith}
use Rattle.std.specs.List.{range_with_len, ContainsAt as Has, AllByRecursion}
use Rattle.std.proofs.ByRecursion.{All-weaker, all_kept_by}
use Rattle.std.proofs.lemmas.List.{map-append, length-set, length-map, take_at, get_or_at, length-append}
use Rattle.std.proofs.lemmas.List.FromFn.{length-map-range_with_len}
use Rattle.shapes.specs.declared.dims.Dim.{Dim}
use Rattle.shapes.specs.Arrays.{Group, counts, product, radix, root, total_chunks}
use Rattle.cubes.specs.Scans.{scan_digits}
use Rattle.cubes.specs.Handing.{Block, Scan, child, children, completes, handing, parent, tally}
use Rattle.cubes.specs.Control.{start, MachineLaws, Numbered, Reached, Table, due, first, hand, next_from, next_step, numbered_block, one_more, or_next, pass, tree, waits}
use Rattle.cubes.proofs.Completions.{completes_is}
use Rattle.cubes.proofs.Handing.{counts_le, of_blocks, released_first, released_is, released_of_groups, under_root}
use Rattle.cubes.proofs.Listing.{all_unmap, all_back}
use Rattle.cubes.proofs.Machine.{Runs, cases_group, next_after, next_after_step, one_more_other, one_more_same}
use Rattle.cubes.proofs.States.{State, child_waits, due_by_is, numbered, numbered_by, state_hand, state_next, state_none, state_start, state_take}
use Rattle.cubes.proofs.Trees.{ChildOf, inside, is_child, lacks_keeps, laws, level, level_root, sized}

module _ (ds : List Dim) (place : ℕ → ℕ) (adds : Group → ℕ) (all : List Group) (S : Scan ds place adds all) where
  -- what a state that the machine reaches stands for
  pub StateOf : ℕ → List Numbered → List Numbered → Option Group → Table → Type 0
  StateOf t xs rest o d = State (tree ds place adds all) (root (length ds)) (ChildOf adds all) (level (root (length ds))) t xs rest o d

  pub reached_state : {xs : List Numbered} {t : ℕ} {o : Option Group} {d : Table} → Reached ds place adds all xs t o d → (rest : List Numbered)
      × StateOf t xs rest o d
  unfolding StateOf
  reached_state start = ([], state_start (tree ds place adds all) (root (length ds)) (ChildOf adds all) level (laws ds place adds all S))
  reached_state (pass {xs = xs} {t = t} {d = d} r) = let (rest, s) =
      reached_state r in (_, state_take (tree ds place adds all) (root (length ds)) (ChildOf adds all) level (laws ds place adds all S) t xs rest d s)
  reached_state (hand {xs = xs} {t = t} {g = g} {d = d} r) =
      let (rest, s) = reached_state r in
      let (rest', e, s') = state_hand (tree ds place adds all) (root (length ds)) (ChildOf adds all) level (laws ds place adds all S) t xs rest g d s in (
        rest',
        subst (λ m. State (tree ds place adds all) (root (length ds)) (ChildOf adds all) (level (root (length ds))) t
            (xs ++ (record { of = g; number = d g } ∷ [])) rest' (next_from (tree ds place adds all) t (suc m) (one_more d g) g) (one_more d g))
            (level_root (length ds)) s',
      )

  runs_grow : (t : ℕ) (o : Option Group) (d : Table) (xs : List Numbered) (o' : Option Group) (d' : Table)
      → Runs (tree ds place adds all) (ChildOf adds all) (level (root (length ds))) t o d xs o' d' → (h : Group) → d h ≤ d' h
  runs_grow t o d [] o' d' r h = omega (arith, ap (λ e. e h) r.1)
  runs_grow t o d (x ∷ xs) o' d' r h =
      le_trans (⊎_elim (λ e. omega (arith, ap d e, ap (one_more d x.of) e, one_more_same d x.of)) (λ n. omega (arith, one_more_other d x.of h n))
      (cases_group h x.of)) (runs_grow t (next_after (tree ds place adds all) (level (root (length ds))) t (one_more d x.of) x.of)
      (one_more d x.of) xs o' d' r.1 h)

  state_of_within : (t : ℕ) (xs rest : List Numbered) (o : Option Group) (d : Table) → StateOf t xs rest o d → t ≤ total_chunks ds → (h : Group) → Has all h
      → d h ≤ product (radix h (counts ds))
  unfolding StateOf
  state_of_within t xs rest o d s l h lh =
      let (j, b, u) = under_root ds place adds all S h lh in
      le_trans (runs_grow t o d rest None s.end s.runs h) (counts_le ds place adds all S t l s.end s.end_top s.end_settled j h u)

  state_of_counted : (t : ℕ) (xs rest : List Numbered) (o : Option Group) (d : Table) → StateOf t xs rest o d → (h : Group) → d h
      ≡ tally (map (numbered_block ds place) xs) h
  unfolding StateOf
  state_of_counted t xs rest o d s h =
      sym (ap length (of_blocks ds place adds all S h xs ∙ ap (map (numbered_block ds place)) (s.counts h))
      ∙ (length-map (map (numbered h) (range_with_len 0 (d h))) (numbered_block ds place) ∙ length-map-range_with_len (numbered h) 0 (d h)))

  state_of_next : (t : ℕ) (xs rest : List Numbered) (g : Group) (d : Table) → StateOf t xs rest (Some g) d → t ≤ total_chunks ds → (Has all g)
      × (d g < product (radix g (counts ds))) × (d g < due (tree ds place adds all) t d g)
  unfolding StateOf
  state_of_next t xs [] g d s l = absurd (let z : ◌≡◌ {A = ℕ} 0 1 = cc s.runs.0 in omega arith)
  state_of_next t xs (x ∷ rest) g d s l = (
    lg,
    omega (
      arith,
      state_of_within t (xs ++ (x ∷ [])) rest _ (one_more d x.of)
          (state_next (tree ds place adds all) (root (length ds)) (ChildOf adds all) level (laws ds place adds all S) t xs x rest (Some g) d s) l g lg,
      ap
          (one_more d x.of) (sym of_is),
      ap d of_is,
      one_more_same d x.of,
    ),
    subst (λ h. d h < due (tree ds place adds all) t d h) of_is
        s.runs.0.waiting,
  )
    where
      of_is : x.of ≡ g
      of_is = cc s.runs.0.next

      lg : Has all g
      lg = subst (Has all) of_is (all_back (λ y. Has all y.of) xs (x ∷ rest)
          (subst (AllByRecursion (λ y. Has all y.of)) s.whole
          (all_unmap (λ y. Has all y.of) (numbered_block ds place) (numbered_by (tree ds place adds all) (root (length ds)) (level (root (length ds))) t)
          (subst (AllByRecursion (λ y. Has all y.of)) (released_is ds place adds all S t l) (released_of_groups ds place adds all S t))))).0

  state_of_completing : (t : ℕ) (xs rest : List Numbered) (g : Group) (d : Table) → StateOf t xs rest (Some g) d → (h : Group) → ChildOf adds all h → parent adds h
      ≡ g → waits (tree ds place adds all) t (one_more d g) h ≡ completes ds place adds h (scan_digits place (radix g (counts ds)) (d g))
  unfolding StateOf
  state_of_completing t xs [] g d s h k e = absurd (let z : ◌≡◌ {A = ℕ} 0 1 = cc s.runs.0 in omega arith)
  state_of_completing t xs (x ∷ rest) g d s h k e =
      subst (λ z. waits (tree ds place adds all) t (one_more d z) h ≡ completes ds place adds h (scan_digits place (radix z (counts ds)) (d z))) of_is
      (child_waits (tree ds place adds all) (root (length ds)) (ChildOf adds all) level (laws ds place adds all S) t (Some g) d x s.runs.0 h k
      (e ∙ sym of_is) ∙ subst (λ z. eqb (suc (d x.of) % (tree ds place adds all).period h) 0
      ≡ completes ds place adds h (scan_digits place (radix z (counts ds)) (d x.of))) (e ∙ sym of_is)
      (sym (completes_is ds place S.edged S.order adds h (sized ds place adds all S h k.0) (inside ds place adds all S h (k))
      (lacks_keeps h (adds h) k.1) (d x.of))))
    where
      of_is : x.of ≡ g
      of_is = cc s.runs.0.next

  next_from_step : (t : ℕ) (d : Table) (h : Group) → Has all h → next_from (tree ds place adds all) t (suc (length ds)) d h
      ≡ next_step (tree ds place adds all) t d (next_from (tree ds place adds all) t (suc (length ds)) d (parent adds h)) h
  next_from_step t d h lh =
      let (j, b, u) = under_root ds place adds all S h lh in
      subst (λ m. next_from (tree ds place adds all) t (suc m) d h
      ≡ next_step (tree ds place adds all) t d (next_from (tree ds place adds all) t (suc m) d (parent adds h)) h) (level_root (length ds))
      (next_after_step (tree ds place adds all) (root (length ds)) (ChildOf adds all) level (laws ds place adds all S) t d j h u)

  first_like : (p q : Group → Bool) (hs : List Group) → AllByRecursion (λ h. p h ≡ q h) hs → first p hs ≡ first q hs
  first_like p q [] a = refl
  first_like p q (h ∷ hs) a = ap (λ b. cond b (Some h) (first p hs)) a.0 ∙ ap (λ o. cond (q h) (Some h) o) (first_like p q hs a.1)

  waits_like : (t : ℕ) (d d' : Table) → ((g : Group) → length g ≡ length ds → d g ≡ d' g) → (h : Group) → length h ≡ length ds → waits (tree ds place adds all) t d h
      ≡ waits (tree ds place adds all) t d' h
  waits_like t d d' e h l = ap (λ m. ltb m (due (tree ds place adds all) t d h)) (e h l)
      ∙ ap (λ m. ltb (d' h) (cond ((tree ds place adds all).is_root h) t ((m / (tree ds place adds all).period h) * (tree ds place adds all).share h)))
      (e (parent adds h) (length-set h (adds h) true ∙ l))

  next_from_like : (t f : ℕ) (d d' : Table) (h : Group) → ((g : Group) → length g ≡ length ds → d g ≡ d' g) → length h ≡ length ds
      → next_from (tree ds place adds all) t f d h ≡ next_from (tree ds place adds all) t f d' h
  next_from_like t zero d d' h e l = refl
  next_from_like t (suc f) d d' h e l =
      ap (λ o. or_next o (cond (waits (tree ds place adds all) t d h) (Some h)
      (cond ((tree ds place adds all).is_root h) None (next_from (tree ds place adds all) t f d (parent adds h)))))
      (first_like (waits (tree ds place adds all) t d) (waits (tree ds place adds all) t d') (children adds all h)
      (All-weaker (λ g. length g ≡ length ds) (λ g. waits (tree ds place adds all) t d g ≡ waits (tree ds place adds all) t d' g)
      (λ g lg. waits_like t d d' e g lg) (children adds all h) (all_kept_by (child adds h) (λ g. length g ≡ length ds) all S.grouped.sized)))
      ∙ (ap (λ b. or_next (first (waits (tree ds place adds all) t d') (children adds all h))
      (cond b (Some h) (cond ((tree ds place adds all).is_root h) None (next_from (tree ds place adds all) t f d (parent adds h))))) (waits_like t d d' e h l)
      ∙ ap (λ o. or_next (first (waits (tree ds place adds all) t d') (children adds all h))
      (cond (waits (tree ds place adds all) t d' h) (Some h) (cond ((tree ds place adds all).is_root h) None o)))
      (next_from_like t f d d' (parent adds h) e (length-set h (adds h) true ∙ l)))

  state_of_front : (t : ℕ) (xs rest : List Numbered) (o : Option Group) (d : Table) → StateOf t xs rest o d → t ≤ total_chunks ds → (more : List Block)
      × (handing ds place adds all ≡ map (numbered_block ds place) xs ++ (map (numbered_block ds place) rest ++ more))
  unfolding StateOf
  state_of_front t xs rest o d s l =
      let (more, e) = released_first ds place adds all t l in (
        more,
        e ∙ (ap (λ ys. ys ++ more) (released_is ds place adds all S t l
            ∙ (ap (map (numbered_block ds place)) s.whole ∙ map-append (numbered_block ds place) xs rest))
            ∙ append_assoc (map (numbered_block ds place) xs) (map (numbered_block ds place) rest) more),
      )

  pub machine_laws : MachineLaws ds place adds all
  unfolding StateOf
  machine_laws = record {
    none_waits = λ {xs} {t} {d} r l. let (rest, s) = reached_state r in released_is ds place adds all S t l
        ∙ ap (map (numbered_block ds place))
        (state_none (tree ds place adds all) (root (length ds)) (ChildOf adds all) level (laws ds place adds all S) t xs rest d s).0;
    one_waits = λ {xs} {t} {g} {d} r l. let (rest, s) = reached_state r in let (rest', e, s') =
        state_hand (tree ds place adds all) (root (length ds)) (ChildOf adds all) level (laws ds place adds all S) t xs rest g d s in (
          map (numbered_block ds place) rest',
          released_is ds place adds all S t l
              ∙ (ap (map (numbered_block ds place)) (s.whole ∙ ap (λ ys. xs ++ ys) e)
              ∙ map-append (numbered_block ds place) xs (record { of = g; number = d g } ∷ rest')),
        );
    front = λ {xs} {t} {o} {d} r l. let (rest, s) = reached_state r in let (more, e) =
        state_of_front t xs rest o d s l in sym
        (ap (take (length xs)) e ∙ take_at (map (numbered_block ds place) xs) (map (numbered_block ds place) rest ++ more) (length xs)
        (length-map xs (numbered_block ds place)));
    next = λ {xs} {t} {g} {d} r l b. let (rest, s) = reached_state r in let (more, e) = state_of_front t xs rest (Some g) d s l in let (rest', e', s') =
        state_hand (tree ds place adds all) (root (length ds)) (ChildOf adds all) level (laws ds place adds all S) t xs rest g d s in ap
        (λ ys. get_or ys (length xs) b) (e ∙ ap (λ ys. map (numbered_block ds place) xs ++ (map (numbered_block ds place) ys ++ more)) e')
        ∙ get_or_at (map (numbered_block ds place) xs) (numbered_block ds place (record { of = g; number = d g }))
        (map (numbered_block ds place) rest' ++ more) b (length xs) (length-map xs (numbered_block ds place));
    none_more = λ {xs} {t} {d} r l. let (rest, s) =
        reached_state r in ap length (released_is ds place adds all S t l
        ∙ ap (map (numbered_block ds place))
        (state_none (tree ds place adds all) (root (length ds)) (ChildOf adds all) level (laws ds place adds all S) t xs rest d s).0)
        ∙ length-map xs (numbered_block ds place);
    some_more = λ {xs} {t} {g} {d} r l. let (rest, s) = reached_state r in let (rest', e, s') =
        state_hand (tree ds place adds all) (root (length ds)) (ChildOf adds all) level (laws ds place adds all S) t xs rest g d s in omega (
          arith,
          ap length (released_is ds place adds all S t l)
              ∙ (length-map _ (numbered_block ds place)
              ∙ (ap length (s.whole ∙ ap (λ ys. xs ++ ys) e) ∙ length-append xs (record { of = g; number = d g } ∷ rest'))),
        );
    next_is = λ {xs} {t} {g} {d} r l. let (rest, s) = reached_state r in state_of_next t xs rest g d s l;
    counted = λ {xs} {t} {o} {d} r h. let (rest, s) = reached_state r in state_of_counted t xs rest o d s h;
    within = λ {xs} {t} {o} {d} r l h lh. let (rest, s) = reached_state r in state_of_within t xs rest o d s l h lh;
    at_rest = λ {xs} {t} {d} r h lh. let (rest, s) = reached_state r in let (e, dt, rs) =
        state_none (tree ds place adds all) (root (length ds)) (ChildOf adds all) level (laws ds place adds all S) t xs rest d s in let (j, b, u) =
        under_root ds place adds all S h lh in sym
        (due_by_is (tree ds place adds all) (root (length ds)) (ChildOf adds all) level (laws ds place adds all S) t d dt rs j (length ds) h u b);
    within_due = λ {xs} {t} {o} {d} r h lh n. let (rest, s) = reached_state r in s.within_due h (is_child ds place adds all S h lh n);
    completing = λ {xs} {t} {g} {d} r h lh k e. let (rest, s) = reached_state r in state_of_completing t xs rest g d s h (lh, k) e;
    alike = next_from_like;
    seen_from = next_from_step;
  }
