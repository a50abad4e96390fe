-- The machine by counts hands out what the release by numbers does, for any tree of groups.
use Rattle.std.proofs.Common.{◌≡◌, ℕ, zero, suc, ◌+◌, ◌*◌, ◌/◌, ◌%◌, ◌<◌, ◌≤◌, Bool, true, false, cond, eqb, ◌≢◌, ◌⊎◌, List, [], ◌∷◌, ◌++◌, Some, None, Option, sym, refl, ap, ◌∙◌, subst, inl, inr, ⊎_elim, append_assoc, mod-lt, mod-eq_of_lt, div-add-mod', arith}
use native.Mathlib.Nat.{div-eq_of_lt-le, div-eq_of_eq-mul_left, suc-mod, mod_self}
use Rattle.std.specs.List.{range_with_len, flat_map, ContainsAt as Has, AllByRecursion}
use Rattle.std.proofs.ByRecursion.{all-has, All-append, All-weaker}
use Rattle.std.proofs.lemmas.Bool.{lt-ltb, le-ltb, eqb-true, eqb-false, cases_Bool, cases_lt, true≢false}
use Rattle.std.proofs.lemmas.List.{append-nil}
use Rattle.shapes.specs.Arrays.{Group}
use Rattle.cubes.specs.Handing.{same_group, Distinct}
use Rattle.cubes.specs.Control.{Numbered, Tree, Table, due, due_below, waits, one_more, first, or_next, next_step, next_from}
use Rattle.cubes.proofs.Listing.{all_front, all_back, all_both, distinct_front, distinct_back}

-- two groups are the same, or not
pub same_group_true : (g h : Group) → same_group g h ≡ true → g ≡ h
same_group_true [] [] e = refl
same_group_true [] (b ∷ h) e = cc
same_group_true (a ∷ g) [] e = cc
same_group_true (true ∷ g) (true ∷ h) e = ap (λ x. true ∷ x) (same_group_true g h e)
same_group_true (true ∷ g) (false ∷ h) e = cc
same_group_true (false ∷ g) (true ∷ h) e = cc
same_group_true (false ∷ g) (false ∷ h) e = ap (λ x. false ∷ x) (same_group_true g h e)

pub same_group_refl : (g : Group) → same_group g g ≡ true
same_group_refl [] = refl
same_group_refl (true ∷ g) = same_group_refl g
same_group_refl (false ∷ g) = same_group_refl g

pub same_group_ne : (g h : Group) → (g ≡ h → ⊥) → same_group g h ≡ false
same_group_ne g h n = ⊎_elim (λ e. absurd (n (same_group_true g h e))) (λ e. e) (cases_Bool (same_group g h))

pub cases_group : (g h : Group) → (g ≡ h) ⊎ (g ≡ h → ⊥)
cases_group g h = ⊎_elim (λ e. inl (same_group_true g h e)) (λ e. inr (λ p. true≢false (sym (same_group_refl g) ∙ (ap (same_group g) p ∙ e))))
    (cases_Bool (same_group g h))

pub one_more_same : (d : Table) (g : Group) → one_more d g g ≡ suc (d g)
one_more_same d g = rw (same_group_refl g)

pub one_more_other : (d : Table) (g h : Group) → (h ≡ g → ⊥) → one_more d g h ≡ d h
one_more_other d g h n = rw (same_group_ne h g n)

pub first_none : (p : Group → Bool) (hs : List Group) → AllByRecursion (λ h. p h ≡ false) hs → first p hs ≡ None
first_none p [] a = refl
first_none p (h ∷ hs) a = rw a.0 (first_none p hs a.1)

pub first_some : (p : Group → Bool) (gs : List Group) (h : Group) (hs : List Group) → AllByRecursion (λ g. p g ≡ false) gs → p h ≡ true → first p (gs ++ (h ∷ hs)) ≡ Some h
first_some p [] h hs a e = rw e
first_some p (g ∷ gs) h hs a e = rw a.0 (first_some p gs h hs a.1 e)

-- the quotient steps up where the remainder comes to 0, and stands elsewhere
pub last_of : (a m : ℕ) → 0 < m → suc a % m ≡ 0 → suc (a % m) ≡ m
last_of a m pos e = ⊎_elim (λ l. absurd (no' l)) (λ g. omega (arith, mod-lt a pos)) (cases_lt (suc (a % m)) m)
  where
    no' : suc (a % m) < m → ⊥
    no' l = omega (arith, suc-mod a m, mod-eq_of_lt l)

pub quotient_steps : (a m : ℕ) → 0 < m → suc a % m ≡ 0 → suc a / m ≡ suc (a / m)
quotient_steps a m pos e = div-eq_of_eq-mul_left pos (omega (arith, last_of a m pos e, div-add-mod' a m))

pub quotient_stands : (a m : ℕ) → 0 < m → (suc a % m ≡ 0 → ⊥) → suc a / m ≡ a / m
quotient_stands a m pos n = div-eq_of_lt-le m (omega (arith, div-add-mod' a m)) (omega (arith, div-add-mod' a m, mod-lt a pos, inside))
  where
    inside : suc (a % m) ≢ m
    inside e = n (suc-mod a m ∙ (ap (λ x. x % m) e ∙ mod_self m))

-- the release by numbers
abbrev pub child_part : (Group → List ℕ → List Numbered) → Tree → ℕ → Group → List Numbered
child_part rel S a h = cond (eqb (suc a % S.period h) 0) (rel h (range_with_len ((a / S.period h) * S.share h) (S.share h))) []

unfoldable pub release_numbers : Tree → ℕ → Group → List ℕ → List Numbered
release_numbers S zero g ss = []
release_numbers S (suc levels) g ss = flat_map (λ a. record { of = g; number = a } ∷ flat_map (child_part (release_numbers S levels) S a) (S.children_of g)) ss

-- what a tree of groups keeps. Child h says that h is a group with a parent
pub record TreeLaws (S : Tree) (top : Group) (Child : Group → Type 0) (level : Group → ℕ) : Type 0 where
  pub root_is : S.is_root top ≡ true
  pub child_not_root : (h : Group) → Child h → S.is_root h ≡ false
  pub children_are : (g : Group) → AllByRecursion (λ h. Child h × (S.parent_of h ≡ g)) (S.children_of g)
  pub children_have : (h : Group) → Child h → Has (S.children_of (S.parent_of h)) h
  pub children_once : (g : Group) → Distinct (S.children_of g)
  pub level_up : (h : Group) → Child h → level (S.parent_of h) ≡ suc (level h)
  pub period_some : (h : Group) → Child h → 0 < S.period h
  pub share_some : (h : Group) → Child h → 0 < S.share h

-- z is j steps below g
abbrev pub Under : Tree → (Group → Type 0) → ℕ → Group → Group → Type 0
Under S Child zero g z = z ≡ g
Under S Child (suc j) g z = Child z × Under S Child j g (S.parent_of z)

-- all below g have handed out what is due
abbrev pub Settled : Tree → (Group → Type 0) → Table → Group → Type 0
Settled S Child d g = (j : ℕ) (z : Group) → Under S Child (suc j) g z → d z ≡ due_below S d z

-- where the next block is after one of g
abbrev pub next_after : Tree → ℕ → ℕ → Table → Group → Option Group
next_after S n t d g = next_from S t (suc n) d g

-- x is handed out in its turn
pub record Hands (S : Tree) (Child : Group → Type 0) (t : ℕ) (o : Option Group) (d : Table) (x : Numbered) : Type 0 where
  pub next : o ≡ Some x.of
  pub number : d x.of ≡ x.number
  pub waiting : d x.of < due S t d x.of
  pub below : Settled S Child d x.of

-- from a state the machine hands out a list and comes to a state
abbrev pub Runs : Tree → (Group → Type 0) → ℕ → ℕ → Option Group → Table → List Numbered → Option Group → Table → Type 0
Runs S Child n t o d [] o' d' = (o ≡ o') × (d ≡ d')
Runs S Child n t o d (x ∷ xs) o' d' = Hands S Child t o d x × Runs S Child n t (next_after S n t (one_more d x.of) x.of) (one_more d x.of) xs o' d'

-- where the next block is after the last of g
abbrev pub next_above : Tree → ℕ → ℕ → Table → Group → Option Group
next_above S n t d g = cond (S.is_root g) None (next_after S n t d (S.parent_of g))

-- what a blocks of its parent make due of a group
abbrev pub due_from : Tree → ℕ → Group → ℕ
due_from S a h = (a / S.period h) * S.share h

-- what a release of g comes to
pub record Done (S : Tree) (Child : Group → Type 0) (n t : ℕ) (g : Group) (d : Table) (xs : List Numbered) (out : Table → Option Group) (b : ℕ) : Type 0 where
  pub table : Table
  pub runs : Runs S Child n t (Some g) d xs (out table) table
  pub count : table g ≡ b
  pub frame : (z : Group) → ((j : ℕ) → Under S Child j g z → ⊥) → table z ≡ d z
  pub settled : Settled S Child table g

-- what becomes of a child x of g after block a of g
pub record ChildDone (S : Tree) (Child : Group → Type 0) (n t : ℕ) (g : Group) (a : ℕ) (x : Group) (d : Table) (xs : List Numbered) : Type 0 where
  pub table : Table
  pub runs : Runs S Child n t (next_after S n t d g) d xs (next_after S n t table g) table
  pub count : table x ≡ due_from S (suc a) x
  pub frame : (z : Group) → ((j : ℕ) → Under S Child j x z → ⊥) → table z ≡ d z
  pub settled : Settled S Child table x

-- all that is more than one step below g has handed out what is due
abbrev pub SettledDeeper : Tree → (Group → Type 0) → Table → Group → Type 0
SettledDeeper S Child d g = (j : ℕ) (z : Group) → Under S Child (suc (suc j)) g z → d z ≡ due_below S d z

-- what becomes of the children of g after block a of g
pub record ChildrenDone (S : Tree) (Child : Group → Type 0) (n t : ℕ) (g : Group) (a : ℕ) (d : Table) (xs : List Numbered) : Type 0 where
  pub table : Table
  pub runs : Runs S Child n t (next_after S n t d g) d xs (next_after S n t table g) table
  pub count : table g ≡ suc a
  pub are_children : AllByRecursion (λ h. table h ≡ due_from S (suc a) h) (S.children_of g)
  pub frame : (z : Group) → ((j : ℕ) → Under S Child (suc j) g z → ⊥) → table z ≡ d z
  pub deeper : SettledDeeper S Child table g

pub some_more : (n : ℕ) → 0 < n → (m : ℕ) × (n ≡ suc m)
some_more zero l = absurd (omega arith)
some_more (suc n) l = (n, refl)

pub runs_join : (S : Tree) (Child : Group → Type 0) (n t : ℕ) (o : Option Group) (d : Table) (xs ys : List Numbered) (o₁ o₂ : Option Group) (d₁ d₂ : Table)
    → Runs S Child n t o d xs o₁ d₁ → Runs S Child n t o₁ d₁ ys o₂ d₂ → Runs S Child n t o d (xs ++ ys) o₂ d₂
runs_join S Child n t o d [] ys o₁ o₂ d₁ d₂ r s = rw (r.0, r.1) s
runs_join S Child n t o d (x ∷ xs) ys o₁ o₂ d₁ d₂ r s =
    (r.0, runs_join S Child n t (next_after S n t (one_more d x.of) x.of) (one_more d x.of) xs ys o₁ o₂ d₁ d₂ r.1 s)

pub runs_like : (S : Tree) (Child : Group → Type 0) (n t : ℕ) (o p : Option Group) (d : Table) (xs ys : List Numbered) (o₁ p₁ : Option Group) (d₁ : Table) → o ≡ p
    → xs ≡ ys → o₁ ≡ p₁ → Runs S Child n t p d ys p₁ d₁ → Runs S Child n t o d xs o₁ d₁
runs_like S Child n t o p d xs ys o₁ p₁ d₁ e f g r = rw (e, f, g) r

module _ (S : Tree) (top : Group) (Child : Group → Type 0) (level : Group → ℕ) (L : TreeLaws S top Child level) where
  pub under_level : (j : ℕ) (g z : Group) → Under S Child j g z → level g ≡ j + level z
  under_level zero g z e = omega (arith, ap level e)
  under_level (suc j) g z u = omega (arith, under_level j g (S.parent_of z) u.1, L.level_up z u.0)

  pub under_one : (j : ℕ) (g h z : Group) → Under S Child j g z → Under S Child j h z → g ≡ h
  under_one zero g h z u v = sym u ∙ v
  under_one (suc j) g h z u v = under_one j g h (S.parent_of z) u.1 v.1

  pub under_same : (i j : ℕ) (g h z : Group) → Under S Child i g z → Under S Child j h z → level g ≡ level h → g ≡ h
  under_same i j g h z u v e =
      let ij : i ≡ j = omega (arith, under_level i g z u, under_level j h z v) in
      under_one j g h z (subst (λ k. Under S Child k g z) ij u) v

  pub under_more : (j : ℕ) (g x z : Group) → Under S Child j x z → Child x → S.parent_of x ≡ g → Under S Child (suc j) g z
  under_more zero g x z u k e = (subst Child (sym u) k, ap S.parent_of u ∙ e)
  under_more (suc j) g x z u k e = (u.0, under_more j g x (S.parent_of z) u.1 k e)

  pub under_top : (j : ℕ) (g z : Group) → Under S Child (suc j) g z → (y : Group) × Under S Child j y z × Child y × (S.parent_of y ≡ g)
  under_top zero g z u = (z, refl, u.0, u.1)
  under_top (suc j) g z u = let (y, v, k, e) = under_top j g (S.parent_of z) u.1 in (y, (u.0, v), k, e)

  module _ (t : ℕ) where
    pub not_waiting : (d : Table) (h : Group) → Child h → d h ≡ due_below S d h → waits S t d h ≡ false
    not_waiting d h k e = rw (L.child_not_root h k) (le-ltb (d h) (due_below S d h) (omega arith))

    pub is_waiting : (d : Table) (h : Group) → Child h → d h < due_below S d h → waits S t d h ≡ true
    is_waiting d h k e = rw (L.child_not_root h k) (lt-ltb (d h) (due_below S d h) e)

    pub next_step_root : (d : Table) (g : Group) (o o' : Option Group) → S.is_root g ≡ true → next_step S t d o g ≡ next_step S t d o' g
    next_step_root d g o o' e = rw e

    -- what is next does not depend on how many levels up are looked at
    pub next_from_levels : (d : Table) (j f : ℕ) (g : Group) → Under S Child j top g → j ≤ f → next_from S t (suc f) d g ≡ next_from S t (suc j) d g
    next_from_levels d zero f g u l = next_step_root d g _ _ (ap S.is_root u ∙ L.root_is)
    next_from_levels d (suc j) zero g u l = absurd (omega arith)
    next_from_levels d (suc j) (suc f) g u l = ap (λ o. next_step S t d o g) (next_from_levels d j f (S.parent_of g) u.1 (omega arith))

    pub next_after_step : (d : Table) (j : ℕ) (g : Group) → Under S Child j top g → next_after S (level top) t d g
        ≡ next_step S t d (next_after S (level top) t d (S.parent_of g)) g
    next_after_step d zero g u = next_step_root d g _ _ (ap S.is_root u ∙ L.root_is)
    next_after_step d (suc j) g u =
        let e : level top ≡ suc (j + level g) = omega (arith, under_level (suc j) top g u) in
        ap (λ o. next_step S t d o g) (ap (λ m. next_from S t m d (S.parent_of g)) e
        ∙ (next_from_levels d j (j + level g) (S.parent_of g) u.1 (omega arith)
        ∙ sym (next_from_levels d j (level top) (S.parent_of g) u.1 (omega arith))))

    module _ (f : ℕ) (g : Group) (i : ℕ) (placed : Under S Child i top g) (a : ℕ)
        (ih : (x : Group) → Child x → S.parent_of x ≡ g → (d : Table) (b c : ℕ) → d x ≡ b → due S t d x ≡ b + suc c → Settled S Child d x
        → Done S Child (level top) t x d (release_numbers S f x (range_with_len b (suc c))) (λ d'. next_above S (level top) t d' x) (b + suc c)) where
      pub due_below_from : (d : Table) (h : Group) → S.parent_of h ≡ g → d g ≡ suc a → due_below S d h ≡ due_from S (suc a) h
      due_below_from d h u e = ap (λ m. (m / S.period h) * S.share h) (ap d u ∙ e)

      child_run : (gone todo : List Group) (x : Group) → S.children_of g ≡ gone ++ (x ∷ todo) → (d : Table) → d g ≡ suc a
          → AllByRecursion (λ h. d h ≡ due_from S (suc a) h) gone → d x ≡ due_from S a x → Settled S Child d x
          → ChildDone S Child (level top) t g a x d (child_part (release_numbers S f) S a x)
      child_run gone todo x eq d dg past now settled = ⊎_elim yes' no' (cases_Bool (eqb (suc a % S.period x) 0))
        where
          are_children : AllByRecursion (λ h. Child h × (S.parent_of h ≡ g)) (gone ++ (x ∷ todo))
          are_children = subst (AllByRecursion (λ h. Child h × (S.parent_of h ≡ g))) eq (L.children_are g)

          is_child : Child x × (S.parent_of x ≡ g)
          is_child = (all_back (λ h. Child h × (S.parent_of h ≡ g)) gone (x ∷ todo) are_children).0

          not_waiting_past : AllByRecursion (λ h. waits S t d h ≡ false) gone
          not_waiting_past = all_both (λ h. Child h × (S.parent_of h ≡ g)) (λ h. d h ≡ due_from S (suc a) h) (λ h. waits S t d h ≡ false)
              (λ h k e. not_waiting d h k.0 (e ∙ sym (due_below_from d h k.1 dg))) gone
              (all_front (λ h. Child h × (S.parent_of h ≡ g)) gone (x ∷ todo) are_children) past

          yes' : eqb (suc a % S.period x) 0 ≡ true → ChildDone S Child (level top) t g a x d (child_part (release_numbers S f) S a x)
          yes' e = record {
            table = run.table;
            runs = runs_like S Child (level top) t _ _ d _ _ _ _ run.table here
                (part ∙ ap (λ m. release_numbers S f x (range_with_len (due_from S a x) m)) size.1) there run.runs;
            count = run.count ∙ (sum' ∙ sym step);
            frame =
                run.frame;
            settled = run.settled;
          }
            where
              size : (c : ℕ) × (S.share x ≡ suc c)
              size = some_more (S.share x) (L.share_some x is_child.0)

              part : child_part (release_numbers S f) S a x ≡ release_numbers S f x (range_with_len (due_from S a x) (S.share x))
              part = rw e

              step : due_from S (suc a) x ≡ due_from S a x + S.share x
              step = ap (λ q. q * S.share x) (quotient_steps a (S.period x) (L.period_some x is_child.0) (eqb-true (suc a % S.period x) 0 e)) ∙ (omega arith)

              sum' : due_from S a x + suc size.0 ≡ due_from S a x + S.share x
              sum' = ap (λ m. due_from S a x + m) (sym size.1)

              due_by : due S t d x ≡ due_from S a x + suc size.0
              due_by = rw (L.child_not_root x is_child.0) (due_below_from d x is_child.1 dg ∙ (step ∙ sym sum'))

              run : Done S Child (level top) t x d (release_numbers S f x (range_with_len (due_from S a x) (suc size.0))) (λ d'. next_above S (level top) t d' x)
                  (due_from S a x + suc size.0)
              run = ih x is_child.0 is_child.1 d (due_from S a x) size.0 now due_by settled

              waiting_now : waits S t d x ≡ true
              waiting_now = is_waiting d x is_child.0 (omega (arith, now, due_below_from d x is_child.1 dg, step, L.share_some x is_child.0))

              here : next_after S (level top) t d g ≡ Some x
              here = next_after_step d i g placed
                  ∙ ap (λ o. or_next o (cond (waits S t d g) (Some g) (cond (S.is_root g) None (next_after S (level top) t d (S.parent_of g)))))
                  (ap (first (waits S t d)) eq ∙ first_some (waits S t d) gone x todo not_waiting_past waiting_now)

              there : next_after S (level top) t run.table g ≡ next_above S (level top) t run.table x
              there = rw (L.child_not_root x is_child.0) (ap (next_after S (level top) t run.table) (sym is_child.1))

          no' : eqb (suc a % S.period x) 0 ≡ false → ChildDone S Child (level top) t g a x d (child_part (release_numbers S f) S a x)
          no' e = record {
            table = d;
            runs = rw e (refl, refl);
            count = now
                ∙ ap (λ q. q * S.share x) (sym (quotient_stands a (S.period x) (L.period_some x is_child.0) (eqb-false (suc a % S.period x) 0 e)));
            frame =
                λ z n. refl;
            settled = settled;
          }

      children_run : (todo gone : List Group) → S.children_of g ≡ gone ++ todo → (d : Table) → d g ≡ suc a → AllByRecursion (λ h. d h ≡ due_from S (suc a) h) gone
          → AllByRecursion (λ h. d h ≡ due_from S a h) todo → SettledDeeper S Child d g
          → ChildrenDone S Child (level top) t g a d (flat_map (child_part (release_numbers S f) S a) todo)
      children_run [] gone eq d dg past next deeper =
          record { table = d; runs = (refl, refl); count = dg; are_children = rw (eq, append-nil gone) past; frame = λ z n. refl; deeper = deeper }
      children_run (x ∷ todo) gone eq d dg past next deeper =
          let rest : ChildrenDone S Child (level top) t g a one.table (flat_map (child_part (release_numbers S f) S a) todo) =
          children_run todo (gone ++ (x ∷ [])) (eq ∙ sym (append_assoc gone (x ∷ []) todo)) one.table above past' next' deeper' in
          record {
            table = rest.table;
            runs = runs_join S Child (level top) t _ d _ _ _ _ _ _ one.runs rest.runs;
            count = rest.count;
            are_children = rest.are_children;
            frame = λ z n. rest.frame z n ∙ one.frame z (λ j u. n j (under_more j g x z u is_child.0 is_child.1));
            deeper = rest.deeper;
          }
        where
          are_children : AllByRecursion (λ h. Child h × (S.parent_of h ≡ g)) (gone ++ (x ∷ todo))
          are_children = subst (AllByRecursion (λ h. Child h × (S.parent_of h ≡ g))) eq (L.children_are g)

          is_child : Child x × (S.parent_of x ≡ g)
          is_child = (all_back (λ h. Child h × (S.parent_of h ≡ g)) gone (x ∷ todo) are_children).0

          one : ChildDone S Child (level top) t g a x d (child_part (release_numbers S f) S a x)
          one = child_run gone todo x eq d dg past next.0 (λ j z u. deeper j z (under_more (suc j) g x z u is_child.0 is_child.1))

          -- a sibling of x, or what is below it, is not below x
          beside : (h z : Group) (j : ℕ) → Child h × (S.parent_of h ≡ g) → (h ≡ x → ⊥) → Under S Child j h z → one.table z ≡ d z
          beside h z j k n u = one.frame z
              (λ i v. n (under_same j i h x z u v (omega (arith, L.level_up h k.0, L.level_up x is_child.0, ap level k.1, ap level is_child.1))))

          apart : Distinct (gone ++ (x ∷ todo))
          apart = subst Distinct eq (L.children_once g)

          above : one.table g ≡ suc a
          above = one.frame g (λ j u. omega (arith, under_level j x g u, L.level_up x is_child.0, ap level is_child.1)) ∙ dg

          past' : AllByRecursion (λ h. one.table h ≡ due_from S (suc a) h) (gone ++ (x ∷ []))
          past' = All-append (λ h. one.table h ≡ due_from S (suc a) h) gone (x ∷ [])
              (all_both (λ h. (Child h × (S.parent_of h ≡ g)) × (h ≡ x → ⊥)) (λ h. d h ≡ due_from S (suc a) h) (λ h. one.table h ≡ due_from S (suc a) h)
              (λ h k e. beside h h 0 k.0 k.1 refl ∙ e) gone
              (all_both (λ h. Child h × (S.parent_of h ≡ g)) (λ h. h ≡ x → ⊥) (λ h. (Child h × (S.parent_of h ≡ g)) × (h ≡ x → ⊥)) (λ h k n. (k, n)) gone
              (all_front (λ h. Child h × (S.parent_of h ≡ g)) gone (x ∷ todo) are_children) (distinct_front gone x todo apart)) past) (one.count, tt)

          next' : AllByRecursion (λ h. one.table h ≡ due_from S a h) todo
          next' = all_both (λ h. (Child h × (S.parent_of h ≡ g)) × (h ≡ x → ⊥)) (λ h. d h ≡ due_from S a h) (λ h. one.table h ≡ due_from S a h)
              (λ h k e. beside h h 0 k.0 k.1 refl ∙ e) todo
              (all_both (λ h. Child h × (S.parent_of h ≡ g)) (λ h. h ≡ x → ⊥) (λ h. (Child h × (S.parent_of h ≡ g)) × (h ≡ x → ⊥)) (λ h k n. (k, n)) todo
              (all_back (λ h. Child h × (S.parent_of h ≡ g)) gone (x ∷ todo) are_children).1 (distinct_back gone x todo apart)) next.1

          deeper' : SettledDeeper S Child one.table g
          deeper' j z u = ⊎_elim in' out' (cases_group w.0 x)
            where
              w : (y : Group) × Under S Child (suc j) y z × Child y × (S.parent_of y ≡ g)
              w = under_top (suc j) g z u

              in' : w.0 ≡ x → one.table z ≡ due_below S one.table z
              in' e = one.settled j z (subst (λ y. Under S Child (suc j) y z) e w.1)

              out' : (w.0 ≡ x → ⊥) → one.table z ≡ due_below S one.table z
              out' n = beside w.0 z (suc j) (w.2, w.3) n w.1
                  ∙ (deeper j z u ∙ ap (λ m. (m / S.period z) * S.share z) (sym (beside w.0 (S.parent_of z) j (w.2, w.3) n w.1.1)))

      kept : (d : Table) (j : ℕ) (z : Group) → Under S Child (suc j) g z → one_more d g z ≡ d z
      kept d j z u = one_more_other d g z (λ e. omega (arith, under_level (suc j) g z u, ap level e))

      children_after : (d : Table) → d g ≡ a → Settled S Child d g
          → ChildrenDone S Child (level top) t g a (one_more d g) (flat_map (child_part (release_numbers S f) S a) (S.children_of g))
      children_after d dg settled = children_run (S.children_of g) [] refl (one_more d g) (one_more_same d g ∙ ap suc dg) tt
          (All-weaker (λ h. Child h × (S.parent_of h ≡ g)) (λ h. one_more d g h ≡ due_from S a h)
          (λ h k. kept d 0 h k ∙ (settled 0 h k ∙ ap (λ m. (m / S.period h) * S.share h) (ap d k.1 ∙ dg))) (S.children_of g) (L.children_are g))
          (λ j z u. kept d (suc j) z u ∙ (settled (suc j) z u ∙ ap (λ m. (m / S.period z) * S.share z) (sym (kept d j (S.parent_of z) u.1))))

      -- block a of g with all that it releases
      block_run : (d : Table) → d g ≡ a → a < due S t d g → Settled S Child d g
          → Done S Child (level top) t g d (release_numbers S (suc f) g (a ∷ [])) (λ d'. cond (waits S t d' g) (Some g) (next_above S (level top) t d' g)) (suc a)
      unfolding release_numbers
      block_run d dg more settled = go' (children_after d dg settled)
        where
          hands : Hands S Child t (Some g) d (record { of = g; number = a })
          hands = record { next = refl; number = dg; waiting = omega arith; below = settled }

          go' : ChildrenDone S Child (level top) t g a (one_more d g) (flat_map (child_part (release_numbers S f) S a) (S.children_of g))
              → Done S Child (level top) t g d (release_numbers S (suc f) g (a ∷ [])) (λ d'. cond (waits S t d' g) (Some g) (next_above S (level top) t d' g))
              (suc a)
          go' are_children = record {
            table = are_children.table;
            runs = (
              hands,
              runs_like S Child (level top) t _ _ (one_more d g) _ _ _ _ are_children.table refl
                  (append-nil (flat_map (child_part (release_numbers S f) S a) (S.children_of g))) (sym here) are_children.runs,
            );
            count = are_children.count;
            frame = λ z n. are_children.frame z (λ j u. n (suc j) u) ∙ one_more_other d g z (λ e. n 0 e);
            settled = settled';
          }
            where
              not_waiting_children : AllByRecursion (λ h. waits S t are_children.table h ≡ false) (S.children_of g)
              not_waiting_children = all_both (λ h. Child h × (S.parent_of h ≡ g)) (λ h. are_children.table h ≡ due_from S (suc a) h)
                  (λ h. waits S t are_children.table h ≡ false)
                  (λ h k e. not_waiting are_children.table h k.0 (e ∙ sym (due_below_from are_children.table h k.1 are_children.count)))
                  (S.children_of g) (L.children_are g) are_children.are_children

              here : next_after S (level top) t are_children.table g
                  ≡ cond (waits S t are_children.table g) (Some g) (next_above S (level top) t are_children.table g)
              here = next_after_step are_children.table i g placed
                  ∙ ap (λ o. or_next o (cond (waits S t are_children.table g) (Some g) (next_above S (level top) t are_children.table g)))
                  (first_none (waits S t are_children.table) (S.children_of g) not_waiting_children)

              settled' : (j : ℕ) (z : Group) → Under S Child (suc j) g z → are_children.table z ≡ due_below S are_children.table z
              settled' zero z u = all-has (λ h. are_children.table h ≡ due_from S (suc a) h) (S.children_of g) z are_children.are_children
                  (subst (λ x. Has (S.children_of x) z) u.1 (L.children_have z u.0))
                  ∙ sym (due_below_from are_children.table z u.1 are_children.count)
              settled' (suc j) z u = are_children.deeper j z u

    pub release_numbers_cons : (f : ℕ) (g : Group) (a : ℕ) (ss : List ℕ) → release_numbers S (suc f) g (a ∷ ss)
        ≡ release_numbers S (suc f) g (a ∷ []) ++ release_numbers S (suc f) g ss
    unfolding release_numbers
    release_numbers_cons f g a ss =
        ap (λ xs. xs ++ release_numbers S (suc f) g ss)
        (sym (append-nil (record { of = g; number = a } ∷ flat_map (child_part (release_numbers S f) S a) (S.children_of g))))

    -- what is due of g does not depend on what is below it
    pub due_frame : (i : ℕ) (g : Group) → Under S Child i top g → (d d' : Table) → ((z : Group) → ((j : ℕ) → Under S Child j g z → ⊥) → d' z ≡ d z) → due S t d' g
        ≡ due S t d g
    due_frame zero g u d d' frame = rw (ap S.is_root u ∙ L.root_is)
    due_frame (suc i) g u d d' frame =
        rw (L.child_not_root g u.0)
        (ap (λ m. (m / S.period g) * S.share g) (frame (S.parent_of g) (λ j v. omega (arith, under_level j g (S.parent_of g) v, L.level_up g u.0))))

    blocks_run : (f : ℕ) (g : Group) (i : ℕ) (placed : Under S Child i top g) (ih : (x : Group) → Child x → S.parent_of x ≡ g → (d : Table) (b c : ℕ) → d x ≡ b
        → due S t d x ≡ b + suc c → Settled S Child d x
        → Done S Child (level top) t x d (release_numbers S f x (range_with_len b (suc c))) (λ d'. next_above S (level top) t d' x) (b + suc c))
        → (c a : ℕ) (d : Table) → d g ≡ a → due S t d g ≡ a + suc c → Settled S Child d g
        → Done S Child (level top) t g d (release_numbers S (suc f) g (range_with_len a (suc c))) (λ d'. next_above S (level top) t d' g) (a + suc c)
    blocks_run f g i placed ih zero a d dg due_by settled =
        record {
          table = one.table;
          runs = runs_like S Child (level top) t _ _ d _ _ _ _ one.table refl refl (sym out) one.runs;
          count = one.count
              ∙ (omega arith);
          frame = one.frame;
          settled = one.settled;
        }
      where
        one : Done S Child (level top) t g d (release_numbers S (suc f) g (a ∷ [])) (λ d'. cond (waits S t d' g) (Some g) (next_above S (level top) t d' g)) (suc a)
        one = block_run f g i placed a ih d dg (omega arith) settled

        out : cond (waits S t one.table g) (Some g) (next_above S (level top) t one.table g) ≡ next_above S (level top) t one.table g
        out = rw (le-ltb (one.table g) (due S t one.table g) (omega (arith, due_frame i g placed d one.table one.frame, one.count)))
    blocks_run f g i placed ih (suc c) a d dg due_by settled =
        let rest : Done S Child (level top) t g one.table (release_numbers S (suc f) g (range_with_len (a + 1) (suc c))) (λ d'. next_above S (level top) t d' g)
        (a + 1 + suc c) = blocks_run f g i placed ih c (a + 1) one.table (one.count ∙ (omega arith)) (due_frame i g placed d one.table one.frame
        ∙ (omega arith)) one.settled in
        record {
          table = rest.table;
          runs = runs_like S Child (level top) t _ _ d _ _ _ _ rest.table refl
              (release_numbers_cons f g a (range_with_len (a + 1) (suc c))) refl
              (runs_join S Child (level top) t (Some g) d _ _ (Some g) _ _ _
              (runs_like S Child (level top) t _ _ d _ _ _ _ one.table refl refl (sym out) one.runs) rest.runs);
          count = rest.count ∙ (omega arith);
          frame = λ z n. rest.frame z n ∙ one.frame z n;
          settled = rest.settled;
        }
      where
        one : Done S Child (level top) t g d (release_numbers S (suc f) g (a ∷ [])) (λ d'. cond (waits S t d' g) (Some g) (next_above S (level top) t d' g)) (suc a)
        one = block_run f g i placed a ih d dg (omega arith) settled

        out : cond (waits S t one.table g) (Some g) (next_above S (level top) t one.table g) ≡ Some g
        out = rw (lt-ltb (one.table g) (due S t one.table g) (omega (arith, due_frame i g placed d one.table one.frame, one.count)))

    pub release_run : (f : ℕ) (g : Group) (i : ℕ) → Under S Child i top g → level g ≤ f → (d : Table) (a c : ℕ) → d g ≡ a → due S t d g ≡ a + suc c
        → Settled S Child d g → Done S Child (level top) t g d (release_numbers S (suc f) g (range_with_len a (suc c))) (λ d'. next_above S (level top) t d' g) (a + suc c)
    release_run zero g i placed l d a c = blocks_run zero g i placed (λ x k e. absurd (omega (arith, L.level_up x k, ap level e))) c a d
    release_run (suc f) g i placed l d a c =
        blocks_run (suc f) g i placed (λ x k e d' b c'. release_run f x (suc i) (k, subst (Under S Child i top) (sym e) placed)
        (omega (arith, L.level_up x k, ap level e)) d' b c') c a d
