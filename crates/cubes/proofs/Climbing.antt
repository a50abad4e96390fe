-- Where the next block is, seen from a group: at a group above it or at a child of one, and within the release of each group above it that still waits.
use Rattle.std.proofs.Common.{◌≡◌, ℕ, zero, suc, ◌+◌, ◌-◌, ◌*◌, ◌/◌, ◌%◌, ◌<◌, ◌≤◌, Bool, true, false, cond, ◌||◌, ◌⊎◌, List, [], ◌∷◌, length, Some, None, Option, sym, refl, ap, ◌∙◌, subst, inl, inr, ⊎_elim, arith}
use native.Mathlib.Nat.{div-eq_of_lt-le}
use Rattle.std.specs.List.{ContainsAt as Has, AllByRecursion}
use Rattle.std.proofs.lemmas.Bool.{and_parts, and_from, or_cases, or_left, or_right, true≢false, both_ways}
use Rattle.shapes.specs.declared.dims.Dim.{Dim}
use Rattle.shapes.specs.Arrays.{Group, total_chunks, root}
use Rattle.cubes.specs.Handing.{Scan, same_group, lacks, parent, children}
use Rattle.cubes.specs.Control.{Numbered, Table, tree, waits, one_more, first, or_next, next_from, Reached, start, pass, hand, MachineLaws, WithinDue, due_below}
use Rattle.cubes.specs.Turns.{stands_below}
use Rattle.cubes.proofs.Machine.{Under, same_group_true, same_group_refl, one_more_same, one_more_other, under_level}
use Rattle.cubes.proofs.Trees.{lacking_not_root, ChildOf, level, laws, children_are, is_child, parent_has}
use Rattle.cubes.proofs.MachineLaws.{machine_laws}

-- the first that passes a test is one of the list
first_is : (p : Group → Bool) (Q : Group → Type 0) (hs : List Group) (y : Group) → AllByRecursion Q hs → first p hs ≡ Some y → Q y × (p y ≡ true)
first_is p Q [] y a e = absurd (let z : ◌≡◌ {A = ℕ} 0 1 = cc in omega arith)
first_is p Q (h ∷ hs) y a e = step (p h) refl e (first_is p Q hs y a.1)
  where
    step : (b : Bool) → p h ≡ b → cond b (Some h) (first p hs) ≡ Some y → (first p hs ≡ Some y → Q y × (p y ≡ true)) → Q y × (p y ≡ true)
    step true t q r = let s : h ≡ y = cc in subst (λ g. Q g × (p g ≡ true)) s (a.0, t)
    step false t q r = r q

-- a quotient from its bounds
pub quotient_is : (u s q : ℕ) → u < q * s → q * s ≤ u + s → u / s + 1 ≡ q
quotient_is u s zero l m = absurd (omega arith)
quotient_is u s (suc q) l m = let e : u / s ≡ q = div-eq_of_lt-le s (omega arith) (omega arith) in omega arith

module _ (ds : List Dim) (place : ℕ → ℕ) (adds : Group → ℕ) (all : List Group) (S : Scan ds place adds all) where
  under_trans : (i j : ℕ) (h a z : Group) → Under (tree ds place adds all) (ChildOf adds all) i h a → Under (tree ds place adds all) (ChildOf adds all) j a z
      → Under (tree ds place adds all) (ChildOf adds all) (j + i) h z
  under_trans i zero h a z u v =
      subst (λ k. Under (tree ds place adds all) (ChildOf adds all) k h z) plus (subst (Under (tree ds place adds all) (ChildOf adds all) i h) (sym v) u)
    where
      plus : i ≡ 0 + i
      plus = omega arith
  under_trans i (suc j) h a z u v = subst (λ k. Under (tree ds place adds all) (ChildOf adds all) k h z) plus (v.0, under_trans i j h a (parent adds z) u v.1)
    where
      plus : suc (j + i) ≡ suc j + i
      plus = omega arith

  -- to stand below is to come there by so many parents
  pub below_under : (f : ℕ) (z h : Group) → Has all z → stands_below adds f z h ≡ true → (j : ℕ) × Under (tree ds place adds all) (ChildOf adds all) (suc j) h z
  below_under zero z h k t = absurd (true≢false (sym t))
  below_under (suc f) z h k t =
      let (a, b) = and_parts (lacks z (adds z)) (same_group (parent adds z) h || stands_below adds f (parent adds z) h) t in
      ⊎_elim (λ s. (0, ((k, a), same_group_true (parent adds z) h s)))
      (λ s. let (j, u) = below_under f (parent adds z) h (parent_has ds place adds all S z (k, a)) s in (suc j, ((k, a), u)))
      (or_cases (same_group (parent adds z) h) (stands_below adds f (parent adds z) h) b)

  pub under_below : (j f : ℕ) (z h : Group) → Under (tree ds place adds all) (ChildOf adds all) (suc j) h z → j < f → stands_below adds f z h ≡ true
  under_below j zero z h u l = absurd (omega arith)
  under_below zero (suc f) z h u l =
      and_from (lacks z (adds z)) (same_group (parent adds z) h || stands_below adds f (parent adds z) h) u.0.1
      (or_left (same_group (parent adds z) h) (stands_below adds f (parent adds z) h) (ap (λ g. same_group g h) u.1 ∙ same_group_refl h))
  under_below (suc j) (suc f) z h u l =
      and_from (lacks z (adds z)) (same_group (parent adds z) h || stands_below adds f (parent adds z) h) u.0.1
      (or_right (same_group (parent adds z) h) (stands_below adds f (parent adds z) h) (under_below j f (parent adds z) h u.1 (omega arith)))

  module _ (t : ℕ) (d : Table) where
    -- the next block is of a group above g, or of a child of one
    next_near : (f : ℕ) (g z : Group) → Has all g → next_from (tree ds place adds all) t f d g ≡ Some z
        → (a : Group) × (j : ℕ) × Under (tree ds place adds all) (ChildOf adds all) j a g × ((z ≡ a) ⊎ (ChildOf adds all z × (parent adds z ≡ a)))
    next_near zero g z k e = absurd (let q : ◌≡◌ {A = ℕ} 0 1 = cc in omega arith)
    next_near (suc f) g z k e = at (first (waits (tree ds place adds all) t d) (children adds all g)) refl (waits (tree ds place adds all) t d g)
        (same_group g (root (length ds))) refl e
        (λ k' e'. next_near f (parent adds g) z k' e')
      where
        Near : Type 0
        Near = (a : Group) × (j : ℕ) × Under (tree ds place adds all) (ChildOf adds all) j a g × ((z ≡ a) ⊎ (ChildOf adds all z × (parent adds z ≡ a)))

        at : (o : Option Group) → first (waits (tree ds place adds all) t d) (children adds all g) ≡ o → (w r : Bool) → same_group g (root (length ds)) ≡ r
            → or_next o (cond w (Some g) (cond r None (next_from (tree ds place adds all) t f d (parent adds g)))) ≡ Some z
            → (Has all (parent adds g) → next_from (tree ds place adds all) t f d (parent adds g) ≡ Some z
            → (a : Group) × (j : ℕ) × Under (tree ds place adds all) (ChildOf adds all) j a (parent adds g)
            × ((z ≡ a) ⊎ (ChildOf adds all z × (parent adds z ≡ a)))) → Near
        at (Some y) q w r s e ih =
            let same : y ≡ z = cc in (
              g,
              0,
              refl,
              inr (subst (λ v. ChildOf adds all v × (parent adds v ≡ g)) same
                  (first_is (waits (tree ds place adds all) t d) (λ v. ChildOf adds all v × (parent adds v ≡ g)) (children adds all g) y
                  (children_are ds place adds all S g) q).0),
            )
        at None q true r s e ih = let same : z ≡ g = cc in (g, 0, refl, inl same)
        at None q false true s e ih = absurd (let z : ◌≡◌ {A = ℕ} 0 1 = cc in omega arith)
        at None q false false s e ih =
            let c = is_child ds place adds all S g k
            (λ p. both_ways (same_group g (root (length ds))) s (ap (λ v. same_group v (root (length ds))) p ∙ same_group_refl (root (length ds)))) in
            let (a, j, u, v) = ih (parent_has ds place adds all S g c) e in
            (a, suc j, (c, u), v)

    -- it waits
    next_waits : (f : ℕ) (g z : Group) → next_from (tree ds place adds all) t f d g ≡ Some z → waits (tree ds place adds all) t d z ≡ true
    next_waits zero g z e = absurd (let q : ◌≡◌ {A = ℕ} 0 1 = cc in omega arith)
    next_waits (suc f) g z e = at (first (waits (tree ds place adds all) t d) (children adds all g)) refl (waits (tree ds place adds all) t d g) refl
        (same_group g (root (length ds))) e (λ e'. next_waits f (parent adds g) z e')
      where
        at : (o : Option Group) → first (waits (tree ds place adds all) t d) (children adds all g) ≡ o → (w : Bool) → waits (tree ds place adds all) t d g ≡ w → (r : Bool)
            → or_next o (cond w (Some g) (cond r None (next_from (tree ds place adds all) t f d (parent adds g)))) ≡ Some z
            → (next_from (tree ds place adds all) t f d (parent adds g) ≡ Some z → waits (tree ds place adds all) t d z ≡ true) → waits (tree ds place adds all) t d z ≡ true
        at (Some y) q w s r e ih = let same : y ≡ z = cc in
            subst (λ v. waits (tree ds place adds all) t d v ≡ true) same
            (first_is (waits (tree ds place adds all) t d) (λ v. ChildOf adds all v × (parent adds v ≡ g)) (children adds all g) y (children_are ds place adds all S g) q).1
        at None q true s r e ih = let same : g ≡ z = cc in subst (λ v. waits (tree ds place adds all) t d v ≡ true) same s
        at None q false s true e ih = absurd (let z : ◌≡◌ {A = ℕ} 0 1 = cc in omega arith)
        at None q false s false e ih = ih e

    -- seen from the parent of a group that does not wait, the next block is not of the group's release
    pub climb_leaves : (f : ℕ) (a z : Group) → ChildOf adds all a → waits (tree ds place adds all) t d a ≡ false → next_from (tree ds place adds all) t f d (parent adds a) ≡ Some z
        → (i : ℕ) → Under (tree ds place adds all) (ChildOf adds all) i a z → ⊥
    climb_leaves f a z c w e zero u = both_ways (waits (tree ds place adds all) t d z) (ap (waits (tree ds place adds all) t d) u ∙ w) (next_waits f (parent adds a) z e)
    climb_leaves f a z c w e (suc i) u = let (b, j, v, near) = next_near f (parent adds a) z (parent_has ds place adds all S a c) e in
        ⊎_elim (λ s. omega (arith, levels j b (parent adds a) v, (laws ds place adds all S).level_up a c, levels (suc i) a z u, ap level s))
        (λ s. omega (arith, levels j b (parent adds a) v, (laws ds place adds all S).level_up a c, levels i a (parent adds z) u.1, ap level s.1)) near
      where
        levels : (k : ℕ) (g y : Group) → Under (tree ds place adds all) (ChildOf adds all) k g y → level g ≡ k + level y
        levels k g y v = under_level (tree ds place adds all) (root (length ds)) (ChildOf adds all) level (laws ds place adds all S) k g y v

    -- a group above g that waits has the next block within its release
    pub climb_stops : (f j : ℕ) (g a : Group) → Under (tree ds place adds all) (ChildOf adds all) j a g → j < f → waits (tree ds place adds all) t d a ≡ true
        → (z : Group) × (next_from (tree ds place adds all) t f d g ≡ Some z) × (i : ℕ) × Under (tree ds place adds all) (ChildOf adds all) i a z
    climb_stops zero j g a u l w = absurd (omega arith)
    climb_stops (suc f) j g a u l w = at (first (waits (tree ds place adds all) t d) (children adds all g)) refl (waits (tree ds place adds all) t d g) refl j u l
        (λ i v m. climb_stops f i (parent adds g) a v m w)
      where
        Stops : Option Group → Type 0
        Stops o = (z : Group) × (o ≡ Some z) × (i : ℕ) × Under (tree ds place adds all) (ChildOf adds all) i a z

        at : (o : Option Group) → first (waits (tree ds place adds all) t d) (children adds all g) ≡ o → (b : Bool) → waits (tree ds place adds all) t d g ≡ b
            → (i : ℕ) → Under (tree ds place adds all) (ChildOf adds all) i a g → i < suc f
            → ((k : ℕ) → Under (tree ds place adds all) (ChildOf adds all) k a (parent adds g) → k < f
            → Stops (next_from (tree ds place adds all) t f d (parent adds g)))
            → Stops (or_next o (cond b (Some g) (cond (same_group g (root (length ds))) None (next_from (tree ds place adds all) t f d (parent adds g)))))
        at (Some y) q b s i v m ih =
            let it = (first_is (waits (tree ds place adds all) t d) (λ v. ChildOf adds all v × (parent adds v ≡ g)) (children adds all g) y
            (children_are ds place adds all S g) q).0 in
            (y, refl, suc i, (it.0, subst (Under (tree ds place adds all) (ChildOf adds all) i a) (sym it.1) v))
        at None q true s i v m ih = (g, refl, i, v)
        at None q false s zero v m ih = absurd (true≢false (sym w ∙ (ap (waits (tree ds place adds all) t d) (sym v) ∙ s)))
        at None q false s (suc i) v m ih =
            subst (λ r. Stops (cond r None (next_from (tree ds place adds all) t f d (parent adds g)))) (sym ((laws ds place adds all S).child_not_root g v.0))
            (ih i v.1 (omega arith))

  -- the group next after a block of g is within the release of h only if g is
  pub next_above : (t : ℕ) (d : Table) (f : ℕ) (g z h : Group) (j : ℕ) → Has all g → next_from (tree ds place adds all) t f d g ≡ Some z
      → Under (tree ds place adds all) (ChildOf adds all) (suc j) h z → (i : ℕ) × Under (tree ds place adds all) (ChildOf adds all) i h g
  next_above t d f g z h j k e u = let (a, i, v, w) = next_near t d f g z k e in
      ⊎_elim (λ s. (i + suc j, under_trans (suc j) i h a g (subst (Under (tree ds place adds all) (ChildOf adds all) (suc j) h) s u) v))
      (λ s. (i + j, under_trans j i h a g (subst (Under (tree ds place adds all) (ChildOf adds all) j h) s.1 u.1) v)) w

  hands : MachineLaws ds place adds all
  hands = machine_laws ds place adds all S

  differ : (j : ℕ) (h g : Group) → Under (tree ds place adds all) (ChildOf adds all) (suc j) h g → h ≡ g → ⊥
  differ j h g u e = omega (
    arith,
    under_level (tree ds place adds all) (root (length ds)) (ChildOf adds all) level (laws ds place adds all S)
        (suc j) h g u,
    ap level e,
  )

  parent_differs : (j : ℕ) (h g : Group) → ChildOf adds all h → Under (tree ds place adds all) (ChildOf adds all) j h g → parent adds h ≡ g → ⊥
  parent_differs j h g c u e = omega (
    arith,
    under_level (tree ds place adds all) (root (length ds)) (ChildOf adds all) level (laws ds place adds all S) j h g u,
    ap level e,
    (laws ds place adds all S).level_up h c,
  )

  -- what is due of a group that is next, or of one above it
  abbrev pub Pending : Table → Group → Type 0
  Pending d h = (0 < d h) × ((d h - 1) / (tree ds place adds all).share h + 1 ≡ d (parent adds h) / (tree ds place adds all).period h)
      × (d (parent adds h) % (tree ds place adds all).period h ≡ 0)

  pub waiting_now : {xs : List Numbered} {t : ℕ} {d : Table} (h : Group) → ChildOf adds all h → Reached ds place adds all xs t (Some h) d → t ≤ total_chunks ds
      → (d h / (tree ds place adds all).share h + 1 ≡ d (parent adds h) / (tree ds place adds all).period h)
      × (d (parent adds h) % (tree ds place adds all).period h ≡ 0)
  waiting_now {xs} {t} {d} h c r l =
      (quotient_is (d h) ((tree ds place adds all).share h) (d (parent adds h) / (tree ds place adds all).period h) less it.no_less, it.meanwhile less)
    where
      it : WithinDue (tree ds place adds all) d h
      it = hands.within_due r h c.0 (lacking_not_root ds place adds all S h c.1)

      less : d h < due_below (tree ds place adds all) d h
      less = subst (λ b. d h < cond b t (due_below (tree ds place adds all) d h)) ((laws ds place adds all S).child_not_root h c) (hands.next_is r l).2

  -- while the release of a block of h goes on, its parent's blocks complete the region of that block
  pub pending : {xs : List Numbered} {t : ℕ} {o : Option Group} {d : Table} → Reached ds place adds all xs t o d → t ≤ total_chunks ds → (z h : Group) (j : ℕ) → o
      ≡ Some z
      → ChildOf adds all h → Under (tree ds place adds all) (ChildOf adds all) (suc j) h z → Pending d h
  pending start l z h j e c u = absurd (let q : ◌≡◌ {A = ℕ} 0 1 = cc in omega arith)
  pending (pass r) l z h j e c u =
      absurd (both_ways (same_group z (root (length ds))) ((laws ds place adds all S).child_not_root z u.0) (ap (λ g. same_group g (root (length ds))) (sym is)
      ∙ same_group_refl (root (length ds))))
    where
      is : root (length ds) ≡ z
      is = cc
  pending (hand {xs = xs} {t = t} {g = g} {d = d} r) l z h j e c u =
      let (i, v) = next_above t (one_more d g) (suc (length ds)) g z h j (hands.next_is r l).0 e u in
      at i v (λ k w. pending r l g h k refl c w)
    where
      at : (i : ℕ) → Under (tree ds place adds all) (ChildOf adds all) i h g
          → ((k : ℕ) → Under (tree ds place adds all) (ChildOf adds all) (suc k) h g → Pending d h) → Pending (one_more d g) h
      at zero v ih = (
        omega (arith, own),
        ap (λ n. n / (tree ds place adds all).share h + 1) less
            ∙ (it.0 ∙ ap (λ n. n / (tree ds place adds all).period h) (sym above)),
        ap (λ n. n % (tree ds place adds all).period h) above ∙ it.1,
      )
        where
          it : (d h / (tree ds place adds all).share h + 1 ≡ d (parent adds h) / (tree ds place adds all).period h)
              × (d (parent adds h) % (tree ds place adds all).period h ≡ 0)
          it = waiting_now h c (subst (λ x. Reached ds place adds all xs t (Some x) d) v r) l

          own : one_more d g h ≡ suc (d h)
          own = ap (one_more d g) (sym v) ∙ (one_more_same d g ∙ ap (λ x. suc (d x)) v)

          above : one_more d g (parent adds h) ≡ d (parent adds h)
          above = one_more_other d g (parent adds h) (parent_differs 0 h g c v)

          less : one_more d g h - 1 ≡ d h
          less = omega (arith, own)
      at (suc i) v ih = subst (λ p. (0 < p) × ((p - 1) / (tree ds place adds all).share h + 1 ≡ one_more d g (parent adds h) / (tree ds place adds all).period h)
          × (one_more d g (parent adds h) % (tree ds place adds all).period h ≡ 0)) (sym (one_more_other d g h (differ i h g v)))
          (subst (λ p. (0 < d h) × ((d h - 1) / (tree ds place adds all).share h + 1 ≡ p / (tree ds place adds all).period h)
          × (p % (tree ds place adds all).period h ≡ 0))
          (sym (one_more_other d g (parent adds h) (parent_differs (suc i) h g c v))) (ih i v))
