-- The regions of a group have their turns one after another, by the blocks handed out.
use Rattle.std.proofs.Common.{◌≡◌, ℕ, zero, suc, ◌+◌, ◌-◌, ◌*◌, ◌/◌, ◌%◌, ◌<◌, ◌≤◌, Bool, true, false, cond, not, ◌&&◌, ◌⊎◌, List, [], ◌∷◌, ◌++◌, length, get_or, take, Some, None, Option, sym, refl, ap, ◌∙◌, subst, inl, inr, ⊎_elim, le_trans, mul-le-mul_right, mod-lt, div-add-mod', le-div_iff_mul-le, div-mul-le_self, div-one, mul-div_cancel, arith}
use native.Mathlib.Nat.{zero-div}
use Rattle.std.specs.List.{ContainsAt as Has}
use Rattle.std.proofs.lemmas.List.{length_push, get_or_past}
use Rattle.std.proofs.lemmas.Bool.{cases_Bool, cases_eq, cases_lt, both_ways, or_cases, or_left, or_right, or_from, or_parts}
use Rattle.shapes.specs.declared.dims.Dim.{Dim}
use Rattle.shapes.specs.Arrays.{Group, total_chunks, chunks, dim, root}
use Rattle.cubes.specs.Handing.{Block, Scan, same_group, parent, region_blocks, released, handing, tally}
use Rattle.cubes.specs.Control.{Numbered, Table, tree, WithinDue, waits, one_more, next_from, Reached, pass, hand, MachineLaws}
use Rattle.cubes.specs.Turns.{stands_below, handed_of, next_group, blocks_over, regions_over, parent_blocks, in_release, Turns}
use Rattle.cubes.proofs.Machine.{Under, same_group_true, same_group_refl, same_group_ne, one_more_same, one_more_other, under_level, is_waiting, last_of}
use Rattle.cubes.proofs.Trees.{ChildOf, level, level_le, laws, sized, inside, lacks_keeps, lacking_not_root, parent_has}
use Rattle.cubes.proofs.Ranks.{width_parent}
use Rattle.cubes.proofs.RegionCells.{region_blocks_are}
use Rattle.cubes.proofs.Handing.{always_within_due}
use Rattle.cubes.proofs.MachineLaws.{machine_laws}
use Rattle.cubes.proofs.Reaching.{Reachable, reachable, tallied}
use Rattle.cubes.proofs.Climbing.{waiting_now, quotient_is, below_under, under_below, next_above, climb_stops, pending}

abbrev none_block : Block
none_block = record { of = []; at = [] }

-- the group of no block stands below nothing
pub nothing_below : (adds : Group → ℕ) (f : ℕ) (h : Group) → stands_below adds f [] h ≡ false
nothing_below adds zero h = refl
nothing_below adds (suc f) h = refl

-- a parent does not go on while a group lags
late_parent : (p u m s : ℕ) → 0 < m → p % m ≡ 0 → u < p / m * s → (p + 1) / m * s ≤ u + s → (u < (p + 1) / m * s → (p + 1) % m ≡ 0) → ⊥
late_parent p u m s pos even less bound step = ⊎_elim one more (cases_eq m 1)
  where
    grows : p / m * s ≤ (p + 1) / m * s
    grows = mul-le-mul_right s ((le-div_iff_mul-le pos).1 (le_trans (div-mul-le_self p m) (omega arith)))

    ends : (p + 1) % m ≡ 0
    ends = step (omega (arith, grows))

    one : m ≡ 1 → ⊥
    one e = omega (
      arith,
      subst (λ k. u < p / k * s) e less,
      subst (λ k. (p + 1) / k * s ≤ u + s) e bound,
      ap (λ k. k * s) (div-one p),
      ap (λ k. k * s)
          (div-one (p + 1)),
    )

    more : (m ≡ 1 → ⊥) → ⊥
    more n = n (omega (arith, last_of p m pos (ap (λ k. k % m) (let q : suc p ≡ p + 1 = omega arith in q) ∙ ends)))

module _ (ds : List Dim) (place : ℕ → ℕ) (adds : Group → ℕ) (all : List Group) (S : Scan ds place adds all) where
  hands : MachineLaws ds place adds all
  hands = machine_laws ds place adds all S

  -- the chunk whose release the block after the first i belongs to
  chunk_of_block : (i t : ℕ) → i < released ds place adds all t → (u : ℕ) × (suc u ≤ t) × (released ds place adds all u ≤ i)
      × (i < released ds place adds all (suc u))
  chunk_of_block i zero l = absurd (omega arith)
  chunk_of_block i (suc t) l = ⊎_elim
      (λ m. let (u, a, b, c) = chunk_of_block i t m in (u, omega arith, b, c))
      (λ m. (t, omega arith, m, l)) (cases_lt i (released ds place adds all t))

  -- a state where the first i blocks were handed out and another waits
  pub record StateAt (i : ℕ) : Type 0 where
    pub chunks_passed : ℕ
    pub group_next : Group
    pub sequence : List Numbered
    pub table : Table
    pub reached : Reached ds place adds all sequence chunks_passed (Some group_next) table
    pub within : chunks_passed ≤ total_chunks ds
    pub so_many : length sequence ≡ i

  pub state_at : (i : ℕ) → i < length (handing ds place adds all) → StateAt i
  state_at i l = let (u, a, b, c) = chunk_of_block i (total_chunks ds) l in
      at (suc u) a c (reachable ds place adds all S (suc u) i a (λ v e. subst (λ w. released ds place adds all w ≤ i) (let q : u ≡ v = omega arith in q) b)
      (omega arith))
    where
      at : (t : ℕ) → t ≤ total_chunks ds → i < released ds place adds all t → Reachable ds place adds all S t i → StateAt i
      at t m more c = step c.next c.reached
        where
          step : (o : Option Group) → Reached ds place adds all c.sequence t o c.table → StateAt i
          step None r = absurd (omega (arith, hands.none_more r m, c.so_many))
          step (Some g) r = record { chunks_passed = t; group_next = g; sequence = c.sequence; table = c.table; reached = r; within = m; so_many = c.so_many }

  -- its counts are those of the first i blocks, and its group is that of the block behind them
  counts_at : (i : ℕ) (s : StateAt i) (h : Group) → s.table h ≡ handed_of ds place adds all h i
  counts_at i s h = tallied ds place adds all S s.sequence s.chunks_passed (Some s.group_next) s.table s.reached s.within h
      ∙ ap (λ n. tally (take n (handing ds place adds all)) h) s.so_many

  next_at : (i : ℕ) (s : StateAt i) → next_group ds place adds all i ≡ s.group_next
  next_at i s = ap (λ n. (get_or (handing ds place adds all) n none_block).of) (sym s.so_many) ∙ ap (λ b. b.of) (hands.next s.reached s.within none_block)

  has_next : (i : ℕ) (s : StateAt i) → Has all s.group_next
  has_next i s = (hands.next_is s.reached s.within).0

  -- nothing stands above the root
  root_below : (f : ℕ) (h : Group) → stands_below adds f (root (length ds)) h ≡ false
  root_below f h = ⊎_elim (λ t. let (j, u) = below_under ds place adds all S f (root (length ds)) h S.grouped.has_root t in
      absurd (lacking_not_root ds place adds all S (root (length ds)) u.0.1 refl)) (λ t. t) (cases_Bool (stands_below adds f (root (length ds)) h))

  length_after : (i : ℕ) (s : StateAt i) → length (s.sequence ++ (record { of = s.group_next; number = s.table s.group_next } ∷ [])) ≡ i + 1
  length_after i s = length_push s.sequence (record { of = s.group_next; number = s.table s.group_next }) ∙ omega (arith, s.so_many)

  -- the counts after the next block
  counts_after : (i : ℕ) (s : StateAt i) (k : Group) → one_more s.table s.group_next k ≡ handed_of ds place adds all k (i + 1)
  counts_after i s k = tallied ds place adds all S (s.sequence ++ (record { of = s.group_next; number = s.table s.group_next } ∷ [])) s.chunks_passed
      (next_from (tree ds place adds all) s.chunks_passed (suc (length ds)) (one_more s.table s.group_next) s.group_next)
      (one_more s.table s.group_next) (hand s.reached) s.within k
      ∙ ap (λ m. tally (take m (handing ds place adds all)) k) (length_after i s)

  -- the group of the block after the next: where the machine goes; the root or none, where no block waits
  abbrev ComesNext : Option Group → Group → Type 0
  ComesNext None k = (k ≡ root (length ds)) ⊎ (k ≡ [])
  ComesNext (Some z) k = k ≡ z

  next_after : (i : ℕ) (s : StateAt i) (o : Option Group)
      → next_from (tree ds place adds all) s.chunks_passed (suc (length ds)) (one_more s.table s.group_next) s.group_next ≡ o
      → ComesNext o (next_group ds place adds all (i + 1))
  next_after i s o e = at o (subst (λ p. Reached ds place adds all xs s.chunks_passed p d) e (hand s.reached))
    where
      xs : List Numbered
      xs = s.sequence ++ (record { of = s.group_next; number = s.table s.group_next } ∷ [])

      d : Table
      d = one_more s.table s.group_next

      come : (t : ℕ) (g : Group) → Reached ds place adds all xs t (Some g) d → t ≤ total_chunks ds → next_group ds place adds all (i + 1) ≡ g
      come t g r l = ap (λ m. (get_or (handing ds place adds all) m none_block).of) (sym (length_after i s)) ∙ ap (λ b. b.of) (hands.next r l none_block)

      at : (p : Option Group) → Reached ds place adds all xs s.chunks_passed p d → ComesNext p (next_group ds place adds all (i + 1))
      at (Some z) r = come s.chunks_passed z r s.within
      at None r = ⊎_elim (λ l. inl (come (suc s.chunks_passed) (root (length ds)) (pass r) l))
          (λ l. inr (ap (λ b. b.of) (get_or_past (handing ds place adds all) (i + 1) none_block (last l)))) (cases_lt s.chunks_passed (total_chunks ds))
        where
          last : total_chunks ds ≤ s.chunks_passed → length (handing ds place adds all) ≤ i + 1
          last l = let q : total_chunks ds ≡ s.chunks_passed = omega (arith, s.within) in
              omega (arith, ap (released ds place adds all) q, hands.none_more r s.within, length_after i s)

  module _ (h : Group) (c : ChildOf adds all h) where
    abbrev sh : ℕ
    sh = (tree ds place adds all).share h

    abbrev pe : ℕ
    pe = (tree ds place adds all).period h

    n : h ≡ root (length ds) → ⊥
    n = lacking_not_root ds place adds all S h c.1

    pub share_is : region_blocks ds place adds h ≡ sh
    share_is = region_blocks_are ds place adds all S h c.0 n

    pub period_is : parent_blocks ds place adds h ≡ pe
    period_is = ap (λ m. m * chunks (dim ds (adds h))) share_is
        ∙ sym (width_parent ds place S.order h (adds h) (sized ds place adds all S h c.0) (inside ds place adds all S h c) (lacks_keeps h (adds h) c.1))

    share_some : 0 < sh
    share_some = (laws ds place adds all S).share_some h c

    period_some : 0 < pe
    period_some = (laws ds place adds all S).period_some h c

    due_at : (i : ℕ) → WithinDue (tree ds place adds all) (λ g. handed_of ds place adds all g i) h
    due_at i = always_within_due ds place adds all S i h c.0 n

    -- regions over, in the two cases
    over_at_rest : (i : ℕ) → stands_below adds (length ds) (next_group ds place adds all i) h ≡ false → regions_over ds place adds all h i
        ≡ handed_of ds place adds all h i / sh
    over_at_rest i t = ap (λ m. blocks_over ds place adds all h i / m) share_is
        ∙ ap (λ m. m / sh) (ap (λ b. handed_of ds place adds all h i - cond b 1 0) t ∙ omega arith)

    over_going_on : (i : ℕ) → stands_below adds (length ds) (next_group ds place adds all i) h ≡ true → regions_over ds place adds all h i
        ≡ (handed_of ds place adds all h i - 1) / sh
    over_going_on i t = ap (λ m. blocks_over ds place adds all h i / m) share_is
        ∙ ap (λ m. m / sh) (ap (λ b. handed_of ds place adds all h i - cond b 1 0) t)

    abbrev over : ℕ → ℕ
    over i = regions_over ds place adds all h i

    abbrev own_count : ℕ → ℕ
    own_count i = handed_of ds place adds all h i

    abbrev parent_count : ℕ → ℕ
    parent_count i = handed_of ds place adds all (parent adds h) i

    level_within : level h ≤ length ds
    level_within = omega (arith, level_le h, sized ds place adds all S h c.0)

    steps_within : (j : ℕ) (g : Group) → Under (tree ds place adds all) (ChildOf adds all) j h g → j ≤ length ds
    steps_within j g u = omega (
      arith,
      under_level (tree ds place adds all) (root (length ds)) (ChildOf adds all) level
          (laws ds place adds all S) j h g u,
      level_within,
    )

    not_empty : [] ≡ h → ⊥
    not_empty e = n (sym e ∙ ap root (ap length e ∙ sized ds place adds all S h c.0))

    -- a block of the release of h comes within the order
    comes_within : (i : ℕ) → in_release ds adds h (next_group ds place adds all i) ≡ true → i < length (handing ds place adds all)
    comes_within i t = ⊎_elim (λ l. l) (λ l. absurd (both_ways (in_release ds adds h (next_group ds place adds all i)) (none l) t))
        (cases_lt i (length (handing ds place adds all)))
      where
        none : length (handing ds place adds all) ≤ i → in_release ds adds h (next_group ds place adds all i) ≡ false
        none l = ap (in_release ds adds h) (ap (λ b. b.of) (get_or_past (handing ds place adds all) i none_block l))
            ∙ or_from (same_group [] h) (stands_below adds (length ds) [] h) (same_group_ne [] h not_empty) (nothing_below adds (length ds) h)

    -- the group of the next block is h or below it
    release_under : (i : ℕ) (s : StateAt i) → in_release ds adds h (next_group ds place adds all i) ≡ true
        → (j : ℕ) × Under (tree ds place adds all) (ChildOf adds all) j h s.group_next
    release_under i s t = ⊎_elim (λ e. (0, same_group_true s.group_next h e))
        (λ e. let (j, u) = below_under ds place adds all S (length ds) s.group_next h (has_next i s) e in (suc j, u))
        (or_cases (same_group s.group_next h) (stands_below adds (length ds) s.group_next h) (ap (in_release ds adds h) (sym (next_at i s)) ∙ t))

    under_release : (j : ℕ) (z : Group) → Under (tree ds place adds all) (ChildOf adds all) j h z → in_release ds adds h z ≡ true
    under_release zero z u = or_left (same_group z h) (stands_below adds (length ds) z h) (ap (λ g. same_group g h) u ∙ same_group_refl h)
    under_release (suc j) z u = or_right (same_group z h) (stands_below adds (length ds) z h)
        (under_below ds place adds all S j (length ds) z h u (omega (arith, steps_within (suc j) z u)))

    -- h does not stand below itself, nor does its parent
    not_below : (j : ℕ) (g : Group) → level g ≡ j + level h → Has all g → stands_below adds (length ds) g h ≡ false
    not_below j g e k = ⊎_elim
        (λ t. let (i, u) = below_under ds place adds all S (length ds) g h k t in
        absurd (omega (arith, under_level (tree ds place adds all) (root (length ds)) (ChildOf adds all) level (laws ds place adds all S) (suc i) h g u)))
        (λ t. t) (cases_Bool (stands_below adds (length ds) g h))

    -- what is due while the release of a region goes on
    pub turning : (i : ℕ) → in_release ds adds h (next_group ds place adds all i) ≡ true → (over i + 1 ≡ parent_count i / pe) × (parent_count i ≡ (over i + 1) * pe)
    turning i t = let s = state_at i (comes_within i t) in let (j, u) = release_under i s t in at s j u
      where
        full : (s : StateAt i) (m : ℕ) → m + 1 ≡ s.table (parent adds h) / pe → s.table (parent adds h) % pe ≡ 0 → over i ≡ m
            → (over i + 1 ≡ parent_count i / pe) × (parent_count i ≡ (over i + 1) * pe)
        full s m e z is = (one, whole)
          where
            same : s.table (parent adds h) ≡ parent_count i
            same = counts_at i s (parent adds h)

            one : over i + 1 ≡ parent_count i / pe
            one = ap (λ k. k + 1) is ∙ (e ∙ ap (λ k. k / pe) same)

            whole : parent_count i ≡ (over i + 1) * pe
            whole = let r : parent_count i % pe ≡ 0 = ap (λ k. k % pe) (sym same) ∙ z in omega (arith, div-add-mod' (parent_count i) pe, ap (λ k. k * pe) one)

        at : (s : StateAt i) (j : ℕ) → Under (tree ds place adds all) (ChildOf adds all) j h s.group_next → (over i + 1 ≡ parent_count i / pe)
            × (parent_count i ≡ (over i + 1) * pe)
        at s zero u =
            let it = waiting_now ds place adds all S h c (subst (λ g. Reached ds place adds all s.sequence s.chunks_passed (Some g) s.table) u s.reached)
            s.within in
            full s (s.table h / sh) it.0 it.1 (over_at_rest i rest ∙ ap (λ k. k / sh) (sym (counts_at i s h)))
          where
            rest : stands_below adds (length ds) (next_group ds place adds all i) h ≡ false
            rest = ap (λ g. stands_below adds (length ds) g h) (next_at i s ∙ u) ∙ not_below 0 h (omega arith) c.0
        at s (suc j) u =
            let it = pending ds place adds all S s.reached s.within s.group_next h j refl c u in
            full s ((s.table h - 1) / sh) it.1 it.2 (over_going_on i going ∙ ap (λ k. (k - 1) / sh) (sym (counts_at i s h)))
          where
            going : stands_below adds (length ds) (next_group ds place adds all i) h ≡ true
            going = ap (λ g. stands_below adds (length ds) g h) (next_at i s)
                ∙ under_below ds place adds all S j (length ds) s.group_next h u (omega (arith, steps_within (suc j) s.group_next u))

    -- what is due where no release goes on
    resting : (i : ℕ) → stands_below adds (length ds) (next_group ds place adds all i) h ≡ false → own_count i ≡ parent_count i / pe * sh → over i
        ≡ parent_count i / pe
    resting i t e = over_at_rest i t ∙ (ap (λ k. k / sh) e ∙ mul-div_cancel (parent_count i / pe) share_some)

    between : (i : ℕ) → (over i * pe ≤ parent_count i) × (parent_count i ≤ (over i + 1) * pe)
    between i = ⊎_elim
        (λ t. let it = turning i (or_right (same_group (next_group ds place adds all i) h) (stands_below adds (length ds) (next_group ds place adds all i) h) t) in
        (omega (arith, it.1), omega (arith, it.1)))
        (λ t. ⊎_elim (less t) (all_due t) (cases_lt (own_count i) (parent_count i / pe * sh)))
        (cases_Bool (stands_below adds (length ds) (next_group ds place adds all i) h))
      where
        less : stands_below adds (length ds) (next_group ds place adds all i) h ≡ false → own_count i < parent_count i / pe * sh → (over i * pe ≤ parent_count i)
            × (parent_count i ≤ (over i + 1) * pe)
        less t l = (omega (arith, whole), omega (arith, whole))
          where
            one : over i + 1 ≡ parent_count i / pe
            one = ap (λ k. k + 1) (over_at_rest i t) ∙ quotient_is (own_count i) sh (parent_count i / pe) l (due_at i).no_less

            whole : parent_count i ≡ (over i + 1) * pe
            whole = omega (arith, div-add-mod' (parent_count i) pe, (due_at i).meanwhile l, ap (λ k. k * pe) one)

        all_due : stands_below adds (length ds) (next_group ds place adds all i) h ≡ false → parent_count i / pe * sh ≤ own_count i → (over i * pe ≤ parent_count i)
            × (parent_count i ≤ (over i + 1) * pe)
        all_due t l = (
          omega (arith, div-add-mod' (parent_count i) pe, ap (λ k. k * pe) is),
          omega
              (arith, div-add-mod' (parent_count i) pe, mod-lt (parent_count i) period_some, ap (λ k. k * pe) is),
        )
          where
            is : over i ≡ parent_count i / pe
            is = resting i t (omega (arith, (due_at i).no_more))

    -- no block of the release of h comes where no block waits
    none_of_release : (k : Group) → (k ≡ root (length ds)) ⊎ (k ≡ []) → in_release ds adds h k ≡ false
    none_of_release k (inl e) = ap (in_release ds adds h) e
        ∙ or_from (same_group (root (length ds)) h) (stands_below adds (length ds) (root (length ds)) h) (same_group_ne (root (length ds)) h (λ q. n (sym q)))
        (root_below (length ds) h)
    none_of_release k (inr e) = ap (in_release ds adds h) e
        ∙ or_from (same_group [] h) (stands_below adds (length ds) [] h) (same_group_ne [] h not_empty) (nothing_below adds (length ds) h)

    parent_other : (j : ℕ) (g : Group) → Under (tree ds place adds all) (ChildOf adds all) j h g → parent adds h ≡ g → ⊥
    parent_other j g u e = omega (
      arith,
      under_level (tree ds place adds all) (root (length ds)) (ChildOf adds all) level (laws ds place adds all S) j h g u,
      ap level e,
      (laws ds place adds all S).level_up h c,
    )

    -- a block of the release of h: its parent's count stays
    parent_stays : (i : ℕ) (s : StateAt i) (j : ℕ) → Under (tree ds place adds all) (ChildOf adds all) j h s.group_next → parent_count (i + 1) ≡ parent_count i
    parent_stays i s j u = sym (counts_after i s (parent adds h))
        ∙ (one_more_other s.table s.group_next (parent adds h) (parent_other j s.group_next u) ∙ counts_at i s (parent adds h))

    -- the release goes on: the turn stays
    turn_stays : (i : ℕ) → in_release ds adds h (next_group ds place adds all i) ≡ true → in_release ds adds h (next_group ds place adds all (i + 1)) ≡ true
        → over (i + 1) ≡ over i
    turn_stays i t t' =
        let s = state_at i (comes_within i t) in
        let (j, u) = release_under i s t in
        let same : over (i + 1) + 1 ≡ over i + 1 = (turning (i + 1) t').0 ∙ (ap (λ k. k / pe) (parent_stays i s j u) ∙ sym (turning i t).0) in
        omega arith

    -- the release ends: the next region has its turn
    turn_ends : (i : ℕ) → in_release ds adds h (next_group ds place adds all i) ≡ true → in_release ds adds h (next_group ds place adds all (i + 1)) ≡ false
        → over (i + 1) ≡ over i + 1
    turn_ends i t f =
        let s = state_at i (comes_within i t) in
        let (j, u) = release_under i s t in
        resting (i + 1) (or_parts (same_group (next_group ds place adds all (i + 1)) h)
        (stands_below adds (length ds) (next_group ds place adds all (i + 1)) h) f).1 (all_out s j u)
        ∙ (ap (λ k. k / pe) (parent_stays i s j u) ∙ sym (turning i t).0)
      where
        all_out : (s : StateAt i) (j : ℕ) → Under (tree ds place adds all) (ChildOf adds all) j h s.group_next → own_count (i + 1)
            ≡ parent_count (i + 1) / pe * sh
        all_out s j u = ⊎_elim (λ l. absurd (stop l)) (λ l. omega (arith, (due_at (i + 1)).no_more)) (cases_lt (own_count (i + 1)) (parent_count (i + 1) / pe * sh))
          where
            d : Table
            d = one_more s.table s.group_next

            stop : own_count (i + 1) < parent_count (i + 1) / pe * sh → ⊥
            stop l =
                let (z, e, k, v) = climb_stops ds place adds all S s.chunks_passed d (suc (length ds)) j s.group_next h u
                (omega (arith, steps_within j s.group_next u)) waits_still in
                both_ways (in_release ds adds h (next_group ds place adds all (i + 1))) f (ap (in_release ds adds h) (next_after i s (Some z) e)
                ∙ under_release k z v)
              where
                waits_still : waits (tree ds place adds all) s.chunks_passed d h ≡ true
                waits_still = is_waiting (tree ds place adds all) (root (length ds)) (ChildOf adds all) level (laws ds place adds all S) s.chunks_passed d h c
                    (subst (λ m. m < d (parent adds h) / pe * sh) (sym (counts_after i s h))
                    (subst (λ m. own_count (i + 1) < m / pe * sh) (sym (counts_after i s (parent adds h))) l))

    -- a block of another release: the turn stays
    turn_elsewhere : (i : ℕ) → i < length (handing ds place adds all) → in_release ds adds h (next_group ds place adds all i) ≡ false → over (i + 1) ≡ over i
    turn_elsewhere i l f = over_at_rest (i + 1) rest
        ∙ (ap (λ k. k / sh) same ∙ sym
        (over_at_rest i (or_parts (same_group (next_group ds place adds all i) h) (stands_below adds (length ds) (next_group ds place adds all i) h) f).1))
      where
        s : StateAt i
        s = state_at i l

        apart : (j : ℕ) → Under (tree ds place adds all) (ChildOf adds all) j h s.group_next → ⊥
        apart j u = both_ways (in_release ds adds h (next_group ds place adds all i)) f (ap (in_release ds adds h) (next_at i s) ∙ under_release j s.group_next u)

        same : own_count (i + 1) ≡ own_count i
        same = sym (counts_after i s h) ∙ (one_more_other s.table s.group_next h (λ e. apart 0 (sym e)) ∙ counts_at i s h)

        at : (o : Option Group) → next_from (tree ds place adds all) s.chunks_passed (suc (length ds)) (one_more s.table s.group_next) s.group_next ≡ o
            → ComesNext o (next_group ds place adds all (i + 1)) → stands_below adds (length ds) (next_group ds place adds all (i + 1)) h ≡ true → ⊥
        at None e k t = both_ways (in_release ds adds h (next_group ds place adds all (i + 1))) (none_of_release (next_group ds place adds all (i + 1)) k)
            (or_right (same_group (next_group ds place adds all (i + 1)) h) (stands_below adds (length ds) (next_group ds place adds all (i + 1)) h) t)
        at (Some z) e k t =
            let s' = state_at (i + 1) (comes_within (i + 1)
            (or_right (same_group (next_group ds place adds all (i + 1)) h) (stands_below adds (length ds) (next_group ds place adds all (i + 1)) h) t)) in
            let (j, u) = below_under ds place adds all S (length ds) z h (subst (Has all) (sym (next_at (i + 1) s') ∙ k) (has_next (i + 1) s'))
            (ap (λ g. stands_below adds (length ds) g h) (sym k) ∙ t) in
            let (m, v) = next_above ds place adds all S s.chunks_passed (one_more s.table s.group_next) (suc (length ds)) s.group_next z h j
            (has_next i s) e u in
            apart m v

        rest : stands_below adds (length ds) (next_group ds place adds all (i + 1)) h ≡ false
        rest = ⊎_elim (λ t. absurd (at
            (next_from (tree ds place adds all) s.chunks_passed (suc (length ds)) (one_more s.table s.group_next) s.group_next) refl
            (next_after i s (next_from (tree ds place adds all) s.chunks_passed (suc (length ds)) (one_more s.table s.group_next) s.group_next) refl) t))
            (λ t. t)
            (cases_Bool (stands_below adds (length ds) (next_group ds place adds all (i + 1)) h))

    ends : (i : ℕ) → i < length (handing ds place adds all)
        → over (i + 1) ≡ over i + cond
        (in_release ds adds h (next_group ds place adds all i) && not (in_release ds adds h (next_group ds place adds all (i + 1)))) 1 0
    ends i l = at (in_release ds adds h (next_group ds place adds all i)) refl (in_release ds adds h (next_group ds place adds all (i + 1))) refl
      where
        at : (a : Bool) → in_release ds adds h (next_group ds place adds all i) ≡ a → (b : Bool) → in_release ds adds h (next_group ds place adds all (i + 1)) ≡ b
            → over (i + 1) ≡ over i + cond (a && not b) 1 0
        at true t true t' = turn_stays i t t' ∙ omega arith
        at true t false f = turn_ends i t f
        at false f b q = turn_elsewhere i l f ∙ omega arith

    -- a block of the parent
    parent_in_none : in_release ds adds h (parent adds h) ≡ false
    parent_in_none = or_from (same_group (parent adds h) h) (stands_below adds (length ds) (parent adds h) h)
        (same_group_ne (parent adds h) h (λ e. omega (arith, ap level e, (laws ds place adds all S).level_up h c)))
        (not_below 1 (parent adds h) (omega (arith, (laws ds place adds all S).level_up h c)) (parent_has ds place adds all S h c))

    joined : (i : ℕ) → i < length (handing ds place adds all) → next_group ds place adds all i ≡ parent adds h → (parent_count i / pe ≡ over i)
        × (over (i + 1) ≡ over i)
    joined i l e = (sym (resting i rest settled), turn_elsewhere i l (ap (in_release ds adds h) e ∙ parent_in_none))
      where
        s : StateAt i
        s = state_at i l

        rest : stands_below adds (length ds) (next_group ds place adds all i) h ≡ false
        rest = ap (λ g. stands_below adds (length ds) g h) e
            ∙ (or_parts (same_group (parent adds h) h) (stands_below adds (length ds) (parent adds h) h) parent_in_none).1

        is : parent adds h ≡ s.group_next
        is = sym e ∙ next_at i s

        more : parent_count (i + 1) ≡ parent_count i + 1
        more = sym (counts_after i s (parent adds h))
            ∙ (ap (λ g. one_more s.table g (parent adds h)) (sym is) ∙ (one_more_same s.table (parent adds h) ∙ omega (arith, counts_at i s (parent adds h))))

        same : own_count (i + 1) ≡ own_count i
        same = sym (counts_after i s h)
            ∙ (one_more_other s.table s.group_next h (λ q. omega (arith, ap level (q ∙ sym is), (laws ds place adds all S).level_up h c)) ∙ counts_at i s h)

        settled : own_count i ≡ parent_count i / pe * sh
        settled = ⊎_elim (λ q. absurd (late q)) (λ q. omega (arith, (due_at i).no_more)) (cases_lt (own_count i) (parent_count i / pe * sh))
          where
            late : own_count i < parent_count i / pe * sh → ⊥
            late q = late_parent (parent_count i) (own_count i) pe sh period_some ((due_at i).meanwhile q) q
                (subst (λ p. p / pe * sh ≤ own_count i + sh) more (subst (λ u. parent_count (i + 1) / pe * sh ≤ u + sh) same (due_at (i + 1)).no_less))
                (λ m. subst (λ p. p % pe ≡ 0) more
                ((due_at (i + 1)).meanwhile (subst (λ u. u < parent_count (i + 1) / pe * sh) (sym same) (subst (λ p. own_count i < p / pe * sh) (sym more) m))))

    own : (i : ℕ) → i < length (handing ds place adds all) → next_group ds place adds all i ≡ h
        → (own_count i / sh ≡ over i) × (parent_count i ≡ (over i + 1) * pe)
    own i l e = (
      sym (over_at_rest i (ap (λ g. stands_below adds (length ds) g h) e ∙ not_below 0 h (omega arith) c.0)),
      (turning i (or_left (same_group (next_group ds place adds all i) h) (stands_below adds (length ds) (next_group ds place adds all i) h)
          (ap (λ g. same_group g h) e ∙ same_group_refl h))).1,
    )

    begins : over 0 ≡ 0
    begins = ap (λ m. m / region_blocks ds place adds h) (none (stands_below adds (length ds) (next_group ds place adds all 0) h))
        ∙ zero-div (region_blocks ds place adds h)
      where
        none : (b : Bool) → 0 - cond b 1 0 ≡ 0
        none true = refl
        none false = refl

    pub turns : Turns ds place adds all h
    turns = record {
      start = begins;
      between = λ i. subst (λ m. (over i * m ≤ parent_count i) × (parent_count i ≤ (over i + 1) * m)) (sym period_is) (between i);
      own = λ i l e. subst (λ m. (own_count i / m ≡ over i) × (parent_count i ≡ (over i + 1) * parent_blocks ds place adds h)) (sym share_is)
          (subst (λ m. (own_count i / sh ≡ over i) × (parent_count i ≡ (over i + 1) * m)) (sym period_is) (own i l e));
      joined = λ i l e. subst (λ m. (parent_count i / m ≡ over i) × (over (i + 1) ≡ over i)) (sym period_is) (joined i l e);
      ends = ends;
    }
