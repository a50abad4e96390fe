-- From the control of a run to the handing order: whose release the block that is next is of, and which chunk a block of the root is.
use Rattle.std.proofs.Common.{◌≡◌, ℕ, zero, suc, ◌+◌, ◌-◌, ◌*◌, ◌/◌, ◌^◌, ◌<◌, ◌≤◌, Bool, true, false, cond, List, [], length, get_or, take, drop, Some, None, filter, Option, sym, refl, ap, ◌∙◌, subst, ⊎_elim, arith}
use Rattle.std.specs.List.{ContainsAt as Has}
use Rattle.std.proofs.lemmas.Nat.{pow_pos}
use Rattle.std.proofs.lemmas.List.Elements.{filter-append}
use Rattle.std.proofs.lemmas.List.{length-append, length-take-le, length-replicate, get_or_past, take_at, take-take, take-append-drop}
use Rattle.std.proofs.lemmas.Bool.{cases_lt, or_from, or_left, or_right}
use Rattle.shapes.specs.declared.dims.Dim.{Dim}
use Rattle.shapes.specs.Arrays.{Group, total_chunks, group, groups, root}
use Rattle.shapes.proofs.Masks.{length-group}
use Rattle.cubes.specs.Handing.{Block, Scan, same_group, parent, of_group, blocks_of, released, released_by, handing, tally}
use Rattle.cubes.specs.Control.{tree, due_by}
use Rattle.cubes.specs.Turns.{stands_below, next_group, in_release}
use Rattle.cubes.specs.Progress.{Progress}
use Rattle.cubes.proofs.Counting.{progress_laws}
use Rattle.cubes.proofs.Complete.{kept_one_more}
use Rattle.cubes.proofs.Groups.{groups_have, root_of}
use Rattle.cubes.proofs.Handing.{under_root, released_first, released_in_order, due_by_at_most}
use Rattle.cubes.proofs.Climbing.{under_below}
use Rattle.cubes.proofs.Machine.{Under, same_group_refl, same_group_ne}
use Rattle.cubes.proofs.Trees.{ChildOf}
use Rattle.runs.specs.declared.control.Control.{Control}
use Rattle.runs.specs.Controls.{Controls, counts_in}
use Rattle.runs.specs.Emptying.{of_release, next_of_release}
use Rattle.runs.specs.Planned.{none_block}
use Rattle.runs.proofs.Steering.{scanned}
use Rattle.runs.proofs.Stepping.{released_few, next_is, progress}
use Rattle.runs.proofs.ReleaseMasks.{release_below}
use Rattle.cubes.proofs.RegionTurns.{nothing_below}

pub of_release_is : (ds : List Dim) (adds : Group → ℕ) (k j : ℕ) → of_release ds adds k j ≡ in_release ds adds (group (length ds) k) (group (length ds) j)
unfolding of_release
of_release_is ds adds k j = refl

-- every block is of the root's release
pub release_root : (ds : List Dim) (place : ℕ → ℕ) (adds : Group → ℕ) → Scan ds place adds (groups (length ds)) → (k j : ℕ) → k + 1 ≡ 2 ^ length ds → of_release ds adds k j ≡ true
release_root ds place adds S k j e = let (t, l, u) = under_root ds place adds (groups (length ds)) S g (groups_have (length ds) g (length-group (length ds) j)) in
    of_release_is ds adds k j ∙ ap (λ h. in_release ds adds h g) (root_of (length ds) k e) ∙ by t l u
  where
    g : Group
    g = group (length ds) j

    by : (t : ℕ) → t ≤ length ds → Under (tree ds place adds (groups (length ds))) (ChildOf adds (groups (length ds))) t (root (length ds)) g → in_release ds adds (root (length ds)) g ≡ true
    by zero l u = or_left (same_group g (root (length ds))) (stands_below adds (length ds) g (root (length ds)))
        (ap (λ h. same_group h (root (length ds))) u ∙ same_group_refl (root (length ds)))
    by (suc t) l u = or_right (same_group g (root (length ds))) (stands_below adds (length ds) g (root (length ds)))
        (under_below ds place adds (groups (length ds)) S t (length ds) g (root (length ds)) u (omega arith))

-- of a longer front no fewer pass a test
kept_rises : {X : Type 0} (p : X → Bool) (xs : List X) (a b : ℕ) → a ≤ b → length (filter p (take a xs)) ≤ length (filter p (take b xs))
kept_rises p xs a b l = omega (
  arith,
  ap (λ ys. length (filter p ys)) (take-take a b xs l),
  ap (λ ys. length (filter p ys)) (take-append-drop a (take b xs)),
  ap length (filter-append p (take a (take b xs)) (drop a (take b xs))),
  length-append (filter p (take a (take b xs))) (filter p (drop a (take b xs))),
)

module _ (ds : List Dim) (place : ℕ → ℕ) (adds : Group → ℕ) (c : Control) (s : Controls ds place adds c) where
  abbrev n : ℕ
  n = length ds

  abbrev all : List Group
  all = groups n

  S : Scan ds place adds all
  S = scanned ds place adds c.tree s.grown

  -- no block waits: the next block is the root's of the next chunk, or there is none
  next_top : c.next ≡ None → c.passed < total_chunks ds → next_group ds place adds all c.handed ≡ group n (2 ^ n - 1)
  next_top e l = ap (λ b. b.of) ((progress_laws ds place adds all S).next (suc c.passed) c.handed (2 ^ n - 1) (counts_in n c.progress.counts) (omega (arith, pow_pos n)) (omega arith)
      ((progress_laws ds place adds all S).pass c.passed c.handed (counts_in n c.progress.counts)
      (subst (λ o. Progress ds place adds all c.passed c.handed o (counts_in n c.progress.counts)) e (progress ds place adds c s))) none_block)

  next_none : c.next ≡ None → total_chunks ds ≤ c.passed → next_group ds place adds all c.handed ≡ []
  next_none e l =
      let full : c.passed ≡ total_chunks ds = omega (arith, s.within) in
      ap (λ b. b.of) (get_or_past (handing ds place adds all) c.handed none_block (omega (arith, s.idle e, ap (released ds place adds all) full)))

  -- whether the next block of the handing order is of the release of a group but the root: by the mask that is next; if none is, it is not
  pub next_release : (k : ℕ) → k + 1 < 2 ^ n → in_release ds adds (group n k) (next_group ds place adds all c.handed) ≡ next_of_release ds adds k c.next
  next_release k l = by c.next refl
    where
      some : length (group n k) ≡ 0 → ⊥
      some e = let z : n ≡ 0 = sym (length-group n k) ∙ e in omega (arith, ap (λ i. 2 ^ i) z)

      none : in_release ds adds (group n k) [] ≡ false
      none = or_from (same_group [] (group n k)) (stands_below adds n [] (group n k)) (same_group_ne [] (group n k) (λ e. some (sym (ap length e)))) (nothing_below adds n (group n k))

      by : (o : Option ℕ) → c.next ≡ o → in_release ds adds (group n k) (next_group ds place adds all c.handed) ≡ next_of_release ds adds k o
      by (Some m) e = ap (in_release ds adds (group n k)) ((next_is ds place adds c s (Some m) e).2 none_block) ∙ sym (of_release_is ds adds k m)
      by None e = ⊎_elim
          (λ m. ap (in_release ds adds (group n k)) (next_top e m) ∙ sym (of_release_is ds adds k (2 ^ n - 1)) ∙ release_below ds place adds S k (2 ^ n - 1) (omega arith) (omega (arith, pow_pos n)))
          (λ m. ap (in_release ds adds (group n k)) (next_none e m) ∙ none) (cases_lt c.passed (total_chunks ds))

  -- the first t chunks release t blocks of the root
  due_root : (t f : ℕ) → due_by (tree ds place adds all) t f (root n) ≡ t
  due_root t zero = refl
  due_root t (suc f) = ap (λ b. cond b t ((due_by (tree ds place adds all) t f (parent adds (root n)) / (tree ds place adds all).period (root n)) * (tree ds place adds all).share (root n)))
      (same_group_refl (root n))

  has_root : Has all (root n)
  has_root = groups_have n (root n) (length-replicate n true)

  root_released : (t : ℕ) → t ≤ total_chunks ds → tally (take (released ds place adds all t) (handing ds place adds all)) (root n) ≡ t
  root_released t l = let (rest, e) = released_first ds place adds all t l in
      ap (λ hs. tally (take (released ds place adds all t) hs) (root n)) e
      ∙ ap (λ hs. tally hs (root n)) (take_at (released_by ds place adds all t) rest (released ds place adds all t) refl)
      ∙ ap length (released_in_order ds place adds all S t l (root n) has_root)
      ∙ length-take-le (due_by (tree ds place adds all) t n (root n)) (blocks_of ds place (root n)) (due_by_at_most ds place adds all S t l (root n) has_root)
      ∙ due_root t n

  -- while the root's block of a chunk waits, it is that of the chunk passed last
  pub root_count : (m : ℕ) → c.next ≡ Some m → m + 1 ≡ 2 ^ n → tally (take c.handed (handing ds place adds all)) (root n) ≡ c.passed - 1
  root_count m e top = omega (arith, low, high, some)
    where
      next : (m < 2 ^ n) × (c.handed < released ds place adds all c.passed) × ((b : Block) → (get_or (handing ds place adds all) c.handed b).of ≡ group n m)
      next = next_is ds place adds c s (Some m) e

      some : 0 < c.passed
      some = ⊎_elim (λ l. l) (λ l. let z : c.passed ≡ 0 = omega arith in absurd (omega (arith, next.1, ap (released ds place adds all) z))) (cases_lt 0 c.passed)

      before : suc (c.passed - 1) ≡ c.passed
      before = omega (arith, some)

      low : c.passed - 1 ≤ tally (take c.handed (handing ds place adds all)) (root n)
      low = omega (
        arith,
        root_released (c.passed - 1) (omega (arith, s.within)),
        kept_rises (of_group (root n)) (handing ds place adds all) (released ds place adds all (c.passed - 1)) c.handed (s.since (c.passed - 1) before),
      )

      here : of_group (root n) (get_or (handing ds place adds all) c.handed none_block) ≡ true
      here = ap (λ g. same_group g (root n)) (next.2 none_block ∙ root_of n m top) ∙ same_group_refl (root n)

      high : tally (take c.handed (handing ds place adds all)) (root n) + 1 ≤ c.passed
      high = omega (
        arith,
        root_released c.passed s.within,
        kept_rises (of_group (root n)) (handing ds place adds all) (c.handed + 1) (released ds place adds all c.passed) (omega (arith, next.1)),
        kept_one_more (of_group (root n)) (handing ds place adds all) c.handed none_block (omega (arith, next.1, released_few ds place adds c s)),
        ap {B = ℕ} (λ b. cond b 1 0) here,
      )
