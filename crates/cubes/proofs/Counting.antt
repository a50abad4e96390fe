-- What a program goes by that counts blocks by mask.
use Rattle.std.proofs.Common.{◌≡◌, ℕ, suc, ◌+◌, ◌-◌, ◌*◌, ◌/◌, ◌^◌, ◌<◌, Bool, true, false, cond, ◌&&◌, eqb, ltb, List, [], ◌∷◌, ◌++◌, map, length, get_or, set, replicate, Some, None, filter, Option, sym, refl, ap, ◌∙◌, subst, ⊎_elim, arith}
use Rattle.std.specs.List.{range_with_len, ContainsAt as Has}
use Rattle.std.proofs.ByRecursion.{All-map}
use Rattle.std.proofs.lemmas.List.{length-replicate, get_or-replicate, length-set, length_push, get_or-set_same, get_or-set_other, map-append}
use Rattle.std.proofs.lemmas.Bool.{eq-eqb, ne_eqb, cases_eq}
use Rattle.shapes.specs.declared.dims.Dim.{Dim}
use Rattle.shapes.specs.Arrays.{Group, product, radix, counts, mask, group, groups, root}
use Rattle.cubes.specs.Handing.{Scan, same_group, lacks, parent, child, handing}
use Rattle.cubes.specs.Control.{Table, tree, one_more, first, next_from, Reached, start, pass, hand, numbered_block, MachineLaws}
use Rattle.cubes.specs.Progress.{table_of, group_at, Progress, ProgressLaws, MaskTree, FirstByMask}
use Rattle.cubes.proofs.Listing.{counting_append}
use Rattle.cubes.proofs.Machine.{same_group_refl, same_group_ne, cases_group, one_more_same, one_more_other, first_none, first_some}
use Rattle.cubes.proofs.Trees.{root_keeps, is_child}
use Rattle.cubes.proofs.Groups.{root_of, not_root_of, mask_back, mask_within, mask_root, mask-set}
use Rattle.cubes.proofs.MachineLaws.{machine_laws}
use Rattle.plans.proofs.Sums.{all_counting}
use Rattle.shapes.proofs.Masks.{length-group, mask-group}

-- one more of a group in a table from counts by mask
pub table_more : (n : ℕ) (cs : List ℕ) (m : ℕ) → m < 2 ^ n → length cs ≡ 2 ^ n → (h : Group) → length h ≡ n
    → one_more (table_of cs) (group n m) h ≡ table_of (set cs m (suc (get_or cs m 0))) h
table_more n cs m l size h lh = ⊎_elim same other (cases_group h (group n m))
  where
    same : h ≡ group n m → one_more (table_of cs) (group n m) h ≡ table_of (set cs m (suc (get_or cs m 0))) h
    same e = ap (one_more (table_of cs) (group n m)) e
        ∙ (one_more_same (table_of cs) (group n m)
        ∙ (ap (λ k. suc (get_or cs k 0)) (mask-group n m l)
        ∙ (sym (get_or-set_same cs m (suc (get_or cs m 0)) 0 (omega arith)) ∙ ap (λ k. get_or (set cs m (suc (get_or cs m 0))) k 0) (sym (ap mask e ∙ mask-group n m l)))))

    other : (h ≡ group n m → ⊥) → one_more (table_of cs) (group n m) h ≡ table_of (set cs m (suc (get_or cs m 0))) h
    other d = one_more_other (table_of cs) (group n m) h d
        ∙ sym (get_or-set_other cs m (mask h) (suc (get_or cs m 0)) 0 (λ e. d (sym (mask_back n h lh) ∙ ap (group n) e)))

one_more_like : (d e : Table) (g h : Group) → d h ≡ e h → one_more d g h ≡ one_more e g h
one_more_like d e g h p = ap (λ m. cond (same_group h g) (suc m) m) p

module _ (ds : List Dim) (place : ℕ → ℕ) (adds : Group → ℕ) (all : List Group) (S : Scan ds place adds all) where
  hands : MachineLaws ds place adds all
  hands = machine_laws ds place adds all S

  -- the count of the group that is next
  count_is : (t k m : ℕ) (cs : List ℕ) → m < 2 ^ length ds → (s : Progress ds place adds all t k (Some m) cs) → s.table (group (length ds) m) ≡ get_or cs m 0
  count_is t k m cs l s = s.counted (group (length ds) m) (length-group (length ds) m) ∙ ap (λ i. get_or cs i 0) (mask-group (length ds) m l)

  begin : Progress ds place adds all 0 0 None (replicate (2 ^ length ds) 0)
  begin = record {
    sequence = [];
    table = λ _. 0;
    reached = start;
    handed = refl;
    counted = λ h l. sym (get_or-replicate (2 ^ length ds) (mask h) 0 0 (mask_within (length ds) h l));
    all_counts = length-replicate (2 ^ length ds) 0;
  }

  passed : (t k : ℕ) (cs : List ℕ) → Progress ds place adds all t k None cs → Progress ds place adds all (suc t) k (Some (2 ^ length ds - 1)) cs
  passed t k cs s = record {
    sequence = s.sequence;
    table = s.table;
    reached = subst (λ g. Reached ds place adds all s.sequence (suc t) (Some g) s.table)
        (sym (root_of (length ds) (2 ^ length ds - 1) (omega (arith, mask_root (length ds))))) (pass s.reached);
    handed = s.handed;
    counted = s.counted;
    all_counts = s.all_counts;
  }

  handed_out : (t k m : ℕ) (cs : List ℕ) (at : Option ℕ) → m < 2 ^ length ds → Progress ds place adds all t k (Some m) cs
      → group_at (length ds) at ≡ next_from (tree ds place adds all) t (suc (length ds)) (table_of (set cs m (suc (get_or cs m 0)))) (group (length ds) m)
      → Progress ds place adds all t (suc k) at (set cs m (suc (get_or cs m 0)))
  handed_out t k m cs at l s e = record {
    sequence = s.sequence ++ (record { of = g; number = s.table g } ∷ []);
    table = one_more s.table g;
    reached = subst (λ p. Reached ds place adds all (s.sequence ++ (record { of = g; number = s.table g } ∷ [])) t p (one_more s.table g)) next_is
        (hand s.reached);
    handed = length_push s.sequence (record { of = g; number = s.table g }) ∙ (omega (arith, s.handed));
    counted = counted;
    all_counts = length-set cs m (suc (get_or cs m 0)) ∙ s.all_counts;
  }
    where
      g : Group
      g = group (length ds) m

      counted : (h : Group) → length h ≡ length ds → one_more s.table g h ≡ table_of (set cs m (suc (get_or cs m 0))) h
      counted h lh = one_more_like s.table (table_of cs) g h (s.counted h lh) ∙ table_more (length ds) cs m l s.all_counts h lh

      next_is : next_from (tree ds place adds all) t (suc (length ds)) (one_more s.table g) g ≡ group_at (length ds) at
      next_is = hands.alike t (suc (length ds)) (one_more s.table g) (table_of (set cs m (suc (get_or cs m 0)))) g counted (length-group (length ds) m) ∙ sym e

  pub progress_laws : ProgressLaws ds place adds all
  progress_laws = record {
    start = begin;
    pass = passed;
    hand = handed_out;
    next = λ t k m cs l lt s b. ap (λ i. get_or (handing ds place adds all) i b) (sym s.handed)
        ∙ (hands.next s.reached lt b ∙ ap (λ i. numbered_block ds place (record { of = group (length ds) m; number = i })) (count_is t k m cs l s));
    next_is = λ t k m cs l lt s. let (a, b, c) =
        hands.next_is s.reached lt in (a, subst (λ i. i < product (radix (group (length ds) m) (counts ds))) (count_is t k m cs l s) b);
    some_wait = λ t k m cs lt s. omega (arith, hands.some_more s.reached lt, s.handed);
    none_waits = λ t k cs lt s. hands.none_more s.reached lt ∙ s.handed;
  }

  lacked : (m : ℕ) → m + 1 < 2 ^ length ds → Has all (group (length ds) m) → lacks (group (length ds) m) (adds (group (length ds) m)) ≡ true
  lacked m l k = (is_child ds place adds all S (group (length ds) m) k (not_root_of (length ds) m l)).1

  parent_mask : (m : ℕ) → m + 1 < 2 ^ length ds → Has all (group (length ds) m)
      → (m + 2 ^ adds (group (length ds) m) < 2 ^ length ds) × (parent adds (group (length ds) m) ≡ group (length ds) (m + 2 ^ adds (group (length ds) m)))
  parent_mask m l k = (
    subst (λ i. i < 2 ^ length ds) bits (mask_within (length ds) (parent adds g) long),
    sym (mask_back (length ds) (parent adds g) long)
        ∙ ap (group (length ds)) bits,
  )
    where
      g : Group
      g = group (length ds) m

      long : length (parent adds g) ≡ length ds
      long = length-set g (adds g) true ∙ length-group (length ds) m

      bits : mask (parent adds g) ≡ m + 2 ^ adds g
      bits = mask-set g (adds g) (lacked m l k) ∙ ap (λ i. i + 2 ^ adds g) (mask-group (length ds) m (omega arith))

  same_mask : (p m : ℕ) → p < 2 ^ length ds → m < 2 ^ length ds → same_group (group (length ds) m) (group (length ds) p) ≡ eqb m p
  same_mask p m lp lm = ⊎_elim
      (λ e. ap (λ i. same_group (group (length ds) i) (group (length ds) p)) e ∙ (same_group_refl (group (length ds) p) ∙ sym (eq-eqb m p e)))
      (λ d. same_group_ne (group (length ds) m) (group (length ds) p) (λ e. d (sym (mask-group (length ds) m lm) ∙ (ap mask e ∙ mask-group (length ds) p lp)))
      ∙ sym (ne_eqb m p d)) (cases_eq m p)

  not_root : (m : ℕ) → m + 1 < 2 ^ length ds → (tree ds place adds all).is_root (group (length ds) m) ≡ false
  not_root m l = same_group_ne (group (length ds) m) (root (length ds)) (not_root_of (length ds) m l)

  is_root : (m : ℕ) → m + 1 ≡ 2 ^ length ds → (tree ds place adds all).is_root (group (length ds) m) ≡ true
  is_root m e = ap (λ g. same_group g (root (length ds))) (root_of (length ds) m e) ∙ same_group_refl (root (length ds))

  due_from_parent : List ℕ → ℕ → ℕ
  due_from_parent cs m = (table_of cs (parent adds (group (length ds) m)) / (tree ds place adds all).period (group (length ds) m)) * (tree ds place adds all).share
      (group (length ds) m)

  pub mask_tree : MaskTree ds place adds all
  unfolding due_from_parent
  mask_tree = record {
    parent_mask = parent_mask;
    child_mask = λ p m lp l k. ap (λ b. b && same_group (parent adds (group (length ds) m)) (group (length ds) p)) (lacked m l k)
        ∙ (ap (λ g. same_group g (group (length ds) p)) (parent_mask m l k).1 ∙ same_mask p (m + 2 ^ adds (group (length ds) m)) lp (parent_mask m l k).0);
    root_mask = λ p m e. ap (λ b. b && same_group (parent adds (group (length ds) m)) (group (length ds) p))
        (ap (λ g. lacks g (adds (group (length ds) m))) (root_of (length ds) m e) ∙ root_keeps (length ds) (adds (group (length ds) m)));
    waits_mask = λ t m cs l k. ap (λ i. ltb (get_or cs i 0) (cond ((tree ds place adds all).is_root (group (length ds) m)) t (due_from_parent cs m)))
        (mask-group (length ds) m (omega arith))
        ∙ (ap (λ b. ltb (get_or cs m 0) (cond b t (due_from_parent cs m))) (not_root m l)
        ∙ ap (λ i. ltb (get_or cs m 0) ((get_or cs i 0 / (tree ds place adds all).period (group (length ds) m)) * (tree ds place adds all).share (group (length ds) m)))
        (ap mask (parent_mask m l k).1 ∙ mask-group (length ds) (m + 2 ^ adds (group (length ds) m)) (parent_mask m l k).0));
    waits_root = λ t m cs e. ap (λ i. ltb (get_or cs i 0) (cond ((tree ds place adds all).is_root (group (length ds) m)) t (due_from_parent cs m)))
        (mask-group (length ds) m (omega arith))
        ∙ ap (λ b. ltb (get_or cs m 0) (cond b t (due_from_parent cs m))) (is_root m e);
    seen_from = λ t m d k. hands.seen_from t d (group (length ds) m) k;
    not_root = not_root;
    is_root = is_root;
  }

-- the first of what a filter keeps
first_kept : (q p : Group → Bool) (hs : List Group) → first p (filter q hs) ≡ first (λ h. q h && p h) hs
first_kept q p [] = refl
first_kept q p (h ∷ hs) = step (q h) (first_kept q p hs)
  where
    step : (b : Bool) → first p (filter q hs) ≡ first (λ g. q g && p g) hs → first p (cond b (h ∷ filter q hs) (filter q hs))
        ≡ cond (b && p h) (Some h) (first (λ g. q g && p g) hs)
    step true e = ap (λ o. cond (p h) (Some h) o) e
    step false e = e

first_counted : (p : Group → Bool) (f : ℕ → Group) (n m : ℕ) → m < n → ((k : ℕ) → k < m → p (f k) ≡ false) → p (f m) ≡ true → first p (map f (range_with_len 0 n))
    ≡ Some (f m)
first_counted p f n m l low hit =
    ap (λ k. first p (map f (range_with_len 0 k))) size
    ∙ (ap (λ xs. first p (map f xs)) (counting_append 0 m (suc (n - suc m)))
    ∙ (ap (first p) (map-append f (range_with_len 0 m) (range_with_len (0 + m) (suc (n - suc m))))
    ∙ (first_some p (map f (range_with_len 0 m)) (f (0 + m)) (map f (range_with_len (0 + m + 1) (n - suc m)))
    (All-map (λ h. p h ≡ false) f (range_with_len 0 m) (all_counting (λ k. p (f k) ≡ false) 0 m (λ k a b. low k (omega arith)))) (ap (λ k. p (f k)) from_zero ∙ hit)
    ∙ ap (λ k. Some (f k)) from_zero)))
  where
    size : n ≡ m + suc (n - suc m)
    size = omega arith

    from_zero : 0 + m ≡ m
    from_zero = omega arith

pub first_by_mask : (n : ℕ) (adds : Group → ℕ) → FirstByMask n adds
first_by_mask n adds = record {
  hit = λ g p m l low hit. first_kept (child adds g) p (groups n) ∙ first_counted (λ h. child adds g h && p h) (group n) (2 ^ n) m l low hit;
  miss = λ g p low. first_kept (child adds g) p (groups n)
      ∙ first_none (λ h. child adds g h && p h) (groups n) (All-map (λ h. (child adds g h && p h) ≡ false) (group n) (range_with_len 0 (2 ^ n))
      (all_counting (λ k. (child adds g (group n k) && p (group n k)) ≡ false) 0 (2 ^ n) (λ k a b. low k (omega arith))));
}
