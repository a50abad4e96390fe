-- A block is complete when it is handed out.
use Rattle.std.proofs.Common.{◌≡◌, ℕ, zero, suc, ◌+◌, ◌*◌, ◌/◌, ◌<◌, Bool, true, false, cond, List, [], ◌∷◌, length, get_or, take, filter, sym, refl, ap, ◌∙◌, subst, arith}
use mathlib.Core.List.{map-map}
use Rattle.std.specs.List.{ContainsAt as Has, range_with_len}
use Rattle.std.proofs.lemmas.List.Elements.{filter-append}
use Rattle.std.proofs.ByRecursion.{All-get_or}
use Rattle.std.proofs.lemmas.List.{length-map, get_or-set_other, get_or-map, take_more, length-append}
use Rattle.std.proofs.lemmas.List.FromFn.{length-map-range_with_len, get_or-map-range_with_len}
use Rattle.shapes.specs.declared.dims.Dim.{Dim}
use Rattle.shapes.specs.Arrays.{Group, Below, cleared, product, radix, sizes, counts, chunks, chunk_of, total_chunks, root, dim, none_dim}
use Rattle.shapes.proofs.Numbering.{below_length}
use Rattle.measures.specs.Laws.{Lawful}
use Rattle.cubes.specs.Summaries.{Divided, parent_block}
use Rattle.cubes.specs.Scans.{scan_number, scan_digits}
use Rattle.cubes.specs.Handing.{Block, Scan, parent, of_group, blocks, handing, tally}
use Rattle.cubes.specs.Control.{due_below, tree}
use Rattle.cubes.specs.SummaryLaws.{parent_scan, CompleteWhenHanded}
use Rattle.shapes.proofs.Radixes.{length-radix}
use Rattle.cubes.proofs.Cells.{chunk_below, below_cleared, below_set}
use Rattle.cubes.proofs.ScanNumbers.{scan_of_digits}
use Rattle.cubes.proofs.Ranks.{region_rank}
use Rattle.cubes.proofs.Contents.{content_all}
use Rattle.cubes.proofs.Machine.{same_group_refl, same_group_ne}
use Rattle.cubes.proofs.Trees.{ChildOf, is_child, sized, inside, lacks_keeps, level, level_set, laws}
use Rattle.cubes.proofs.Naming.{released_within}
use Rattle.cubes.proofs.Passed.{quotient_less}
use Rattle.cubes.proofs.Handing.{handed_in_order, always_within_due}

-- an element that passes a test is the next that the test keeps
kept_next : {X : Type 0} (p : X → Bool) (xs : List X) (i : ℕ) (d : X) → i < length xs → p (get_or xs i d) ≡ true
    → get_or (filter p xs) (length (filter p (take i xs))) d ≡ get_or xs i d
kept_next p [] i d l t = absurd (omega arith)
kept_next p (x ∷ xs) zero d l t = ap (λ b. get_or (cond b (x ∷ filter p xs) (filter p xs)) 0 d) t
kept_next p (x ∷ xs) (suc i) d l t = step (p x) (kept_next p xs i d (omega arith) t)
  where
    step : (b : Bool) → get_or (filter p xs) (length (filter p (take i xs))) d ≡ get_or xs i d
        → get_or (cond b (x ∷ filter p xs) (filter p xs)) (length (cond b (x ∷ filter p (take i xs)) (filter p (take i xs)))) d ≡ get_or xs i d
    step true e = e
    step false e = e

kept_within : {X : Type 0} (p : X → Bool) (xs : List X) (i : ℕ) (d : X) → i < length xs → p (get_or xs i d) ≡ true
    → length (filter p (take i xs)) < length (filter p xs)
kept_within p [] i d l t = absurd (omega arith)
kept_within p (x ∷ xs) zero d l t = subst (λ b. 0 < length (cond b (x ∷ filter p xs) (filter p xs))) (sym t) (omega arith)
kept_within p (x ∷ xs) (suc i) d l t = step (p x) (kept_within p xs i d (omega arith) t)
  where
    step : (b : Bool) → length (filter p (take i xs)) < length (filter p xs)
        → length (cond b (x ∷ filter p (take i xs)) (filter p (take i xs))) < length (cond b (x ∷ filter p xs) (filter p xs))
    step true e = omega arith
    step false e = e

pub kept_one_more : {X : Type 0} (p : X → Bool) (xs : List X) (i : ℕ) (d : X) → i < length xs → length (filter p (take (i + 1) xs))
    ≡ length (filter p (take i xs)) + cond (p (get_or xs i d)) 1 0
kept_one_more p xs i d l = ap (λ ys. length (filter p ys)) (take_more xs i d l)
    ∙ (ap length (filter-append p (take i xs) (get_or xs i d ∷ []))
    ∙ (length-append (filter p (take i xs)) (filter p (get_or xs i d ∷ [])) ∙ ap (λ n. length (filter p (take i xs)) + n) (one (p (get_or xs i d)))))
  where
    one : (b : Bool) → length (cond b (get_or xs i d ∷ []) []) ≡ cond b 1 0
    one true = refl
    one false = refl

-- the block that comes after the first i
module _ (ds : List Dim) (place : ℕ → ℕ) (adds : Group → ℕ) (all : List Group) (S : Scan ds place adds all) (i : ℕ) (b : Block)
    (li : i < length (handing ds place adds all)) (is : get_or (handing ds place adds all) i b ≡ b) where
  pub of_a_group : Has all b.of × Below (radix b.of (counts ds)) b.at
  of_a_group = subst (λ c. Has all c.of × Below (radix c.of (counts ds)) c.at) is
      (All-get_or (λ c. Has all c.of × Below (radix c.of (counts ds)) c.at) (handing ds place adds all) i b li
      (released_within ds place adds all S (total_chunks ds) (omega arith)))

  here : of_group b.of (get_or (handing ds place adds all) i b) ≡ true
  here = ap (of_group b.of) is ∙ same_group_refl b.of

  long : length (radix b.of (counts ds)) ≡ length ds
  long = length-radix b.of (counts ds) (sized ds place adds all S b.of of_a_group.0 ∙ sym (length-map ds chunks)) ∙ length-map ds chunks

  near : (j : ℕ) → j < length (radix b.of (counts ds)) → place j < suc (length (radix b.of (counts ds)))
  near j m = rw long (omega (arith, S.order.within j (rw long at m)))

  separate : (j k : ℕ) → j < length (radix b.of (counts ds)) → k < length (radix b.of (counts ds)) → place j ≡ place k → j ≡ k
  separate j k mj mk q = S.order.distinct j k (rw long at mj) (rw long at mk) q

  count_below : tally (take i (handing ds place adds all)) b.of < product (radix b.of (counts ds))
  count_below = omega (
    arith,
    kept_within (of_group b.of) (handing ds place adds all) i b li here,
    ap length (handed_in_order ds place adds all S b.of of_a_group.0),
    length-map {B = Block} (blocks ds place b.of) (λ c. record { of = b.of; at = c }),
    length-map-range_with_len (scan_digits place (radix b.of (counts ds))) 0 (product (radix b.of (counts ds))),
  )

  -- it is the next of its group in scan order
  pub at_is : b.at ≡ scan_digits place (radix b.of (counts ds)) (tally (take i (handing ds place adds all)) b.of)
  at_is = ap (λ c. c.at)
      (sym is ∙ (sym (kept_next (of_group b.of) (handing ds place adds all) i b li here)
      ∙ (ap (λ xs. get_or xs (tally (take i (handing ds place adds all)) b.of) b) (handed_in_order ds place adds all S b.of of_a_group.0
      ∙ map-map (λ c. record { of = b.of; at = c }) (scan_digits place (radix b.of (counts ds))) (range_with_len 0 (product (radix b.of (counts ds)))))
      ∙ get_or-map-range_with_len (λ s. record { of = b.of; at = scan_digits place (radix b.of (counts ds)) s }) 0 (product (radix b.of (counts ds)))
      (tally (take i (handing ds place adds all)) b.of) (tally (take i (handing ds place adds all)) b.of) b count_below (omega arith))))

  pub scan_is : scan_number place (radix b.of (counts ds)) b.at ≡ tally (take i (handing ds place adds all)) b.of
  scan_is = ap (scan_number place (radix b.of (counts ds))) at_is
      ∙ scan_of_digits place (radix b.of (counts ds)) separate near (tally (take i (handing ds place adds all)) b.of) count_below

  module _ (n : b.of ≡ root (length ds) → ⊥) where
    pub child_here : ChildOf adds all b.of
    child_here = is_child ds place adds all S b.of of_a_group.0 n

    -- its region was completed by its parent's blocks before
    pub was_due : tally (take i (handing ds place adds all)) b.of < due_below (tree ds place adds all) (tally (take i (handing ds place adds all))) b.of
    was_due = omega (arith, (always_within_due ds place adds all S (i + 1) b.of of_a_group.0 n).no_more, own, ap (λ m. m / period * share) other)
      where
        period : ℕ
        period = (tree ds place adds all).period b.of

        share : ℕ
        share = (tree ds place adds all).share b.of

        own : tally (take (i + 1) (handing ds place adds all)) b.of ≡ tally (take i (handing ds place adds all)) b.of + 1
        own = kept_one_more (of_group b.of) (handing ds place adds all) i b li ∙ ap (λ t. tally (take i (handing ds place adds all)) b.of + cond t 1 0) here

        other : tally (take (i + 1) (handing ds place adds all)) (parent adds b.of) ≡ tally (take i (handing ds place adds all)) (parent adds b.of)
        other = kept_one_more (of_group (parent adds b.of)) (handing ds place adds all) i b li
            ∙ (ap (λ t. tally (take i (handing ds place adds all)) (parent adds b.of) + cond t 1 0)
            (ap (of_group (parent adds b.of)) is
            ∙ same_group_ne b.of (parent adds b.of) (λ e. omega (arith, level_set b.of (adds b.of) child_here.1, ap level e))) ∙ omega arith)

    -- so of each of its cells all blocks of the parent were handed out before
    pub parents_before : Divided ds → (x : List ℕ) → Below (sizes ds) x → cleared b.of (chunk_of ds x) ≡ b.at → (k : ℕ) → k < chunks (dim ds (adds b.of))
        → parent_scan ds place b.of (adds b.of) (parent_block ds b.of (adds b.of) x k) < tally (take i (handing ds place adds all)) (parent adds b.of)
    parents_before divided x below_x at_x k lk = quotient_less
        (parent_scan ds place b.of (adds b.of) (parent_block ds b.of (adds b.of) x k))
        (tally (take i (handing ds place adds all)) (parent adds b.of))
        ((tree ds place adds all).period b.of)
        (scan_number place (radix b.of (counts ds)) (cleared b.of (chunk_of ds x)))
        ((tree ds place adds all).share b.of)
        ((laws ds place adds all S).period_some b.of child_here) ((laws ds place adds all S).share_some b.of child_here)
        (region_rank ds place S.order b.of (adds b.of) (sized ds place adds all S b.of of_a_group.0) (inside ds place adds all S b.of child_here)
        (lacks_keeps b.of (adds b.of) child_here.1) (cleared b.of (chunk_of ds x)) (parent_block ds b.of (adds b.of) x k) below_b
        (below_set b.of (counts ds) (cleared b.of (chunk_of ds x)) (adds b.of) k below_b
        (rw (get_or-map chunks ds (adds b.of) none_dim 0 (inside ds place adds all S b.of child_here)) lk))
        (λ j l kept q. sym (get_or-set_other (cleared b.of (chunk_of ds x)) (adds b.of) j k 0 (λ e. omega (arith, ap place e)))))
        (subst (λ u. u < due_below (tree ds place adds all) (tally (take i (handing ds place adds all))) b.of)
        (sym (ap (scan_number place (radix b.of (counts ds))) at_x ∙ scan_is)) was_due)
      where
        below_b : Below (radix b.of (counts ds)) (cleared b.of (chunk_of ds x))
        below_b = below_cleared b.of (counts ds) (chunk_of ds x) (chunk_below ds x divided below_x)

pub complete_when_handed : {M : Type 0} (empty : M) (op : M → M → M) → Lawful empty op → CompleteWhenHanded empty op
complete_when_handed empty op laws σ place adds all divided S i b li is n x below_x at_x =
    content_all empty op laws σ.dims σ.chunk (parent_scan σ.dims place b.of (adds b.of)) b.of (adds b.of) x
    (tally (take i (handing σ.dims place adds all)) (parent adds b.of)) divided
    (sized σ.dims place adds all S b.of (of_a_group σ.dims place adds all S i b li is).0)
    (below_length (sizes σ.dims) x below_x ∙ length-map σ.dims (λ (d : Dim). d.size))
    (inside σ.dims place adds all S b.of (child_here σ.dims place adds all S i b li is n))
    (lacks_keeps b.of (adds b.of) (child_here σ.dims place adds all S i b li is n).1)
    (parents_before σ.dims place adds all S i b li is n divided x below_x at_x)
