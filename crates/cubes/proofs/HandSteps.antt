-- What the region of a group holds from one block handed out to the next.
use Rattle.std.proofs.Common.{◌≡◌, ℕ, ◌+◌, ◌*◌, ◌/◌, ◌<◌, ◌≤◌, true, false, cond, not, ◌&&◌, ◌⊎◌, List, [], length, get_or, take, sym, ap, ◌∙◌, subst, inl, inr, mod-lt, div-add-mod', arith}
use Rattle.std.specs.List.{ContainsAt as Has}
use Rattle.std.proofs.lemmas.List.{length-map, get_or-map, get_or-set_other}
use Rattle.std.proofs.lemmas.Bool.{cases_Bool}
use Rattle.shapes.specs.declared.dims.Dim.{Dim}
use Rattle.shapes.specs.Arrays.{Group, Below, radix, sizes, counts, chunks, chunk_of, agrees, cleared, root, dim, none_dim, keeps}
use Rattle.shapes.proofs.Numbering.{below_length}
use Rattle.measures.specs.Laws.{Lawful}
use Rattle.sources.specs.Meanings.{Meaning}
use Rattle.cubes.specs.Summaries.{Divided, direct, contribution, parent_block}
use Rattle.cubes.specs.Scans.{scan_number}
use Rattle.cubes.specs.Handing.{Block, Scan, same_group, parent, of_group, handing, tally}
use Rattle.cubes.specs.Control.{tree}
use Rattle.cubes.specs.SummaryLaws.{parent_scan, held}
use Rattle.cubes.specs.Turns.{handed_of, next_group, regions_over, in_release}
use Rattle.cubes.specs.BetweenHands.{AtTurn, region_holds, BetweenHands}
use Rattle.cubes.proofs.Cells.{chunk_below, below_cleared, below_set}
use Rattle.cubes.proofs.Contents.{content_none, content_all, content_start}
use Rattle.cubes.proofs.Ranks.{region_rank}
use Rattle.cubes.proofs.RegionContents.{regions_hold}
use Rattle.cubes.proofs.Machine.{same_group_refl, same_group_ne}
use Rattle.cubes.proofs.Trees.{ChildOf, is_child, sized, inside, lacks_keeps, laws}
use Rattle.cubes.proofs.Complete.{of_a_group, scan_is, kept_one_more}
use Rattle.cubes.proofs.RegionTurns.{turns, turning, share_is, period_is}

-- what a quotient says of a bound
quotient_below : (s m q : ℕ) → 0 < m → s / m ≡ q → s < (q + 1) * m
quotient_below s m q pos e = omega (arith, div-add-mod' s m, mod-lt s pos, ap (λ z. z * m) e)

quotient_above : (s m q : ℕ) → s / m ≡ q → q * m ≤ s
quotient_above s m q e = omega (arith, div-add-mod' s m, ap (λ z. z * m) e)

module _ {M : Type 0} (empty : M) (op : M → M → M) (lawful : Lawful empty op) (σ : Meaning M) (place : ℕ → ℕ) (adds : Group → ℕ) (all : List Group)
    (divided : Divided σ.dims) (S : Scan σ.dims place adds all) (h : Group) (has : Has all h) (n : h ≡ root (length σ.dims) → ⊥) where
  abbrev ds : List Dim
  ds = σ.dims

  c : ChildOf adds all h
  c = is_child ds place adds all S h has n

  lh : length h ≡ length ds
  lh = sized ds place adds all S h has

  le : adds h < length ds
  le = inside ds place adds all S h c

  lacks : keeps h (adds h) ≡ false
  lacks = lacks_keeps h (adds h) c.1

  abbrev sh : ℕ
  sh = (tree ds place adds all).share h

  abbrev pe : ℕ
  pe = (tree ds place adds all).period h

  -- the blocks of the parent that go into a cell of the region at its turn have its number
  in_turn : (i : ℕ) (x : List ℕ) → Below (sizes ds) x → AtTurn ds place adds all h i x → (k : ℕ) → k < chunks (dim ds (adds h))
      → parent_scan ds place h (adds h) (parent_block ds h (adds h) x k) / pe ≡ regions_over ds place adds all h i
  in_turn i x below_x turn k lk =
      sym (region_rank ds place S.order h (adds h) lh le lacks (cleared h (chunk_of ds x)) (parent_block ds h (adds h) x k) below_b
      (below_set h (counts ds) (cleared h (chunk_of ds x)) (adds h) k below_b (rw (get_or-map chunks ds (adds h) none_dim 0 le) lk))
      (λ j l kept q. sym (get_or-set_other (cleared h (chunk_of ds x)) (adds h) j k 0 (λ e. omega (arith, ap place e)))))
      ∙ (ap (λ m. scan_number place (radix h (counts ds)) (cleared h (chunk_of ds x)) / m) (sym (share_is ds place adds all S h c)) ∙ turn)
    where
      below_b : Below (radix h (counts ds)) (cleared h (chunk_of ds x))
      below_b = below_cleared h (counts ds) (chunk_of ds x) (chunk_below ds x divided below_x)

  period_some : 0 < pe
  period_some = (laws ds place adds all S).period_some h c

  fresh : (i : ℕ) (x : List ℕ) → Below (sizes ds) x → AtTurn ds place adds all h i x
      → handed_of ds place adds all (parent adds h) i ≡ regions_over ds place adds all h i * pe → region_holds empty op σ place adds all h i x ≡ empty
  fresh i x below_x turn e = content_none empty op lawful ds σ.chunk (parent_scan ds place h (adds h)) h (adds h) x
      (handed_of ds place adds all (parent adds h) i)
      (λ k lk. omega (
        arith,
        e,
        quotient_above (parent_scan ds place h (adds h) (parent_block ds h (adds h) x k)) pe (regions_over ds place adds all h i)
            (in_turn i x below_x turn k lk),
      ))

  complete : (i : ℕ) → in_release ds adds h (next_group ds place adds all i) ≡ true → (x : List ℕ) → Below (sizes ds) x → AtTurn ds place adds all h i x
      → region_holds empty op σ place adds all h i x ≡ direct empty op σ h x
  complete i t x below_x turn = content_all empty op lawful ds σ.chunk (parent_scan ds place h (adds h)) h (adds h) x
      (handed_of ds place adds all (parent adds h) i) divided lh
      (below_length (sizes ds) x below_x ∙ length-map ds (λ (d : Dim). d.size)) le lacks
      (λ k lk. omega (
        arith,
        (turning ds place adds all S h c i t).1,
        quotient_below (parent_scan ds place h (adds h) (parent_block ds h (adds h) x k)) pe (regions_over ds place adds all h i) period_some
            (in_turn i x below_x turn k lk),
      ))

  -- how the parent's count goes on
  parent_more : (i : ℕ) (b : Block) → i < length (handing ds place adds all) → get_or (handing ds place adds all) i b ≡ b → b.of ≡ parent adds h
      → handed_of ds place adds all (parent adds h) (i + 1) ≡ handed_of ds place adds all (parent adds h) i + 1
  parent_more i b l is of = kept_one_more (of_group (parent adds h)) (handing ds place adds all) i b l
      ∙ ap (λ t. handed_of ds place adds all (parent adds h) i + cond t 1 0) (ap (of_group (parent adds h)) is
      ∙ (ap (λ g. same_group g (parent adds h)) of ∙ same_group_refl (parent adds h)))

  parent_same : (i : ℕ) → i < length (handing ds place adds all) → (next_group ds place adds all i ≡ parent adds h → ⊥)
      → handed_of ds place adds all (parent adds h) (i + 1) ≡ handed_of ds place adds all (parent adds h) i
  parent_same i l other = kept_one_more (of_group (parent adds h)) (handing ds place adds all) i (record { of = []; at = [] }) l
      ∙ (ap (λ t. handed_of ds place adds all (parent adds h) i + cond t 1 0) (same_group_ne (next_group ds place adds all i) (parent adds h) other) ∙ omega arith)

  joined : (i : ℕ) (b : Block) → i < length (handing ds place adds all) → get_or (handing ds place adds all) i b ≡ b → b.of ≡ parent adds h → (x : List ℕ)
      → Below (sizes ds) x
      → region_holds empty op σ place adds all h (i + 1) x
      ≡ cond (agrees h (chunk_of ds x) b.at) (op (region_holds empty op σ place adds all h i x) (contribution empty op σ h (adds h) x (get_or b.at (adds h) 0)))
      (region_holds empty op σ place adds all h i x)
  joined i b l is of x below_x =
      ap (held empty op σ place h (adds h) x) (parent_more i b l is of ∙ ap (λ m. m + 1) (sym number))
      ∙ ((regions_hold empty op lawful σ place h (adds h) divided S.order lh (le, lacks)).joined b.at x below_b below_x
      ∙ ap (λ m. cond (agrees h (chunk_of ds x) b.at) (op (held empty op σ place h (adds h) x m) (contribution empty op σ h (adds h) x (get_or b.at (adds h) 0)))
      (held empty op σ place h (adds h) x m)) number)
    where
      below_b : Below (radix (parent adds h) (counts ds)) b.at
      below_b = subst (λ g. Below (radix g (counts ds)) b.at) of (of_a_group ds place adds all S i b l is).1

      number : parent_scan ds place h (adds h) b.at ≡ handed_of ds place adds all (parent adds h) i
      number = subst (λ g. scan_number place (radix g (counts ds)) b.at ≡ tally (take i (handing ds place adds all)) g) of (scan_is ds place adds all S i b l is)

  -- where the turn ends, the parent's blocks are those of the regions before
  emptied : (i : ℕ) → i < length (handing ds place adds all) → regions_over ds place adds all h (i + 1) ≡ regions_over ds place adds all h i + 1
      → (x : List ℕ) → Below (sizes ds) x → AtTurn ds place adds all h (i + 1) x → region_holds empty op σ place adds all h (i + 1) x ≡ empty
  emptied i l e x below_x turn = fresh (i + 1) x below_x turn (counts_are (cases_Bool (in_release ds adds h (next_group ds place adds all i))))
    where
      counts_are : (in_release ds adds h (next_group ds place adds all i) ≡ true) ⊎ (in_release ds adds h (next_group ds place adds all i) ≡ false)
          → handed_of ds place adds all (parent adds h) (i + 1) ≡ regions_over ds place adds all h (i + 1) * pe
      counts_are (inr f) = absurd (omega (
        arith,
        e,
        (turns ds place adds all S h c).ends i l
            ∙ ap (λ t. regions_over ds place adds all h i + cond (t && not (in_release ds adds h (next_group ds place adds all (i + 1)))) 1 0) f,
      ))
      counts_are (inl t) = parent_same i l other ∙ ((turning ds place adds all S h c i t).1 ∙ ap (λ m. m * pe) (sym e))
        where
          other : next_group ds place adds all i ≡ parent adds h → ⊥
          other q = omega (arith, e, ((turns ds place adds all S h c).joined i l q).1)

  pub between_hands : BetweenHands empty op σ place adds all h
  between_hands = record {
    turns = turns ds place adds all S h c;
    start = λ x. content_start empty op lawful ds σ.chunk (parent_scan ds place h (adds h)) h (adds h) x;
    fresh = λ i x b t e. fresh i x b t (e ∙ ap (λ m. regions_over ds place adds all h i * m) (period_is ds place adds all S h c));
    joined = joined;
    stays = λ i l other x. ap (held empty op σ place h (adds h) x) (parent_same i l other);
    complete = complete;
    emptied = emptied;
  }
