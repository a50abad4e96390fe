-- One row, and one box, joined into another: what stands in each cell after so many turns.
use Rattle.std.proofs.Common.{◌≡◌, ℕ, ◌+◌, ◌*◌, ◌<◌, cond, eqb, List, length, get_or, set, sym, ap, ◌∙◌, subst, ap₂, zero-add, zero-mul, arith}
use Rattle.std.proofs.lemmas.List.{get_or_read}
use Rattle.std.proofs.lemmas.Bool.{ne_eqb}
use Rattle.std.proofs.lemmas.List.FromFn.{fill_by_all, length-map-range_with_len, get_or-map-range_with_len}
use Rattle.shapes.specs.Arrays.{product, digits}
use Rattle.measures.specs.Laws.{Lawful}
use Rattle.cubes.specs.Summaries.{big}
use Rattle.cubes.proofs.Joins.{big_none, big_add, big_cong, join_empty}
use Rattle.cubes.proofs.Blocks.{Accumulated, accumulated_none, accumulated_more}
use Rattle.runs.specs.Boxes.{dot, joined_at, box_joined, row_joined, RowsDisjoint, Within, Disjoint, Positive, Leads}
use Rattle.runs.proofs.Digits.{digits_positive}
use Rattle.runs.proofs.Rows.{row_at}

-- each turn joins what stands at src into what stands at dst
module _ {M : Type 0} (empty : M) (join : M → M → M) (laws : Lawful empty join) (s : List M) (dst src : ℕ → ℕ) where
  abbrev pub read_from : ℕ → M
  read_from o = get_or s (src o) empty

  -- a cell that is the target of no turn stays
  pub turns_keep : (now : List M) (i q : ℕ) → Accumulated empty join laws dst read_from s now i → q < length s → ((o : ℕ) → o < i → dst o ≡ q → ⊥) → get_or now q empty ≡ get_or s q empty
  turns_keep now i q inv l none = inv.1 q l
      ∙ ap (join (get_or s q empty)) (big_none empty join laws (λ o. cond (eqb (dst o) q) (read_from o) empty) i (λ o m. ap (λ z. cond z (read_from o) empty) (ne_eqb (dst o) q (none o m))))
      ∙ join_empty empty join laws (get_or s q empty)

  pub turn_more : (now : List M) (o : ℕ) (above below v : M) → src o < length s → dst o < length s → ((k : ℕ) → k < o → dst k ≡ src o → ⊥)
      → Accumulated empty join laws dst read_from s now o → above ≡ get_or now (src o) above → below ≡ get_or now (dst o) below → v ≡ join below above
      → Accumulated empty join laws dst read_from s (set now (dst o) v) (o + 1)
  turn_more now o above below v lx ly clear inv ea eb ev =
      subst (λ z. Accumulated empty join laws dst read_from s z (o + 1)) (sym now_is) (accumulated_more empty join laws dst read_from s now o ly inv)
    where
      above_is : above ≡ read_from o
      above_is = get_or_read now (src o) above (omega (arith, inv.0)) ea empty ∙ turns_keep now o (src o) inv lx clear

      below_is : below ≡ get_or now (dst o) empty
      below_is = get_or_read now (dst o) below (omega (arith, inv.0)) eb empty

      now_is : set now (dst o) v ≡ set now (dst o) (join (get_or now (dst o) empty) (read_from o))
      now_is = ap (set now (dst o)) (ev ∙ ap₂ join below_is above_is)

pub row_all : {M : Type 0} (empty : M) (join : M → M → M) (laws : Lawful empty join) (s now : List M) (n f fs t ts i : ℕ) → i ≡ n
    → Accumulated empty join laws (λ o. t + o * ts) (λ o. get_or s (f + o * fs) empty) s now i → now ≡ row_joined empty join s n f fs t ts
row_all empty join laws s now n f fs t ts i e inv =
    fill_by_all (λ q. join (get_or s q empty) (big empty join (λ l. cond (eqb (t + l * ts) q) (get_or s (f + l * fs) empty) empty) n)) now (length s) empty inv.0
    (λ q l. inv.1 q l ∙ ap (λ m. join (get_or s q empty) (big empty join (λ o. cond (eqb (t + o * ts) q) (get_or s (f + o * fs) empty) empty) m)) e)

module _ {M : Type 0} (empty : M) (join : M → M → M) (laws : Lawful empty join) (s : List M) (ks : List ℕ) (f : ℕ) (fs : List ℕ) (t : ℕ) (ts : List ℕ) where
  -- after the first i offsets of the box
  abbrev pub JoinedUpTo : List M → ℕ → Type 0
  JoinedUpTo now i = Accumulated empty join laws (λ o. t + dot ts (digits ks o)) (λ o. get_or s (f + dot fs (digits ks o)) empty) s now i

  pub box_none : (k : ℕ) → JoinedUpTo s (0 * k)
  box_none k = subst (JoinedUpTo s) (sym (zero-mul k)) (accumulated_none empty join laws (λ o. t + dot ts (digits ks o)) (λ o. get_or s (f + dot fs (digits ks o)) empty) s)

  pub box_all : (now : List M) (i : ℕ) → i ≡ product ks → JoinedUpTo now i → now ≡ box_joined empty join s ks f fs t ts
  box_all now i e inv = fill_by_all (λ q. join (get_or s q empty) (joined_at empty join s ks f fs t ts q)) now (length s) empty inv.0
      (λ q l. inv.1 q l ∙ ap (λ n. join (get_or s q empty) (big empty join (λ o. cond (eqb (t + dot ts (digits ks o)) q) (get_or s (f + dot fs (digits ks o)) empty) empty) n)) e)

  module _ (r : ℕ) (lead : Leads ks r) (lf : length fs ≡ length ks) (lt : length ts ≡ length ks) (pos : Positive ks) (clear : Disjoint ks f fs t ts)
      (n x y : ℕ) (at_x : x ≡ f + dot fs (digits (set ks r 1) n)) (at_y : y ≡ t + dot ts (digits (set ks r 1) n)) where
    abbrev k : ℕ
    k = get_or ks r 0

    from_is : (l : ℕ) → l < k → x + l * get_or fs r 0 ≡ f + dot fs (digits ks (n * k + l))
    from_is = row_at ks fs r f lead lf pos n x at_x

    to_is : (l : ℕ) → l < k → y + l * get_or ts r 0 ≡ t + dot ts (digits ks (n * k + l))
    to_is = row_at ks ts r t lead lt pos n y at_y

    pub rows_disjoint : RowsDisjoint k x (get_or fs r 0) y (get_or ts r 0)
    rows_disjoint i j qi qj same = clear (digits ks (n * k + i)) (digits ks (n * k + j)) (digits_positive ks (n * k + i) pos) (digits_positive ks (n * k + j) pos)
        (omega (arith, from_is i qi, to_is j qj))

    -- a row more
    pub row_more : Within ks f fs (length s) → (now now' : List M) → JoinedUpTo now (n * k) → now' ≡ row_joined empty join now k x (get_or fs r 0) y (get_or ts r 0)
        → JoinedUpTo now' ((n + 1) * k)
    row_more wf now now' inv e = (
      ap length e ∙ length-map-range_with_len turned 0 (length now) ∙ inv.0,
      λ q l.
          ap (λ z. get_or z q empty) e
          ∙ get_or-map-range_with_len turned 0 (length now) q q empty (omega (arith, inv.0)) (zero-add q)
          ∙ ap₂ join (inv.1 q l)
          (big_cong empty join laws (λ l. cond (eqb (y + l * get_or ts r 0) q) (get_or now (x + l * get_or fs r 0) empty) empty) (λ l. part q (n * k + l)) k
          (λ l m. ap₂ (λ a b. cond (eqb a q) b empty) (to_is l m) (above l m)))
          ∙ laws.assoc (get_or s q empty) (big empty join (part q) (n * k)) (big empty join (λ l. part q (n * k + l)) k)
          ∙ ap (join (get_or s q empty)) (sym (big_add empty join laws (part q) (n * k) k) ∙ ap (big empty join (part q)) next),
    )
      where
        turned : ℕ → M
        turned q = join (get_or now q empty) (big empty join (λ l. cond (eqb (y + l * get_or ts r 0) q) (get_or now (x + l * get_or fs r 0) empty) empty) k)

        part : ℕ → ℕ → M
        part q o = cond (eqb (t + dot ts (digits ks o)) q) (get_or s (f + dot fs (digits ks o)) empty) empty

        next : n * k + k ≡ (n + 1) * k
        next = omega arith

        above : (l : ℕ) → l < k → get_or now (x + l * get_or fs r 0) empty ≡ get_or s (f + dot fs (digits ks (n * k + l))) empty
        above l m = ap (λ z. get_or now z empty) (from_is l m)
            ∙ turns_keep empty join laws s (λ o. t + dot ts (digits ks o)) (λ o. f + dot fs (digits ks o)) now (n * k) (f + dot fs (digits ks (n * k + l))) inv
            (wf (digits ks (n * k + l)) (digits_positive ks (n * k + l) pos))
            (λ o _ same. clear (digits ks (n * k + l)) (digits ks o) (digits_positive ks (n * k + l) pos) (digits_positive ks o pos) (sym same))
