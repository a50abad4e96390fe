-- A box cut into rows along a dimension before which every radix is 1.
use Rattle.std.proofs.Common.{◌≡◌, ℕ, zero, suc, ◌+◌, ◌*◌, ◌/◌, ◌%◌, ◌<◌, ◌≤◌, List, [], ◌∷◌, ◌++◌, length, get_or, take, drop, set, sym, ap, ◌∙◌, subst, ap₂, add-zero, mul-le-mul_right, mul_comm, zero-add, div-one, arith}
use lib.Arith.{digits_div, digits_mod}
use lib.Seq.{paste}
use Rattle.std.proofs.lemmas.List.{ext_get_or, take_all, length-take-le, get_or-take, get_or-drop, length-drop, drop-drop, take_at, drop_at, take-take, drop-take, take-append-drop}
use Rattle.std.proofs.lemmas.List.FromFn.{length-map-range_with_len, get_or-map-range_with_len}
use Rattle.shapes.specs.declared.radices.Radices.{Radices}
use Rattle.shapes.specs.Arrays.{product, digits, Below}
use Rattle.shapes.proofs.Numbering.{length_by_digits, getD_by_digits}
use Rattle.runs.specs.Boxes.{dot, box_cells, row_cells, RowWithin, Within, Positive, Leads}
use Rattle.runs.proofs.Digits.{digits_positive}

leads_on : (k : ℕ) (ks : List ℕ) (r : ℕ) → Leads (k ∷ ks) (suc r) → Leads ks r
leads_on k ks r lead = (omega (arith, lead.0), λ i l. lead.1 (suc i) (omega arith))

pub product_rows : (ks : List ℕ) (r : ℕ) → r < length ks → product ks ≡ product (set ks r 1) * get_or ks r 0
product_rows [] r l = absurd (omega arith)
product_rows (k ∷ ks) zero l = omega (arith, mul_comm k (product ks))
product_rows (k ∷ ks) (suc r) l = ap (λ z. k * z) (product_rows ks r (omega arith)) ∙ regroup k (product (set ks r 1)) (get_or ks r 0)
  where
    regroup : (a b c : ℕ) → a * (b * c) ≡ a * b * c
    regroup a b c = omega arith

pub positive_at : (ks : List ℕ) (i : ℕ) → Positive ks → i < length ks → 0 < get_or ks i 0
positive_at [] i pos l = absurd (omega arith)
positive_at (k ∷ ks) zero pos l = pos.0
positive_at (k ∷ ks) (suc i) pos l = positive_at ks i pos.1 (omega arith)

pub positive_each : (ks : List ℕ) → ((i : ℕ) → i < length ks → 1 ≤ get_or ks i 0) → Positive ks
positive_each [] some = tt
positive_each (k ∷ ks) some = (some 0 (omega arith), positive_each ks (λ i l. some (suc i) (omega arith)))

pub group_positive : (e : Radices) (ks : List ℕ) → e.each ≡ ks → Positive ks
group_positive e ks is = subst Positive is (positive_each e.each (λ i l. e.some i (omega (arith, e.six))))

pub edges_positive : (e : Radices) → Positive e.each
edges_positive e = positive_each e.each (λ i l. e.some i (omega (arith, e.six)))

-- how many rows there are
pub rows_count : (ks : List ℕ) (r count : ℕ) → r < length ks → Positive ks → count ≡ product ks → count / get_or ks r 0 ≡ product (set ks r 1)
rows_count ks r count l pos e = ap (λ z. z / get_or ks r 0) (e ∙ product_rows ks r l ∙ sym (add-zero (product (set ks r 1) * get_or ks r 0))) ∙ digits_div (product (set ks r 1)) (positive_at ks r pos l)

-- every row ends within the box
pub row_room : (ks : List ℕ) (r t : ℕ) → r < length ks → t < product (set ks r 1) → t * get_or ks r 0 + get_or ks r 0 ≤ product ks
row_room ks r t l m =
    let le : t + 1 ≤ product (set ks r 1) = omega arith in
    omega (arith, product_rows ks r l, mul-le-mul_right (get_or ks r 0) le, one (get_or ks r 0))
  where
    one : (k : ℕ) → (t + 1) * k ≡ t * k + k
    one k = omega arith

pub rows_positive : (ks : List ℕ) (r : ℕ) → Positive ks → Positive (set ks r 1)
rows_positive [] r pos = tt
rows_positive (k ∷ ks) zero pos = (omega arith, pos.1)
rows_positive (k ∷ ks) (suc r) pos = (pos.0, rows_positive ks r pos.1)

rows_below : (ks ls : List ℕ) (r : ℕ) → Positive ks → Below (set ks r 1) ls → Below ks ls
rows_below [] ls r pos b = b
rows_below (k ∷ ks) [] zero pos b = absurd b
rows_below (k ∷ ks) [] (suc r) pos b = absurd b
rows_below (k ∷ ks) (l ∷ ls) zero pos b = (omega (arith, pos.0, b.0), b.1)
rows_below (k ∷ ks) (l ∷ ls) (suc r) pos b = (b.0, rows_below ks ls r pos.1 b.1)

pub rows_within : (ks : List ℕ) (r s : ℕ) (ss : List ℕ) (n : ℕ) → Positive ks → Within ks s ss n → Within (set ks r 1) s ss n
rows_within ks r s ss n pos w ls b = w ls (rows_below ks ls r pos b)

-- the cell l of the row t
pub row_digits : (ks ss : List ℕ) (r t l : ℕ) → Leads ks r → l < get_or ks r 0 → r < length ss
    → dot ss (digits ks (t * get_or ks r 0 + l)) ≡ l * get_or ss r 0 + dot ss (digits (set ks r 1) t)
row_digits [] ss r t l lead m a = absurd (omega (arith, lead.0))
row_digits (k ∷ ks) [] r t l lead m a = absurd (omega arith)
row_digits (k ∷ ks) (s ∷ ss) zero t l lead m a =
    ap₂ (λ x y. x * s + dot ss (digits ks y)) (digits_mod t m) (digits_div t m)
    ∙ sym (ap₂ (λ x y. l * s + (x * s + dot ss (digits ks y))) (none t) (div-one t) ∙ omega arith)
  where
    none : (t : ℕ) → t % 1 ≡ 0
    none t = omega arith
row_digits (k ∷ ks) (s ∷ ss) (suc r) t l lead m a =
    one (t * get_or ks r 0 + l) ks
    ∙ row_digits ks ss r t l (leads_on k ks r lead) m (omega arith)
    ∙ ap (λ z. l * get_or ss r 0 + z) (sym (one t (set ks r 1)))
  where
    is : k ≡ 1
    is = lead.1 0 (omega arith)

    one : (o : ℕ) (js : List ℕ) → (o % k) * s + dot ss (digits js (o / k)) ≡ dot ss (digits js o)
    one o js = ap (λ z. (o % z) * s + dot ss (digits js (o / z))) is ∙ ap₂ (λ x y. x * s + dot ss (digits js y)) (none o) (div-one o) ∙ omega arith
      where
        none : (o : ℕ) → o % 1 ≡ 0
        none o = omega arith

-- one box at the row t, whose first cell stands at x
module _ (ks ss : List ℕ) (r s : ℕ) (lead : Leads ks r) (ls : length ss ≡ length ks) (pos : Positive ks) (t x : ℕ) (at_x : x ≡ s + dot ss (digits (set ks r 1) t)) where
  pub row_at : (l : ℕ) → l < get_or ks r 0 → x + l * get_or ss r 0 ≡ s + dot ss (digits ks (t * get_or ks r 0 + l))
  row_at l m = omega (arith, row_digits ks ss r t l lead m (omega (arith, lead.0)))

  pub row_within : (n : ℕ) → Within ks s ss n → RowWithin (get_or ks r 0) x (get_or ss r 0) n
  row_within n w l m = omega (arith, row_at l m, w (digits ks (t * get_or ks r 0 + l)) (digits_positive ks (t * get_or ks r 0 + l) pos))

  -- the row is written behind what was written before
  module _ {M : Type 0} (empty : M) (cells : List M) (old : List M) (room : product ks ≤ length old) (more : t * get_or ks r 0 + get_or ks r 0 ≤ product ks) where
    abbrev all : List M
    all = box_cells empty cells ks s ss

    abbrev from : ℕ
    from = t * get_or ks r 0

    long : length all ≡ product ks
    long = length_by_digits (λ ls. get_or cells (s + dot ss ls) empty) ks

    row_is : row_cells empty cells (get_or ks r 0) x (get_or ss r 0) ≡ take (get_or ks r 0) (drop from all)
    row_is = ext_get_or empty (row_cells empty cells (get_or ks r 0) x (get_or ss r 0)) (take (get_or ks r 0) (drop from all))
        (length-map-range_with_len (λ l. get_or cells (x + l * get_or ss r 0) empty) 0 (get_or ks r 0) ∙ sym (length-take-le (get_or ks r 0) (drop from all) (omega (arith, length-drop from all, long))))
        (λ l m. let q : l < get_or ks r 0 = omega (arith, length-map-range_with_len (λ l. get_or cells (x + l * get_or ss r 0) empty) 0 (get_or ks r 0)) in
        get_or-map-range_with_len (λ l. get_or cells (x + l * get_or ss r 0) empty) 0 (get_or ks r 0) l l empty q (zero-add l)
        ∙ ap (λ z. get_or cells z empty) (row_at l q)
        ∙ sym (getD_by_digits (λ ls. get_or cells (s + dot ss ls) empty) ks (from + l) empty (omega arith))
        ∙ sym (get_or-drop from all l empty)
        ∙ sym (get_or-take (get_or ks r 0) (drop from all) l empty q))

    front : take (from + get_or ks r 0) all ≡ take from all ++ take (get_or ks r 0) (drop from all)
    front = sym (take-append-drop from (take (from + get_or ks r 0) all)) ∙ ap₂ ◌++◌ (take-take from (from + get_or ks r 0) all (omega arith)) (drop-take from (get_or ks r 0) all)

    pub row_written : (now now' : List M) → now ≡ take from all ++ drop from old → now' ≡ paste now from (row_cells empty cells (get_or ks r 0) x (get_or ss r 0)) (get_or ks r 0)
        → now' ≡ take ((t + 1) * get_or ks r 0) all ++ drop ((t + 1) * get_or ks r 0) old
    row_written now now' inv e = e
        ∙ ap₂ ◌++◌ (ap₂ ◌++◌ before row ∙ sym front) after
        ∙ ap (λ z. take z all ++ drop z old) next
      where
        length_front : length (take from all) ≡ from
        length_front = length-take-le from all (omega (arith, long))

        before : take from now ≡ take from all
        before = ap (take from) inv ∙ take_at (take from all) (drop from old) from length_front

        row : take (get_or ks r 0) (row_cells empty cells (get_or ks r 0) x (get_or ss r 0)) ≡ take (get_or ks r 0) (drop from all)
        row = take_all (get_or ks r 0) (row_cells empty cells (get_or ks r 0) x (get_or ss r 0)) (omega (arith, length-map-range_with_len (λ l. get_or cells (x + l * get_or ss r 0) empty) 0 (get_or ks r 0))) ∙ row_is

        after : drop (from + get_or ks r 0) now ≡ drop (from + get_or ks r 0) old
        after = sym (drop-drop (get_or ks r 0) from now)
            ∙ ap (drop (get_or ks r 0)) (ap (drop from) inv ∙ drop_at (take from all) (drop from old) from length_front)
            ∙ drop-drop (get_or ks r 0) from old

        next : from + get_or ks r 0 ≡ (t + 1) * get_or ks r 0
        next = omega arith

-- all rows are written
pub rows_written : {M : Type 0} (empty : M) (cells : List M) (ks : List ℕ) (s : ℕ) (ss : List ℕ) (now old : List M) (o count : ℕ) → o ≡ count → count ≡ product ks
    → now ≡ take o (box_cells empty cells ks s ss) ++ drop o old → now ≡ box_cells empty cells ks s ss ++ drop count old
rows_written empty cells ks s ss now old o count e ec inv = inv ∙ ap (λ z. take z (box_cells empty cells ks s ss) ++ drop z old) e
    ∙ ap (λ z. z ++ drop count old) (take_all count (box_cells empty cells ks s ss) (omega (arith, length_by_digits (λ ls. get_or cells (s + dot ss ls) empty) ks)))
