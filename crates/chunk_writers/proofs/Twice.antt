-- Two rows on one cell: their keys are neighbours once they are sorted. Assumes nothing.
use Rattle.std.proofs.Common.{◌≡◌, ℕ, zero, suc, ◌+◌, ◌-◌, ◌<◌, ◌≤◌, Bool, true, false, cond, eqb, ◌≢◌, ◌⊎◌, List, [], ◌∷◌, ◌++◌, map, length, get_or, take, drop, is_some, Some, None, filter, Contains, sym, refl, ap, ◌∙◌, subst, inl, inr, arith}
use Rattle.std.specs.List.{IsDistinct, zip, ContainsAt as Has, AllByRecursion}
use Rattle.std.specs.List.Sorted.{IsPermutation}
use Rattle.std.proofs.lemmas.List.FromFn.{length-map-range_with_len, get_or-map-range_with_len}
use Rattle.std.proofs.ByRecursion.{All-from_get_or, All-get_or, has_get_or, all_shuffled, has_shuffled}
use Rattle.std.proofs.lemmas.List.{get_or-take, take_more, drop_more, length-take-le, drop_all}
use Rattle.std.proofs.lemmas.Map.Keys.{apart_from_distinct, IsDistinct-from_apart, IsDistinct-IsPermutation}
use Rattle.std.proofs.lemmas.Bool.{and_parts, and_from, eqb-true, eqb-false, eq-eqb, ne_eqb, cond-true, cond-false, cases_lt}
use Rattle.std.proofs.lemmas.Bool.Decides.{nat_tests}
use Rattle.std.proofs.lemmas.Grind.{merely}
use Rattle.shapes.specs.declared.dims.Dim.{Dim}
use Rattle.shapes.specs.Arrays.{storage, offset}
use Rattle.shapes.specs.Limits.{Fit}
use Rattle.sources.specs.declared.rows.Row.{Row}
use Rattle.sources.specs.Rows.{on_cell, in_range}
use Rattle.chunk_writers.specs.declared.keys.Key.{Key}
use Rattle.chunk_writers.specs.Keys.{none_key, row_at, none_row, key_of, all_keys, InRange, Below, Together, Ordered, Each, Keyed, Repeated, repeats}
use Rattle.chunk_writers.specs.Written.{in_cell}
use Rattle.chunk_writers.specs.Answers.{first_twice}
use Rattle.chunk_writers.proofs.Neighbours.{alike}
use Rattle.chunk_writers.proofs.Pairing.{first_cases}
use Rattle.chunk_writers.proofs.Chunked.{never, on_own_cell, cell_of_row}

-- two neighbours on one cell, and the rows that come second
abbrev rows_of : List (Key × Key) → List ℕ
rows_of = map (λ p. p.1.row)

alike_true : (a b : Key) → alike a b ≡ true → Together a b
alike_true a b h = let parts = and_parts (eqb b.chunk a.chunk) (eqb b.offset a.offset) h in (sym (eqb-true b.chunk a.chunk parts.0), sym (eqb-true b.offset a.offset parts.1))

alike_false : (a b : Key) → alike a b ≡ false → Together a b → ⊥
alike_false a b h t = never (sym h ∙ and_from (eqb b.chunk a.chunk) (eqb b.offset a.offset) (eq-eqb b.chunk a.chunk (sym t.0)) (eq-eqb b.offset a.offset (sym t.1)))

abbrev neighbours : List Key → List (Key × Key)
neighbours ks = filter (λ p. alike p.0 p.1) (zip ks (drop 1 ks))

has_suc : (ks : List Key) (p : ℕ) (d : Key) → suc p < length ks → Together (get_or ks p d) (get_or ks (suc p) d) → Contains (repeats ks) (get_or ks (suc p) d).row
has_suc [] p d l t = absurd (omega arith)
has_suc (a ∷ []) p d l t = absurd (omega arith)
has_suc (a ∷ b ∷ ks) p d l t = go (alike a b) refl p l t (has_suc (b ∷ ks))
  where
    go : (x : Bool) → alike a b ≡ x → (p : ℕ) → suc p < length (a ∷ b ∷ ks) → Together (get_or (a ∷ b ∷ ks) p d) (get_or (b ∷ ks) p d)
        → ((p : ℕ) (d : Key) → suc p < length (b ∷ ks) → Together (get_or (b ∷ ks) p d) (get_or (b ∷ ks) (suc p) d) → Contains (repeats (b ∷ ks)) (get_or (b ∷ ks) (suc p) d).row)
        → Contains (rows_of (cond (alike a b) ((a, b) ∷ neighbours (b ∷ ks)) (neighbours (b ∷ ks)))) (get_or (b ∷ ks) p d).row
    go true e zero l t ih = subst (λ x. Contains (rows_of (cond x ((a, b) ∷ neighbours (b ∷ ks)) (neighbours (b ∷ ks)))) b.row) (sym e) (0, omega arith, refl)
    go true e (suc p) l t ih =
        let h = ih p d (omega arith) t in
        let g = h.1 in
        subst (λ x. Contains (rows_of (cond x ((a, b) ∷ neighbours (b ∷ ks)) (neighbours (b ∷ ks)))) (get_or (b ∷ ks) (suc p) d).row) (sym e) (suc h.0, omega arith, h.2)
    go false e zero l t ih = absurd (alike_false a b e t)
    go false e (suc p) l t ih = subst (λ x. Contains (rows_of (cond x ((a, b) ∷ neighbours (b ∷ ks)) (neighbours (b ∷ ks)))) (get_or (b ∷ ks) (suc p) d).row) (sym e) (ih p d (omega arith) t)

pub repeats_have : (ks : List Key) (p : ℕ) (d : Key) → p + 1 < length ks → Together (get_or ks p d) (get_or ks (p + 1) d) → Contains (repeats ks) (get_or ks (p + 1) d).row
repeats_have ks p d l t =
    let e : p + 1 ≡ suc p = omega arith in
    subst (λ n. Contains (repeats ks) (get_or ks n d).row) (sym e) (has_suc ks p d (omega arith) (subst (λ n. Together (get_or ks p d) (get_or ks n d)) e t))

abbrev Repeats : List Key → ℕ → Type 0
Repeats ks m = (p : ℕ) × (p + 1 < length ks) × ((d : Key) → Together (get_or ks p d) (get_or ks (p + 1) d) × ((get_or ks (p + 1) d).row ≡ m))

later : (a : Key) (ks : List Key) (m : ℕ) → Repeats ks m → Repeats (a ∷ ks) m
later a ks m h =
    let f : suc h.0 + 1 ≡ suc (h.0 + 1) = omega arith in
    let l = h.1 in
    (suc h.0, omega arith, λ d. subst (λ n. Together (get_or ks h.0 d) (get_or (a ∷ ks) n d) × ((get_or (a ∷ ks) n d).row ≡ m)) (sym f) (h.2 d))

pub repeats_from : (ks : List Key) (k m : ℕ) → k < length (repeats ks) → get_or (repeats ks) k m ≡ m → Repeats ks m
repeats_from [] k m l e = absurd (omega arith)
repeats_from (a ∷ []) k m l e = absurd (omega arith)
repeats_from (a ∷ b ∷ ks) k m l e = go (alike a b) refl k l e (λ i. repeats_from (b ∷ ks) i m)
  where
    go : (x : Bool) → alike a b ≡ x → (k : ℕ) → k < length (rows_of (cond x ((a, b) ∷ neighbours (b ∷ ks)) (neighbours (b ∷ ks)))) → get_or (rows_of (cond x ((a, b) ∷ neighbours (b ∷ ks)) (neighbours (b ∷ ks)))) k m ≡ m
        → ((i : ℕ) → i < length (repeats (b ∷ ks)) → get_or (repeats (b ∷ ks)) i m ≡ m → Repeats (b ∷ ks) m) → Repeats (a ∷ b ∷ ks) m
    go true h zero l e ih = (0, omega arith, λ d. (alike_true a b h, e))
    go true h (suc k) l e ih = later a (b ∷ ks) m (ih k (omega arith) e)
    go false h k l e ih = later a (b ∷ ks) m (ih k l e)

-- keys of one row
abbrev same_row : Key → Key → Bool
same_row a b = eqb a.row b.row

same_flips : (a b : Key) → same_row a b ≡ same_row b a
same_flips a b = grind (arith, nat_tests)

-- the first row on a taken cell
module _ (ds : List Dim) (rows : List Row) where
  abbrev taken : ℕ → Bool
  taken i = is_some (in_cell ds (take i rows) (storage ds (row_at rows i).at) (offset ds (row_at rows i).at))

  walk : (m : ℕ) → m ≤ length rows → ((i : ℕ) → i < m → taken i ≡ false) → first_twice ds 0 [] rows ≡ first_twice ds m (take m rows) (drop m rows)
  walk zero l h = refl
  walk (suc m) l h =
      let e : m + 1 ≡ suc m = omega arith in
      walk m (omega arith) (λ i g. h i (omega arith))
      ∙ ap (first_twice ds m (take m rows)) (drop_more rows m none_row (omega arith))
      ∙ cond-false (taken m) (Some m) (first_twice ds (m + 1) (take m rows ++ row_at rows m ∷ []) (drop (m + 1) rows)) (h m (omega arith))
      ∙ ap (λ rs. first_twice ds (m + 1) rs (drop (m + 1) rows)) (sym (take_more rows m none_row (omega arith)))
      ∙ ap (λ n. first_twice ds n (take n rows) (drop n rows)) e

  none_taken : ((i : ℕ) → i < length rows → taken i ≡ false) → first_twice ds 0 [] rows ≡ None
  none_taken h = walk (length rows) (omega arith) h ∙ ap (first_twice ds (length rows) (take (length rows) rows)) (drop_all (length rows) rows (omega arith))

  first_taken : (m : ℕ) → m < length rows → ((i : ℕ) → i < m → taken i ≡ false) → taken m ≡ true → first_twice ds 0 [] rows ≡ Some m
  first_taken m l h t =
      walk m (omega arith) h
      ∙ ap (first_twice ds m (take m rows)) (drop_more rows m none_row l)
      ∙ cond-true (taken m) (Some m) (first_twice ds (m + 1) (take m rows ++ row_at rows m ∷ []) (drop (m + 1) rows)) t

  abbrev SameCell : ℕ → ℕ → Type 0
  SameCell i j = (storage ds (row_at rows i).at ≡ storage ds (row_at rows j).at) × (offset ds (row_at rows i).at ≡ offset ds (row_at rows j).at)

  not_taken : (i : ℕ) → i < length rows → ((h : ℕ) → h < i → SameCell h i → ⊥) → taken i ≡ false
  not_taken i l none = elim (first_cases (on_cell ds (storage ds (row_at rows i).at) (offset ds (row_at rows i).at)) (take i rows)) [
    | inl f ↦
        let n = length-take-le i rows (omega arith) in
        let m = f.1 in
        let same : row_at (take i rows) f.0 ≡ row_at rows f.0 = get_or-take i rows f.0 none_row (omega arith) in
        absurd (none f.0 (omega arith) (cell_of_row ds (storage ds (row_at rows i).at) (offset ds (row_at rows i).at) (row_at rows f.0) (ap (on_cell ds (storage ds (row_at rows i).at) (offset ds (row_at rows i).at)) (sym same) ∙ f.2)))
    | inr f ↦ ap is_some f.0
  ]

  is_taken : (fit : AllByRecursion Fit ds) (h i : ℕ) → h < i → i < length rows → in_range ds (row_at rows h) ≡ true → SameCell h i → taken i ≡ true
  is_taken fit h i l m good cell = elim (first_cases (on_cell ds (storage ds (row_at rows i).at) (offset ds (row_at rows i).at)) (take i rows)) [
    | inl f ↦ ap is_some f.3
    | inr f ↦
        let n = length-take-le i rows (omega arith) in
        let same : row_at (take i rows) h ≡ row_at rows h = get_or-take i rows h none_row l in
        never (sym (f.1 h (omega arith)) ∙ ap (on_cell ds (storage ds (row_at rows i).at) (offset ds (row_at rows i).at)) same ∙ on_own_cell ds fit (row_at rows h) good (storage ds (row_at rows i).at) (offset ds (row_at rows i).at) cell.0 cell.1)
  ]

between_cells : (a b c : Key) → Below a b ⊎ (Together a b × (a.row ≤ b.row)) → Below b c ⊎ (Together b c × (b.row ≤ c.row)) → Together a c → Together b c
between_cells a b c h k t = grind arith

later_row : (a b : Key) → Below a b ⊎ (Together a b × (a.row ≤ b.row)) → Together b a → b.row < a.row → ⊥
later_row a b h t l = grind arith

strictly : (a b : Key) → Below a b ⊎ (Together a b × (a.row ≤ b.row)) → (Together a b → ⊥) → Below a b
strictly a b (inl h) n = h
strictly a b (inr h) n = absurd (n h.0)

below_on : (a b c : Key) → Below a b → Below b c ⊎ (Together b c × (b.row ≤ c.row)) → Below a c
below_on a b c h k = grind arith

row_upto : (a b : Key) → Below a b ⊎ (Together a b × (a.row ≤ b.row)) → Together a b → a.row ≤ b.row
row_upto a b h t = grind arith

module _ (ds : List Dim) (fit : AllByRecursion Fit ds) (rows : List Row) (ks : List Key) (ranged : InRange ds rows) (shuffled : IsPermutation (all_keys ds rows) ks) (ordered : Ordered ks) where
  abbrev Own : Key → Type 0
  Own k = (k.row < length rows) × (k ≡ key_of ds rows k.row)

  own : (p : ℕ) (d : Key) → p < length ks → Own (get_or ks p d)
  own p d l = All-get_or Own ks p d l (all_shuffled Own (all_keys ds rows) ks shuffled
      (All-from_get_or Own (all_keys ds rows) none_key (λ i g.
      let n = length-map-range_with_len (key_of ds rows) 0 (length rows) in
      subst Own (sym (get_or-map-range_with_len (key_of ds rows) 0 (length rows) i i none_key (omega arith) (omega arith))) (omega arith, refl))))

  pub key_each : Each ds rows ks
  key_each p d l = let k = own p d l in (k.0, ap (λ (k : Key). k.chunk) k.1, ap (λ (k : Key). k.offset) k.1)

  pub key_every : (i : ℕ) → i < length rows → Has ks (key_of ds rows i)
  key_every i l =
      let n = length-map-range_with_len (key_of ds rows) 0 (length rows) in
      has_shuffled (all_keys ds rows) ks (key_of ds rows i) shuffled
      (subst (Has (all_keys ds rows)) (get_or-map-range_with_len (key_of ds rows) 0 (length rows) i i none_key l (omega arith)) (has_get_or (all_keys ds rows) i none_key (omega arith)))

  rows_differ : (p q : ℕ) → p < q → q < length ks → (get_or ks p none_key).row ≡ (get_or ks q none_key).row → ⊥
  rows_differ p q l m e = eqb-false (get_or ks p none_key).row (get_or ks q none_key).row (apart_from_distinct same_row ks p q none_key distinct l m) e
    where
      row_is : (i : ℕ) (d : Key) → i < length (all_keys ds rows) → (get_or (all_keys ds rows) i d).row ≡ i
      row_is i d l =
          let n = length-map-range_with_len (key_of ds rows) 0 (length rows) in
          ap (λ (k : Key). k.row) (get_or-map-range_with_len (key_of ds rows) 0 (length rows) i i d (omega arith) (omega arith))

      distinct : IsDistinct same_row ks
      distinct = IsDistinct-IsPermutation same_row same_flips (all_keys ds rows) ks shuffled
          (IsDistinct-from_apart same_row (all_keys ds rows) (λ i j d l m.
          let a = row_is i d (omega arith) in
          let b = row_is j d m in
          let ne : (get_or (all_keys ds rows) i d).row ≢ (get_or (all_keys ds rows) j d).row = omega arith in
          ne_eqb (get_or (all_keys ds rows) i d).row (get_or (all_keys ds rows) j d).row ne))

  -- of two rows on one cell, the later is second of two neighbours
  second : (h i : ℕ) → h < i → i < length rows → SameCell ds rows h i → (p : ℕ) × (p + 1 < length ks) × Together (get_or ks p none_key) (get_or ks (p + 1) none_key) × ((get_or ks (p + 1) none_key).row ≡ i)
  second h i l m cell =
      let P = key_every h (omega arith) in
      let Q = key_every i m in
      let is_h : get_or ks P.0 none_key ≡ key_of ds rows h = P.2 none_key in
      let is_i : get_or ks Q.0 none_key ≡ key_of ds rows i = Q.2 none_key in
      let lp = P.1 in
      let lq = Q.1 in
      let ch = ap (λ (k : Key). k.chunk) is_h in let ci = ap (λ (k : Key). k.chunk) is_i in
      let oh = ap (λ (k : Key). k.offset) is_h in let oi = ap (λ (k : Key). k.offset) is_i in
      let rh = ap (λ (k : Key). k.row) is_h in let ri = ap (λ (k : Key). k.row) is_i in
      let both : Together (get_or ks P.0 none_key) (get_or ks Q.0 none_key) = (ch ∙ cell.0 ∙ sym ci, oh ∙ cell.1 ∙ sym oi) in
      let before : P.0 < Q.0 = elim (cases_lt P.0 Q.0) [
        | inl g ↦ g
        | inr g ↦ absurd (later_row (get_or ks Q.0 none_key) (get_or ks P.0 none_key) (ordered Q.0 P.0 none_key g lp) both (omega arith))
      ] in
      let p : ℕ = Q.0 - 1 in
      let back : p + 1 ≡ Q.0 = omega arith in
      let t : Together (get_or ks p none_key) (get_or ks Q.0 none_key) = between_cells (get_or ks P.0 none_key) (get_or ks p none_key) (get_or ks Q.0 none_key) (ordered P.0 p none_key (omega arith) (omega arith)) (ordered p Q.0 none_key (omega arith) lq) both in
      (p, omega arith, subst (λ n. Together (get_or ks p none_key) (get_or ks n none_key)) (sym back) t, ap (λ n. (get_or ks n none_key).row) back ∙ ri)

  -- m is at most the row of each key that comes second on a cell
  module _ (m : ℕ) (least : (p : ℕ) → p + 1 < length ks → Together (get_or ks p none_key) (get_or ks (p + 1) none_key) → m ≤ (get_or ks (p + 1) none_key).row) where
    not_before : (i : ℕ) → i < length rows → i < m → taken ds rows i ≡ false
    not_before i l g = not_taken ds rows i l (λ h k cell.
        let s = second h i k l cell in
        let low = least s.0 s.1 s.2 in
        let e = s.3 in
        omega arith)

  module _ (none : Repeated ks None) where
    apart : (p : ℕ) (d : Key) → p + 1 < length ks → Together (get_or ks p d) (get_or ks (p + 1) d) → ⊥
    apart p d l t = let h = repeats_have ks p d l t in let g = h.1 in omega arith

    pub keyed : Keyed ds rows ks
    keyed = record { ranged = ranged; each = key_each; every = λ i l. (let h = key_every i l in merely (h.0, h.1, ap (λ (k : Key). k.row) (h.2 none_key))); rises = rises }
      where
        next : (p : ℕ) (d : Key) → p + 1 < length ks → Below (get_or ks p d) (get_or ks (p + 1) d)
        next p d l = strictly (get_or ks p d) (get_or ks (p + 1) d) (ordered p (p + 1) d (omega arith) l) (apart p d l)

        rises : (p q : ℕ) (d : Key) → p < q → q < length ks → Below (get_or ks p d) (get_or ks q d)
        rises p q d l g = below_on (get_or ks p d) (get_or ks (p + 1) d) (get_or ks q d) (next p d (omega arith)) (ordered (p + 1) q d (omega arith) g)

    pub no_twice : first_twice ds 0 [] rows ≡ None
    no_twice = none_taken ds rows (λ i l. not_before (length rows) (λ p g t. absurd (apart p none_key g t)) i l l)

  pub one_twice : (m : ℕ) → Repeated ks (Some m) → first_twice ds 0 [] rows ≡ Some m
  one_twice m R =
      let f = repeats_from ks R.0.0 m R.0.1 R.0.2 in
      let p = f.0 in
      let g = f.1 in
      let t = (f.2 none_key).0 in
      let is_m = (f.2 none_key).1 in
      let h = (get_or ks p none_key).row in
      let a = own p none_key (omega arith) in
      let b = own (p + 1) none_key g in
      let ra = a.0 in let rb = b.0 in
      let up = row_upto (get_or ks p none_key) (get_or ks (p + 1) none_key) (ordered p (p + 1) none_key (omega arith) g) t in
      let ne : h ≢ (get_or ks (p + 1) none_key).row = rows_differ p (p + 1) (omega arith) g in
      let ca = ap (λ (k : Key). k.chunk) a.1 in let oa = ap (λ (k : Key). k.offset) a.1 in
      let cb = ap (λ (k : Key). k.chunk) b.1 ∙ ap (λ i. storage ds (row_at rows i).at) is_m in let ob = ap (λ (k : Key). k.offset) b.1 ∙ ap (λ i. offset ds (row_at rows i).at) is_m in
      let cell : SameCell ds rows h m = (sym ca ∙ t.0 ∙ cb, sym oa ∙ t.1 ∙ ob) in
      let low : m < length rows = omega arith in
      let least : (q : ℕ) → q + 1 < length ks → Together (get_or ks q none_key) (get_or ks (q + 1) none_key) → m ≤ (get_or ks (q + 1) none_key).row = λ q l s. (let w = repeats_have ks q none_key l s in subst (λ r. m ≤ r) w.2 (R.1 w.0 (get_or ks (q + 1) none_key).row w.1)) in
      first_taken ds rows m low (λ i k. not_before m least i (omega arith) k) (is_taken ds rows fit h m (omega arith) low (ranged h ra) cell)
