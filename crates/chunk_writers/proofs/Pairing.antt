-- Pairs by rising offset, and the cells that they fill. Assumes nothing.
use Rattle.std.proofs.Common.{◌≡◌, ℕ, zero, suc, ◌+◌, ◌<◌, ◌≤◌, Bool, true, false, cond, eqb, ◌≢◌, ◌⊎◌, List, [], ◌∷◌, map, length, get_or, is_some, Some, None, filter, Option, sym, refl, ap, ◌∙◌, subst, inl, inr, arith}
use Rattle.std.specs.List.{range_with_len}
use Rattle.std.proofs.lemmas.List.Sums.{sum_by-cons}
use Rattle.std.proofs.lemmas.Bool.{eq-eqb, ne_eqb, cond-true, cond-false, cases_eq}
use Rattle.sources.specs.declared.rows.Row.{Row}
use Rattle.chunk_files.specs.Bodies.{Pair, held, filled}
use Rattle.chunk_writers.specs.declared.keys.Key.{Key}
use Rattle.chunk_writers.specs.Keys.{row_at, pair_of}
use Rattle.chunk_writers.specs.Segments.{Climb}
use Rattle.chunk_writers.specs.Written.{pairs_of, first_of}

pub held_below : (ps : List Pair) (low high y : ℕ) → Climb low high ps → y < low → held ps y ≡ None
held_below [] low high y c l = refl
held_below (p ∷ ps) low high y c l =
    let a = c.0 in
    let ne : p.offset ≢ y = omega arith in
    cond-false (eqb p.offset y) (Some p.reading) (held ps y) (ne_eqb p.offset y ne) ∙ held_below ps (p.offset + 1) high y c.2 (omega arith)

pub map_counting_same : {X : Type 0} (f g : ℕ → X) (a n : ℕ) → ((y : ℕ) → a ≤ y → y < a + n → f y ≡ g y) → map f (range_with_len a n) ≡ map g (range_with_len a n)
map_counting_same f g a zero h = refl
map_counting_same f g a (suc n) h = λ i. h a (omega arith) (omega arith) i ∷ map_counting_same f g (a + 1) n (λ y p q. h y (omega arith) (omega arith)) i

-- the first pair is for offset x
pub held_first : (p : Pair) (ps : List Pair) (x : ℕ) → p.offset ≡ x → held (p ∷ ps) x ≡ Some p.reading
held_first p ps x e = cond-true (eqb p.offset x) (Some p.reading) (held ps x) (eq-eqb p.offset x e)

pub held_later : (p : Pair) (ps : List Pair) (x : ℕ) → p.offset ≢ x → held (p ∷ ps) x ≡ held ps x
held_later p ps x ne = cond-false (eqb p.offset x) (Some p.reading) (held ps x) (ne_eqb p.offset x ne)

pub held_rest : (p : Pair) (ps : List Pair) (x n : ℕ) → p.offset < x → map (held (p ∷ ps)) (range_with_len x n) ≡ map (held ps) (range_with_len x n)
held_rest p ps x n l = map_counting_same (held (p ∷ ps)) (held ps) x n (λ y a b. let ne : p.offset ≢ y = omega arith in held_later p ps y ne)

-- the cells that such pairs fill have these pairs
pub pairs_held : (n x : ℕ) (ps : List Pair) → Climb x (x + n) ps → pairs_of x (map (held ps) (range_with_len x n)) ≡ ps
pairs_held zero x [] c = refl
pairs_held zero x (p ∷ ps) c = let a = c.0 in let b = c.1 in absurd (omega arith)
pairs_held (suc n) x [] c = pairs_held n (x + 1) [] tt
pairs_held (suc n) x (p ∷ ps) c = elim (cases_eq p.offset x) [ inl e ↦ here e (pairs_held n (x + 1) ps) | inr ne ↦ later ne (pairs_held n (x + 1) (p ∷ ps)) ]
  where
    high : x + suc n ≡ x + 1 + n
    high = omega arith

    here : p.offset ≡ x → (Climb (x + 1) (x + 1 + n) ps → pairs_of (x + 1) (map (held ps) (range_with_len (x + 1) n)) ≡ ps) → pairs_of x (map (held (p ∷ ps)) (range_with_len x (suc n))) ≡ p ∷ ps
    here e ih =
        let rise : Climb (x + 1) (x + 1 + n) ps = subst (λ h. Climb (x + 1) h ps) high (subst (λ o. Climb (o + 1) (x + suc n) ps) e c.2) in
        let rest = ap (pairs_of (x + 1)) (held_rest p ps (x + 1) n (omega arith)) ∙ ih rise in
        ap (λ o. pairs_of x (o ∷ map (held (p ∷ ps)) (range_with_len (x + 1) n))) (held_first p ps x e)
        ∙ (λ i. record { offset = sym e i; reading = p.reading } ∷ rest i)

    later : p.offset ≢ x → (Climb (x + 1) (x + 1 + n) (p ∷ ps) → pairs_of (x + 1) (map (held (p ∷ ps)) (range_with_len (x + 1) n)) ≡ p ∷ ps) → pairs_of x (map (held (p ∷ ps)) (range_with_len x (suc n))) ≡ p ∷ ps
    later ne ih =
        let a = c.0 in
        let b = c.1 in
        let rise : Climb (x + 1) (x + 1 + n) (p ∷ ps) = (omega arith, omega arith, subst (λ h. Climb (p.offset + 1) h ps) high c.2) in
        ap (λ o. pairs_of x (o ∷ map (held (p ∷ ps)) (range_with_len (x + 1) n))) (held_below (p ∷ ps) (x + 1) (x + 1 + n) x rise (omega arith))
        ∙ ih rise

pub filled_cons : (c : Option ℕ) (cs : List (Option ℕ)) → filled (c ∷ cs) ≡ cond (is_some c) 1 0 + filled cs
filled_cons c cs = sum_by-cons (λ (o : Option ℕ). cond (is_some o) 1 0) c cs

pub length_pairs_of : (x : ℕ) (cs : List (Option ℕ)) → length (pairs_of x cs) ≡ filled cs
length_pairs_of x [] = refl
length_pairs_of x (None ∷ cs) = length_pairs_of (x + 1) cs ∙ sym (filled_cons None cs ∙ omega arith)
length_pairs_of x (Some r ∷ cs) = let ih = length_pairs_of (x + 1) cs in let f = filled_cons (Some r) cs in omega arith

-- what the first matching pair is, or that none is
pub held_cases : (ps : List Pair) (x : ℕ) → ((p : ℕ) × (p < length ps) × ((d : Pair) → ((get_or ps p d).offset ≡ x) × (held ps x ≡ Some (get_or ps p d).reading))) ⊎ ((held ps x ≡ None) × ((p : ℕ) (d : Pair) → p < length ps → (get_or ps p d).offset ≡ x → ⊥))
held_cases [] x = inr (refl, λ p d l e. omega arith)
held_cases (q ∷ ps) x = elim (cases_eq q.offset x) [
  | inl e ↦ inl (0, omega arith, λ d. (e, held_first q ps x e))
  | inr ne ↦ elim (held_cases ps x) [
    | inl h ↦ inl (suc h.0, (let l = h.1 in omega arith), λ d. ((h.2 d).0, held_later q ps x ne ∙ (h.2 d).1))
    | inr h ↦ inr (held_later q ps x ne ∙ h.0, none ne h.1)
  ]
]
  where
    none : q.offset ≢ x → ((p : ℕ) (d : Pair) → p < length ps → (get_or ps p d).offset ≡ x → ⊥) → (p : ℕ) (d : Pair) → p < length (q ∷ ps) → (get_or (q ∷ ps) p d).offset ≡ x → ⊥
    none ne h zero d l e = ne e
    none ne h (suc p) d l e = h p d (omega arith) e

-- the same of rows
pub first_cases : (test : Row → Bool) (rows : List Row) → ((i : ℕ) × (i < length rows) × (test (row_at rows i) ≡ true) × (first_of (map (λ (r : Row). r.reading) (filter test rows)) ≡ Some (row_at rows i).reading)) ⊎ ((first_of (map (λ (r : Row). r.reading) (filter test rows)) ≡ None) × ((i : ℕ) → i < length rows → test (row_at rows i) ≡ false))
first_cases test [] = inr (refl, λ i l. absurd (omega arith))
first_cases test (r ∷ rows) = go (test r) refl (first_cases test rows)
  where
    none : test r ≡ false → ((i : ℕ) → i < length rows → test (row_at rows i) ≡ false) → (i : ℕ) → i < length (r ∷ rows) → test (row_at (r ∷ rows) i) ≡ false
    none e h zero l = e
    none e h (suc i) l = h i (omega arith)

    go : (b : Bool) → test r ≡ b → ((i : ℕ) × (i < length rows) × (test (row_at rows i) ≡ true) × (first_of (map (λ (q : Row). q.reading) (filter test rows)) ≡ Some (row_at rows i).reading)) ⊎ ((first_of (map (λ (q : Row). q.reading) (filter test rows)) ≡ None) × ((i : ℕ) → i < length rows → test (row_at rows i) ≡ false))
        → ((i : ℕ) × (i < length (r ∷ rows)) × (test (row_at (r ∷ rows) i) ≡ true) × (first_of (map (λ (q : Row). q.reading) (filter test (r ∷ rows))) ≡ Some (row_at (r ∷ rows) i).reading)) ⊎ ((first_of (map (λ (q : Row). q.reading) (filter test (r ∷ rows))) ≡ None) × ((i : ℕ) → i < length (r ∷ rows) → test (row_at (r ∷ rows) i) ≡ false))
    go true e h = inl (0, omega arith, e, ap (λ b. first_of (map (λ (q : Row). q.reading) (cond b (r ∷ filter test rows) (filter test rows)))) e)
    go false e h =
        let skip : first_of (map (λ (q : Row). q.reading) (filter test (r ∷ rows))) ≡ first_of (map (λ (q : Row). q.reading) (filter test rows)) = ap (λ b. first_of (map (λ (q : Row). q.reading) (cond b (r ∷ filter test rows) (filter test rows)))) e in
        elim h [
          | inl f ↦ inl (suc f.0, (let l = f.1 in omega arith), f.2, skip ∙ f.3)
          | inr f ↦ inr (skip ∙ f.0, none e f.1)
        ]

-- keys of rising offset have pairs of rising offset
pub climb_from : (rows : List Row) (ks : List Key) (low high : ℕ)
    → ((p : ℕ) (d : Key) → p < length ks → (low ≤ (get_or ks p d).offset) × ((get_or ks p d).offset < high))
    → ((p q : ℕ) (d : Key) → p < q → q < length ks → (get_or ks p d).offset < (get_or ks q d).offset)
    → Climb low high (map (pair_of rows) ks)
climb_from rows [] low high b r = tt
climb_from rows (k ∷ ks) low high b r =
    let here = b 0 k (omega arith) in (
      here.0,
      here.1,
      climb_from rows ks (k.offset + 1) high
          (λ p d l. let above : k.offset < (get_or ks p d).offset = r 0 (suc p) d (omega arith) (omega arith) in (omega arith, (b (suc p) d (omega arith)).1))
          (λ p q d l m. r (suc p) (suc q) d (omega arith) (omega arith)),
    )
