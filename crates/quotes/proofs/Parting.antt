-- Texts cut at a byte, and the numbers in them.
use Rattle.std.proofs.Common.{◌≡◌, ℕ, zero, suc, ◌+◌, ◌-◌, ◌*◌, ◌^◌, ◌<◌, ◌≤◌, ltb, min, not, Bool, true, false, cond, eqb, ◌⊎◌, inl, inr, List, [], ◌∷◌, ◌++◌, map, length, get_or, Bor, Some, None, Option, sym, refl, ap, ◌∙◌, arith}
use Rattle.std.specs.Option.{option_map}
use Rattle.std.specs.List.{slice_split, onto_first, position_or_len, before_first, after_first}
use Rattle.std.proofs.lemmas.Bool.{eqb-true, cases_lt, lt-ltb, le-ltb}
use Rattle.std.proofs.lemmas.List.{length-map, get_or-map}
use Rattle.std.proofs.lemmas.Simd.{map-map}
use Rattle.std.proofs.lemmas.List.Splits.{slice_split_first}
use Rattle.shapes.specs.declared.dims.Dim.{Dim}
use Rattle.quotes.specs.Lines.{put_first, parts, is_digit, number_of, digits_after, dim_from, field_from, field_of, all_of, put_front, line_dims}

-- the parts are those that the library cuts
pub parts_is : (b : ℕ) (xs : List ℕ) → parts b xs ≡ slice_split (λ x. eqb x b) xs
parts_is b [] = refl
parts_is b (x ∷ xs) = ap (λ ps. cond (eqb x b) ([] ∷ ps) (put_first x ps)) (parts_is b xs) ∙ ap (λ ps. cond (eqb x b) ([] ∷ slice_split (λ y. eqb y b) xs) ps) (go (slice_split (λ y. eqb y b) xs))
  where
    go : (ps : List (List ℕ)) → put_first x ps ≡ onto_first x ps
    go [] = refl
    go (p ∷ ps) = refl

-- what a digit more does to a number
module _ (n x : ℕ) (xs : List ℕ) where
  next : Bool → Option ℕ
  next b = cond b (Some (min (10 * n + (x - 48)) (2 ^ 32 - 1))) None

  pub digits_none : cond (is_digit x) (Some (min (10 * n + (x - 48)) (2 ^ 32 - 1))) None ≡ None → digits_after n (x ∷ xs) ≡ None
  digits_none e = go (is_digit x) e
    where
      go : (b : Bool) → cond b (Some (min (10 * n + (x - 48)) (2 ^ 32 - 1))) None ≡ None → cond b (digits_after (min (10 * n + (x - 48)) (2 ^ 32 - 1)) xs) None ≡ None
      go true q = cc
      go false q = refl

  pub digits_some : (m : ℕ) → cond (is_digit x) (Some (min (10 * n + (x - 48)) (2 ^ 32 - 1))) None ≡ Some m → digits_after n (x ∷ xs) ≡ digits_after m xs
  digits_some m e = go (is_digit x) e
    where
      go : (b : Bool) → cond b (Some (min (10 * n + (x - 48)) (2 ^ 32 - 1))) None ≡ Some m → cond b (digits_after (min (10 * n + (x - 48)) (2 ^ 32 - 1)) xs) None ≡ digits_after m xs
      go true q = let e : min (10 * n + (x - 48)) (2 ^ 32 - 1) ≡ m = cc in ap (λ k. digits_after k xs) e
      go false q = cc

-- a number that is not empty is read from 0
pub number_some : (xs : List ℕ) → eqb (length xs) 0 ≡ false → number_of xs ≡ digits_after 0 xs
number_some [] e = cc
number_some (x ∷ xs) e = refl

parts_some : (b : ℕ) (xs : List ℕ) → (p : List ℕ) × (ps : List (List ℕ)) × (parts b xs ≡ p ∷ ps)
parts_some b [] = ([], [], refl)
parts_some b (x ∷ xs) = by_test (eqb x b) (parts b xs) where
  put_some : (qs : List (List ℕ)) → (p : List ℕ) × (ps : List (List ℕ)) × (put_first x qs ≡ p ∷ ps)
  put_some [] = (x ∷ [], [], refl)
  put_some (q ∷ qs) = (x ∷ q, qs, refl)

  by_test : (t : Bool) (qs : List (List ℕ)) → (p : List ℕ) × (ps : List (List ℕ)) × (cond t ([] ∷ qs) (put_first x qs) ≡ p ∷ ps)
  by_test true qs = ([], qs, refl)
  by_test false qs = put_some qs

-- a text has no slash, or it is cut there and is no number
pub record HasSlash (xs : List ℕ) : Type 0 where
  pub first : List ℕ
  pub second : List ℕ
  pub rest : List (List ℕ)
  pub cut : parts 47 xs ≡ first ∷ second ∷ rest
  pub unread : (n : ℕ) → digits_after n xs ≡ None

pub slash_or_none : (xs : List ℕ) → (parts 47 xs ≡ xs ∷ []) ⊎ HasSlash xs
slash_or_none [] = inl refl
slash_or_none (x ∷ xs) = go (eqb x 47) refl (slash_or_none xs)
  where
    front : (t : Bool) → eqb x 47 ≡ t → parts 47 (x ∷ xs) ≡ cond t ([] ∷ parts 47 xs) (put_first x (parts 47 xs))
    front t e = ap (λ u. cond u ([] ∷ parts 47 xs) (put_first x (parts 47 xs))) e

    unread : ((n : ℕ) → digits_after n xs ≡ None) → (n : ℕ) (b : Bool) → cond b (digits_after (min (10 * n + (x - 48)) (2 ^ 32 - 1)) xs) None ≡ None
    unread h n true = h (min (10 * n + (x - 48)) (2 ^ 32 - 1))
    unread h n false = refl

    go : (t : Bool) → eqb x 47 ≡ t → (parts 47 xs ≡ xs ∷ []) ⊎ HasSlash xs → (parts 47 (x ∷ xs) ≡ (x ∷ xs) ∷ []) ⊎ HasSlash (x ∷ xs)
    go true e h =
        let s = parts_some 47 xs in
        let slash : x ≡ 47 = eqb-true x 47 e in
        inr (record { first = []; second = s.0; rest = s.1; cut = front true e ∙ ap (λ ps. [] ∷ ps) s.2; unread = λ n. ap (λ y. digits_after n (y ∷ xs)) slash })
    go false e (inl h) = inl (front false e ∙ ap (put_first x) h)
    go false e (inr h) = inr (record { first = x ∷ h.first; second = h.second; rest = h.rest; cut = front false e ∙ ap (put_first x) h.cut; unread = λ n. unread h.unread n (is_digit x) })

parts_whole : (b : ℕ) (xs : List ℕ) → length xs ≤ position_or_len (λ x. eqb x b) xs → parts b xs ≡ xs ∷ []
parts_whole b [] e = refl
parts_whole b (x ∷ xs) e = go (eqb x b) e (parts_whole b xs)
  where
    go : (t : Bool) → suc (length xs) ≤ cond (not t) (1 + position_or_len (λ y. eqb y b) xs) 0 → (length xs ≤ position_or_len (λ y. eqb y b) xs → parts b xs ≡ xs ∷ []) → cond t ([] ∷ parts b xs) (put_first x (parts b xs)) ≡ (x ∷ xs) ∷ []
    go true q h = absurd (omega arith)
    go false q h = ap (put_first x) (h (omega arith))

-- where the first slash is, a field has its size before and its edge behind; without a slash it is none
module _ (text : List ℕ) where
  pub field_cut : position_or_len (λ b. eqb b 47) text < length text → field_of text ≡ dim_from (number_of (before_first (λ b. eqb b 47) text)) (number_of (after_first (λ b. eqb b 47) text))
  field_cut l = ap field_from (parts_is 47 text ∙ (slice_split_first (λ b. eqb b 47) text 0 l ∙ ap (λ ps. before_first (λ b. eqb b 47) text ∷ ps) (sym (parts_is 47 (after_first (λ b. eqb b 47) text))))) ∙ go (slash_or_none (after_first (λ b. eqb b 47) text))
    where
      unread : (xs : List ℕ) → HasSlash xs → number_of xs ≡ None
      unread [] h = refl
      unread (x ∷ xs) h = h.unread 0

      none : (o : Option ℕ) → dim_from o None ≡ None
      none None = refl
      none (Some n) = refl

      go : (parts 47 (after_first (λ b. eqb b 47) text) ≡ after_first (λ b. eqb b 47) text ∷ []) ⊎ HasSlash (after_first (λ b. eqb b 47) text)
          → field_from (before_first (λ b. eqb b 47) text ∷ parts 47 (after_first (λ b. eqb b 47) text)) ≡ dim_from (number_of (before_first (λ b. eqb b 47) text)) (number_of (after_first (λ b. eqb b 47) text))
      go (inl e) = ap (λ ps. field_from (before_first (λ b. eqb b 47) text ∷ ps)) e
      go (inr h) =
          ap (λ ps. field_from (before_first (λ b. eqb b 47) text ∷ ps)) h.cut
          ∙ sym (ap (dim_from (number_of (before_first (λ b. eqb b 47) text))) (unread (after_first (λ b. eqb b 47) text) h) ∙ none (number_of (before_first (λ b. eqb b 47) text)))

  pub field_whole : length text ≤ position_or_len (λ b. eqb b 47) text → field_of text ≡ None
  field_whole e = ap field_from (parts_whole 47 text e)

-- the values of one more
pub all_of_push : (os : List (Option Dim)) (ds : List Dim) (d : Dim) → all_of os ≡ Some ds → all_of (os ++ Some d ∷ []) ≡ Some (ds ++ d ∷ [])
all_of_push [] ds d e = ap (λ o. option_map (λ es. es ++ d ∷ []) o) e
all_of_push (None ∷ os) ds d e = cc
all_of_push (Some x ∷ os) ds d e = go (all_of os) (λ es. all_of_push os es d) e
  where
    go : (o : Option (List Dim)) → ((es : List Dim) → o ≡ Some es → all_of (os ++ Some d ∷ []) ≡ Some (es ++ d ∷ [])) → option_map (λ es. x ∷ es) o ≡ Some ds → option_map (λ es. x ∷ es) (all_of (os ++ Some d ∷ [])) ≡ Some (ds ++ d ∷ [])
    go None q r = cc
    go (Some es) q r = let same : x ∷ es ≡ ds = cc in ap (option_map (λ fs. x ∷ fs)) (q es refl) ∙ ap (λ fs. Some (fs ++ d ∷ [])) same

all_of_none : (os : List (Option Dim)) (k : ℕ) → k < length os → get_or os k None ≡ None → all_of os ≡ None
all_of_none [] k l e = absurd (omega arith)
all_of_none (o ∷ os) zero l e = ap (λ p. put_front p (all_of os)) e
all_of_none (None ∷ os) (suc k) l e = refl
all_of_none (Some d ∷ os) (suc k) l e = ap (put_front (Some d)) (all_of_none os k (omega arith) e)

-- a line as it is read, part by part: the dimensions of all, or none where one part is no field
pub line_read : (line : List ℕ) (ts : List (Bor (List ℕ))) → map (λ t. t.now) ts ≡ slice_split (λ x. eqb x 32) line → line_dims line ≡ all_of (map (λ (t : Bor (List ℕ)). field_of t.now) ts)
line_read line ts e = ap (λ ps. all_of (map field_of ps)) (parts_is 32 line ∙ sym e) ∙ ap all_of (map-map field_of (λ (t : Bor (List ℕ)). t.now) ts)

pub line_unread : (line : List ℕ) (k : ℕ) (text : List ℕ) → k < length (slice_split (λ x. eqb x 32) line) → text ≡ get_or (slice_split (λ x. eqb x 32) line) k text → field_of text ≡ None → line_dims line ≡ None
line_unread line k text l e none =
    let ps = slice_split (λ x. eqb x 32) line in
    ap (λ qs. all_of (map field_of qs)) (parts_is 32 line)
    ∙ all_of_none (map field_of ps) k (omega (arith, length-map ps field_of)) (get_or-map field_of ps k text None l ∙ (ap field_of (sym e) ∙ none))

-- what `position` tells
pub found_at : (o : Option ℕ) (p n i : ℕ) → o ≡ cond (ltb p n) (Some p) None → o ≡ Some i → (i ≡ p) × (p < n)
found_at o p n i e s = go (cases_lt p n)
  where
    go : (p < n) ⊎ (n ≤ p) → (i ≡ p) × (p < n)
    go (inl l) = let t = lt-ltb p n l in (cc, l)
    go (inr l) = let t = le-ltb p n l in absurd cc

pub found_none : (o : Option ℕ) (p n : ℕ) → o ≡ cond (ltb p n) (Some p) None → o ≡ None → n ≤ p
found_none o p n e s = go (cases_lt p n)
  where
    go : (p < n) ⊎ (n ≤ p) → n ≤ p
    go (inl l) = let t = lt-ltb p n l in absurd cc
    go (inr l) = l
