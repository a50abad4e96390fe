-- The check of a directory, entry by entry.
use Rattle.std.proofs.Common.{◌≡◌, ℕ, ◌+◌, ◌*◌, ◌<◌, ◌≤◌, Bool, true, false, not, eqb, List, [], ◌∷◌, length, get_or, drop, Some, None, Option, sym, ap, ◌∙◌, arith}
use Rattle.std.proofs.lemmas.Bool.Decides.{nat_tests}
use Rattle.std.proofs.lemmas.Bool.{lt-ltb, le-ltb, eq-eqb, ne_eqb}
use Rattle.std.proofs.lemmas.List.{at_drop_more, at_drop_all}
use Rattle.std.proofs.lemmas.List.FromFn.{length-map-range_with_len, get_or-map-range_with_len}
use Rattle.shapes.specs.declared.dims.Dim.{Dim}
use Rattle.shapes.specs.Arrays.{volume, total_chunks}
use Rattle.shapes.specs.Limits.{Refusal, or_else, refused_if}
use Rattle.chunk_files.specs.declared.entry.Entry.{Entry}
use Rattle.chunk_files.specs.Layouts.{directory_at, entry_at, entries_from, body_length, right, entries_fault, ending, directory_fault}

module _ (bs : List ℕ) (from v t : ℕ) where
  length_entries : length (entries_from bs from t) ≡ t
  length_entries = length-map-range_with_len (λ j. entry_at bs (from + 8 * j)) 0 t

  pub entry_here : (j : ℕ) → j < t → (d : Entry) → get_or (entries_from bs from t) j d ≡ entry_at bs (from + 8 * j)
  entry_here j l d = get_or-map-range_with_len (λ j. entry_at bs (from + 8 * j)) 0 t j j d l (omega arith)

  -- what the check finds from entry j on, and where the bodies from there on end
  abbrev Found : ℕ → ℕ → Option Refusal
  Found j at = entries_fault v j at (drop j (entries_from bs from t))

  abbrev End : ℕ → ℕ → ℕ
  End j at = ending v at (drop j (entries_from bs from t))

  entries_step : (j at : ℕ) → j < t → Found j at ≡ or_else (refused_if (not (right v at (entry_at bs (from + 8 * j)))) (9, j ∷ [])) (Found (j + 1) (at + body_length v (entry_at bs (from + 8 * j))))
  entries_step j at l =
      let e : Entry = entry_at bs (from + 8 * j) in
      let len = length_entries in
      at_drop_more (entries_fault v j at) (entries_from bs from t) j e (omega arith)
      ∙ ap (λ (x : Entry). or_else (refused_if (not (right v at x)) (9, j ∷ [])) (Found (j + 1) (at + body_length v x))) (entry_here j l e)

  ending_step : (j at : ℕ) → j < t → End j at ≡ End (j + 1) (at + body_length v (entry_at bs (from + 8 * j)))
  ending_step j at l =
      let e : Entry = entry_at bs (from + 8 * j) in
      let len = length_entries in
      at_drop_more (ending v at) (entries_from bs from t) j e (omega arith)
      ∙ ap (λ (x : Entry). End (j + 1) (at + body_length v x)) (entry_here j l e)

  entries_none : (j at : ℕ) → t ≤ j → Found j at ≡ None
  entries_none j at l = let len = length_entries in at_drop_all (entries_fault v j at) (entries_from bs from t) j (omega arith)

  ending_none : (j at : ℕ) → t ≤ j → End j at ≡ at
  ending_none j at l = let len = length_entries in at_drop_all (ending v at) (entries_from bs from t) j (omega arith)

  -- what is found once there are bytes enough for the directory
  abbrev pub Late : Option Refusal → ℕ → Option Refusal
  Late o at = or_else o (refused_if (not (eqb at (length bs))) (10, []))

  abbrev pub all_found : Option Refusal
  all_found = entries_fault v 0 (from + 8 * t) (entries_from bs from t)

  abbrev pub all_end : ℕ
  all_end = ending v (from + 8 * t) (entries_from bs from t)

  pub directory_long : from + 8 * t ≤ length bs → directory_fault bs from v t ≡ Late all_found all_end
  directory_long l = ap (λ b. or_else (refused_if b (7, [])) (Late all_found all_end)) (le-ltb (length bs) (from + 8 * t) l)

  pub directory_short : length bs < from + 8 * t → directory_fault bs from v t ≡ Some (7, [])
  directory_short l = ap (λ b. or_else (refused_if b (7, [])) (Late all_found all_end)) (lt-ltb (length bs) (from + 8 * t) l)

  pub directory_wrong : from + 8 * t ≤ length bs → (r : Refusal) → all_found ≡ Some r → directory_fault bs from v t ≡ Some r
  directory_wrong l r e = directory_long l ∙ ap (λ o. Late o all_end) e

  -- the end of the check's loop
  module _ (j at : ℕ) (l : t ≤ j) (long : from + 8 * t ≤ length bs) (a : Found j at ≡ all_found) (b : End j at ≡ all_end) where
    all_right : directory_fault bs from v t ≡ refused_if (not (eqb at (length bs))) (10, [])
    all_right = directory_long long ∙ ((λ i. Late ((sym a ∙ entries_none j at l) i) ((sym b ∙ ending_none j at l) i)))

    pub ends_wrong : (at ≡ length bs → ⊥) → directory_fault bs from v t ≡ Some (10, [])
    ends_wrong n = all_right ∙ ap (λ b. refused_if (not b) (10, [])) (ne_eqb at (length bs) n)

    pub ends_right : at ≡ length bs → directory_fault bs from v t ≡ None
    ends_right n = all_right ∙ ap (λ b. refused_if (not b) (10, [])) (eq-eqb at (length bs) n)

  -- one turn of the check's loop, at the entry as it was read
  module _ (j at : ℕ) (l : j < t) (e : Entry) (is : e ≡ entry_at bs (from + 8 * j)) where
    turn : (b : Bool) → right v at e ≡ b → Found j at ≡ or_else (refused_if (not b) (9, j ∷ [])) (Found (j + 1) (at + body_length v e))
    turn b w = entries_step j at l ∙ (ap (λ (x : Entry). or_else (refused_if (not (right v at x)) (9, j ∷ [])) (Found (j + 1) (at + body_length v x))) (sym is)
        ∙ ap (λ b. or_else (refused_if (not b) (9, j ∷ [])) (Found (j + 1) (at + body_length v e))) w)

    pub turn_wrong : right v at e ≡ false → Found j at ≡ Some (9, j ∷ [])
    turn_wrong = turn false

    pub turn_right : right v at e ≡ true → Found (j + 1) (at + body_length v e) ≡ Found j at
    turn_right w = sym (turn true w)

    pub turn_ending : End (j + 1) (at + body_length v e) ≡ End j at
    turn_ending = sym (ending_step j at l ∙ ap (λ (x : Entry). End (j + 1) (at + body_length v x)) (sym is))

pub body_small : (v at : ℕ) (e : Entry) → v ≤ 16384 → right v at e ≡ true → body_length v e ≤ 98304
body_small v at e l r = grind (arith, nat_tests)

-- the numbers of a shape in place of the dimensions
pub of_shape : (bs : List ℕ) (ds : List Dim) {n v t : ℕ} {o : Option Refusal} → n ≡ length ds → v ≡ volume ds → t ≡ total_chunks ds
    → directory_fault bs (4 + 8 * n) v t ≡ o → directory_fault bs (directory_at ds) (volume ds) (total_chunks ds) ≡ o
of_shape bs ds a b c h = (λ i. directory_fault bs (4 + 8 * sym a i) (sym b i) (sym c i)) ∙ h
