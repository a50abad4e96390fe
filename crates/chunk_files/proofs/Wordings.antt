-- Bodies of kind 1: the check word by word, and how many cells they fill.
use Rattle.std.proofs.Common.{◌≡◌, ℕ, ◌+◌, ◌*◌, ◌<◌, ◌≤◌, Bool, true, false, cond, not, eqb, List, map, length, get_or, drop, is_some, Some, None, Option, sym, refl, ap, ◌∙◌, arith}
use Rattle.std.specs.List.{range_with_len}
use Rattle.std.specs.Option.{option_map}
use Rattle.std.proofs.lemmas.Bool.{eq-eqb, ne_eqb}
use Rattle.std.proofs.lemmas.List.{at_drop_more, at_drop_all}
use Rattle.std.proofs.lemmas.List.FromFn.{length-map-range_with_len, get_or-map-range_with_len, fill_by_all, sum_by-map-range_with_len_more}
use Rattle.shapes.specs.declared.readings.Reading.{Reading}
use Rattle.shapes.specs.Limits.{or_else}
use Rattle.sources.proofs.Lifting.{reading_some}
use Rattle.chunk_files.specs.Layouts.{word}
use Rattle.chunk_files.specs.Bodies.{Fault, fault_if, words_in, word_cell, word_fits, words_fault, filled, dense_cells, dense_fault}
use Rattle.chunk_files.specs.Contents.{lift_or, cell_value}
use mathlib.Core.List.{map-map}

-- the reading of a word
abbrev pub number_of : Option Reading → Option ℕ
number_of c = option_map (λ (r : Reading). r.value) c

pub same_some : (c : Option Reading) (w : ℕ) → number_of c ≡ word_cell w → is_some c ≡ is_some (word_cell w)
same_some (Some r) w e = ap is_some e
same_some None w e = ap is_some e

pub same_value : {M : Type 0} (empty : M) (lifted : Reading → M) (c : Option Reading) (w : ℕ) → number_of c ≡ word_cell w → lift_or empty lifted c ≡ cell_value empty lifted (word_cell w)
same_value empty lifted (Some r) w e = sym (sym (ap (cell_value empty lifted) e) ∙ ap (lift_or empty lifted) (reading_some r.value r refl))
same_value empty lifted None w e = ap (cell_value empty lifted) e

one_at_most : (b : Bool) → cond b 1 0 ≤ 1
one_at_most true = omega arith
one_at_most false = omega arith

module _ (b : List ℕ) (v : ℕ) where
  length_words : length (words_in b v) ≡ v
  length_words = length-map-range_with_len (λ k. word b (4 * k)) 0 v

  -- what the check finds from word k on, and how many cells the words before it fill
  abbrev Found : ℕ → Option Fault
  Found k = words_fault k (drop k (words_in b v))

  abbrev pub filled_to : ℕ → ℕ
  filled_to k = filled (map (λ x. word_cell (word b (4 * x))) (range_with_len 0 k))

  step : (k : ℕ) → k < v → Found k ≡ or_else (fault_if (not (word_fits (word b (4 * k)))) (2, k)) (Found (k + 1))
  step k l =
      let len = length_words in
      at_drop_more (words_fault k) (words_in b v) k 0 (omega arith)
      ∙ ap (λ w. or_else (fault_if (not (word_fits w)) (2, k)) (Found (k + 1))) (get_or-map-range_with_len (λ k. word b (4 * k)) 0 v k k 0 l (omega arith))

  words_none : (k : ℕ) → v ≤ k → Found k ≡ None
  words_none k l = let len = length_words in at_drop_all (words_fault k) (words_in b v) k (omega arith)

  -- a turn of the loop that reads the words
  module _ (k : ℕ) (l : k < v) where
    pub word_bad : word_fits (word b (4 * k)) ≡ false → Found k ≡ Some (2, k)
    word_bad e = step k l ∙ ap (λ t. or_else (fault_if (not t) (2, k)) (Found (k + 1))) e

    pub word_good : word_fits (word b (4 * k)) ≡ true → Found (k + 1) ≡ Found k
    word_good e = sym (step k l ∙ ap (λ t. or_else (fault_if (not t) (2, k)) (Found (k + 1))) e)

    filled_more : filled_to (k + 1) ≡ filled_to k + cond (is_some (word_cell (word b (4 * k)))) 1 0
    filled_more = sum_by-map-range_with_len_more (λ (o : Option ℕ). cond (is_some o) 1 0) (λ x. word_cell (word b (4 * x))) 0 k k (omega arith)

    pub tallied : (full n : ℕ) (c : Option Reading) → full ≡ filled_to k → full ≤ k → n ≡ cond (is_some c) 1 0 → number_of c ≡ word_cell (word b (4 * k)) → (full + n ≡ filled_to (k + 1)) × (full + n ≤ k + 1)
    tallied full n c f h e is =
        let s : n ≡ cond (is_some (word_cell (word b (4 * k)))) 1 0 = e ∙ ap (λ t. cond t 1 0) (same_some c (word b (4 * k)) is) in
        let one = one_at_most (is_some (word_cell (word b (4 * k)))) in
        let more = filled_more in
        (omega arith, omega arith)

  cells_are : dense_cells v b ≡ map (λ x. word_cell (word b (4 * x))) (range_with_len 0 v)
  cells_are = map-map word_cell (λ k. word b (4 * k)) (range_with_len 0 v)

  -- once all are read
  module _ (k n full : ℕ) (all : k ≡ v) (sum : full ≡ filled_to k) (found : Found k ≡ words_fault 0 (words_in b v)) where
    counted : dense_fault v n b ≡ fault_if (not (eqb full n)) (3, v)
    counted =
        let f : filled (dense_cells v b) ≡ full = ap filled cells_are ∙ (ap filled_to (sym all) ∙ sym sum) in
        λ i. or_else ((sym found ∙ words_none k (omega arith)) i) (fault_if (not (eqb (f i) n)) (3, v))

    pub count_bad : (full ≡ n → ⊥) → dense_fault v n b ≡ Some (3, v)
    count_bad ne = counted ∙ ap (λ t. fault_if (not t) (3, v)) (ne_eqb full n ne)

    pub count_good : full ≡ n → dense_fault v n b ≡ None
    count_good e = counted ∙ ap (λ t. fault_if (not t) (3, v)) (eq-eqb full n e)

  pub words_all : {M : Type 0} (empty : M) (lifted : Reading → M) (cs : List M) → length cs ≡ v → ((x : ℕ) → x < v → get_or cs x empty ≡ cell_value empty lifted (word_cell (word b (4 * x))))
      → cs ≡ map (cell_value empty lifted) (dense_cells v b)
  words_all empty lifted cs e h =
      fill_by_all (λ x. cell_value empty lifted (word_cell (word b (4 * x)))) cs v empty e h
      ∙ sym (ap (map (cell_value empty lifted)) cells_are ∙ map-map (cell_value empty lifted) (λ x. word_cell (word b (4 * x))) (range_with_len 0 v))
