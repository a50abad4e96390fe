-- What is written is read back. Assumes nothing.
use Rattle.std.proofs.Common.{◌≡◌, ℕ, zero, suc, ◌+◌, ◌*◌, ◌^◌, ◌<◌, ◌≤◌, Bool, true, false, cond, not, eqb, ltb, leb, ◌≢◌, List, [], ◌∷◌, ◌++◌, map, length, get_or, is_some, Some, None, Ok, Option, sym, refl, ap, ◌∙◌, subst, inl, inr, zero-add, arith}
use Rattle.std.specs.List.{range_with_len, flat_map, AllByRecursion}
use Rattle.std.proofs.lemmas.List.{append-nil, length-append, length-map, get_or-map}
use Rattle.std.proofs.lemmas.List.FromFn.{fill_by_all, length-map-range_with_len, get_or-map-range_with_len}
use Rattle.std.proofs.lemmas.List.Sums.{count_by-le-length}
use Rattle.std.proofs.lemmas.Bool.{eq-eqb, ne_eqb, le-leb, lt-ltb, cond-true, cond-false, and_from, or_right, and_parts, leb-true}
use Rattle.shapes.specs.declared.dims.Dim.{Dim}
use Rattle.shapes.specs.Arrays.{volume, total_chunks, inside, sizes}
use Rattle.shapes.specs.Limits.{Limits, or_else}
use Rattle.sources.specs.declared.rows.Row.{Row}
use Rattle.sources.specs.Readings.{is_reading}
use Rattle.sources.specs.Rows.{on_cell}
use Rattle.chunk_files.specs.declared.entry.Entry.{Entry}
use Rattle.chunk_files.specs.Layouts.{le4, word, body_length, Right, Laid, Layout, bodies_at}
use Rattle.chunk_files.specs.Bodies.{Fault, fault_if, pair_at, pair_bytes, pairs_in, held, offset_fits, pairs_fault, cell_word, cell_bytes, words_in, word_cell, word_fits, words_fault, filled, unless, sparse_cells, sparse_fault, dense_cells, dense_fault, body, readings}
use Rattle.chunk_files.proofs.Encoded.{ShortPair, pair_back, word_back, records_back}
use Rattle.chunk_files.proofs.Formed.{from_layout, layout_tells}
use Rattle.chunk_writers.specs.Keys.{row_at, InRange}
use Rattle.chunk_writers.specs.Written.{pairs_of, dense, body_bytes, made_entry, entries_of, bodies_of, file_bytes, in_cell, in_chunk, in_chunks}
use Rattle.chunk_writers.specs.Trips.{ReadBack}
use Rattle.chunk_writers.proofs.Pairing.{length_pairs_of, first_cases}
use Rattle.chunk_writers.proofs.Filed.{length_body, length_entries_of, length_file, all_bodies}

abbrev pub Small : Option ℕ → Type 0
Small None = Unit {0}
Small (Some r) = r ≤ 16777215

-- the pairs of small cells are short, and have no fault
short_pairs : (x : ℕ) (cs : List (Option ℕ)) → x + length cs ≤ 16384 → AllByRecursion Small cs → AllByRecursion ShortPair (pairs_of x cs)
short_pairs x [] l s = tt
short_pairs x (None ∷ cs) l s = short_pairs (x + 1) cs (omega arith) s.1
short_pairs x (Some r ∷ cs) l s = let p = s.0 in ((omega arith, omega arith), short_pairs (x + 1) cs (omega arith) s.1)

no_fault : (b : Bool) (f : Fault) → b ≡ true → fault_if (not b) f ≡ None
no_fault b f e = ap (λ t. fault_if (not t) f) e

sound_pairs : (v k low x : ℕ) (cs : List (Option ℕ)) → x + length cs ≡ v → low ≤ x → AllByRecursion Small cs → pairs_fault v k low (pairs_of x cs) ≡ None
sound_pairs v k low x [] e l s = refl
sound_pairs v k low x (None ∷ cs) e l s = sound_pairs v k low (x + 1) cs (omega arith) (omega arith) s.1
sound_pairs v k low x (Some r ∷ cs) e l s =
    let a : offset_fits v low x ≡ true = and_from (leb low x) (ltb x v) (le-leb low x l) (lt-ltb x v (omega arith)) in
    let b : is_reading r ≡ true = le-leb r 16777215 s.0 in
    (λ i. or_else (or_else (no_fault (offset_fits v low x) (1, k) a i) (no_fault (is_reading r) (2, k) b i)) (pairs_fault v (k + 1) (x + 1) (pairs_of (x + 1) cs)))
    ∙ sound_pairs v (k + 1) (x + 1) (x + 1) cs (omega arith) (omega arith) s.1

-- what the pairs hold
held_low : (x y : ℕ) (cs : List (Option ℕ)) → y < x → held (pairs_of x cs) y ≡ None
held_low x y [] l = refl
held_low x y (None ∷ cs) l = held_low (x + 1) y cs (omega arith)
held_low x y (Some r ∷ cs) l = let ne : x ≢ y = omega arith in cond-false (eqb x y) (Some r) (held (pairs_of (x + 1) cs) y) (ne_eqb x y ne) ∙ held_low (x + 1) y cs (omega arith)

held_at : (x k : ℕ) (cs : List (Option ℕ)) → k < length cs → held (pairs_of x cs) (x + k) ≡ get_or cs k None
held_at x k [] l = let z : ⊥ = omega arith in absurd z
held_at x zero (None ∷ cs) l = held_low (x + 1) (x + 0) cs (omega arith)
held_at x zero (Some r ∷ cs) l = cond-true (eqb x (x + 0)) (Some r) (held (pairs_of (x + 1) cs) (x + 0)) (eq-eqb x (x + 0) (omega arith))
held_at x (suc k) (None ∷ cs) l = ap (held (pairs_of (x + 1) cs)) (omega arith) ∙ held_at (x + 1) k cs (omega arith)
held_at x (suc k) (Some r ∷ cs) l =
    let ne : x ≢ x + suc k = omega arith in
    cond-false (eqb x (x + suc k)) (Some r) (held (pairs_of (x + 1) cs) (x + suc k)) (ne_eqb x (x + suc k) ne) ∙ (ap (held (pairs_of (x + 1) cs)) (omega arith) ∙ held_at (x + 1) k cs (omega arith))

held_back : (v : ℕ) (cs : List (Option ℕ)) → length cs ≡ v → map (held (pairs_of 0 cs)) (range_with_len 0 v) ≡ cs
held_back v cs e = sym (fill_by_all (held (pairs_of 0 cs)) cs v None e (λ k l. sym (ap (held (pairs_of 0 cs)) (omega arith) ∙ held_at 0 k cs (omega arith))))

-- the words of small cells
abbrev ShortWord : ℕ → Type 0
ShortWord w = w < 2 ^ 32

joined_words : (cs : List (Option ℕ)) → flat_map cell_bytes cs ≡ flat_map le4 (map cell_word cs)
joined_words [] = refl
joined_words (c ∷ cs) = ap (λ bs. cell_bytes c ++ bs) (joined_words cs)

short_word : (c : Option ℕ) → Small c → cell_word c < 2 ^ 32
short_word None s = omega arith
short_word (Some r) s = omega arith

short_words : (cs : List (Option ℕ)) → AllByRecursion Small cs → AllByRecursion ShortWord (map cell_word cs)
short_words [] s = tt
short_words (c ∷ cs) s = (short_word c s.0, short_words cs s.1)

word_cell_back : (c : Option ℕ) → Small c → word_cell (cell_word c) ≡ c
word_cell_back None s = refl
word_cell_back (Some r) s = let ne : r ≢ 4294967295 = omega arith in cond-false (eqb r 4294967295) None (Some r) (ne_eqb r 4294967295 ne)

cells_back : (cs : List (Option ℕ)) → AllByRecursion Small cs → map word_cell (map cell_word cs) ≡ cs
cells_back [] s = refl
cells_back (c ∷ cs) s = λ i. word_cell_back c s.0 i ∷ cells_back cs s.1 i

fitting_word : (c : Option ℕ) → Small c → word_fits (cell_word c) ≡ true
fitting_word None s = refl
fitting_word (Some r) s = or_right (eqb r 4294967295) (is_reading r) (le-leb r 16777215 s)

sound_words : (k : ℕ) (cs : List (Option ℕ)) → AllByRecursion Small cs → words_fault k (map cell_word cs) ≡ None
sound_words k [] s = refl
sound_words k (c ∷ cs) s = ap (λ o. or_else o (words_fault (k + 1) (map cell_word cs))) (no_fault (word_fits (cell_word c)) (2, k) (fitting_word c s.0)) ∙ sound_words (k + 1) cs s.1

-- records that stand alone are read back
alone : {X : Type 0} (enc : X → List ℕ) (dec : List ℕ → ℕ → X) (w : ℕ) (Good : X → Type 0) (wide : (x : X) → length (enc x) ≡ w)
    (back : (pre post : List ℕ) (x : X) → Good x → dec (pre ++ (enc x ++ post)) (length pre) ≡ x) (d : X) (xs : List X) (n : ℕ) → AllByRecursion Good xs → length xs ≡ n → map (λ k. dec (flat_map enc xs) (w * k)) (range_with_len 0 n) ≡ xs
alone enc dec w Good wide back d xs n good e =
    (λ i. map (λ k. dec (sym (append-nil (flat_map enc xs)) i) (sym (zero-add (w * k)) i)) (range_with_len 0 (sym e i)))
    ∙ records_back enc dec w Good wide back xs [] [] 0 d good refl

-- a body of each kind
module _ (v : ℕ) (cs : List (Option ℕ)) (long : length cs ≡ v) (few : v ≤ 16384) (small : AllByRecursion Small cs) where
  pairs_there : pairs_in (flat_map pair_bytes (pairs_of 0 cs)) (filled cs) ≡ pairs_of 0 cs
  pairs_there = alone pair_bytes pair_at 6 ShortPair (λ x. refl) pair_back (record { offset = 0; reading = 0 }) (pairs_of 0 cs) (filled cs) (short_pairs 0 cs (omega arith) small) (length_pairs_of 0 cs)

  words_there : words_in (flat_map cell_bytes cs) v ≡ map cell_word cs
  words_there =
      ap (λ b. words_in b v) (joined_words cs)
      ∙ alone le4 word 4 ShortWord (λ x. refl) word_back 0 (map cell_word cs) v (short_words cs small) (length-map cs cell_word ∙ long)

  sparse_back : unless (sparse_fault v (filled cs) (flat_map pair_bytes (pairs_of 0 cs))) (sparse_cells v (filled cs) (flat_map pair_bytes (pairs_of 0 cs))) ≡ Ok cs
  sparse_back =
      (λ i. unless (pairs_fault v 0 0 (pairs_there i)) (map (held (pairs_there i)) (range_with_len 0 v)))
      ∙ (λ i. unless (sound_pairs v 0 0 0 cs (omega arith) (omega arith) small i) (held_back v cs long i))

  dense_back : unless (dense_fault v (filled cs) (flat_map cell_bytes cs)) (dense_cells v (flat_map cell_bytes cs)) ≡ Ok cs
  dense_back =
      let cells : dense_cells v (flat_map cell_bytes cs) ≡ cs = ap (map word_cell) words_there ∙ cells_back cs small in
      let sound : words_fault 0 (words_in (flat_map cell_bytes cs) v) ≡ None = ap (words_fault 0) words_there ∙ sound_words 0 cs small in
      (λ i. unless (or_else (sound i) (fault_if (not (eqb (filled (cells i)) (filled cs))) (3, v))) (cells i))
      ∙ ap (λ b. unless (fault_if (not b) (3, v)) cs) (eq-eqb (filled cs) (filled cs) refl)

  pub body_back : (at : ℕ) → body v (made_entry v at (filled cs)) (body_bytes v cs) ≡ Ok cs
  body_back at = go (dense v (filled cs))
    where
      go : (b : Bool) → body v (record { start = at; count = filled cs; kind = cond b 1 0; spare = 0 }) (cond b (flat_map cell_bytes cs) (flat_map pair_bytes (pairs_of 0 cs))) ≡ Ok cs
      go true = dense_back
      go false = sparse_back

  few_filled : filled cs ≤ v
  few_filled = let a = count_by-le-length is_some cs in omega arith

  pub body_sized : (at : ℕ) → length (body_bytes v cs) ≡ body_length v (made_entry v at (filled cs))
  body_sized at = length_body v cs long ∙ go (dense v (filled cs))
    where
      go : (b : Bool) → cond b (4 * v) (6 * filled cs) ≡ body_length v (record { start = at; count = filled cs; kind = cond b 1 0; spare = 0 })
      go true = refl
      go false = refl

  pub entry_right : (at : ℕ) → at < 2 ^ 32 → Right v at (made_entry v at (filled cs))
  entry_right at l = record { starts = refl; kinds = go (dense v (filled cs)); counts = few_filled; spares = refl; short = l }
    where
      go : (b : Bool) → cond b 1 0 ≤ 1
      go true = omega arith
      go false = omega arith

abbrev Whole : ℕ → List (Option ℕ) → Type 0
Whole v cs = (length cs ≡ v) × AllByRecursion Small cs

laid_bodies : (v at : ℕ) (css : List (List (Option ℕ))) → v ≤ 16384 → AllByRecursion (Whole v) css → at + length (all_bodies v css) < 2 ^ 32 → Laid v at (entries_of v at css) (bodies_of v css)
laid_bodies v at [] few w l = tt
laid_bodies v at (cs ∷ css) few w l =
    let a = length-append (body_bytes v cs) (all_bodies v css) in
    let long = w.0.0 in
    let sized = body_sized v cs long few w.0.1 at in (
      entry_right v cs long few w.0.1 at (omega arith),
      sized,
      subst (λ n. Laid v (at + n) (entries_of v (at + length (body_bytes v cs)) css) (bodies_of v css)) sized (laid_bodies v (at + length (body_bytes v cs)) css few w.1 (omega arith)),
    )

-- the entry of chunk j, whatever its start
getD_entries : (v at j : ℕ) (css : List (List (Option ℕ))) (d : Entry) → j < length css → (start : ℕ) × (get_or (entries_of v at css) j d ≡ made_entry v start (filled (get_or css j [])))
getD_entries v at j [] d l = absurd (omega arith)
getD_entries v at zero (cs ∷ css) d l = (at, refl)
getD_entries v at (suc j) (cs ∷ css) d l = getD_entries v (at + length (body_bytes v cs)) j css d (omega arith)

module _ (ds : List Dim) (limits : Limits ds) (rows : List Row) (ranged : InRange ds rows) where
  small_cell : (j x : ℕ) → Small (in_cell ds rows j x)
  small_cell j x = elim (first_cases (on_cell ds j x) rows) [
    | inl f ↦ subst Small (sym f.3) (leb-true (row_at rows f.0).reading 16777215 (and_parts (inside (sizes ds) (row_at rows f.0).at) (is_reading (row_at rows f.0).reading) (ranged f.0 f.1)).1)
    | inr f ↦ subst Small (sym f.0) tt
  ]

  all_map_counting : {X : Type 0} (P : X → Type 0) (f : ℕ → X) (a n : ℕ) → ((k : ℕ) → P (f k)) → AllByRecursion P (map f (range_with_len a n))
  all_map_counting P f a zero h = tt
  all_map_counting P f a (suc n) h = (h a, all_map_counting P f (a + 1) n h)

  whole_chunk : (j : ℕ) → Whole (volume ds) (in_chunk ds rows j)
  whole_chunk j = (length-map-range_with_len (in_cell ds rows j) 0 (volume ds), all_map_counting Small (in_cell ds rows j) 0 (volume ds) (small_cell j))

  length_chunks : length (in_chunks ds rows) ≡ total_chunks ds
  length_chunks = length-map-range_with_len (in_chunk ds rows) 0 (total_chunks ds)

  module _ (short : length (file_bytes ds (in_chunks ds rows)) ≤ 4294967295) where
    pub written_layout : Layout (file_bytes ds (in_chunks ds rows)) ds (entries_of (volume ds) (bodies_at ds) (in_chunks ds rows)) (bodies_of (volume ds) (in_chunks ds rows))
    unfolding file_bytes
    written_layout =
        let f = length_file ds (in_chunks ds rows) length_chunks in
        record {
          limits = limits;
          made = refl;
          each_entry = length_entries_of (volume ds) (bodies_at ds) (in_chunks ds rows) ∙ length_chunks;
          each_body = length-map (in_chunks ds rows) (body_bytes (volume ds)) ∙ length_chunks;
          laid = laid_bodies (volume ds) (bodies_at ds) (in_chunks ds rows) limits.small_chunk (all_map_counting (Whole (volume ds)) (in_chunk ds rows) 0 (total_chunks ds) whole_chunk) (omega arith);
        }

    none_entry : Entry
    none_entry = record { start = 0; count = 0; kind = 0; spare = 0 }

    chunk_back : (j : ℕ) → j < total_chunks ds → readings (file_bytes ds (in_chunks ds rows)) j ≡ Ok (in_chunk ds rows j)
    chunk_back j l =
        let css = in_chunks ds rows in
        let V = volume ds in
        let n = length_chunks in
        let E = getD_entries V (bodies_at ds) j css none_entry (omega arith) in
        let there : get_or css j [] ≡ in_chunk ds rows j = get_or-map-range_with_len (in_chunk ds rows) 0 (total_chunks ds) j j [] l (omega arith) in
        let bytes : get_or (bodies_of V css) j [] ≡ body_bytes V (in_chunk ds rows j) = get_or-map (body_bytes V) css j [] [] (omega arith) ∙ ap (body_bytes V) there in
        (layout_tells (file_bytes ds css) ds (entries_of V (bodies_at ds) css) (bodies_of V css) written_layout).chunks j none_entry l
        ∙ (λ i. body V ((E.1 ∙ ap (λ (cs : List (Option ℕ)). made_entry V E.0 (filled cs)) there) i) (bytes i))
        ∙ body_back V (in_chunk ds rows j) (whole_chunk j).0 limits.small_chunk (whole_chunk j).1 E.0

    pub read_back : ReadBack ds rows (file_bytes ds (in_chunks ds rows))
    read_back = record {
      layout = written_layout;
      opens = from_layout (file_bytes ds (in_chunks ds rows)) ds (entries_of (volume ds) (bodies_at ds) (in_chunks ds rows)) (bodies_of (volume ds) (in_chunks ds rows)) written_layout;
      dims = (layout_tells (file_bytes ds (in_chunks ds rows)) ds (entries_of (volume ds) (bodies_at ds) (in_chunks ds rows)) (bodies_of (volume ds) (in_chunks ds rows)) written_layout).dims;
      chunks = chunk_back;
    }
