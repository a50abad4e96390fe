-- The directory and the bodies, chunk by chunk. Assumes nothing.
use Rattle.std.proofs.Common.{◌≡◌, ℕ, zero, suc, ◌+◌, ◌-◌, ◌*◌, ◌<◌, ◌≤◌, Bool, true, false, cond, ltb, ◌⊎◌, List, [], ◌∷◌, ◌++◌, length, get_or, drop, is_some, Option, sym, refl, ap, ◌∙◌, subst, inl, inr, arith}
use Rattle.std.specs.List.{flat_map, AllByRecursion}
use Rattle.std.proofs.lemmas.List.FromFn.{length-map-range_with_len, get_or-map-range_with_len}
use Rattle.std.proofs.lemmas.List.{length-append, drop_more, drop_all, get_or_default}
use Rattle.std.proofs.lemmas.List.Sums.{count_by-le-length}
use Rattle.std.proofs.lemmas.Bool.{cond-false, le-ltb, cases_lt}
use Rattle.shapes.specs.declared.dims.Dim.{Dim}
use Rattle.shapes.specs.Arrays.{volume, total_chunks}
use Rattle.shapes.specs.Limits.{Fit}
use Rattle.shapes.specs.Views.{dims_of}
use Rattle.shapes.proofs.Held.{all_fit}
use Rattle.sources.specs.declared.rows.Row.{Row}
use Rattle.chunk_files.specs.Layouts.{header_bytes, entry_bytes, bodies_at}
use Rattle.chunk_files.specs.Bodies.{pair_bytes, cell_bytes, filled}
use Rattle.chunk_writers.specs.declared.keys.Key.{Key}
use Rattle.chunk_writers.specs.declared.table.Table.{Table}
use Rattle.chunk_writers.specs.Keys.{none_key, Keyed, Cut, Rising}
use Rattle.chunk_writers.specs.Written.{pairs_of, dense, body_bytes, body_size, entries_of, bodies_of, file_bytes, in_cell, in_chunk, in_chunks}
use Rattle.chunk_writers.proofs.Chunked.{key_below, chunk_filled}
use Rattle.chunk_writers.proofs.Pairing.{length_pairs_of}
use Rattle.chunk_files.proofs.Formed.{length_header}

pub length_joined : {X : Type 0} (f : X → List ℕ) (w : ℕ) → ((x : X) → length (f x) ≡ w) → (xs : List X) → length (flat_map f xs) ≡ w * length xs
length_joined f w wide [] = omega arith
length_joined f w wide (x ∷ xs) = let a = length-append (f x) (flat_map f xs) in let b = wide x in let c = length_joined f w wide xs in omega arith

pub length_entries_of : (v at : ℕ) (css : List (List (Option ℕ))) → length (entries_of v at css) ≡ length css
length_entries_of v at [] = refl
length_entries_of v at (cs ∷ css) = ap suc (length_entries_of v (at + length (body_bytes v cs)) css)

pub length_directory : (ds : List Dim) (css : List (List (Option ℕ))) → length css ≡ total_chunks ds → length (flat_map entry_bytes (entries_of (volume ds) (bodies_at ds) css)) ≡ 8 * total_chunks ds
length_directory ds css e = let a = length_joined entry_bytes 8 (λ x. refl) (entries_of (volume ds) (bodies_at ds) css) in let b = length_entries_of (volume ds) (bodies_at ds) css in omega arith

abbrev pub all_bodies : ℕ → List (List (Option ℕ)) → List ℕ
all_bodies v css = flat_map (λ (b : List ℕ). b) (bodies_of v css)

pub length_file : (ds : List Dim) (css : List (List (Option ℕ))) → length css ≡ total_chunks ds → length (file_bytes ds css) ≡ bodies_at ds + length (all_bodies (volume ds) css)
unfolding file_bytes
length_file ds css e =
    let D : List ℕ = flat_map entry_bytes (entries_of (volume ds) (bodies_at ds) css) in
    let a = length-append (header_bytes ds) (D ++ all_bodies (volume ds) css) in
    let b = length-append D (all_bodies (volume ds) css) in
    let c = length_header ds in
    let d = length_directory ds css e in
    omega arith

-- the bodies of rows from chunk j on
abbrev pub left_from : List Dim → List Row → ℕ → List ℕ
left_from ds rows j = all_bodies (volume ds) (drop j (in_chunks ds rows))

-- how many bytes a body has
pub length_body : (v : ℕ) (cs : List (Option ℕ)) → length cs ≡ v → length (body_bytes v cs) ≡ body_size v (filled cs)
length_body v cs long = go (dense v (filled cs))
  where
    go : (b : Bool) → length (cond b (flat_map cell_bytes cs) (flat_map pair_bytes (pairs_of 0 cs))) ≡ cond b (4 * v) (6 * filled cs)
    go true = let a = length_joined cell_bytes 4 (λ x. refl) cs in omega arith
    go false = let a = length_joined pair_bytes 6 (λ x. refl) (pairs_of 0 cs) in let b = length_pairs_of 0 cs in omega arith

size_none : (v : ℕ) → body_size v 0 ≡ 0
size_none v = cond-false (ltb (v * 2) 0) (4 * v) 0 (le-ltb (v * 2) 0 (omega arith))

pub first_cut : (ks : List Key) → Cut ks 0 0
first_cut ks = record { within = omega arith; before = λ p d l. absurd (omega arith); after = λ p d l m. omega arith }

-- a chunk's first keys that are passed
pub cut_ends : (ks : List Key) (j k e : ℕ) → Rising ks → Cut ks j k → k ≤ e → e ≤ length ks → ((p : ℕ) (d : Key) → k ≤ p → p < e → (get_or ks p d).chunk ≤ j) → (length ks ≤ e) ⊎ (j < (get_or ks e none_key).chunk) → Cut ks (j + 1) e
cut_ends ks j k e up A l w inside out = record {
  within = w;
  before = λ p d g. elim (cases_lt p k) [ inl h ↦ let a = A.before p d h in omega arith | inr h ↦ let a = inside p d h g in omega arith ];
  after = λ p d g m. elim out [
    | inl h ↦ absurd (omega arith)
    | inr h ↦ let a = up e p none_key g m in let b = same p d m in omega arith
  ];
}
  where
    same : (p : ℕ) (d : Key) → p < length ks → (get_or ks p d).chunk ≡ (get_or ks p none_key).chunk
    same p d m = ap (λ (k : Key). k.chunk) (get_or_default ks p d none_key m)

-- of a table
module _ (t : Table) where
  abbrev ds : List Dim
  ds = dims_of t.shape

  abbrev rows : List Row
  rows = t.rows.now

  abbrev ks : List Key
  ks = t.keys.now

  pub fit : AllByRecursion Fit (dims_of t.shape)
  fit = all_fit t.shape

  pub keyed : Keyed (dims_of t.shape) t.rows.now t.keys.now
  keyed = record { ranged = t.ranged; each = t.each; every = t.every; rises = t.rises }

  abbrev css : List (List (Option ℕ))
  css = in_chunks ds rows

  -- the bodies from chunk j on
  abbrev pub left : ℕ → List ℕ
  left j = left_from ds rows j

  length_css : length css ≡ total_chunks ds
  length_css = length-map-range_with_len (in_chunk ds rows) 0 (total_chunks ds)

  pub size_file : length (file_bytes ds (in_chunks ds rows)) ≡ bodies_at ds + length (left 0)
  size_file = length_file ds css length_css

  pub rising : Rising ks
  rising p q d l m = elim (cases_lt p q) [
    | inl h ↦ (t.rises p q d h m).0
    | inr h ↦ let e : p ≡ q = omega arith in let f = ap (λ n. (get_or ks n d).chunk) e in omega arith
  ]

  last_cut : Cut ks (total_chunks ds) (length ks)
  last_cut = record { within = omega arith; before = λ p d l. (key_below ds fit rows ks keyed p d l).0; after = λ p d l m. absurd (omega arith) }

  pub css_more : (j : ℕ) → j < total_chunks ds → drop j css ≡ in_chunk ds rows j ∷ drop (j + 1) css
  css_more j l =
      let n = length_css in
      drop_more css j [] (omega arith) ∙ ap (λ (cs : List (Option ℕ)). cs ∷ drop (j + 1) css) (get_or-map-range_with_len (in_chunk ds rows) 0 (total_chunks ds) j j [] l (omega arith))

  pub no_more : (j : ℕ) → total_chunks ds ≤ j → drop j (in_chunks ds rows) ≡ []
  no_more j l = let n = length_css in drop_all j css (omega arith)

  pub left_all : left (total_chunks ds) ≡ []
  left_all = let n = length_css in ap (all_bodies (volume ds)) (drop_all (total_chunks ds) css (omega arith))

  pub left_more : (j : ℕ) → j < total_chunks ds → left j ≡ body_bytes (volume ds) (in_chunk ds rows j) ++ left (j + 1)
  left_more j l = ap (all_bodies (volume ds)) (css_more j l)

  module _ (j k e : ℕ) (l : j < total_chunks ds) (A : Cut ks j k) (B : Cut ks (j + 1) e) where
    length_chunk : length (in_chunk ds rows j) ≡ volume ds
    length_chunk = length-map-range_with_len (in_cell ds rows j) 0 (volume ds)

    pub few_keys : e - k ≤ volume ds
    few_keys =
        let a = chunk_filled ds fit rows ks keyed j k e A B in
        let b = count_by-le-length is_some (in_chunk ds rows j) in
        let d = length_chunk in
        omega arith

    length_left : length (left j) ≡ body_size (volume ds) (e - k) + length (left (j + 1))
    length_left =
        let a = ap length (left_more j l) ∙ length-append (body_bytes (volume ds) (in_chunk ds rows j)) (left (j + 1)) in
        let b = length_body (volume ds) (in_chunk ds rows j) length_chunk ∙ ap (body_size (volume ds)) (chunk_filled ds fit rows ks keyed j k e A B) in
        omega arith

  -- chunks that have no key have no body
  skip : (m c k : ℕ) → c + m ≤ total_chunks ds → Cut ks c k → Cut ks (c + m) k → length (left c) ≡ length (left (c + m))
  skip zero c k l A B = ap (λ n. length (left n)) (omega arith)
  skip (suc m) c k l A B =
      let e : c + 1 + m ≡ c + suc m = omega arith in
      let next : Cut ks (c + 1) k = record { within = A.within; before = λ p d g. (let a = A.before p d g in omega arith); after = λ p d g h. (let b = B.after p d g h in omega arith) } in
      let here = length_left c k k (omega arith) A next in
      let none : body_size (volume ds) (k - k) ≡ 0 = ap (body_size (volume ds)) (let z : k - k ≡ 0 = omega arith in z) ∙ size_none (volume ds) in
      let rest = skip m (c + 1) k (omega arith) next (subst (λ n. Cut ks n k) (sym e) B) in
      let same = ap (λ n. length (left n)) e in
      omega arith

  pub skipped : (c c' k : ℕ) → c ≤ c' → c' ≤ total_chunks ds → Cut ks c k → Cut ks c' k → length (left c) ≡ length (left c')
  skipped c c' k l m A B = let e : c + (c' - c) ≡ c' = omega arith in skip (c' - c) c k (omega arith) A (subst (λ n. Cut ks n k) (sym e) B) ∙ ap (λ n. length (left n)) e

  pub nothing_left : (c : ℕ) → c ≤ total_chunks ds → Cut ks c (length ks) → length (left c) ≡ 0
  nothing_left c l A = skipped c (total_chunks ds) (length ks) l (omega arith) A last_cut ∙ ap length left_all

  -- the next chunk that has a key
  pub next_cut : (c k : ℕ) → k < length ks → Cut ks c k → Cut ks (get_or ks k none_key).chunk k × (c ≤ (get_or ks k none_key).chunk) × ((get_or ks k none_key).chunk < total_chunks ds)
  next_cut c k l A =
      let up = A.after k none_key (omega arith) l in (
        record { within = A.within; before = λ p d g. (let a = A.before p d g in omega arith); after = λ p d g m. (let a = rising k p none_key g m in let b = ap (λ (y : Key). y.chunk) (get_or_default ks p d none_key m) in omega arith) },
        up,
        (key_below ds fit rows ks keyed k none_key l).0,
      )
