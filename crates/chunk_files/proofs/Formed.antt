-- The check finds no fault exactly where the bytes are a file of some dimensions, entries and bodies.
use Rattle.std.proofs.Common.{◌≡◌, ℕ, zero, suc, ◌+◌, ◌-◌, ◌*◌, ◌^◌, ◌<◌, ◌≤◌, Bool, true, false, not, ◌&&◌, eqb, ltb, leb, List, [], ◌∷◌, ◌++◌, length, get_or, take, drop, is_ok, Some, None, Err, Decides, Result, sym, refl, ap, ◌∙◌, subst, arith}
use Rattle.std.specs.List.{flat_map, AllByRecursion}
use Rattle.std.proofs.lemmas.Bool.Decides.{nat_tests}
use Rattle.std.proofs.lemmas.List.{append_assoc, length-append, length-take, length-drop, nil_from_length, take-append-drop, take_at, drop_at}
use Rattle.std.proofs.lemmas.Bool.{eq-eqb, eqb-true, leb-true, le-leb, le-ltb, and_parts, and_from, false≢true}
use Rattle.std.proofs.lemmas.List.FromFn.{length-map-range_with_len, get_or-map-range_with_len}
use Rattle.std.proofs.ByRecursion.{All-from_get_or}
use Rattle.shapes.specs.declared.dims.Dim.{Dim}
use Rattle.shapes.specs.Arrays.{volume, total_chunks, none_dim}
use Rattle.shapes.specs.Limits.{Fit, Limits, Refusal, or_else, refused_if, shape_fault}
use Rattle.shapes.proofs.Limited.{both_none, limits_from, limits_fault}
use Rattle.chunk_files.specs.declared.entry.Entry.{Entry}
use Rattle.chunk_files.specs.Layouts.{header_bytes, dim_bytes, entry_bytes, file_of, directory_at, bodies_at, body_length, Right, Laid, Layout, dim_at, dims_from, dims_in, entry_at, entries_from, marked, head_fault, sizes_fault, right, entries_fault, ending, directory_fault, file_fault, file_dims}
use Rattle.chunk_files.specs.Bodies.{body, body_of, entry_of, readings, Tells}
use Rattle.chunk_files.proofs.Directories.{directory_long}
use Rattle.chunk_files.proofs.Opening.{length-dims, dims_kept, sizes_whole}
use Rattle.chunk_files.proofs.Encoded.{length_records, record_at, records_back, ShortDim, dim_back, ShortEntry, entry_back}
use Rattle.chunk_files.proofs.Spelled.{Bytes, word_short, take_4, take_split, records_spelled, dim_spelled, entry_spelled}

abbrev pub flat : List (List ℕ) → List ℕ
flat bodies = flat_map (λ (b : List ℕ). b) bodies

-- Entries that are right

right_from : (v at : ℕ) (e : Entry) → right v at e ≡ true → e.start < 2 ^ 32 → Right v at e
right_from v at e h s =
    let a = and_parts (eqb e.start at) (leb e.kind 1 && (leb e.count v && eqb e.spare 0)) h in
    let b = and_parts (leb e.kind 1) (leb e.count v && eqb e.spare 0) a.1 in
    let c = and_parts (leb e.count v) (eqb e.spare 0) b.1 in
    record { starts = eqb-true _ _ a.0; kinds = leb-true _ _ b.0; counts = leb-true _ _ c.0; spares = eqb-true _ _ c.1; short = s }

from_right : (v at : ℕ) (e : Entry) → Right v at e → right v at e ≡ true
from_right v at e r = and_from _ _ (eq-eqb _ _ r.starts) (and_from _ _ (le-leb _ _ r.kinds) (and_from _ _ (le-leb _ _ r.counts) (eq-eqb _ _ r.spares)))

refused_none : (b : Bool) (r : Refusal) → refused_if (not b) r ≡ None → b ≡ true
refused_none true r h = refl
refused_none false r h = cc

entries_right : (v j at : ℕ) (e : Entry) (es : List Entry) → entries_fault v j at (e ∷ es) ≡ None → (right v at e ≡ true) × (entries_fault v (j + 1) (at + body_length v e) es ≡ None)
entries_right v j at e es h =
    let p = both_none (refused_if (not (right v at e)) (9, j ∷ [])) (entries_fault v (j + 1) (at + body_length v e) es) h in
    (refused_none (right v at e) (9, j ∷ []) p.0, p.1)

ending_le : (v at : ℕ) (es : List Entry) → at ≤ ending v at es
ending_le v at [] = omega arith
ending_le v at (e ∷ es) = let ih = ending_le v (at + body_length v e) es in omega arith

-- Bytes cut into bodies

abbrev pub cut : ℕ → List Entry → List ℕ → List (List ℕ)
cut v [] r = []
cut v (e ∷ es) r = take (body_length v e) r ∷ cut v es (drop (body_length v e) r)

length_cut : (v : ℕ) (es : List Entry) (r : List ℕ) → length (cut v es r) ≡ length es
length_cut v [] r = refl
length_cut v (e ∷ es) r = ap suc (length_cut v es (drop (body_length v e) r))

-- what is left after the first body
rest_ends : (v at : ℕ) (e : Entry) (es : List Entry) (r : List ℕ) → ending v at (e ∷ es) ≡ at + length r → (body_length v e ≤ length r) × (ending v (at + body_length v e) es ≡ at + body_length v e + length (drop (body_length v e) r))
rest_ends v at e es r h =
    let le = ending_le v (at + body_length v e) es in
    let n = length-drop (body_length v e) r in
    (omega arith, omega arith)

flat_cut : (v at : ℕ) (es : List Entry) (r : List ℕ) → ending v at es ≡ at + length r → flat (cut v es r) ≡ r
flat_cut v at [] r h = sym (nil_from_length r (omega arith))
flat_cut v at (e ∷ es) r h =
    let p = rest_ends v at e es r h in
    ap (λ zs. take (body_length v e) r ++ zs) (flat_cut v (at + body_length v e) es (drop (body_length v e) r) p.1) ∙ take-append-drop (body_length v e) r

laid_cut : (v j at : ℕ) (es : List Entry) (r : List ℕ) → AllByRecursion (λ (e : Entry). e.start < 2 ^ 32) es → entries_fault v j at es ≡ None → ending v at es ≡ at + length r → Laid v at es (cut v es r)
laid_cut v j at [] r s f h = tt
laid_cut v j at (e ∷ es) r s f h =
    let p = rest_ends v at e es r h in
    let q = entries_right v j at e es f in
    let n = length-take (body_length v e) r in let m = p.0 in
    (right_from v at e q.0 s.0, omega arith, laid_cut v (j + 1) (at + body_length v e) es (drop (body_length v e) r) s.1 q.1 p.1)

-- A file with no fault has a layout

directory_whole : (bs : List ℕ) (from v t : ℕ) → directory_fault bs from v t ≡ None
    → (from + 8 * t ≤ length bs) × (entries_fault v 0 (from + 8 * t) (entries_from bs from t) ≡ None) × (ending v (from + 8 * t) (entries_from bs from t) ≡ length bs)
directory_whole bs from v t h =
    let last = refused_if (not (eqb (ending v (from + 8 * t) (entries_from bs from t)) (length bs))) (10, []) in
    let a = both_none (refused_if (ltb (length bs) (from + 8 * t)) (7, [])) (or_else (entries_fault v 0 (from + 8 * t) (entries_from bs from t)) last) h in
    let b = both_none (entries_fault v 0 (from + 8 * t) (entries_from bs from t)) last a.1 in
    (long (length bs) (from + 8 * t) a.0, b.0, eqb-true _ _ (refused_none (eqb (ending v (from + 8 * t) (entries_from bs from t)) (length bs)) (10, []) b.1))
  where
    long : (n m : ℕ) → refused_if (ltb n m) (7, []) ≡ None → m ≤ n
    long n m h = grind (arith, nat_tests)

head_whole : (bs : List ℕ) → head_fault bs ≡ None → (4 ≤ length bs) × (get_or bs 0 0 ≡ 1) × (get_or bs 2 0 ≡ 0) × (get_or bs 3 0 ≡ 0)
head_whole bs h =
    let a = both_none (refused_if (ltb (length bs) 4) (7, [])) (refused_if (not (marked bs)) (8, [])) h in
    let m = refused_none (marked bs) (8, []) a.1 in
    let p = and_parts (eqb (get_or bs 0 0) 1) (eqb (get_or bs 2 0) 0 && eqb (get_or bs 3 0) 0) m in
    let q = and_parts (eqb (get_or bs 2 0) 0) (eqb (get_or bs 3 0) 0) p.1 in
    (long (length bs) a.0, eqb-true _ _ p.0, eqb-true _ _ q.0, eqb-true _ _ q.1)
  where
    long : (n : ℕ) → refused_if (ltb n 4) (7, []) ≡ None → 4 ≤ n
    long n h = grind (arith, nat_tests)

abbrev pub entries_in : List ℕ → List Entry
entries_in bs = entries_from bs (directory_at (dims_in bs)) (total_chunks (dims_in bs))

abbrev pub bodies_in : List ℕ → List (List ℕ)
bodies_in bs = cut (volume (dims_in bs)) (entries_in bs) (drop (bodies_at (dims_in bs)) bs)

pub layout_from : (bs : List ℕ) → Bytes bs → file_fault bs ≡ None → Layout bs (dims_in bs) (entries_in bs) (bodies_in bs)
unfolding file_fault
layout_from bs small h =
    let ds = dims_in bs in let n = get_or bs 1 0 in let v = volume ds in let t = total_chunks ds in
    let a = both_none (head_fault bs) (or_else (sizes_fault n (length bs - 4)) (or_else (shape_fault ds) (directory_fault bs (4 + 8 * n) v t))) h in
    let b = both_none (sizes_fault n (length bs - 4)) (or_else (shape_fault ds) (directory_fault bs (4 + 8 * n) v t)) a.1 in
    let c = both_none (shape_fault ds) (directory_fault bs (4 + 8 * n) v t) b.1 in
    let p = head_whole bs a.0 in
    let nl : length ds ≡ n = length-dims bs 4 n in
    let d = directory_whole bs (directory_at ds) v t (ap (λ k. directory_fault bs (4 + 8 * k) v t) nl ∙ c.1) in
    let long = d.0 in
    let es = entries_in bs in
    let r = drop (bodies_at ds) bs in
    let rl = length-drop (bodies_at ds) bs in
    let ends : ending v (bodies_at ds) es ≡ bodies_at ds + length r = d.2 ∙ omega arith in
    let el : length es ≡ t = length-map-range_with_len (λ j. entry_at bs (directory_at ds + 8 * j)) 0 t in
    let no_entry : Entry = record { start = 0; count = 0; kind = 0; spare = 0 } in
    let short : AllByRecursion (λ (e : Entry). e.start < 2 ^ 32) es =
    All-from_get_or (λ (e : Entry). e.start < 2 ^ 32) es no_entry
    (λ j l. subst (λ (e : Entry). e.start < 2 ^ 32) (sym (get_or-map-range_with_len (λ j. entry_at bs (directory_at ds + 8 * j)) 0 t j j no_entry (omega arith) (omega arith))) (word_short bs small (directory_at ds + 8 * j))) in
    let mark : take 4 bs ≡ 1 ∷ length ds ∷ 0 ∷ 0 ∷ [] = take_4 bs 0 p.0 ∙ (λ i. p.1 i ∷ sym nl i ∷ p.2 i ∷ p.3 i ∷ []) in
    let sizes : flat_map dim_bytes ds ≡ take (8 * length ds) (drop 4 bs) =
    records_spelled dim_bytes dim_at 8 bs (dim_spelled bs small) 4 n (omega arith) ∙ ap (λ k. take (8 * k) (drop 4 bs)) (sym nl) in
    let head : header_bytes ds ≡ take (directory_at ds) bs = (λ i. sym mark i ++ sizes i) ∙ take_split bs 4 (8 * length ds) in
    let dir : flat_map entry_bytes es ≡ take (8 * t) (drop (directory_at ds) bs) = records_spelled entry_bytes entry_at 8 bs (entry_spelled bs small) (directory_at ds) t (omega arith) in
    record {
      limits = limits_from ds c.0;
      made = sym ((λ i. head i ++ (dir i ++ flat_cut v (bodies_at ds) es r ends i))
          ∙ (sym (append_assoc (take (directory_at ds) bs) (take (8 * t) (drop (directory_at ds) bs)) r)
          ∙ (ap (λ zs. zs ++ r) (take_split bs (directory_at ds) (8 * t)) ∙ take-append-drop (bodies_at ds) bs)));
      each_entry = el;
      each_body = length_cut v es r ∙ el;
      laid = laid_cut v 0 (bodies_at ds) es r short d.1 ends;
    }

-- What has a layout has no fault

from_laid : (v j at : ℕ) (es : List Entry) (bodies : List (List ℕ)) → Laid v at es bodies → (entries_fault v j at es ≡ None) × (ending v at es ≡ at + length (flat bodies))
from_laid v j at [] [] l = (refl, omega arith)
from_laid v j at [] (b ∷ bodies) l = absurd l
from_laid v j at (e ∷ es) [] l = absurd l
from_laid v j at (e ∷ es) (b ∷ bodies) l =
    let ih = from_laid v (j + 1) (at + body_length v e) es bodies l.2 in
    let n = length-append b (flat bodies) in
    let m = l.1 in
    let q = ih.1 in
    (ap (λ b. or_else (refused_if (not b) (9, j ∷ [])) (entries_fault v (j + 1) (at + body_length v e) es)) (from_right v at e l.0) ∙ ih.0, omega arith)

short_entries : (v at : ℕ) (es : List Entry) (bodies : List (List ℕ)) → v ≤ 16384 → Laid v at es bodies → AllByRecursion ShortEntry es
short_entries v at [] bodies s l = tt
short_entries v at (e ∷ es) [] s l = absurd l
short_entries v at (e ∷ es) (b ∷ bodies) s l =
    let c = l.0.counts in ((l.0.short, omega arith), short_entries v (at + body_length v e) es bodies s l.2)

short_dims : (ds : List Dim) → AllByRecursion Fit ds → AllByRecursion ShortDim ds
short_dims [] f = tt
short_dims (d ∷ ds) f = let a = f.0.1 in let b = f.0.3 in ((omega arith, omega arith), short_dims ds f.1)

-- each body stands where its entry says
body_there : (v at : ℕ) (es : List Entry) (bodies : List (List ℕ)) (pre : List ℕ) (j : ℕ) (d : Entry) → Laid v at es bodies → length pre ≡ at → j < length es → body_of (pre ++ flat bodies) v (get_or es j d) ≡ get_or bodies j []
body_there v at [] bodies pre j d l e g = let z : ⊥ = omega arith in absurd z
body_there v at (x ∷ es) [] pre j d l e g = absurd l
body_there v at (x ∷ es) (b ∷ bodies) pre zero d l e g =
    ap (take (body_length v x)) (drop_at pre (b ++ flat bodies) x.start (e ∙ sym l.0.starts)) ∙ take_at b (flat bodies) (body_length v x) l.1
body_there v at (x ∷ es) (b ∷ bodies) pre (suc j) d l e g =
    let n = length-append pre b in let m = l.1 in
    ap (λ zs. body_of zs v (get_or es j d)) (sym (append_assoc pre b (flat bodies)))
    ∙ body_there v (at + body_length v x) es bodies (pre ++ b) j d l.2 (omega arith) (omega arith)

pub length_header : (ds : List Dim) → length (header_bytes ds) ≡ directory_at ds
length_header ds = let a = length_records dim_bytes dim_at 8 ShortDim (λ x. refl) dim_back ds in omega arith

pub length_directory : (es : List Entry) → length (flat_map entry_bytes es) ≡ 8 * length es
length_directory es = length_records entry_bytes entry_at 8 ShortEntry (λ x. refl) entry_back es

none_all : (bs : List ℕ) → head_fault bs ≡ None → sizes_fault (get_or bs 1 0) (length bs - 4) ≡ None → shape_fault (dims_in bs) ≡ None → directory_fault bs (4 + 8 * get_or bs 1 0) (volume (dims_in bs)) (total_chunks (dims_in bs)) ≡ None → file_fault bs ≡ None
unfolding file_fault
none_all bs h s f d = λ i. or_else (h i) (or_else (s i) (or_else (f i) (d i)))

module _ (ds : List Dim) (es : List Entry) (bodies : List (List ℕ)) (limits : Limits ds) (each : length es ≡ total_chunks ds) (laid : Laid (volume ds) (bodies_at ds) es bodies) where
  abbrev file : List ℕ
  file = file_of ds es bodies

  length_front : length (header_bytes ds ++ flat_map entry_bytes es) ≡ bodies_at ds
  length_front = let a = length-append (header_bytes ds) (flat_map entry_bytes es) in let b = length_header ds in let c = length_directory es in omega arith

  regroup : file ≡ (header_bytes ds ++ flat_map entry_bytes es) ++ flat bodies
  regroup = sym (append_assoc (header_bytes ds) (flat_map entry_bytes es) (flat bodies))

  length_file : length file ≡ bodies_at ds + length (flat bodies)
  length_file = ap length regroup ∙ (length-append (header_bytes ds ++ flat_map entry_bytes es) (flat bodies) ∙ ap (λ n. n + length (flat bodies)) length_front)

  dims_there : dims_in file ≡ ds
  dims_there =
      (λ i. dims_from (append_assoc (1 ∷ length ds ∷ 0 ∷ 0 ∷ []) (flat_map dim_bytes ds) (flat_map entry_bytes es ++ flat bodies) i) 4 (length ds))
      ∙ records_back dim_bytes dim_at 8 ShortDim (λ x. refl) dim_back ds (1 ∷ length ds ∷ 0 ∷ 0 ∷ []) (flat_map entry_bytes es ++ flat bodies) 4 none_dim (short_dims ds limits.each) refl

  short : AllByRecursion ShortEntry es
  short = short_entries (volume ds) (bodies_at ds) es bodies limits.small_chunk laid

  entry_there : (j : ℕ) (d : Entry) → j < length es → entry_at file (directory_at ds + 8 * j) ≡ get_or es j d
  entry_there j d l = record_at entry_bytes entry_at 8 ShortEntry (λ x. refl) entry_back es (header_bytes ds) (flat bodies) (directory_at ds) j d short (length_header ds) l

  entries_there : entries_from file (directory_at ds) (total_chunks ds) ≡ es
  entries_there =
      ap (entries_from file (directory_at ds)) (sym each)
      ∙ records_back entry_bytes entry_at 8 ShortEntry (λ x. refl) entry_back es (header_bytes ds) (flat bodies) (directory_at ds) (record { start = 0; count = 0; kind = 0; spare = 0 }) short (length_header ds)

  shaped : shape_fault (dims_in file) ≡ None
  shaped = ap shape_fault dims_there ∙ limits_fault ds limits

  pub laid_dims : file_dims file ≡ ds
  laid_dims = dims_kept file shaped ∙ dims_there

  directory_fine : directory_fault file (directory_at ds) (volume ds) (total_chunks ds) ≡ None
  directory_fine =
      let v = volume ds in
      let w = from_laid v 0 (bodies_at ds) es bodies laid in
      let f : entries_fault v 0 (bodies_at ds) (entries_from file (directory_at ds) (total_chunks ds)) ≡ None = ap (entries_fault v 0 (bodies_at ds)) entries_there ∙ w.0 in
      let e : ending v (bodies_at ds) (entries_from file (directory_at ds) (total_chunks ds)) ≡ length file = ap (ending v (bodies_at ds)) entries_there ∙ (w.1 ∙ sym length_file) in
      let long = length_file in
      directory_long file (directory_at ds) v (total_chunks ds) (omega arith)
      ∙ (λ i. or_else (f i) (refused_if (not (eq-eqb _ _ e i)) (10, [])))

  pub laid_fine : file_fault file ≡ None
  laid_fine =
      let long = length_file in let a = limits.some_dims in let b = limits.few_dims in
      let four : 4 ≤ length file = omega arith in
      none_all file (ap (λ b. or_else (refused_if b (7, [])) None) (le-ltb (length file) 4 four))
      (sizes_whole (length ds) (length file - 4) a b (omega arith)) shaped
      ((λ i. directory_fault file (directory_at ds) (volume (dims_there i)) (total_chunks (dims_there i))) ∙ directory_fine)

  pub laid_readings : (j : ℕ) (d : Entry) → j < total_chunks ds → readings file j ≡ body (volume ds) (get_or es j d) (get_or bodies j [])
  unfolding readings
  laid_readings j d l =
      let e : entry_of file j ≡ get_or es j d = (λ i. entry_at file (directory_at (laid_dims i) + 8 * j)) ∙ entry_there j d (omega arith) in
      (λ i. body (volume (laid_dims i)) (e i) (body_of (regroup i) (volume (laid_dims i)) (e i)))
      ∙ ap (body (volume ds) (get_or es j d)) (body_there (volume ds) (bodies_at ds) es bodies (header_bytes ds ++ flat_map entry_bytes es) j d laid length_front (omega arith))

-- the same of any bytes with a layout
module _ (bs : List ℕ) (ds : List Dim) (es : List Entry) (bodies : List (List ℕ)) (l : Layout bs ds es bodies) where
  pub from_layout : file_fault bs ≡ None
  from_layout = ap file_fault l.made ∙ laid_fine ds es bodies l.limits l.each_entry l.laid

  pub layout_tells : Tells bs ds es bodies
  layout_tells = record {
    dims = ap file_dims l.made ∙ laid_dims ds es bodies l.limits l.each_entry l.laid;
    chunks = λ j e h. ap (λ bs. readings bs j) l.made ∙ laid_readings ds es bodies l.limits l.each_entry l.laid j e h;
  }

abbrev pub HasLayout : List ℕ → Type 0
HasLayout bs = (ds : List Dim) × (es : List Entry) × (bodies : List (List ℕ)) × Layout bs ds es bodies

-- what the check's answer says of the layout
pub layout_found : (bs : List ℕ) → Bytes bs → file_fault bs ≡ None → Decides true (HasLayout bs)
layout_found bs small h = ((λ _. (dims_in bs, entries_in bs, bodies_in bs, layout_from bs small h)), λ _. refl)

pub layout_missed : {S E : Type 0} (r : Result S E) (e : E) (bs : List ℕ) (x : Refusal) → r ≡ Err e → file_fault bs ≡ Some x → Decides (is_ok r) (HasLayout bs)
layout_missed r e bs x is h = (
  (λ z. absurd (false≢true (ap is_ok (sym is) ∙ z))),
  (λ l. let n = from_layout bs l.0 l.1 l.2 l.3 in let z : ◌≡◌ {A = ℕ} 0 1 = cc in absurd (omega arith)),
)
