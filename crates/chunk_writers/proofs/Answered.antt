-- What a write answers and leaves. Assumes nothing.
use Rattle.std.proofs.Common.{◌≡◌, ℕ, zero, suc, ◌+◌, ◌<◌, ◌≤◌, Bool, true, false, cond, List, [], ◌∷◌, ◌++◌, length, drop, Some, None, Ok, Err, Option, sym, refl, ap, ◌∙◌, arith}
use Rattle.std.specs.List.Sorted.{IsPermutation}
use Rattle.std.specs.List.{flat_map, AllByRecursion}
use Rattle.std.proofs.lemmas.List.{append_assoc, length-append}
use Rattle.std.proofs.lemmas.Bool.Decides.{nat_tests}
use Rattle.shapes.specs.declared.dims.Dim.{Dim}
use Rattle.shapes.specs.Arrays.{volume, total_chunks}
use Rattle.shapes.specs.Limits.{Fit}
use Rattle.sources.specs.declared.rows.Row.{Row}
use Rattle.sources.specs.Rows.{in_range, first_outside, refuse_row}
use Rattle.chunk_files.specs.Layouts.{header_bytes, entry_bytes, directory_at, bodies_at}
use Rattle.chunk_writers.specs.declared.keys.Key.{Key}
use Rattle.chunk_writers.specs.declared.refusals.WriteRefusal.TheVariants.{Twice}
use Rattle.chunk_writers.specs.Keys.{row_at, InRange, all_keys, Ordered, Keyed, Repeated}
use Rattle.chunk_writers.specs.Written.{put, file_bytes, entries_of, in_chunks}
use Rattle.chunk_writers.specs.Answers.{first_twice, room_answer, twice_answer, range_answer, write_answer}
use Rattle.chunk_writers.proofs.Filed.{length_directory, length_file, all_bodies}
use Rattle.chunk_writers.proofs.Putting.{put_then}
use Rattle.chunk_writers.proofs.Twice.{no_twice, one_twice, keyed}
use Rattle.chunk_files.proofs.Formed.{length_header}

pub room_granted : (n room : ℕ) → room_answer n room ≡ Ok n → (n ≤ 4294967295) × (n ≤ room)
room_granted n room h = (grind (arith, nat_tests), grind (arith, nat_tests))

-- rows that pass the check are in range
pub in_range_from : (ds : List Dim) (i : ℕ) (rows : List Row) → first_outside ds i rows ≡ None → InRange ds rows
in_range_from ds i [] h k l = absurd (omega arith)
in_range_from ds i (r ∷ rows) h k l = go (in_range ds r) refl k l (λ e. in_range_from ds (i + 1) rows e)
  where
    skip : in_range ds r ≡ true → first_outside ds (i + 1) rows ≡ None
    skip e = sym (ap (λ b. cond b (first_outside ds (i + 1) rows) (Some i)) e) ∙ h

    go : (b : Bool) → in_range ds r ≡ b → (k : ℕ) → k < length (r ∷ rows) → (first_outside ds (i + 1) rows ≡ None → InRange ds rows) → in_range ds (row_at (r ∷ rows) k) ≡ true
    go true e zero l ih = e
    go true e (suc k) l ih = ih (skip e) k (omega arith)
    go false e k l ih =
        let s : Some i ≡ None = sym (ap (λ b. cond b (first_outside ds (i + 1) rows) (Some i)) e) ∙ h in
        absurd (cc)

pub rows_passed : (o : Option ℕ) → Ok tt ≡ refuse_row o → o ≡ None
rows_passed None h = refl
rows_passed (Some i) h = absurd (cc)

-- the parts of a file, one after another
pub put_file : (ds : List Dim) (css : List (List (Option ℕ))) (b₀ b₁ b₂ b₃ : List ℕ) → length css ≡ total_chunks ds → length (file_bytes ds css) ≤ length b₀
    → b₁ ≡ put b₀ 0 (header_bytes ds) → b₂ ≡ put b₁ (directory_at ds) (flat_map entry_bytes (entries_of (volume ds) (bodies_at ds) css)) → b₃ ≡ put b₂ (bodies_at ds) (all_bodies (volume ds) css)
    → b₃ ≡ file_bytes ds css ++ drop (length (file_bytes ds css)) b₀
unfolding file_bytes
put_file ds css b₀ b₁ b₂ b₃ e l p q r =
    let H = header_bytes ds in
    let D = flat_map entry_bytes (entries_of (volume ds) (bodies_at ds) css) in
    let B = all_bodies (volume ds) css in
    let h = length_header ds in
    let d = length_directory ds css e in
    let f = length_file ds css e in
    let a = length-append H D in
    let s = put_then b₀ b₁ b₂ 0 (directory_at ds) H D p q (omega arith) (omega arith) in
    let z : 0 + length (file_bytes ds css) ≡ length (file_bytes ds css) = omega arith in
    put_then b₀ b₂ b₃ 0 (bodies_at ds) (H ++ D) B s r (omega arith) (omega arith)
    ∙ ap (put b₀ 0) (append_assoc H D B)
    ∙ ap (λ n. file_bytes ds css ++ drop n b₀) z

-- rows in range, and their keys in order
module _ (ds : List Dim) (fit : AllByRecursion Fit ds) (rows : List Row) (ks : List Key) (none : first_outside ds 0 rows ≡ None) (sorted : IsPermutation (all_keys ds rows) ks × Ordered ks) (room : ℕ) where
  ranged : InRange ds rows
  ranged = in_range_from ds 0 rows none

  begins : (o : Option ℕ) → first_twice ds 0 [] rows ≡ o → write_answer ds rows room ≡ twice_answer o (room_answer (length (file_bytes ds (in_chunks ds rows))) room)
  begins o e = λ i. range_answer (none i) (twice_answer (e i) (room_answer (length (file_bytes ds (in_chunks ds rows))) room))

  pub refused_twice : (m : ℕ) → Repeated ks (Some m) → write_answer ds rows room ≡ Err (Twice m)
  refused_twice m R = begins (Some m) (one_twice ds fit rows ks ranged sorted.0 sorted.1 m R)

  pub none_twice : Repeated ks None → write_answer ds rows room ≡ room_answer (length (file_bytes ds (in_chunks ds rows))) room
  none_twice R = begins None (no_twice ds fit rows ks ranged sorted.0 sorted.1 R)

  pub sound : Repeated ks None → Keyed ds rows ks
  sound R = keyed ds fit rows ks ranged sorted.0 sorted.1 R
