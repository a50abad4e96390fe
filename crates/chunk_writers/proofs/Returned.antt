-- What was written, once it is told. Assumes nothing.
use Rattle.std.proofs.Common.{◌≡◌, ℕ, ◌≤◌, ◌⊎◌, List, [], length, take, drop, IfOk, Some, None, Ok, Err, Option, Result, sym, refl, ap, ◌∙◌, subst, inl, inr, arith}
use Rattle.std.proofs.lemmas.List.{take_at}
use Rattle.std.proofs.lemmas.Bool.Decides.{nat_tests}
use Rattle.shapes.specs.declared.dims.Dim.{Dim}
use Rattle.shapes.specs.declared.shape.Shape.{Shape}
use Rattle.shapes.specs.Limits.{Limits}
use Rattle.shapes.specs.Views.{dims_of}
use Rattle.shapes.proofs.Held.{limits}
use Rattle.sources.specs.declared.rows.Row.{Row}
use Rattle.sources.specs.Rows.{first_outside}
use Rattle.chunk_writers.specs.declared.refusals.WriteRefusal.{WriteRefusal}
use Rattle.chunk_writers.specs.declared.refusals.WriteRefusal.TheVariants.{Memory}
use Rattle.chunk_writers.specs.Written.{file_bytes, in_chunks}
use Rattle.chunk_writers.specs.Answers.{first_twice, room_answer, twice_answer, range_answer, write_answer, bytes_after}
use Rattle.chunk_writers.specs.Trips.{ReadBack, WrittenOf}
use Rattle.chunk_writers.proofs.Answered.{in_range_from}
use Rattle.chunk_writers.proofs.Trips.{read_back}

answered : (o p : Option ℕ) (x : Result ℕ WriteRefusal) (n : ℕ) → Ok n ≡ range_answer o (twice_answer p x) → (o ≡ None) × (p ≡ None) × (Ok n ≡ x)
answered None None x n h = (refl, refl, h)
answered None (Some i) x n h = absurd (cc)
answered (Some i) p x n h = absurd (cc)

granted : (size room n : ℕ) → Ok n ≡ room_answer size room → (n ≡ size) × (size ≤ 4294967295) × (size ≤ room)
granted size room n h = (grind (arith, nat_tests), grind (arith, nat_tests), grind (arith, nat_tests))

-- where the answer is a number of bytes: no row is out of range or on a taken cell, and the file has so many bytes, which are not too many
pub write_granted : (ds : List Dim) (rows : List Row) (room n : ℕ) → Ok n ≡ write_answer ds rows room → (first_outside ds 0 rows ≡ None) × (first_twice ds 0 [] rows ≡ None) × (n ≡ length (file_bytes ds (in_chunks ds rows))) × (length (file_bytes ds (in_chunks ds rows)) ≤ 4294967295)
write_granted ds rows room n h =
    let a = answered (first_outside ds 0 rows) (first_twice ds 0 [] rows) (room_answer (length (file_bytes ds (in_chunks ds rows))) room) n h in
    let b = granted (length (file_bytes ds (in_chunks ds rows))) room n a.2 in
    (a.0, a.1, b.0, b.1)

pub granted_back : (ds : List Dim) → Limits ds → (rows : List Row) (room n : ℕ) → Ok n ≡ write_answer ds rows room → ReadBack ds rows (file_bytes ds (in_chunks ds rows))
granted_back ds lim rows room n h =
    let g = write_granted ds rows room n h in
    read_back ds lim rows (in_range_from ds 0 rows g.0) g.3

module _ (s : Shape) (rows : List Row) (out out' : List ℕ) (room n : ℕ) (h : Ok n ≡ write_answer (dims_of s) rows room) (b : out' ≡ bytes_after (dims_of s) rows out (Ok n)) where
  front : take n out' ≡ file_bytes (dims_of s) (in_chunks (dims_of s) rows)
  front = ap (take n) b ∙ take_at (file_bytes (dims_of s) (in_chunks (dims_of s) rows)) (drop (length (file_bytes (dims_of s) (in_chunks (dims_of s) rows))) out) n (sym (write_granted (dims_of s) rows room n h).2)

  trip_there : ReadBack (dims_of s) rows (take n out')
  trip_there = subst (ReadBack (dims_of s) rows) (sym front) (granted_back (dims_of s) (limits s) rows room n h)

  written_there : WrittenOf (dims_of s) rows (take n out')
  written_there = record { room = room; answers = ap Ok (ap length front ∙ sym (write_granted (dims_of s) rows room n h).2) ∙ h; bytes = front }

abbrev Told : Shape → List Row → ℕ → Result ℕ WriteRefusal → Type 0
Told s rows room r = (r ≡ write_answer (dims_of s) rows room) ⊎ ((r ≡ Err Memory) × (first_outside (dims_of s) 0 rows ≡ None))

pub written_trip : (s : Shape) (rows : List Row) (out out' : List ℕ) (room : ℕ) (r : Result ℕ WriteRefusal) → Told s rows room r → out' ≡ bytes_after (dims_of s) rows out r → IfOk r (λ n. ReadBack (dims_of s) rows (take n out'))
written_trip s rows out out' room (Err e) h b = tt
written_trip s rows out out' room (Ok n) (inr h) b = let e = h.0 in absurd (cc)
written_trip s rows out out' room (Ok n) (inl h) b = trip_there s rows out out' room n h b

pub written_is : (s : Shape) (rows : List Row) (out out' : List ℕ) (room : ℕ) (r : Result ℕ WriteRefusal) → Told s rows room r → out' ≡ bytes_after (dims_of s) rows out r → IfOk r (λ n. WrittenOf (dims_of s) rows (take n out'))
written_is s rows out out' room (Err e) h b = tt
written_is s rows out out' room (Ok n) (inr h) b = let e = h.0 in absurd (cc)
written_is s rows out out' room (Ok n) (inl h) b = written_there s rows out out' room n h b
