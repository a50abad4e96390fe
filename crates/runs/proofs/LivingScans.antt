-- What the plan's scan and the facts of a run's state say of its life: where the chunks are stored, which blocks are there, and when all is done.
use Rattle.std.proofs.Common.{◌≡◌, ℕ, suc, ◌+◌, ◌<◌, ◌≤◌, true, not, eqb, ◌↔◌, List, ◌++◌, map, length, get_or, sym, ap, ◌∙◌, subst, arith}
use Rattle.std.proofs.ByRecursion.{All-get_or}
use Rattle.std.proofs.lemmas.List.{length-append, length-map, get_or-map}
use Rattle.std.proofs.lemmas.Bool.{ltb-false, le-ltb, eqb-true, eq-eqb, and_parts, and_from, not-true, not_from_false}
use Rattle.shapes.specs.declared.dims.Dim.{Dim}
use Rattle.shapes.specs.Arrays.{Below, volume, number, digits, edges, counts, chunks, total_chunks, groups, none_dim}
use Rattle.shapes.specs.Limits.{Limits, Fit}
use Rattle.shapes.specs.Views.{dims_of}
use Rattle.shapes.proofs.Numbering.{number_below, digits_below, number_digits, digits_number}
use Rattle.cubes.specs.Scans.{scan_number}
use Rattle.cubes.specs.Handing.{Block, Distinct, named, released, released_by, handing, block_count}
use Rattle.cubes.proofs.Handing.{released_first}
use Rattle.cubes.proofs.Naming.{named_once}
use Rattle.cubes.proofs.ScanNumbers.{scan_digits_below, scan_of_digits, digits_of_scan, scan_below}
use Rattle.runs.specs.declared.state.State.{State}
use Rattle.runs.specs.Planned.{places_of, adds_of, handing_order, released_after, scanned_chunk, scanned_storage, block_size}
use Rattle.runs.specs.Answers.{done, passed, waits}
use Rattle.runs.specs.Holdings.{state_view}
use Rattle.runs.proofs.PlannedScans.{order_is, planned_scan, released_is}
use Rattle.runs.proofs.FromState.{controls_in}
use Rattle.runs.proofs.Stepping.{done_all}
use Rattle.runs.proofs.Filling.{product_radix_le}

-- the scan number of the chunk with a storage number
unfoldable pub scan_of : List Dim → ℕ → ℕ
scan_of ds k = scan_number (places_of ds) (counts ds) (digits (counts ds) k)

module _ (ds : List Dim) (l : Limits ds) where
  long : length (counts ds) ≡ length ds
  long = length-map ds chunks

  inside : (i : ℕ) → i < length (counts ds) → places_of ds i < suc (length (counts ds))
  inside i m = rw long (omega (arith, (order_is ds l).within i (rw long at m)))

  separate : (i j : ℕ) → i < length (counts ds) → j < length (counts ds) → places_of ds i ≡ places_of ds j → i ≡ j
  separate i j mi mj q = (order_is ds l).distinct i j (rw long at mi) (rw long at mj) q

  -- a scan number below T is that of a chunk
  pub chunk_below : (s : ℕ) → s < total_chunks ds → Below (counts ds) (scanned_chunk ds s)
  unfolding scanned_chunk
  chunk_below s m = scan_digits_below (places_of ds) (counts ds) separate inside s m

  pub storage_below : (s : ℕ) → s < total_chunks ds → scanned_storage ds s < total_chunks ds
  storage_below s m = number_below (counts ds) (scanned_chunk ds s) (chunk_below s m)

  -- the chunk with a storage number below T, and its scan number
  pub scan_of_below : (k : ℕ) → k < total_chunks ds → scan_of ds k < total_chunks ds
  unfolding scan_of
  scan_of_below k m = scan_below (places_of ds) (counts ds) separate inside (digits (counts ds) k) (digits_below (counts ds) k m)

  pub scan_of_storage : (s : ℕ) → s < total_chunks ds → scan_of ds (scanned_storage ds s) ≡ s
  unfolding scan_of scanned_chunk
  scan_of_storage s m = ap (scan_number (places_of ds) (counts ds)) (digits_number (counts ds) (scanned_chunk ds s) (chunk_below s m))
      ∙ scan_of_digits (places_of ds) (counts ds) separate inside s m

  pub storage_of_scan : (k : ℕ) → k < total_chunks ds → scanned_storage ds (scan_of ds k) ≡ k
  unfolding scan_of scanned_chunk
  storage_of_scan k m = ap (number (counts ds)) (digits_of_scan (places_of ds) (counts ds) separate inside (digits (counts ds) k) (digits_below (counts ds) k m))
      ∙ number_digits (counts ds) k m

  -- no two blocks of the handing order have one name
  pub blocks_once : Distinct (map (named ds) (handing_order ds))
  unfolding handing_order
  blocks_once = named_once ds (places_of ds) (adds_of ds) (groups (length ds)) (planned_scan ds l)

-- the blocks that are released are among those of the handing order
pub released_few : (ds : List Dim) (t : ℕ) → t ≤ total_chunks ds → released_after ds t ≤ length (handing_order ds)
unfolding released_after handing_order
released_few ds t m = front (released_first ds (places_of ds) (adds_of ds) (groups (length ds)) t m)
  where
    all : List Block
    all = released_by ds (places_of ds) (adds_of ds) (groups (length ds)) t

    front : ((rest : List Block) × (handing ds (places_of ds) (adds_of ds) (groups (length ds)) ≡ all ++ rest)) → length all ≤ length (handing ds (places_of ds) (adds_of ds) (groups (length ds)))
    front (rest, e) = omega (arith, ap length e, length-append all rest)

-- no block has more cells than a chunk
pub block_fits : (ds : List Dim) → Limits ds → (b : Block) → block_size ds b ≤ volume ds
block_fits ds limits b = (product_radix_le b.of (edges ds) (λ i l. some i (rw (length-map ds (λ (d : Dim). d.edge)) at l))).1 where
  some : (i : ℕ) → i < length ds → 0 < get_or (edges ds) i 1
  some i l = omega (arith, get_or-map (λ (d : Dim). d.edge) ds i none_dim 1 l, (All-get_or Fit ds i none_dim l limits.each).2)

module _ (s : State) (lent : ℕ) where
  abbrev ds : List Dim
  ds = dims_of s.shape

  pub passed_within : passed (state_view s lent) ≤ total_chunks ds
  passed_within = omega (arith, s.passes, s.controls.within)

  abbrev released_now : ℕ
  released_now = released_after ds (passed (state_view s lent))

  same_released : released_now ≡ released ds (places_of ds) (adds_of ds) (groups (length ds)) s.control.passed
  same_released = ap (released_after ds) s.passes ∙ released_is ds s.control.passed

  pub handed_within : s.control.handed ≤ released_now
  handed_within = subst (λ n. s.control.handed ≤ n) (sym same_released) s.controls.until

  -- a block that waits is one of the handing order
  pub waiting_among : s.control.handed < released_now → s.control.handed < length (handing_order ds)
  waiting_among h = omega (arith, released_few ds (passed (state_view s lent)) passed_within)

  both_done : (done (state_view s lent) ≡ true)
      ↔ ((s.control.passed ≡ total_chunks ds) × (s.control.handed ≡ released ds (places_of ds) (adds_of ds) (groups (length ds)) s.control.passed))
  both_done = (
    λ h. let p = and_parts (eqb (passed (state_view s lent)) (total_chunks ds)) (not (waits (state_view s lent))) h in (
      sym s.passes ∙ eqb-true (passed (state_view s lent)) (total_chunks ds) p.0,
      omega (arith, ltb-false s.control.handed released_now (not-true (waits (state_view s lent)) p.1), handed_within) ∙ same_released,
    ),
    λ p. and_from (eqb (passed (state_view s lent)) (total_chunks ds)) (not (waits (state_view s lent)))
        (eq-eqb (passed (state_view s lent)) (total_chunks ds) (s.passes ∙ p.0))
        (not_from_false (waits (state_view s lent)) (le-ltb s.control.handed released_now (omega (arith, p.1, same_released)))),
  )

  -- done: all chunks and all blocks
  pub done_counts : (done (state_view s lent) ≡ true) ↔ (s.taken + s.skipped + s.control.handed ≡ total_chunks ds + block_count ds)
  done_counts =
      let all = done_all ds (places_of ds) (adds_of ds) s.control (controls_in s) (done (state_view s lent)) both_done in
      (λ h. ap (λ n. n + s.control.handed) s.passes ∙ all.0 h, λ h. all.1 (ap (λ n. n + s.control.handed) (sym s.passes) ∙ h))
