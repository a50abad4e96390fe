-- What the cells hold at the start, and after a chunk was passed.
use Rattle.std.proofs.Common.{◌≡◌, ℕ, suc, ◌+◌, ◌-◌, ◌^◌, ◌<◌, ◌≤◌, true, List, ◌++◌, length, drop, replicate, sym, ap, ◌∙◌, subst, zero-add, arith}
use Rattle.std.specs.List.{ContainsAt as Has}
use Rattle.std.proofs.lemmas.List.{length-map, length-replicate}
use Rattle.std.proofs.lemmas.Nat.{pow_pos}
use Rattle.std.proofs.lemmas.Bool.{ltb-true, ltb-false}
use Rattle.shapes.specs.declared.dims.Dim.{Dim}
use Rattle.shapes.specs.Arrays.{Below, volume, counts, chunks, total_chunks, group, groups, root}
use Rattle.shapes.specs.Limits.{Limits}
use Rattle.shapes.proofs.Masks.{length-group}
use Rattle.measures.specs.Laws.{Lawful}
use Rattle.sources.specs.Meanings.{Chunk, sized_chunk, cells_of}
use Rattle.plans.specs.Plans.{need}
use Rattle.cubes.specs.Meanings.{meaning}
use Rattle.cubes.specs.Summaries.{Divided}
use Rattle.cubes.specs.Scans.{scan_digits}
use Rattle.cubes.specs.Handing.{released}
use Rattle.cubes.proofs.Cells.{radix_all}
use Rattle.cubes.proofs.Groups.{groups_have, limits_edged}
use Rattle.cubes.proofs.Naming.{block_within}
use Rattle.cubes.proofs.Reaching.{released_more}
use Rattle.runs.specs.Boxes.{emptied}
use Rattle.runs.specs.Contents.{CompleteBlock, EmptyRegion}
use Rattle.runs.specs.Layouts.{standing}
use Rattle.runs.specs.Planned.{places_of, adds_of, need_of, released_after, scanned_chunk, scanned_storage}
use Rattle.runs.specs.Holdings.{root_mask}
use Rattle.runs.proofs.BlockSteps.{all_emptied}
use Rattle.runs.proofs.HeldRegions.{held_start, held_kept}
use Rattle.runs.proofs.RootRegion.{filled_others, filled_root, length_fetched}
use Rattle.runs.proofs.PlannedScans.{order_is, planned_scan, need_is, released_is}
use Rattle.runs.proofs.Holding.{Holds}

-- the first cells emptied
pub emptied_front : {M : Type 0} (empty : M) (xs : List M) (n : ℕ) → emptied empty xs 0 n ≡ replicate n empty ++ drop n xs
emptied_front empty xs n = ap (λ z. replicate n empty ++ drop z xs) (zero-add n)

-- the chunk of a scan number has its coordinates below the chunk counts
pub scanned_below : (ds : List Dim) → Limits ds → (s : ℕ) → Below (counts ds) (scanned_chunk ds s)
unfolding scanned_chunk
scanned_below ds limits s =
    let P : List ℕ → Type 0 = λ ks. Below ks (scan_digits (places_of ds) ks s) in
    subst P (radix_all (counts ds) (length ds) (length-map ds chunks))
    (block_within ds (places_of ds) (limits_edged ds limits) (order_is ds limits) (root (length ds)) (length-replicate (length ds) true) s)

-- a chunk more releases its own block at least
pub more_released : (ds : List Dim) → Limits ds → (p : ℕ) → p < total_chunks ds → released_after ds p < released_after ds (p + 1)
more_released ds limits p l =
    let e : suc p ≡ p + 1 = omega arith in
    omega (
      arith,
      released_is ds p,
      released_is ds (p + 1),
      ap (released ds (places_of ds) (adds_of ds) (groups (length ds))) e,
      released_more ds (places_of ds) (adds_of ds) (groups (length ds)) (planned_scan ds limits) p (omega arith),
    )

module _ {M : Type 0} (empty : M) (op : M → M → M) (lawful : Lawful empty op) (ds : List Dim) (limits : Limits ds) (divided : Divided ds) (f : ℕ → Chunk M) where
  has : (k : ℕ) → Has (groups (length ds)) (group (length ds) k)
  has k = groups_have (length ds) (group (length ds) k) (length-group (length ds) k)

  -- nothing was passed, and the planned cells are empty
  pub holds_start : (cells : List M) → need_of ds ≤ length cells → Holds empty op ds f 0 0 (replicate (need_of ds) empty ++ drop (need_of ds) cells)
  holds_start cells enough = record {
    regions = λ k l. held_start empty op lawful (meaning ds f) (places_of ds) (adds_of ds) (groups (length ds)) divided (planned_scan ds limits) k l (has k)
        (replicate (need_of ds) empty ++ drop (need_of ds) cells) (none k (omega arith));
    chunk = λ w. absurd (omega (arith, ltb-true 0 (released_after ds 0) w, released_is ds 0));
    none = λ _. none (root_mask ds) (omega (arith, pow_pos (length ds)));
  }
    where
      none : (k : ℕ) → k < 2 ^ length ds → EmptyRegion empty ds (places_of ds) (adds_of ds) k (replicate (need_of ds) empty ++ drop (need_of ds) cells)
      none k l = subst (EmptyRegion empty ds (places_of ds) (adds_of ds) k)
          (emptied_front empty cells (need ds (places_of ds) (adds_of ds)) ∙ ap (λ z. replicate z empty ++ drop z cells) (sym (need_is ds)))
          (all_emptied empty ds (places_of ds) (adds_of ds) cells (omega (arith, need_is ds)) k l)

  -- a chunk was fetched into the root's region
  pub holds_pass : (p h : ℕ) (cells : List M) → p < total_chunks ds → h ≡ released_after ds p → sized_chunk (volume ds) (f (scanned_storage ds p))
      → Holds empty op ds f p h cells → Holds empty op ds f (p + 1) h (cells_of empty (volume ds) (f (scanned_storage ds p)) ++ drop (volume ds) cells)
  holds_pass p h cells l e sized holds = record {
    regions = λ k b. held_kept empty op lawful (meaning ds f) (places_of ds) (adds_of ds) (groups (length ds)) divided (planned_scan ds limits) k b (has k) h cells
        (xs ++ drop (volume ds) cells) (filled_others empty ds (places_of ds) (adds_of ds) xs cells k long b) (holds.regions k b);
    chunk = λ _. subst (λ c. CompleteBlock empty op (meaning ds f) (group (length ds) (root_mask ds)) (scanned_chunk ds c) (standing ds (places_of ds) (adds_of ds) (root_mask ds)) (xs ++ drop (volume ds) cells))
        back (filled_root empty ds (places_of ds) (adds_of ds) op lawful f divided (scanned_chunk ds p) (scanned_below ds limits p) sized cells);
    none = λ w. absurd (omega (arith, ltb-false h (released_after ds (p + 1)) w, more_released ds limits p l));
  }
    where
      xs : List M
      xs = cells_of empty (volume ds) (f (scanned_storage ds p))

      long : length xs ≡ volume ds
      long = length_fetched empty ds (places_of ds) (adds_of ds) op lawful f divided (scanned_chunk ds p) (scanned_below ds limits p) sized

      back : p ≡ p + 1 - 1
      back = omega arith
