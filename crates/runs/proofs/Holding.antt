-- What the cells hold, over plain numbers and lists: for the dimensions ds, the chunks f, p chunks passed and h blocks handed out. From and to what is said of a run.
use Rattle.std.proofs.Common.{◌≡◌, ℕ, ◌+◌, ◌-◌, ◌^◌, ◌<◌, ◌≤◌, true, false, ltb, List, length, get_or, sym, refl, ap, ◌∙◌, subst, arith}
use Rattle.std.proofs.lemmas.List.{length-map}
use Rattle.shapes.specs.declared.dims.Dim.{Dim}
use Rattle.shapes.specs.Arrays.{Below, sizes, counts, chunks, group, groups, root, chunk_of, cleared}
use Rattle.sources.specs.Meanings.{Chunk, Meaning}
use Rattle.cubes.specs.Meanings.{meaning}
use Rattle.cubes.specs.Summaries.{Divided, direct}
use Rattle.cubes.proofs.Cells.{chunk_below, cleared_below, radix_all}
use Rattle.runs.specs.Layouts.{standing}
use Rattle.runs.specs.Planned.{places_of, adds_of, need_of, released_after, scanned_chunk}
use Rattle.runs.specs.Answers.{passed}
use Rattle.runs.specs.Contents.{CompleteBlock, RegionHeld, EmptyRegion}
use Rattle.runs.specs.Holdings.{Moment, dims_in, view, root_mask, RootEmpty, Represents}
use Rattle.runs.proofs.RegionBases.{root_base, root_cells}
use Rattle.runs.proofs.RootRegion.{root_group}
use Rattle.runs.proofs.FromState.{divided_in, top_is}
use Rattle.runs.proofs.RegionsStand.{place_is, root_start, stands_inside, stands_apart}

-- the cells hold what they must, each region at its planned place
pub record Holds {M : Type 0} (empty : M) (op : M → M → M) (ds : List Dim) (f : ℕ → Chunk M) (p h : ℕ) (cells : List M) : Type 0 where
  pub regions : (k : ℕ) → k + 1 < 2 ^ length ds → RegionHeld empty op (meaning ds f) (places_of ds) (adds_of ds) (groups (length ds)) k h cells
  pub chunk : ltb h (released_after ds p) ≡ true
      → CompleteBlock empty op (meaning ds f) (group (length ds) (root_mask ds)) (scanned_chunk ds (p - 1)) (standing ds (places_of ds) (adds_of ds) (root_mask ds)) cells
  pub none : ltb h (released_after ds p) ≡ false → EmptyRegion empty ds (places_of ds) (adds_of ds) (root_mask ds) cells

-- a cell of the root lies in the chunk of its coordinates
pub root_chunk : (ds : List Dim) (x : List ℕ) → Divided ds → Below (sizes ds) x → cleared (group (length ds) (root_mask ds)) (chunk_of ds x) ≡ chunk_of ds x
root_chunk ds x divided b = ap (λ g. cleared g (chunk_of ds x)) (root_group (length ds))
    ∙ cleared_below (root (length ds)) (counts ds) (chunk_of ds x)
    (subst (λ ks. Below ks (chunk_of ds x)) (sym (radix_all (counts ds) (length ds) (length-map ds chunks))) (chunk_below ds x divided b))

module _ {M : Type 0} (empty : M) (op : M → M → M) (m : Moment M) where
  abbrev ds : List Dim
  ds = dims_in m

  abbrev n : ℕ
  n = length ds

  abbrev h : ℕ
  h = m.state.control.handed

  top_below : root_mask ds < 2 ^ n
  top_below = omega (arith, top_is m.state)

  pub root_empty_is : EmptyRegion empty ds (places_of ds) (adds_of ds) (root_mask ds) m.cells → RootEmpty empty m
  root_empty_is none q lo hi = none q (omega (arith, root_base ds (places_of ds) (adds_of ds)))
      (omega (arith, root_start m.state, root_base ds (places_of ds) (adds_of ds), root_cells ds (places_of ds) (adds_of ds)))

  pub empty_root_is : RootEmpty empty m → EmptyRegion empty ds (places_of ds) (adds_of ds) (root_mask ds) m.cells
  empty_root_is none q lo hi = none q (omega (arith, root_start m.state))
      (omega (arith, root_start m.state, root_base ds (places_of ds) (adds_of ds), root_cells ds (places_of ds) (adds_of ds)))

  pub represents_from : (f : ℕ → Chunk M) → need_of ds ≤ length m.cells → Holds empty op ds f (passed (view m)) h m.cells → Represents empty op (meaning ds f) m
  represents_from f enough holds = record {
    same_shape = refl;
    enough = enough;
    inside = stands_inside m.state;
    apart = stands_apart m.state;
    held = λ k l x b t. ap (λ q. get_or m.cells q empty) (place_is m.state k x (omega arith)) ∙ holds.regions k l x b t;
    chunk_held = λ w x b e. ap (λ q. get_or m.cells q empty) (place_is m.state (root_mask ds) x top_below)
        ∙ holds.chunk w x b (root_chunk ds x (divided_in m.state) b ∙ e)
        ∙ ap (λ g. direct empty op (meaning ds f) g x) (root_group n);
    chunk_gone = λ w. root_empty_is (holds.none w);
  }

  -- a meaning of the run's shape
  pub of_shape : (σ : Meaning M) → σ.dims ≡ ds → meaning ds σ.chunk ≡ σ
  of_shape σ e = ap (λ d. meaning d σ.chunk) (sym e)

  holds_from : (f : ℕ → Chunk M) → Represents empty op (meaning ds f) m → Holds empty op ds f (passed (view m)) h m.cells
  holds_from f r = record {
    regions = λ k l x b t. sym (ap (λ q. get_or m.cells q empty) (place_is m.state k x (omega arith))) ∙ r.held k l x b t;
    chunk = λ w x b e. sym (ap (λ q. get_or m.cells q empty) (place_is m.state (root_mask ds) x top_below))
        ∙ r.chunk_held w x b (sym (root_chunk ds x (divided_in m.state) b) ∙ e)
        ∙ ap (λ g. direct empty op (meaning ds f) g x) (sym (root_group n));
    none = λ w. empty_root_is (r.chunk_gone w);
  }

  pub holds_of : (σ : Meaning M) → Represents empty op σ m → Holds empty op ds σ.chunk (passed (view m)) h m.cells
  holds_of σ r = holds_from σ.chunk (subst (λ τ. Represents empty op τ m) (sym (of_shape σ r.same_shape)) r)

  pub represents_of : (σ : Meaning M) → σ.dims ≡ ds → need_of ds ≤ length m.cells → Holds empty op ds σ.chunk (passed (view m)) h m.cells → Represents empty op σ m
  represents_of σ e enough holds = subst (λ τ. Represents empty op τ m) (of_shape σ e) (represents_from σ.chunk enough holds)
