-- A take and a skip, from what was answered and fetched to what is said of them.
use Rattle.std.proofs.Common.{◌≡◌, ℕ, ◌+◌, ◌-◌, ◌<◌, ◌≤◌, Bool, true, false, cond, ◌⊎◌, List, ◌++◌, length, get_or, drop, replicate, is_ok, Ok, Err, Result, sym, refl, ap, ◌∙◌, subst, ap₂, inl, inr, add-zero, arith}
use Rattle.std.proofs.lemmas.List.{length-append, length-drop, length-replicate, drop_at, drop-drop}
use Rattle.std.proofs.lemmas.Bool.{cases_lt, both_ways, false≢true, true≢false, ltb-false, lt-ltb}
use Rattle.shapes.specs.declared.dims.Dim.{Dim}
use Rattle.shapes.specs.Arrays.{volume, counts, total_chunks}
use Rattle.shapes.specs.Views.{dims_of}
use Rattle.shapes.proofs.Held.{limits}
use Rattle.shapes.proofs.Numbering.{number_below}
use Rattle.measures.specs.Laws.{Lawful}
use Rattle.sources.specs.declared.refusals.SourceRefusal.TheVariants.{Unreadable}
use Rattle.sources.specs.Meanings.{Chunk, values, faulty, Meaning, Sized, sized_chunk, read_answer, cells_of}
use Rattle.cubes.specs.Meanings.{is_readable}
use Rattle.runs.specs.declared.refusals.RunRefusal.{RunRefusal}
use Rattle.runs.specs.declared.refusals.RunRefusal.TheVariants.{TooFew, BlockWaits, AllPassed, OtherShape}
use Rattle.runs.specs.declared.refusals.RunRefusal.TheVariants as run
use Rattle.runs.specs.Boxes.{emptied}
use Rattle.runs.specs.Planned.{places_of, adds_of, need_of, released_after, scanned_chunk, scanned_storage}
use Rattle.runs.specs.Answers.{View, passed, waits, next_chunk, then_chunk, take_read, skip_read}
use Rattle.runs.specs.Holdings.{Moment, moment_of, dims_in, state_view, view, root_mask, RootEmpty, OthersStay, Clean, Represents}
use Rattle.runs.specs.Calls.{PastStay, Fetches, Takes, Skips}
use Rattle.runs.specs.Steps.{PassesOn}
use Rattle.runs.proofs.RegionBases.{root_cells, region_within}
use Rattle.runs.proofs.RootRegion.{filled_past, empty_again, emptied_after}
use Rattle.runs.proofs.PlannedScans.{need_is, released_is}
use Rattle.runs.proofs.NextChunk.{Ready, ready}
use Rattle.runs.proofs.FromState.{divided_in, top_is}
use Rattle.runs.proofs.RegionsStand.{root_start}
use Rattle.runs.proofs.Holding.{Holds, empty_root_is, holds_of, represents_of}
use Rattle.runs.proofs.ChunkPassed.{scanned_below, holds_pass, more_released}
use Rattle.sources.proofs.Alikes.{length_cells}

-- a chunk was fetched into the root's region: the first V cells are xs
module _ {M : Type 0} (empty : M) (b : Moment M) (es : List Dim) (k : ℕ) (is : Ready (view b) es k) where
  abbrev ds : List Dim
  ds = dims_in b

  abbrev V : ℕ
  V = volume ds

  pub volume_needed : V ≤ need_of ds
  volume_needed = omega (arith, need_is ds, root_cells ds (places_of ds) (adds_of ds), region_within ds (places_of ds) (adds_of ds) (root_mask ds) (omega (arith, top_is b.state)))

  -- the chunk was fetched
  reached : is_ok (next_chunk (view b) es) ≡ false → ⊥
  reached e = both_ways (is_ok (next_chunk (view b) es)) e (ap is_ok is.found)

  pub some_left : passed (view b) < total_chunks ds
  some_left = by (cases_lt (passed (view b)) (total_chunks ds))
    where
      by : (passed (view b) < total_chunks ds) ⊎ (total_chunks ds ≤ passed (view b)) → passed (view b) < total_chunks ds
      by (inl l) = l
      by (inr l) = absurd (is.left (omega (arith, b.state.controls.within, b.state.passes)))

  -- all that was released was handed out
  all_handed : b.state.control.handed ≡ released_after ds (passed (view b))
  all_handed = omega (
    arith,
    ltb-false b.state.control.handed (released_after ds (passed (view b))) is.idle,
    b.state.controls.until,
    released_is ds b.state.control.passed,
    ap (released_after ds) b.state.passes,
  )

  module _ (xs : List M) (long : length xs ≡ V) where
    abbrev ys : List M
    ys = xs ++ drop V b.cells

    pub fetched_length : length ys ≡ length b.cells
    fetched_length = length-append xs (drop V b.cells) ∙ omega (arith, length-drop V b.cells, long, volume_needed, is.enough)

    fetched_others : (s : Moment M) → s.cells ≡ ys → OthersStay empty b s
    fetched_others s e q (inl l) = absurd (omega (arith, root_start b.state))
    fetched_others s e q (inr l) = ap (λ z. get_or z q empty) e ∙ filled_past empty ds (places_of ds) (adds_of ds) xs b.cells q long (omega (arith, root_start b.state))

    fetched_past : (s : Moment M) → s.cells ≡ ys → PastStay b s
    fetched_past s e =
        let back : V + (need_of ds - V) ≡ need_of ds = omega (arith, volume_needed) in
        ap (λ n. drop n s.cells) (sym back) ∙ sym (drop-drop (need_of ds - V) V s.cells)
        ∙ ap (drop (need_of ds - V)) (ap (drop V) e ∙ drop_at xs (drop V b.cells) V long)
        ∙ drop-drop (need_of ds - V) V b.cells ∙ ap (λ n. drop n b.cells) back

    -- the chunk was passed
    module _ (a : Moment M) (t s : ℕ) (one : t + s ≡ 1) (on : PassesOn t s b.state a.state) (cells : a.cells ≡ ys) where
      dims_kept : dims_in a ≡ ds
      dims_kept = ap dims_of on.plan.shape

      pub passed_one : passed (view a) ≡ passed (view b) + 1
      passed_one = omega (arith, on.taken, on.skipped)

      waits_after : waits (view a) ≡ true
      waits_after = lt-ltb a.state.control.handed (released_after (dims_in a) (passed (view a)))
          (omega (
            arith,
            on.handed,
            ap₂ released_after dims_kept passed_one,
            all_handed,
            more_released ds (limits b.state.shape) (passed (view b)) some_left,
          ))

      pub passes : Fetches empty es b true a
      passes = record {
        state_stays = λ e. absurd (true≢false e);
        unfetched = λ e. absurd (reached e);
        cells_stay = λ e. absurd (true≢false e);
        others_stay = fetched_others a cells;
        past_stay = fetched_past a cells;
        clean = λ _ _ w. absurd (both_ways (waits (view a)) w waits_after);
      }

      -- a meaning that has the chunk as it was fetched stays represented
      pub passes_represents : (op : M → M → M) → Lawful empty op → (τ : Meaning M) → xs ≡ cells_of empty V (τ.chunk (scanned_storage ds (passed (view b))))
          → sized_chunk V (τ.chunk (scanned_storage ds (passed (view b)))) → Represents empty op τ b → Represents empty op τ a
      passes_represents op lawful τ chunk sized r = represents_of empty op a τ (r.same_shape ∙ sym dims_kept)
          (omega (arith, ap need_of dims_kept, ap length cells, fetched_length, is.enough))
          (subst (λ d. Holds empty op d τ.chunk (passed (view a)) a.state.control.handed a.cells) (sym dims_kept)
          (subst (λ p. Holds empty op ds τ.chunk p a.state.control.handed a.cells) (sym passed_one)
          (subst (λ h. Holds empty op ds τ.chunk (passed (view b) + 1) h a.cells) (sym on.handed)
          (subst (Holds empty op ds τ.chunk (passed (view b) + 1) b.state.control.handed) (sym (cells ∙ ap (λ z. z ++ drop V b.cells) chunk))
          (holds_pass empty op lawful ds (limits b.state.shape) (divided_in b.state) τ.chunk (passed (view b)) b.state.control.handed b.cells some_left
          all_handed sized (holds_of empty op b τ r))))))

  -- the call was refused after the fetch: the root's region was emptied
  module _ (ys : List M) (cells : ys ≡ replicate V empty ++ drop V b.cells) where
    abbrev a : Moment M
    a = moment_of b.state ys

    cells_same : RootEmpty empty b → ys ≡ b.cells
    cells_same none = cells ∙ empty_again empty ds (places_of ds) (adds_of ds) b.cells (omega (arith, volume_needed, is.enough)) (empty_root_is empty (λ x y. x) b none)

    same_moment : RootEmpty empty b → b ≡ a
    same_moment none = ap (moment_of b.state) (sym (cells_same none))

    pub refuses : Fetches empty es b false a
    refuses = record {
      state_stays = λ _. refl;
      unfetched = λ e. absurd (reached e);
      cells_stay = λ _ clean. cells_same (clean is.enough is.idle);
      others_stay = fetched_others (replicate V empty) (length-replicate V empty) a cells;
      past_stay = fetched_past (replicate V empty) (length-replicate V empty) a cells;
      clean = λ clean. subst (Clean empty) (same_moment (clean is.enough is.idle)) clean;
    }

    pub refuses_view : view a ≡ view b
    refuses_view = ap (λ n. state_view b.state n) (ap length cells ∙ fetched_length (replicate V empty) (length-replicate V empty))

    pub refuses_represents : (op : M → M → M) (τ : Meaning M) → Represents empty op τ b → Represents empty op τ a
    refuses_represents op τ r = subst (Represents empty op τ) (same_moment (r.chunk_gone is.idle)) r

-- a chunk that was read, or not
pub read_is : {M : Type 0} (k : ℕ) (c : Chunk M) → is_ok (read_answer k c) ≡ is_readable c
read_is k (values vs) = refl
read_is k (faulty cause entry) = refl

take_of_read : {M : Type 0} (s k : ℕ) (c : Chunk M) → is_readable c ≡ true → take_read s k c ≡ Ok tt
take_of_read s k (values vs) e = refl
take_of_read s k (faulty cause entry) e = absurd (false≢true e)

take_of_fault : {M : Type 0} (s k : ℕ) (c : Chunk M) (chunk entry cause : ℕ) → read_answer k c ≡ Err (Unreadable chunk entry cause) → take_read s k c ≡ Err (run.Unreadable s chunk entry cause)
take_of_fault s k (values vs) chunk entry cause e = let z : ◌≡◌ {A = ℕ} 0 1 = cc in absurd (omega arith)
take_of_fault s k (faulty cause' entry') chunk entry cause e = cc

skip_of : {M : Type 0} (c : Chunk M) (b : Bool) → is_readable c ≡ b → skip_read c ≡ cond b (Err run.Readable) (Ok tt)
skip_of (values vs) true e = refl
skip_of (values vs) false e = absurd (true≢false e)
skip_of (faulty cause entry) true e = absurd (false≢true e)
skip_of (faulty cause entry) false e = refl

empty_when : {M : Type 0} (empty : M) (v : ℕ) (c : Chunk M) → is_readable c ≡ false → (cells_of empty v c ≡ replicate v empty) × sized_chunk v c
empty_when empty v (values vs) e = absurd (true≢false e)
empty_when empty v (faulty cause entry) e = (refl, tt)

-- The calls

module _ {M : Type 0} (empty : M) (op : M → M → M) (σ : Meaning M) (b : Moment M) where
  -- what the fetch requires
  pub number_within : (k : ℕ) → next_chunk (view b) σ.dims ≡ Ok k → k < total_chunks σ.dims
  number_within k found =
      let is = ready (view b) σ.dims k found in
      omega (
        arith,
        is.chunk,
        number_below (counts (dims_in b)) (scanned_chunk (dims_in b) (passed (view b))) (scanned_below (dims_in b) (limits b.state.shape) (passed (view b))),
        ap total_chunks is.same,
      )

  pub volume_within : (k : ℕ) → next_chunk (view b) σ.dims ≡ Ok k → volume σ.dims ≤ length b.cells
  volume_within k found =
      let is = ready (view b) σ.dims k found in
      omega (arith, ap volume is.same, volume_needed empty b σ.dims k is, is.enough)

  module _ (lawful : Lawful empty op) (k : ℕ) (found : next_chunk (view b) σ.dims ≡ Ok k) (sized : Sized σ) where
    is : Ready (view b) σ.dims k
    is = ready (view b) σ.dims k found

    abbrev v : ℕ
    v = volume (dims_in b)

    same_volume : volume σ.dims ≡ v
    same_volume = ap volume (sym is.same)

    sized_here : sized_chunk v (σ.chunk k)
    sized_here = subst (λ z. sized_chunk z (σ.chunk k)) same_volume (sized k (number_within k found))

    long : length (cells_of empty v (σ.chunk k)) ≡ v
    long = length_cells empty v (σ.chunk k) sized_here

    -- what was fetched, over the run's own shape
    over_shape : (xs ys : List M) → ys ≡ xs ++ drop (volume σ.dims) b.cells → ys ≡ xs ++ drop v b.cells
    over_shape xs ys e = e ∙ ap (λ z. xs ++ drop z b.cells) same_volume

    view_after : (a : Moment M) (t s : ℕ) → t + s ≡ 1 → PassesOn t s b.state a.state → length a.cells ≡ length b.cells
        → view a ≡ record { dims = dims_in b; lent = length b.cells; taken = b.state.taken + t; skipped = b.state.skipped + s; handed = b.state.control.handed }
    view_after a t s one on len =
        let d : dims_in a ≡ dims_in b = ap dims_of on.plan.shape in
        let x : a.state.taken ≡ b.state.taken + t = on.taken in
        let y : a.state.skipped ≡ b.state.skipped + s = on.skipped in
        let z : a.state.control.handed ≡ b.state.control.handed = on.handed in
        cc

    pub takes_chunk : (a : Moment M) → is_readable (σ.chunk k) ≡ true → a.cells ≡ cells_of empty (volume σ.dims) (σ.chunk k) ++ drop (volume σ.dims) b.cells
        → PassesOn 1 0 b.state a.state → Takes empty op σ b (Ok tt) a
    takes_chunk a read cells on = record {
      answers = sym (ap (λ r. then_chunk r (λ k. take_read (passed (view b)) k (σ.chunk k))) found ∙ take_of_read (passed (view b)) k (σ.chunk k) read);
      counts = view_after a 1 0 refl on (ap length here ∙ fetched_length empty b σ.dims k is (cells_of empty v (σ.chunk k)) long) ∙ ap (λ s. record { dims = dims_in b; lent = length b.cells; taken = b.state.taken + 1; skipped = s; handed = b.state.control.handed }) (add-zero b.state.skipped);
      fetches = passes empty b σ.dims k is (cells_of empty v (σ.chunk k)) long a 1 0 refl on here;
      represents = λ τ agree r.
          let same : τ.chunk (scanned_storage (dims_in b) (passed (view b))) ≡ σ.chunk k = agree refl ∙ ap σ.chunk (sym is.chunk) in
          passes_represents empty b σ.dims k is (cells_of empty v (σ.chunk k)) long a 1 0 refl on here op lawful τ (ap (cells_of empty v) (sym same)) (subst (sized_chunk v) (sym same) sized_here) r;
    }
      where
        here : a.cells ≡ cells_of empty v (σ.chunk k) ++ drop v b.cells
        here = over_shape (cells_of empty v (σ.chunk k)) a.cells (cells ∙ ap (λ z. cells_of empty z (σ.chunk k) ++ drop (volume σ.dims) b.cells) same_volume)

    pub takes_fault : (ys : List M) (scan chunk entry cause : ℕ) → scan ≡ passed (view b) → read_answer k (σ.chunk k) ≡ Err (Unreadable chunk entry cause)
        → ys ≡ cells_of empty (volume σ.dims) (σ.chunk k) ++ drop (volume σ.dims) b.cells
        → Takes empty op σ b (Err (run.Unreadable scan chunk entry cause)) (moment_of b.state ys)
    takes_fault ys scan chunk entry cause at read cells = record {
      answers = sym (ap (λ r. then_chunk r (λ k. take_read (passed (view b)) k (σ.chunk k))) found ∙ take_of_fault (passed (view b)) k (σ.chunk k) chunk entry cause read ∙ ap (λ s. Err (run.Unreadable s chunk entry cause)) (sym at));
      counts = refuses_view empty b σ.dims k is ys here;
      fetches = refuses empty b σ.dims k is ys here;
      represents = λ τ _ r. refuses_represents empty b σ.dims k is ys here op τ r;
    }
      where
        here : ys ≡ replicate v empty ++ drop v b.cells
        here = over_shape (replicate v empty) ys (cells ∙ ap (λ z. z ++ drop (volume σ.dims) b.cells) ((empty_when empty (volume σ.dims) (σ.chunk k) (sym (read_is k (σ.chunk k)) ∙ ap is_ok read)).0 ∙ ap (λ z. replicate z empty) same_volume))

    pub skips_chunk : (a : Moment M) → is_readable (σ.chunk k) ≡ false
        → a.cells ≡ cells_of empty (volume σ.dims) (σ.chunk k) ++ drop (volume σ.dims) b.cells
        → PassesOn 0 1 b.state a.state → Skips empty op σ b (Ok tt) a
    skips_chunk a read cells on = record {
      answers = sym (ap (λ r. then_chunk r (λ k. skip_read (σ.chunk k))) found ∙ skip_of (σ.chunk k) false read);
      counts = view_after a 0 1 refl on (ap length here ∙ fetched_length empty b σ.dims k is (replicate v empty) (length-replicate v empty)) ∙ ap (λ s. record { dims = dims_in b; lent = length b.cells; taken = s; skipped = b.state.skipped + 1; handed = b.state.control.handed }) (add-zero b.state.taken);
      fetches = passes empty b σ.dims k is (replicate v empty) (length-replicate v empty) a 0 1 refl on here;
      represents = λ τ gone r.
          let none = empty_when empty v (τ.chunk (scanned_storage (dims_in b) (passed (view b)))) (gone refl) in
          passes_represents empty b σ.dims k is (replicate v empty) (length-replicate v empty) a 0 1 refl on here op lawful τ (sym none.0) none.1 r;
    }
      where
        here : a.cells ≡ replicate v empty ++ drop v b.cells
        here = over_shape (replicate v empty) a.cells (cells ∙ ap (λ z. z ++ drop (volume σ.dims) b.cells) ((empty_when empty (volume σ.dims) (σ.chunk k) read).0 ∙ ap (λ z. replicate z empty) same_volume))

    pub skips_readable : (xs ys : List M) → is_readable (σ.chunk k) ≡ true → xs ≡ cells_of empty (volume σ.dims) (σ.chunk k) ++ drop (volume σ.dims) b.cells
        → ys ≡ emptied empty xs 0 (volume σ.dims) → Skips empty op σ b (Err run.Readable) (moment_of b.state ys)
    skips_readable xs ys read fetched cells = record {
      answers = sym (ap (λ r. then_chunk r (λ k. skip_read (σ.chunk k))) found ∙ skip_of (σ.chunk k) true read);
      counts = refuses_view empty b σ.dims k is ys here;
      fetches = refuses empty b σ.dims k is ys here;
      represents = λ τ _ r. refuses_represents empty b σ.dims k is ys here op τ r;
    }
      where
        filled : xs ≡ cells_of empty v (σ.chunk k) ++ drop v b.cells
        filled = over_shape (cells_of empty v (σ.chunk k)) xs (fetched ∙ ap (λ z. cells_of empty z (σ.chunk k) ++ drop (volume σ.dims) b.cells) same_volume)

        here : ys ≡ replicate v empty ++ drop v b.cells
        here = cells ∙ ap₂ (λ z n. emptied empty z 0 n) filled same_volume
            ∙ emptied_after empty (dims_in b) (places_of (dims_in b)) (adds_of (dims_in b)) (cells_of empty v (σ.chunk k)) b.cells long

-- the chunk that is next over a source whose shape was told
pub found_over : (v : View) (es told : List Dim) (x : Result ℕ RunRefusal) (r : Result ℕ RunRefusal) → es ≡ told → x ≡ next_chunk v es → x ≡ r → next_chunk v told ≡ r
found_over v es told x r same is was = ap (next_chunk v) (sym same) ∙ sym is ∙ was
