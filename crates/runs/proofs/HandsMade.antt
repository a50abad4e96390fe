-- What a hand that is accepted answers and leaves, put together.
use Rattle.std.proofs.Common.{◌≡◌, ℕ, ◌+◌, ◌≤◌, Bool, true, false, cond, ltb, List, ◌++◌, length, get_or, drop, Ok, Err, sym, refl, ap, ◌∙◌, arith}
use Rattle.std.proofs.lemmas.List.FromFn.{length-map-range_with_len}
use Rattle.std.proofs.lemmas.List.{length-append, length-drop, length-map, drop_at}
use Rattle.std.proofs.lemmas.Bool.{ltb-false, true≢false}
use Rattle.shapes.specs.declared.dims.Dim.{Dim}
use Rattle.shapes.specs.Arrays.{product, digits, all_digits, radix, edges}
use Rattle.shapes.specs.Views.{dims_of}
use Rattle.measures.specs.Laws.{Lawful}
use Rattle.runs.specs.declared.layouts.Region.{Region}
use Rattle.runs.specs.declared.refusals.RunRefusal.TheVariants.{TooFew, NoBlock, ShortBuffer}
use Rattle.runs.specs.declared.steps.NextBlock.{NextBlock}
use Rattle.runs.specs.Boxes.{box_cells, dot}
use Rattle.runs.specs.Grids.{block_edges, strides_in, start_of, region_by}
use Rattle.runs.specs.Standing.{region_in}
use Rattle.runs.specs.Planned.{places_of, adds_of, need_of, block_size, block_after}
use Rattle.runs.specs.Answers.{View, too_few, waits, hand_name, hand_answer, one_handed}
use Rattle.runs.specs.Holdings.{Moment, dims_in, view, root_mask}
use Rattle.runs.specs.Steps.{IsNextBlock}
use Rattle.runs.specs.Calls.{Hands, next_block}
use Rattle.runs.specs.Emptying.{block_in, PassesBlock}
use Rattle.runs.proofs.BlockSteps.{block_length}
use Rattle.runs.proofs.FromState.{divided_in, laid_in, same_top, top_is, adding_in, based_in}
use Rattle.runs.proofs.HandedOn.{mask_within, block_below, hand_written, hand_length, hand_past, hand_represents, hand_clean}

-- a hand is accepted only with enough cells, and room for the block
pub accepted : (v : View) (room : ℕ) (t : ℕ × ℕ × ℕ) → hand_answer v room ≡ Ok t
    → (need_of v.dims ≤ v.lent) × (block_size v.dims (block_after v.dims v.handed) ≤ room)
accepted v room t is = by (too_few v) (waits v) (ltb room size) refl refl is
  where
    size : ℕ
    size = block_size v.dims (block_after v.dims v.handed)

    by : (f w r : Bool) → too_few v ≡ f → ltb room size ≡ r
        → cond f (Err (TooFew (need_of v.dims))) (cond w (cond r (Err (ShortBuffer size)) (Ok (hand_name v.dims (block_after v.dims v.handed)))) (Err NoBlock)) ≡ Ok t
        → (need_of v.dims ≤ v.lent) × (size ≤ room)
    by true w r a b e = absurd (let z : ◌≡◌ {A = ℕ} 0 1 = cc in omega arith)
    by false false r a b e = absurd (let z : ◌≡◌ {A = ℕ} 0 1 = cc in omega arith)
    by false true true a b e = absurd (let z : ◌≡◌ {A = ℕ} 0 1 = cc in omega arith)
    by false true false a b e = (ltb-false v.lent (need_of v.dims) a, ltb-false room size b)

length_box : {M : Type 0} (empty : M) (cells : List M) (ks : List ℕ) (s : ℕ) (ss : List ℕ) → length (box_cells empty cells ks s ss) ≡ product ks
length_box empty cells ks s ss = length-map (all_digits ks) (λ ls. get_or cells (s + dot ss ls) empty) ∙ length-map-range_with_len (digits ks) 0 (product ks)

module _ {M : Type 0} (empty : M) (op : M → M → M) (lawful : Lawful empty op) (b : Moment M) (x : NextBlock) (next : IsNextBlock b.state x) where
  abbrev ds : List Dim
  ds = dims_in b

  abbrev size : ℕ
  size = block_size ds (next_block b)

  abbrev region : Region
  region = region_in b.state.regions x.mask

  -- as many cells as the block has
  pub length_block : length (block_in empty b.cells b.state x) ≡ size
  length_block = length_box empty b.cells (block_edges b.state.regions.layout region) (start_of b.state.regions.layout region x.at) (strides_in b.state.regions.layout region)
      ∙ ap (λ k. product (block_edges b.state.regions.layout (region_by b.state.regions.layout b.state.regions.layout.adds b.state.regions.bases k x.mask))) (same_top b.state)
      ∙ block_length ds (places_of ds) (adds_of ds) (divided_in b.state) b.state.regions.layout (laid_in b.state) b.state.regions.layout.adds (root_mask ds) (top_is b.state) (adding_in b.state)
      b.state.regions.bases (based_in b.state) x.mask (mask_within empty op lawful b x next) (next_block b).at (block_below empty op lawful b x next)
      ∙ ap (λ g. product (radix g (edges ds))) (sym next.of)

  -- accepted: the block was written, and the run went on
  pub hands_accepted : (old : List M) (t : ℕ × ℕ × ℕ) → hand_answer (view b) (length old) ≡ Ok t → (new : List M) → new ≡ block_in empty b.cells b.state x ++ drop size old
      → (a : Moment M) → PassesBlock empty op b x a → Hands empty op b old (Ok t) new a
  hands_accepted old t is new wrote a on = record {
    answers = sym is;
    counts = same_view;
    refused = λ z. absurd (true≢false z);
    wrote = λ z σ r. wrote ∙ ap (λ xs. xs ++ drop size old) (hand_written empty op lawful b x next σ r);
    rest_stays = (
      ap length wrote ∙ length-append (block_in empty b.cells b.state x) (drop size old) ∙ omega (arith, length_block, length-drop size old, fits.1),
      ap (drop size) wrote ∙ drop_at (block_in empty b.cells b.state x) (drop size old) size length_block,
    );
    past_stay = hand_past empty op lawful b x next a on fits.0;
    clean = λ z. hand_clean empty op lawful b x next a on fits.0;
    represents = hand_represents empty op lawful b x next a on fits.0;
  }
    where
      fits : (need_of ds ≤ length b.cells) × (size ≤ length old)
      fits = accepted (view b) (length old) t is

      alike : (d : List Dim) (l u k h : ℕ) → d ≡ ds → l ≡ length b.cells → u ≡ b.state.taken → k ≡ b.state.skipped → h ≡ b.state.control.handed + 1
          → ◌≡◌ {A = View} (record { dims = d; lent = l; taken = u; skipped = k; handed = h }) (one_handed (view b))
      alike d l u k h ed el eu ek eh = cc

      same_view : view a ≡ one_handed (view b)
      same_view = alike (dims_in a) (length a.cells) a.state.taken a.state.skipped a.state.control.handed
          (ap dims_of on.goes_on.plan.shape) (hand_length empty op lawful b x next a on fits.0) on.goes_on.taken on.goes_on.skipped on.goes_on.handed
