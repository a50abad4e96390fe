-- What a run answers that is driven to its end: while a block waits it is handed out, else the next chunk is taken or skipped.
use Rattle.std.proofs.Common.{◌≡◌, ℕ, ◌+◌, ◌<◌, ◌≤◌, false, cond, not, ◌&&◌, ltb, List, ◌++◌, length, get_or, take, is_ok, Ok, Err, sym, refl, ap, ◌∙◌, arith}
use Rattle.std.specs.List.{flat_map}
use Rattle.std.proofs.lemmas.List.{flat_map_more, take_all, take_at, take_more}
use Rattle.std.proofs.lemmas.Bool.{le-ltb, ltb-false, ne_eqb}
use Rattle.shapes.specs.declared.dims.Dim.{Dim}
use Rattle.shapes.specs.Arrays.{cell_at, edges, radix, total_chunks, volume}
use Rattle.shapes.proofs.Numbering.{length_by_digits}
use Rattle.sources.specs.Meanings.{Chunk, values, faulty, Meaning}
use Rattle.cubes.specs.Meanings.{is_readable}
use Rattle.cubes.specs.Summaries.{block, direct}
use Rattle.cubes.specs.Handing.{Block, named}
use Rattle.runs.specs.declared.refusals.RunRefusal.TheVariants.{TooFew, NoBlock, ShortBuffer}
use Rattle.runs.specs.Planned.{need_of, handing_order, released_after, scanned_storage, none_block, block_after, block_size}
use Rattle.runs.specs.Answers.{View, passed, waits, too_few, take_read, skip_read, take_answer, skip_answer, hand_name, hand_answer, done}
use Rattle.listings.specs.Listings.{cell_lines, block_lines}
use Rattle.runs.proofs.LivingAnswers.{take_comes, skip_comes}
use Rattle.runs.proofs.LivingScans.{released_few}

pub released_at_end : (ds : List Dim) → released_after ds (total_chunks ds) ≡ length (handing_order ds)
unfolding released_after handing_order
released_at_end ds = refl

-- where all chunks were passed and no block waits, all blocks were handed out
pub all_handed : (v : View) → passed v ≡ total_chunks v.dims → waits v ≡ false → v.handed ≤ released_after v.dims (passed v) → v.handed ≡ length (handing_order v.dims)
all_handed v whole idle until = let past = ltb-false v.handed (released_after v.dims (passed v)) idle in omega (arith, ap (released_after v.dims) whole, released_at_end v.dims)

-- a block that waits is one of the handing order
pub next_within : (v : View) → passed v ≤ total_chunks v.dims → v.handed < released_after v.dims (passed v) → v.handed < length (handing_order v.dims)
next_within v l waiting = omega (arith, released_few v.dims (passed v) l)

-- the lines of the blocks handed out, and of one more
pub lines_more : (f : Block → List ℕ) (bs : List Block) (i : ℕ) (before : List ℕ) → i < length bs → (before ++ flat_map f (take i bs)) ++ f (get_or bs i none_block) ≡ before ++ flat_map f (take (i + 1) bs)
lines_more f bs i before l = flat_map_more f before (take i bs) (get_or bs i none_block) ∙ ap (λ cs. before ++ flat_map f cs) (sym (take_more bs i none_block l))

pub lines_all : (f : Block → List ℕ) (bs : List Block) (i : ℕ) (before : List ℕ) → i ≡ length bs → before ++ flat_map f (take i bs) ≡ before ++ flat_map f bs
lines_all f bs i before e = ap (λ cs. before ++ flat_map f cs) (take_all i bs (omega arith))

pub volume_needed : (ds : List Dim) → volume ds ≤ need_of ds
unfolding need_of
volume_needed ds = omega arith

-- the cells that were handed out
pub handed_block : {M : Type 0} (empty : M) (op : M → M → M) (σ : Meaning M) (b : Block) (new rest : List M) → new ≡ block empty op σ b.of b.at ++ rest
    → take (block_size σ.dims b) new ≡ block empty op σ b.of b.at
handed_block empty op σ b new rest e =
    ap (take (block_size σ.dims b)) e
    ∙ take_at (block empty op σ b.of b.at) rest (block_size σ.dims b)
    (length_by_digits (λ ls. direct empty op σ b.of (cell_at σ.dims b.at ls)) (radix b.of (edges σ.dims)))

-- as lines
pub handed_lines : {M : Type 0} (empty : M) (op : M → M → M) (columns : M → List ℕ) (σ : Meaning M) (b : Block) (cells : List M) → cells ≡ block empty op σ b.of b.at
    → cell_lines empty columns (named σ.dims b).0 (named σ.dims b).1 0 cells ≡ block_lines empty columns op σ b
unfolding block_lines
handed_lines empty op columns σ b cells e = ap (cell_lines empty columns (named σ.dims b).0 (named σ.dims b).1 0) e

module _ {M : Type 0} (σ : Meaning M) (v : View) (same : σ.dims ≡ v.dims) (enough : need_of v.dims ≤ v.lent) where
  many : too_few v ≡ false
  many = le-ltb v.lent (need_of v.dims) enough

  -- with chunks left it is not done
  goes_on : passed v < total_chunks v.dims → done v ≡ false
  goes_on more = ap (λ t. t && not (waits v)) (ne_eqb (passed v) (total_chunks v.dims) (λ e. omega arith))

  module _ (idle : waits v ≡ false) (more : passed v < total_chunks v.dims) where
    abbrev next : ℕ
    next = scanned_storage v.dims (passed v)

    read_taken : (s k : ℕ) (c : Chunk M) → is_ok (take_read s k c) ≡ is_readable c
    read_taken s k (values vs) = refl
    read_taken s k (faulty cause entry) = refl

    read_skipped : (c : Chunk M) → is_ok (skip_read c) ≡ not (is_readable c)
    read_skipped (values vs) = refl
    read_skipped (faulty cause entry) = refl

    -- the next chunk is taken if it can be read, else skipped
    pub is_taken : is_ok (take_answer σ v) ≡ is_readable (σ.chunk next)
    is_taken = ap is_ok (take_comes σ v (sym same) enough idle (goes_on more)) ∙ read_taken (passed v) next (σ.chunk next)

    pub is_skipped : is_ok (skip_answer σ v) ≡ not (is_readable (σ.chunk next))
    is_skipped = ap is_ok (skip_comes σ v (sym same) enough idle (goes_on more)) ∙ read_skipped (σ.chunk next)

  pub none_handed : (room : ℕ) → waits v ≡ false → is_ok (hand_answer v room) ≡ false
  none_handed room idle =
      λ i. is_ok (cond (many i) (Err (TooFew (need_of v.dims)))
      (cond (idle i) (cond (ltb room (block_size v.dims (block_after v.dims v.handed))) (Err (ShortBuffer (block_size v.dims (block_after v.dims v.handed)))) (Ok (hand_name v.dims (block_after v.dims v.handed)))) (Err NoBlock)))
