-- An iterator over the rows of a box: where the next row stands, and what it leaves once it is written or joined.
use Rattle.std.proofs.Common.{◌≡◌, ℕ, ◌+◌, ◌*◌, ◌≤◌, List, ◌++◌, length, get_or, take, drop, set, sym, ap, ◌∙◌, ap₂, arith}
use lib.Seq.{paste}
use Rattle.shapes.specs.declared.radices.Radices.{Radices}
use Rattle.shapes.specs.Arrays.{product, digits}
use Rattle.runs.specs.declared.walks.Grid.{Grid}
use Rattle.runs.specs.declared.walks.Rows.{Rows}
use Rattle.runs.specs.Boxes.{dot, box_cells, row_cells, RowWithin, Within, Leads}
use Rattle.runs.proofs.Rows.{edges_positive, row_room, row_within, row_written}

module _ (it : Rows) (ks : List ℕ) (same : it.radices ≡ ks) (g : Grid) (x : ℕ) where
  pub from_at : it.from ≡ g → x ≡ it.walk.from → x ≡ g.start + dot g.strides (digits ks it.number)
  from_at eg ex = ex ∙ it.from_place ∙ ap₂ (λ (f : Grid) rs. f.start + dot f.strides (digits rs it.number)) eg same

  pub to_at : it.to ≡ g → x ≡ it.walk.to → x ≡ g.start + dot g.strides (digits ks it.number)
  to_at eg ex = ex ∙ it.to_place ∙ ap₂ (λ (f : Grid) rs. f.start + dot f.strides (digits rs it.number)) eg same

-- the row n of a box, which begins at x: the rows after it number at most the height
module _ (e : Radices) (a : ℕ) (lead : Leads e.each a) (it after : Rows) (rows : it.radices ≡ set e.each a 1) (height : it.height ≡ product (set e.each a 1))
    (same : after.height ≡ it.height) (next : after.number ≡ it.number + 1) (n : ℕ) (here : n ≡ it.number) where
  abbrev k : ℕ
  k = get_or e.each a 0

  -- it ends within the box
  pub row_fits : n * k + k ≤ product e.each
  row_fits = omega (arith, row_room e.each a it.number lead.0 (omega (arith, after.some_left)), ap (λ z. z * k) here)

  module _ (g : Grid) (long : length g.strides ≡ 6) (grid : it.from ≡ g) (x : ℕ) (first : x ≡ it.walk.from) {M : Type 0} (empty : M) (cells : List M) where
    from_is : x ≡ g.start + dot g.strides (digits (set e.each a 1) it.number)
    from_is = from_at it (set e.each a 1) rows g x grid first

    pub from_row : Within e.each g.start g.strides (length cells) → RowWithin k x (get_or g.strides a 0) (length cells)
    from_row within = row_within e.each g.strides a g.start lead (omega (arith, e.six)) (edges_positive e) it.number x from_is (length cells) within

    abbrev all : List M
    all = box_cells empty cells e.each g.start g.strides

    pub box_more : (old now now' : List M) → product e.each ≤ length old → now ≡ take (it.number * k) all ++ drop (it.number * k) old → now' ≡ paste now (n * k) (row_cells empty cells k x (get_or g.strides a 0)) k
        → now' ≡ take (after.number * k) all ++ drop (after.number * k) old
    box_more old now now' room inv wrote =
        row_written e.each g.strides a g.start lead (omega (arith, e.six)) (edges_positive e) it.number x from_is empty cells old room (omega (arith, row_fits, ap (λ z. z * k) here)) now now' inv
        (wrote ∙ ap (λ z. paste now (z * k) (row_cells empty cells k x (get_or g.strides a 0)) k) here)
        ∙ ap (λ z. take (z * k) all ++ drop (z * k) old) (sym next)
