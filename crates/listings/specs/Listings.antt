-- The listing of a chunk file: its summaries, block by block in handing order. Assumes nothing.
use Rattle.std.specs.Prelude.{◌≡◌, ℕ, ◌+◌, Bool, cond, List, [], ◌∷◌, ◌++◌, length, take, Some, None, Decides, Option, ◌==◌, slice_index}
use Rattle.std.specs.List.{flat_map}
use Rattle.std.specs.Str.{bytes_eq as same_numbers}
use Rattle.shapes.specs.declared.readings.Reading.{Reading}
use Rattle.shapes.specs.Limits.{Refusal, or_else}
use Rattle.plans.specs.Refusals.{check_fault}
use Rattle.measures.specs.Totals.{no_total, total_join, total_lift, total_columns}
use Rattle.measures.specs.Ranges.{no_range, range_join, range_lift, range_columns}
use Rattle.measures.specs.Markings.{no_marks, marks_join, marks_lift, marks_columns}
use Rattle.sources.specs.Meanings.{Meaning}
use Rattle.chunk_files.specs.Layouts.{file_fault, file_dims}
use Rattle.chunk_files.specs.Contents.{file_chunk}
use Rattle.cubes.specs.Meanings.{meaning}
use Rattle.cubes.specs.Summaries.{block}
use Rattle.cubes.specs.Handing.{Block, named}
use Rattle.runs.specs.Planned.{need_of, handing_order}
use Rattle.runs.specs.Surveys.{readable_chunks, unreadable_chunks}
use Rattle.listings.specs.declared.letters.Kind.{Kind}
use Rattle.listings.specs.declared.letters.Kind.TheVariants.{Total, Range, Marks}
use Rattle.listings.specs.Lines.{dims_line, cells_line, cell_line, end_line, refused_lines}

-- Over the meaning σ of a source

module _ {M : Type 0} (empty : M) (columns : M → List ℕ) where
  -- a value is empty if it prints as the empty value does
  abbrev pub is_empty : M → Bool
  is_empty v = same_numbers (columns v) (columns empty)

  -- no other value of the measure does so
  abbrev pub TellsEmpty : Type 0
  TellsEmpty = (v : M) → Decides (is_empty v) (v ≡ empty)

  -- the line of a cell, unless it is empty
  abbrev pub filled_line : ℕ → ℕ → ℕ → M → List ℕ
  filled_line mask number offset v = cond (is_empty v) [] (cell_line mask number offset (columns v))

  -- the lines of the cells of a block, from an offset on
  abbrev pub cell_lines : ℕ → ℕ → ℕ → List M → List ℕ
  cell_lines mask number offset [] = []
  cell_lines mask number offset (v ∷ vs) = filled_line mask number offset v ++ cell_lines mask number (offset + 1) vs

  module _ (op : M → M → M) where
    -- the lines of a block: its mask, its number, and its direct summaries by offset
    unfoldable pub block_lines : Meaning M → Block → List ℕ
    block_lines σ b = cell_lines (named σ.dims b).0 (named σ.dims b).1 0 (block empty op σ b.of b.at)

    -- all lines: the dimensions, the need, the blocks in handing order, the end
    unfoldable pub summary_lines : Meaning M → List ℕ
    summary_lines σ =
        dims_line σ.dims
        ++ (cells_line (need_of σ.dims) (unreadable_chunks σ)
        ++ (flat_map (block_lines σ) (handing_order σ.dims) ++ end_line (readable_chunks σ) (unreadable_chunks σ) (length (handing_order σ.dims))))

-- Of the bytes of a file

-- the cells that a listing has to work in
abbrev pub given_cells : ℕ
given_cells = 2048

-- what stops a listing: what stops the file, else 17 where the need is more than the given cells
abbrev pub listing_fault : List ℕ → Option Refusal
listing_fault bs = or_else (file_fault bs) (check_fault given_cells (need_of (file_dims bs)))

-- a refusal with its first value, else 0; where there is none, the lines
abbrev pub unless_refused : Option Refusal → List ℕ → List ℕ
unless_refused (Some r) lines = refused_lines r.0 (slice_index r.1 0)
unless_refused None lines = lines

unfoldable pub file_listing : {M : Type 0} → M → (M → List ℕ) → (M → M → M) → (Reading → M) → List ℕ → List ℕ
file_listing empty columns op lifted bs = unless_refused (listing_fault bs) (summary_lines empty columns op (meaning (file_dims bs) (file_chunk empty lifted bs)))

-- Of the input

-- at most so many bytes are read
abbrev pub most_bytes : ℕ
most_bytes = 32768

-- the measure that a letter names: T, R or M
abbrev pub named_kind : ℕ → Option Kind
named_kind b = cond (b == 84) (Some Total) (cond (b == 82) (Some Range) (cond (b == 77) (Some Marks) None))

-- the measure, and the file behind its letter; without a letter the measure is Total
abbrev pub by_letter : Option Kind → ℕ → List ℕ → Kind × List ℕ
by_letter (Some k) b bs = (k, bs)
by_letter None b bs = (Total, b ∷ bs)

abbrev pub asked : List ℕ → Kind × List ℕ
asked [] = (Total, [])
asked (b ∷ bs) = by_letter (named_kind b) b bs

abbrev pub kind_listing : Kind → List ℕ → List ℕ
kind_listing Total bs = file_listing no_total total_columns total_join total_lift bs
kind_listing Range bs = file_listing no_range range_columns range_join range_lift bs
kind_listing Marks bs = file_listing no_marks marks_columns marks_join marks_lift bs

-- what is printed for an input
unfoldable pub listing : List ℕ → List ℕ
listing input = kind_listing (asked (take most_bytes input)).0 (asked (take most_bytes input)).1

-- only empty cells are left out, whatever the measure
abbrev pub MeasuresTellEmpty : Type 0
MeasuresTellEmpty = TellsEmpty no_total total_columns × TellsEmpty no_range range_columns × TellsEmpty no_marks marks_columns
