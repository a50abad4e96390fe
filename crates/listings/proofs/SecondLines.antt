-- The second line of a listing.
use Rattle.std.proofs.Common.{◌≡◌, ℕ, cond, not, List, [], ◌∷◌, ◌++◌, length, take, is_some, is_err, Some, None, Ok, Err, Option, Result, refl, ap, ◌∙◌, arith}
use Rattle.std.specs.List.{flat_map}
use Rattle.shapes.specs.declared.readings.Reading.{Reading}
use Rattle.shapes.specs.Arrays.{total_chunks}
use Rattle.shapes.specs.Limits.{Refusal, shape_fault}
use Rattle.shapes.proofs.Limited.{limits_from}
use Rattle.measures.specs.Totals.{no_total, total_join, total_lift, total_columns}
use Rattle.measures.specs.Ranges.{no_range, range_join, range_lift, range_columns}
use Rattle.measures.specs.Markings.{no_marks, marks_join, marks_lift, marks_columns}
use Rattle.plans.specs.Plans.{Edged, plan_need}
use Rattle.plans.proofs.LeastNeed.{least_need}
use Rattle.chunk_files.specs.Layouts.{dims_in, file_dims}
use Rattle.chunk_files.specs.Bodies.{Fault, readings}
use Rattle.chunk_files.specs.Contents.{chunk_value, file_chunk}
use Rattle.cubes.specs.Meanings.{is_readable, meaning}
use Rattle.cubes.proofs.Groups.{limits_edged}
use Rattle.runs.specs.Planned.{need_of, handing_order}
use Rattle.runs.specs.Surveys.{readable_chunks, unreadable_chunks}
use Rattle.listings.specs.declared.letters.Kind.{Kind}
use Rattle.listings.specs.declared.letters.Kind.TheVariants.{Total, Range, Marks}
use Rattle.listings.specs.Lines.{dims_line, cells_line, end_line}
use Rattle.listings.specs.Listings.{block_lines, summary_lines, listing_fault, file_listing, kind_listing, most_bytes, asked, listing}
use Rattle.listings.specs.SecondLine.{file_in, faulty_bodies, LeastNeedAndUnreadable}
use Rattle.listings.proofs.Answering.{listing_by}
use Rattle.listings.proofs.Counting.{count_same}

module _ {M : Type 0} (empty : M) (columns : M → List ℕ) (op : M → M → M) (lifted : Reading → M) (bs : List ℕ) where
  fault_is : (r : Result _ Fault) → not (is_readable (chunk_value empty lifted r)) ≡ is_err r
  fault_is (Ok cs) = refl
  fault_is (Err f) = refl

  unreadable_is : unreadable_chunks (meaning (file_dims bs) (file_chunk empty lifted bs)) ≡ faulty_bodies bs
  unfolding unreadable_chunks faulty_bodies
  unreadable_is = count_same (λ k. not (is_readable (file_chunk empty lifted bs k))) (λ k. is_err (readings bs k)) (total_chunks (file_dims bs)) (λ k _. fault_is (readings bs k))

  abbrev rest : List ℕ
  rest = flat_map (block_lines empty columns op (meaning (file_dims bs) (file_chunk empty lifted bs))) (handing_order (file_dims bs))
      ++ end_line (readable_chunks (meaning (file_dims bs) (file_chunk empty lifted bs))) (unreadable_chunks (meaning (file_dims bs) (file_chunk empty lifted bs))) (length (handing_order (file_dims bs)))

  pub cells_second : listing_fault bs ≡ None
      → (rest : List ℕ) × (file_listing empty columns op lifted bs ≡ dims_line (file_dims bs) ++ (cells_line (plan_need (file_dims bs)) (faulty_bodies bs) ++ rest))
  unfolding summary_lines need_of
  cells_second none = (
    rest,
    listing_by empty op lifted columns bs None none
        ∙ ap (λ n. dims_line (file_dims bs) ++ (cells_line (plan_need (file_dims bs)) n ++ rest)) unreadable_is,
  )

by_kind : (k : Kind) (bs : List ℕ) → listing_fault bs ≡ None → (rest : List ℕ) × (kind_listing k bs ≡ dims_line (file_dims bs) ++ (cells_line (plan_need (file_dims bs)) (faulty_bodies bs) ++ rest))
by_kind Total bs none = cells_second no_total total_columns total_join total_lift bs none
by_kind Range bs none = cells_second no_range range_columns range_join range_lift bs none
by_kind Marks bs none = cells_second no_marks marks_columns marks_join marks_lift bs none

-- the dimensions that a file tells keep the limits
file_edged : (bs : List ℕ) → Edged (file_dims bs)
unfolding file_dims
file_edged bs = by (shape_fault (dims_in bs)) refl
  where
    by : (o : Option Refusal) → shape_fault (dims_in bs) ≡ o → Edged (cond (is_some o) (record { size = 1; edge = 1 } ∷ []) (dims_in bs))
    by None e = limits_edged (dims_in bs) (limits_from (dims_in bs) e)
    by (Some r) e = ((omega arith, omega arith), tt)

pub second_line_tells : (input text : List ℕ) → text ≡ listing input → LeastNeedAndUnreadable input text
unfolding listing
second_line_tells input text is = record {
  second_line = λ none. let it = by_kind (asked (take most_bytes input)).0 (file_in input) none in (it.0, is ∙ it.1);
  least_need = least_need (file_dims (file_in input)) (file_edged (file_in input));
}
