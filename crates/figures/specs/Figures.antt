-- The figures. Assumes nothing.
use Rattle.std.specs.Prelude.{◌≡◌, List, [], ◌∷◌, cond, ℕ, ◌+◌, ◌-◌, ◌≤◌, codes, eqb, length}
use Rattle.std.proofs.Common.{lit≤}
use Rattle.shapes.specs.declared.dims.Dim.{Dim}
use Rattle.shapes.specs.declared.readings.Reading.{Reading}
use Rattle.shapes.specs.Arrays.{Group, mask, groups}
use Rattle.measures.specs.Ranges.{no_range, range_join, range_lift, range_columns}
use Rattle.measures.specs.Markings.{marks_lift, marks_columns}
use Rattle.cubes.specs.Handing.{handing}
use Rattle.chunk_writers.specs.Written.{made_entry}
use Rattle.listings.specs.Examples.{example_file}
use Rattle.listings.specs.Listings.{listing}
use Rattle.plans.specs.Plans.{need, earliest, plan_place, plan_adds, plan_need}

abbrev pub cut : ℕ → ℕ → Dim
cut size edge = record { size = size; edge = edge }

-- three equal dimensions are placed by number, so that the parent of mask 2 is mask 3; and the same parents but that it is mask 6, which adds dimension 2
abbrev pub equal : List Dim
equal = cut 16 4 ∷ cut 16 4 ∷ cut 16 4 ∷ []

abbrev pub two_from_six : Group → ℕ
two_from_six g = cond (eqb (mask g) 2) 2 (plan_adds equal g)

abbrev pub growing : List Dim
growing = cut 10 10 ∷ cut 100 10 ∷ cut 1000 10 ∷ []

-- the order 2, 1, 0 of three dimensions
abbrev pub reversed : ℕ → ℕ
reversed i = 3 - i

abbrev pub uneven : List Dim
uneven = cut 6 1 ∷ cut 12 12 ∷ []

-- the orders 1, 0 and 0, 1 of two dimensions
abbrev pub one_zero : ℕ → ℕ
one_zero i = 2 - i

abbrev pub zero_one : ℕ → ℕ
zero_one i = i + 1

-- the example of the documents
abbrev pub small : List Dim
small = cut 4 2 ∷ cut 2 2 ∷ []

abbrev pub reading : (r : ℕ) → r ≤ 16777215 → Reading
reading r within = record { value = r; within = within }

pub record Figures : Type 0 where
  -- needs in the plan's order with its parents, and in others
  pub equal_need : plan_need equal ≡ 425
  pub equal_two_from_six : need equal (plan_place equal) two_from_six ≡ 437
  pub growing_need : plan_need growing ≡ 2231
  pub growing_reversed : need growing reversed (earliest reversed) ≡ 112121
  pub uneven_need : plan_need uneven ≡ 26
  pub uneven_one_zero : need uneven one_zero (earliest one_zero) ≡ 26
  pub uneven_zero_one : need uneven zero_one (earliest zero_one) ≡ 31
  pub small_need : plan_need small ≡ 9
  pub single_need : plan_need (cut 1 1 ∷ []) ≡ 2
  -- the blocks that a scan of the plan hands out
  pub equal_blocks : length (handing equal (plan_place equal) (plan_adds equal) (groups 3)) ≡ 125
  -- a range of one reading, joined with none; marks of two readings on one bit
  pub range_of_seven : range_columns (range_join (range_lift (reading 7 (lit≤ tt))) no_range) ≡ 7 ∷ 7 ∷ []
  pub marks_of_three : marks_columns (marks_lift (reading 3 (lit≤ tt))) ≡ 8 ∷ []
  pub marks_of_sixty_seven : marks_columns (marks_lift (reading 67 (lit≤ tt))) ≡ 8 ∷ []
  -- chunks of ten cells: with four filled the writer's kind is 0, with five it is 1
  pub four_of_ten : (made_entry 10 0 4).kind ≡ 0
  pub five_of_ten : (made_entry 10 0 5).kind ≡ 1
  -- the listing of the example file, of 58 bytes
  pub example_length : length example_file ≡ 58
  pub example_listing : listing example_file
      ≡ codes "DIMS 2 4/2 2/2\nCELLS 9 UNREADABLE 0\n3 0 0 1 5\n1 0 0 1 5\n3 1 1 1 7\n3 1 3 1 1\n1 1 1 2 8\n2 0 0 2 12\n2 0 1 1 1\n0 0 0 3 13\nEND 2 0 6\n"
