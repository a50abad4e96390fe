-- The second line of a listing, by itself: the least need, and the number of unreadable chunks. Assumes nothing.
use Rattle.std.specs.Prelude.{◌≡◌, ℕ, List, ◌++◌, take, is_err, None, count_by}
use Rattle.std.specs.List.{range_with_len}
use Rattle.shapes.specs.Arrays.{total_chunks}
use Rattle.plans.specs.Plans.{Least, plan_need}
use Rattle.chunk_files.specs.Layouts.{file_dims}
use Rattle.chunk_files.specs.Bodies.{readings}
use Rattle.listings.specs.Lines.{dims_line, cells_line}
use Rattle.listings.specs.Listings.{most_bytes, asked, listing_fault}

-- the bytes of the file in an input
abbrev pub file_in : List ℕ → List ℕ
file_in input = (asked (take most_bytes input)).1

-- how many chunks of a file have a fault in their body
unfoldable pub faulty_bodies : List ℕ → ℕ
faulty_bodies bs = count_by (λ k. is_err (readings bs k)) (range_with_len 0 (total_chunks (file_dims bs)))

-- Where nothing stops the listing, the text has the line of the dimensions, then the plan's need with the number of unreadable chunks, then the rest; and no
-- order of the dimensions with any choice of parents needs fewer cells than that.
pub record LeastNeedAndUnreadable (input text : List ℕ) : Type 0 where
  pub second_line : listing_fault (file_in input) ≡ None
      → (rest : List ℕ) × (text ≡ dims_line (file_dims (file_in input)) ++ (cells_line (plan_need (file_dims (file_in input))) (faulty_bodies (file_in input)) ++ rest))
  pub least_need : Least (file_dims (file_in input))
