-- What stops a listing, and the listing by that.
use Rattle.std.proofs.Common.{◌≡◌, ℕ, ◌≤◌, ltb, List, [], ◌∷◌, None, Option, refl, ap, ap₂}
use Rattle.std.proofs.lemmas.Bool.{ltb-false}
use Rattle.shapes.specs.declared.dims.Dim.{Dim}
use Rattle.shapes.specs.declared.readings.Reading.{Reading}
use Rattle.shapes.specs.Limits.{Refusal, or_else}
use Rattle.plans.specs.Plans.{plan_need}
use Rattle.plans.specs.Refusals.{check_fault}
use Rattle.chunk_files.specs.Layouts.{file_fault, file_dims}
use Rattle.chunk_files.specs.Contents.{file_chunk}
use Rattle.cubes.specs.Meanings.{meaning}
use Rattle.runs.specs.Planned.{need_of}
use Rattle.listings.specs.Listings.{given_cells, unless_refused, listing_fault, summary_lines, file_listing}
use Rattle.shapes.proofs.Limited.{off_by}

pub fault_by : (bs : List ℕ) (o p : Option Refusal) → file_fault bs ≡ o → check_fault given_cells (need_of (file_dims bs)) ≡ p → listing_fault bs ≡ or_else o p
fault_by bs o p e f = ap₂ or_else e f

pub listing_by : {M : Type 0} (empty : M) (op : M → M → M) (lifted : Reading → M) (columns : M → List ℕ) (bs : List ℕ) (o : Option Refusal) → listing_fault bs ≡ o
    → file_listing empty columns op lifted bs ≡ unless_refused o (summary_lines empty columns op (meaning (file_dims bs) (file_chunk empty lifted bs)))
unfolding file_listing
listing_by empty op lifted columns bs o e = ap (λ a. unless_refused a (summary_lines empty columns op (meaning (file_dims bs) (file_chunk empty lifted bs)))) e

-- the plan's need, and that it was found to be within the cells
pub need_planned : (ds : List Dim) → plan_need ds ≡ need_of ds
unfolding need_of
need_planned ds = refl

pub check_passed : (given needed : ℕ) → check_fault given needed ≡ None → needed ≤ given
check_passed given needed h = ltb-false given needed (off_by (ltb given needed) (17, needed ∷ []) h)
