-- The columns of each measure tell its empty value. Assumes nothing.
use Rattle.std.proofs.Common.{◌≡◌, ℕ, List, ap}
use Rattle.std.proofs.lemmas.Slice.Eq.{bytes_eq-Decides}
use Rattle.measures.specs.Totals.{no_total, total_columns, total_ext}
use Rattle.measures.specs.Ranges.{no_range, range_columns, range_ext}
use Rattle.measures.specs.Markings.{of_bits, no_marks, marks_columns}
use Rattle.listings.specs.Listings.{TellsEmpty}

-- columns that no other value has tell the empty value
alone_tells : {M : Type 0} (empty : M) (columns : M → List ℕ) → ((v : M) → columns v ≡ columns empty → v ≡ empty) → TellsEmpty empty columns
alone_tells empty columns alone v = (λ e. alone v ((bytes_eq-Decides (columns v) (columns empty)).0 e), λ e. (bytes_eq-Decides (columns v) (columns empty)).1 (ap columns e))

pub total_tells : TellsEmpty no_total total_columns
total_tells = alone_tells no_total total_columns (λ v e. total_ext v no_total (cc) (cc))

pub range_tells : TellsEmpty no_range range_columns
range_tells = alone_tells no_range range_columns (λ v e. range_ext v no_range (cc) (cc))

pub marks_tell : TellsEmpty no_marks marks_columns
marks_tell = alone_tells no_marks marks_columns (λ v e. let b : v.bits ≡ 0 = cc in ap of_bits b)
