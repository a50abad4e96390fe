-- Small inputs, computed from the definitions.
use Rattle.std.proofs.Common.{refl}
use Rattle.std.specs.Fmt.{digits}
use Rattle.chunk_files.specs.Layouts.{file_fault, file_dims}
use Rattle.chunk_files.specs.Bodies.{readings}
use Rattle.cubes.specs.Handing.{release}
use Rattle.runs.specs.Planned.{places_of, adds_of, need_of, handing_order}
use Rattle.runs.specs.Surveys.{readable_chunks, unreadable_chunks}
use Rattle.listings.specs.Lines.{dims_line, cells_line, cell_line, end_line, refused_lines}
use Rattle.listings.specs.Listings.{block_lines, summary_lines, file_listing, listing}
use Rattle.listings.specs.Examples.{Examples}

pub examples : Examples
unfolding readable_chunks unreadable_chunks digits dims_line cells_line cell_line end_line refused_lines file_fault file_dims readings release places_of adds_of need_of handing_order block_lines summary_lines file_listing listing
examples = record { totals = refl; ranges = refl; marks = refl; with_a_fault = refl; cut = refl; too_large = refl }
