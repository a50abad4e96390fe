-- Why a file is not listed. Assumes nothing.
use Rattle.shapes.specs.Limits.{Refusal}
use Rattle.plans.specs.Refusals.{too_few}
use Rattle.chunk_files.specs.Refusals.{file_refusal}
use Rattle.listings.specs.declared.refusals.ListRefusal.{ListRefusal}
use Rattle.listings.specs.declared.refusals.ListRefusal.TheVariants.{File, Cells}

abbrev pub list_refusal : ListRefusal → Refusal
list_refusal (File e) = file_refusal e
list_refusal (Cells e) = too_few e
