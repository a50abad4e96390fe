use Rattle.listings.specs.Telling.{total_tells, range_tells, marks_tell}
use Rattle.listings.proofs.laws.only_empty_is_left_out.Goals as goal

pub returns : goal.returns
returns c = (total_tells, range_tells, marks_tell)
