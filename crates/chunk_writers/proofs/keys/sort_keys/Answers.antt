use Rattle.chunk_writers.proofs.Sorting.{ordered_from}
use Rattle.chunk_writers.proofs.keys.sort_keys.Goals as goal

pub returns-clause-ordered : goal.returns-clause-ordered
returns-clause-ordered c = ordered_from c.sort_unstable.new.self.items c.sort_unstable.ensures.sorted
