use Rattle.std.proofs.Common.{sym}
use Rattle.chunk_writers.proofs.Segmented.{pairs_size, words_size, words_many}
use Rattle.chunk_writers.proofs.bodies.Body.size.Goals as goal

pub returns-in-Pairs-clause-size : goal.returns-in-Pairs-clause-size
returns-in-Pairs-clause-size c = sym (pairs_size c.args.self.now c.in-Pairs.ensures)

pub returns-in-Words-clause-size : goal.returns-in-Words-clause-size
returns-in-Words-clause-size c = sym (words_size c.args.self.now c.in-Words.ensures)

pub returns-in-Words-clause-bound : goal.returns-in-Words-clause-bound
returns-in-Words-clause-bound c = words_many c.args.self.now c.in-Words.ensures
