use Rattle.std.proofs.Common.{arith}
use Rattle.chunk_writers.proofs.Segmented.{pairs_size, words_size}
use Rattle.chunk_writers.proofs.bodies.Body.put.Goals as goal

pub put_pairs-requires : goal.put_pairs-requires
put_pairs-requires c = let s = pairs_size c.args.self.now c.in-Pairs.ensures in let r = c.requires in omega arith

pub put_words-requires : goal.put_words-requires
put_words-requires c = let s = words_size c.args.self.now c.in-Words.ensures in let r = c.requires in omega arith
