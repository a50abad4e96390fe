use Rattle.std.proofs.Common.{◌≡◌, map, take}
use Rattle.chunk_files.specs.Bodies.{held}
use Rattle.chunk_writers.specs.Keys.{pair_of}
use Rattle.chunk_writers.specs.Written.{put}
use Rattle.chunk_writers.proofs.Worded.{words}
use Rattle.chunk_writers.proofs.bodies.Body.put_words.Given as goal

abbrev pub invariant-loop-key : goal.invariant-loop-key
invariant-loop-key l = l.out ≡ put l.fn.out l.at (words (held (map (pair_of l.self.rows.now) (take l.key-index l.self.keys.now))) 0 l.self.cells)
