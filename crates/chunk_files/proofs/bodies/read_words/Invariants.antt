use Rattle.std.proofs.Common.{◌≡◌, ℕ, ◌*◌, ◌<◌, ◌≤◌, length, get_or, drop}
use Rattle.chunk_files.specs.Layouts.{word}
use Rattle.chunk_files.specs.Bodies.{words_in, words_fault, word_cell}
use Rattle.chunk_files.specs.Contents.{cell_value}
use Rattle.chunk_files.proofs.Wordings.{filled_to}
use Rattle.chunk_files.proofs.bodies.read_words.Given as goal

-- what is left of the words decides the check; the cells so far are what the words hold, and so many of them are filled
abbrev pub invariant-loop-k : goal.invariant-loop-k
invariant-loop-k g l =
    (words_fault l.k (drop l.k (words_in l.raw (length l.initial.cells))) ≡ words_fault 0 (words_in l.raw (length l.initial.cells)))
    × ((x : ℕ) → x < l.k → get_or l.cells x g.M.Measure.empty ≡ cell_value g.M.Measure.empty g.M.Measure.lifted (word_cell (word l.raw (4 * x))))
    × (l.full ≡ filled_to l.raw (length l.initial.cells) l.k)
    × (l.full ≤ l.k)
