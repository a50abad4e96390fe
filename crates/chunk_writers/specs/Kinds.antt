-- The kind of a chunk's body. Assumes nothing.
use Rattle.std.specs.Prelude.{ℕ, cond}
use Rattle.chunk_files.specs.declared.kind.BodyKind.{BodyKind}
use Rattle.chunk_files.specs.declared.kind.BodyKind.TheVariants.{Pairs, Words}
use Rattle.chunk_writers.specs.Written.{dense}

-- the kind of a chunk of v cells of which n are filled
abbrev pub made_kind : ℕ → ℕ → BodyKind
made_kind v n = cond (dense v n) Words Pairs
