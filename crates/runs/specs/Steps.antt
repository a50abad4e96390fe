-- How the state of a run goes on. Assumes nothing.
use Rattle.std.specs.Prelude.{◌≡◌, ℕ, ◌+◌, length, Some, Ok, Err, Result}
use Rattle.shapes.specs.declared.shape.Shape.{Shape}
use Rattle.shapes.specs.Arrays.{group}
use Rattle.shapes.specs.Views.{dims_of, six}
use Rattle.runs.specs.declared.state.State.{State}
use Rattle.runs.specs.declared.steps.NextBlock.{NextBlock}
use Rattle.runs.specs.declared.refusals.RunRefusal.{RunRefusal}
use Rattle.runs.specs.Planned.{block_after}
use Rattle.runs.specs.Answers.{hand_answer}
use Rattle.runs.specs.Holdings.{state_view}

-- before the first chunk
pub record Begins (shape : Shape) (a : State) : Type 0 where
  pub shaped : a.shape ≡ shape
  pub none_taken : a.taken ≡ 0
  pub none_skipped : a.skipped ≡ 0
  pub none_handed : a.control.handed ≡ 0

-- what no step changes
pub record SamePlan (b a : State) : Type 0 where
  pub shape : a.shape ≡ b.shape
  pub regions : a.regions ≡ b.regions
  pub tree : a.control.tree ≡ b.control.tree

-- a chunk is passed: t more were taken and s more skipped
pub record PassesOn (t s : ℕ) (b a : State) : Type 0 where
  pub plan : SamePlan b a
  pub taken : a.taken ≡ b.taken + t
  pub skipped : a.skipped ≡ b.skipped + s
  pub handed : a.control.handed ≡ b.control.handed

-- a block is handed out
pub record HandsOn (b a : State) : Type 0 where
  pub plan : SamePlan b a
  pub taken : a.taken ≡ b.taken
  pub skipped : a.skipped ≡ b.skipped
  pub handed : a.control.handed ≡ b.control.handed + 1

-- the block that is next: its mask, its chunk coordinates as six, its number and its cells
pub record IsNextBlock (s : State) (x : NextBlock) : Type 0 where
  pub next : s.control.next ≡ Some x.mask
  pub of : (block_after (dims_of s.shape) s.control.handed).of ≡ group (length (dims_of s.shape)) x.mask
  pub at : x.at ≡ six 0 (block_after (dims_of s.shape) s.control.handed).at

-- with so many cells lent, and a buffer of so many: the block, or the refusal
abbrev pub BlockToHand : State → ℕ → ℕ → Result NextBlock RunRefusal → Type 0
BlockToHand s lent room (Ok x) = IsNextBlock s x × (hand_answer (state_view s lent) room ≡ Ok (x.mask, x.number, x.cells))
BlockToHand s lent room (Err e) = hand_answer (state_view s lent) room ≡ Err e
