-- The definitions on small arrays, worked out. Assumes nothing.
use Rattle.std.specs.Prelude.{◌≡◌, ℕ, zero, suc, ◌+◌, List, [], ◌∷◌, map}
use Rattle.shapes.specs.declared.dims.Dim.{Dim}
use Rattle.shapes.specs.Arrays.{groups}
use Rattle.plans.specs.Plans.{plan_place, plan_adds}
use Rattle.sources.specs.Meanings.{Chunk, values, faulty}
use Rattle.cubes.specs.Summaries.{block}
use Rattle.cubes.specs.Handing.{handing, named}

-- sizes 4 and 2 with edges 2 and 2
abbrev pub four_by_two : List Dim
four_by_two = record { size = 4; edge = 2 } ∷ record { size = 2; edge = 2 } ∷ []

-- readings 5 at (0, 0), 7 at (3, 0) and 1 at (3, 1), as sums
abbrev pub three_readings : ℕ → Chunk ℕ
three_readings zero = values (5 ∷ 0 ∷ 0 ∷ 0 ∷ [])
three_readings (suc zero) = values (0 ∷ 7 ∷ 0 ∷ 1 ∷ [])
three_readings (suc (suc s)) = faulty 0 0

-- the same with a fault in place of chunk 0
abbrev pub one_fault : ℕ → Chunk ℕ
one_fault zero = faulty 1 0
one_fault (suc s) = three_readings (suc s)

-- the blocks in the handing order of the plan, each with its mask, its block number and its sums by offset
abbrev pub handed_sums : (ℕ → Chunk ℕ) → List ((ℕ × ℕ) × List ℕ)
handed_sums chunk =
    map (λ b. (named four_by_two b, block 0 ◌+◌ (record { dims = four_by_two; chunk = chunk }) b.of b.at))
    (handing four_by_two (plan_place four_by_two) (plan_adds four_by_two) (groups 2))

pub record Examples : Type 0 where
  pub readable : handed_sums three_readings
      ≡ ((3, 0), 5 ∷ 0 ∷ 0 ∷ 0 ∷ []) ∷ ((1, 0), 5 ∷ 0 ∷ []) ∷ ((3, 1), 0 ∷ 7 ∷ 0 ∷ 1 ∷ []) ∷ ((1, 1), 0 ∷ 8 ∷ []) ∷ ((2, 0), 12 ∷ 1 ∷ []) ∷ ((0, 0), 13 ∷ []) ∷ []
  pub with_a_fault : handed_sums one_fault
      ≡ ((3, 0), 0 ∷ 0 ∷ 0 ∷ 0 ∷ []) ∷ ((1, 0), 0 ∷ 0 ∷ []) ∷ ((3, 1), 0 ∷ 7 ∷ 0 ∷ 1 ∷ []) ∷ ((1, 1), 0 ∷ 8 ∷ []) ∷ ((2, 0), 7 ∷ 1 ∷ []) ∷ ((0, 0), 8 ∷ []) ∷ []
