-- The life of a run: what was asked of it and answered, from its making on, and what holds of every life. Assumes nothing.
use Rattle.std.specs.Prelude.{◌≡◌, ℕ, ◌+◌, ◌≤◌, Bool, true, false, cond, not, ◌&&◌, ◌||◌, ◌↔◌, List, [], ◌∷◌, ◌++◌, map, length, drop, is_ok, Ok, Err, Result}
use Rattle.shapes.specs.Arrays.{total_chunks}
use Rattle.sources.specs.Meanings.{Meaning, Alike}
use Rattle.cubes.specs.Summaries.{block}
use Rattle.cubes.specs.Handing.{Block, Distinct, block_count}
use Rattle.runs.specs.declared.refusals.RunRefusal.{RunRefusal}
use Rattle.runs.specs.declared.counts.Counts.{Counts}
use Rattle.runs.specs.Planned.{need_of, handing_order, block_after, block_size}
use Rattle.runs.specs.Answers.{take_answer, skip_answer, hand_answer, count_answer, hand_name}
use Rattle.runs.specs.Holdings.{Moment, view}
use Rattle.runs.specs.Calls.{Makes, Takes, Skips, Hands}

-- a call with its answer; a hand with its buffer before and after
pub data Event (M : Type 0) : Type 0 where
  take : Result (Unit {0}) RunRefusal → Event M
  skip : Result (Unit {0}) RunRefusal → Event M
  hand : List M → Result (ℕ × ℕ × ℕ) RunRefusal → List M → Event M
  count : Counts → Event M

-- an accepted hand: mask, block number and cell count, and the buffer before and after
pub record Handed (M : Type 0) : Type 0 where
  pub name : ℕ × ℕ × ℕ
  pub old : List M
  pub new : List M

-- the block that it named
abbrev pub named_block : {M : Type 0} → Handed M → ℕ × ℕ
named_block h = (h.name.0, h.name.1)

abbrev pub one_if : {A : Type 0} → Result A RunRefusal → ℕ
one_if r = cond (is_ok r) 1 0

-- exactly one of the three holds
abbrev pub just_one : Bool → Bool → Bool → Bool
just_one x y z = (x && (not y && not z)) || (not x && ((y && not z) || (not y && z)))

module _ {M : Type 0} where
  -- a source of the run's shape means μ; one of another shape may mean anything
  abbrev pub Fits : Meaning M → Meaning M → Type 0
  Fits μ σ = σ.dims ≡ μ.dims → Alike σ μ

  -- A run over enough cells of the shape of μ is made; then take, skip, hand and count come in any order, accepted or refused, each of them as its contract says.
  -- The events are listed from the first on.
  pub data History (empty : M) (op : M → M → M) (μ : Meaning M) : List (Event M) → Moment M → Type 0 where
    made : {cells : List M} {m : Moment M} → need_of μ.dims ≤ length cells → Makes empty op μ.dims cells m → History empty op μ [] m
    took : {es : List (Event M)} {b a : Moment M} {r : Result (Unit {0}) RunRefusal} {σ : Meaning M}
        → History empty op μ es b → Fits μ σ → Takes empty op σ b r a → History empty op μ (es ++ (take r ∷ [])) a
    skipped : {es : List (Event M)} {b a : Moment M} {r : Result (Unit {0}) RunRefusal} {σ : Meaning M}
        → History empty op μ es b → Fits μ σ → Skips empty op σ b r a → History empty op μ (es ++ (skip r ∷ [])) a
    handed : {es : List (Event M)} {b a : Moment M} {old new : List M} {r : Result (ℕ × ℕ × ℕ) RunRefusal}
        → History empty op μ es b → Hands empty op b old r new a → History empty op μ (es ++ (hand old r new ∷ [])) a
    counted : {es : List (Event M)} {m : Moment M} {r : Counts}
        → History empty op μ es m → r ≡ count_answer (view m) → History empty op μ (es ++ (count r ∷ [])) m

  -- how many takes and skips were accepted
  abbrev pub takes_in : List (Event M) → ℕ
  takes_in [] = 0
  takes_in (take r ∷ es) = one_if r + takes_in es
  takes_in (skip r ∷ es) = takes_in es
  takes_in (hand old r new ∷ es) = takes_in es
  takes_in (count r ∷ es) = takes_in es

  abbrev pub skips_in : List (Event M) → ℕ
  skips_in [] = 0
  skips_in (take r ∷ es) = skips_in es
  skips_in (skip r ∷ es) = one_if r + skips_in es
  skips_in (hand old r new ∷ es) = skips_in es
  skips_in (count r ∷ es) = skips_in es

  abbrev pub if_handed : List M → Result (ℕ × ℕ × ℕ) RunRefusal → List M → List (Handed M) → List (Handed M)
  if_handed old (Ok x) new hs = record { name = x; old = old; new = new } ∷ hs
  if_handed old (Err e) new hs = hs

  abbrev pub hands_in : List (Event M) → List (Handed M)
  hands_in [] = []
  hands_in (take r ∷ es) = hands_in es
  hands_in (skip r ∷ es) = hands_in es
  hands_in (hand old r new ∷ es) = if_handed old r new (hands_in es)
  hands_in (count r ∷ es) = hands_in es

  -- each hand named the block at its turn and wrote its direct summaries by offset; the rest of the buffer stayed
  abbrev pub HandOut : M → (M → M → M) → Meaning M → List (Handed M) → List Block → Type 0
  HandOut empty op μ [] bs = Unit {0}
  HandOut empty op μ (h ∷ hs) [] = ⊥
  HandOut empty op μ (h ∷ hs) (b ∷ bs) =
      (h.name ≡ hand_name μ.dims b)
      × (h.new ≡ block empty op μ b.of b.at ++ drop (block_size μ.dims b) h.old)
      × HandOut empty op μ hs bs

  -- What a life of a run keeps, whatever was asked, over whatever the sources mean. `told` is what count answers now.
  pub record Kept (empty : M) (op : M → M → M) (μ : Meaning M) (es : List (Event M)) (m : Moment M) (told : Counts) : Type 0 where
    -- the accepted hands named the blocks of the handing order, from the first on, and wrote their direct summaries, unreadable chunks counting as empty
    pub in_order : HandOut empty op μ (hands_in es) (handing_order μ.dims)
    -- no two named the same block
    pub each_once : Distinct (map named_block (hands_in es))
    -- until the run is done, exactly one of take, skip and hand would be accepted, given a long enough buffer; after that none
    pub one_is_next : told.done ≡ false → (room : ℕ) → block_size μ.dims (block_after μ.dims told.handed) ≤ room
        → just_one (is_ok (take_answer μ (view m))) (is_ok (skip_answer μ (view m))) (is_ok (hand_answer (view m) room)) ≡ true
    pub none_is_next : told.done ≡ true → (room : ℕ)
        → (is_ok (take_answer μ (view m)) ≡ false) × (is_ok (skip_answer μ (view m)) ≡ false) × (is_ok (hand_answer (view m) room) ≡ false)
    -- count tells how many were accepted, and done exactly when they are all chunks and all blocks
    pub taken : told.taken ≡ takes_in es
    pub skipped : told.skipped ≡ skips_in es
    pub handed : told.handed ≡ length (hands_in es)
    pub all_done : (told.done ≡ true) ↔ (takes_in es + skips_in es + length (hands_in es) ≡ total_chunks μ.dims + block_count μ.dims)
