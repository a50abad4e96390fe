-- What a run's calls answer, from what its user knows of it. Assumes nothing.
use Rattle.std.specs.Prelude.{ℕ, ◌+◌, Bool, cond, not, ◌&&◌, List, Ok, Err, Result, ◌==◌, nat_lt}
use Rattle.shapes.specs.declared.dims.Dim.{Dim}
use Rattle.shapes.specs.Arrays.{total_chunks}
use Rattle.sources.specs.Meanings.{Chunk, values, faulty, Meaning}
use Rattle.cubes.specs.Handing.{Block, named}
use Rattle.runs.specs.declared.refusals.RunRefusal.{RunRefusal}
use Rattle.runs.specs.declared.refusals.RunRefusal.TheVariants.{Unreadable, TooFew, BlockWaits, AllPassed, OtherShape, Readable, NoBlock, ShortBuffer}
use Rattle.runs.specs.declared.counts.Counts.{Counts}
use Rattle.runs.specs.declared.counts.Closed.{Closed}
use Rattle.runs.specs.Planned.{need_of, released_after, scanned_storage, block_after, block_size}
use Rattle.shapes.specs.Views.{same_dims}

-- what the user of a run knows of it: the dimensions of its shape, how many cells it was lent, and the takes, skips and hands that were accepted
pub record View : Type 0 where
  pub dims : List Dim
  pub lent : ℕ
  pub taken : ℕ
  pub skipped : ℕ
  pub handed : ℕ

-- the chunks passed: each was taken or skipped
abbrev pub passed : View → ℕ
passed v = v.taken + v.skipped

-- a block waits while the chunks passed release more blocks than were handed out
abbrev pub waits : View → Bool
waits v = nat_lt v.handed (released_after v.dims (passed v))

-- done: all chunks were passed, and no block waits
abbrev pub done : View → Bool
done v = passed v == total_chunks v.dims && not (waits v)

-- fewer cells were lent than the plan needs
abbrev pub too_few : View → Bool
too_few v = nat_lt v.lent (need_of v.dims)

-- Take and skip: 17, 18, 19, then 20

-- the storage number of the chunk that is next, over a source of the dimensions ds
abbrev pub next_chunk : View → List Dim → Result ℕ RunRefusal
next_chunk v ds =
    cond (too_few v) (Err (TooFew (need_of v.dims)))
    (cond (waits v) (Err BlockWaits)
    (cond (passed v == total_chunks v.dims) (Err AllPassed)
    (cond (same_dims v.dims ds) (Ok (scanned_storage v.dims (passed v))) (Err OtherShape))))

abbrev pub then_chunk : {A : Type 0} → Result ℕ RunRefusal → (ℕ → Result A RunRefusal) → Result A RunRefusal
then_chunk (Ok k) f = f k
then_chunk (Err e) f = Err e

module _ {M : Type 0} where
  -- the chunk k of the scan number s is taken if it can be read, else 16
  abbrev pub take_read : ℕ → ℕ → Chunk M → Result (Unit {0}) RunRefusal
  take_read s k (values vs) = Ok tt
  take_read s k (faulty cause entry) = Err (Unreadable s k entry cause)

  abbrev pub take_answer : Meaning M → View → Result (Unit {0}) RunRefusal
  take_answer σ v = then_chunk (next_chunk v σ.dims) (λ k. take_read (passed v) k (σ.chunk k))

  -- a chunk is skipped if it can't be read, else 21
  abbrev pub skip_read : Chunk M → Result (Unit {0}) RunRefusal
  skip_read (values vs) = Err Readable
  skip_read (faulty cause entry) = Ok tt

  abbrev pub skip_answer : Meaning M → View → Result (Unit {0}) RunRefusal
  skip_answer σ v = then_chunk (next_chunk v σ.dims) (λ k. skip_read (σ.chunk k))

-- Hand: 17, 22, then 23

abbrev pub hand_name : List Dim → Block → ℕ × ℕ × ℕ
hand_name ds b = ((named ds b).0, (named ds b).1, block_size ds b)

-- mask, block number and cell count of the block that is next, with a buffer of so many cells
abbrev pub hand_answer : View → ℕ → Result (ℕ × ℕ × ℕ) RunRefusal
hand_answer v room =
    cond (too_few v) (Err (TooFew (need_of v.dims)))
    (cond (waits v)
    (cond (nat_lt room (block_size v.dims (block_after v.dims v.handed))) (Err (ShortBuffer (block_size v.dims (block_after v.dims v.handed))))
    (Ok (hand_name v.dims (block_after v.dims v.handed)))) (Err NoBlock))

-- Count and close

abbrev pub count_answer : View → Counts
count_answer v = record { taken = v.taken; skipped = v.skipped; handed = v.handed; done = done v }

abbrev pub close_answer : View → Closed
close_answer v = record { taken = v.taken; skipped = v.skipped; handed = v.handed }

-- What is known afterwards

abbrev pub one_taken : View → View
one_taken v = record { dims = v.dims; lent = v.lent; taken = v.taken + 1; skipped = v.skipped; handed = v.handed }

abbrev pub one_skipped : View → View
one_skipped v = record { dims = v.dims; lent = v.lent; taken = v.taken; skipped = v.skipped + 1; handed = v.handed }

abbrev pub one_handed : View → View
one_handed v = record { dims = v.dims; lent = v.lent; taken = v.taken; skipped = v.skipped; handed = v.handed + 1 }

-- at the start
abbrev pub fresh_view : List Dim → ℕ → View
fresh_view ds lent = record { dims = ds; lent = lent; taken = 0; skipped = 0; handed = 0 }
