-- What an accepted take, skip or hand says of the run, and which of the three would be accepted.
use Rattle.std.proofs.Common.{◌≡◌, ℕ, ◌<◌, ◌≤◌, Bool, true, false, cond, not, ◌&&◌, eqb, ltb, is_ok, Ok, Err, Result, sym, refl, ap, ◌∙◌, subst, ap₂, arith}
use Rattle.std.proofs.lemmas.Bool.{ltb-true, ltb-false, le-ltb, true≢false}
use Rattle.shapes.specs.Arrays.{total_chunks}
use Rattle.sources.specs.Meanings.{Chunk, values, faulty, Meaning}
use Rattle.cubes.specs.Meanings.{is_readable}
use Rattle.runs.specs.declared.refusals.RunRefusal.{RunRefusal}
use Rattle.runs.specs.declared.refusals.RunRefusal.TheVariants.{TooFew, BlockWaits, AllPassed, OtherShape, NoBlock, ShortBuffer}
use Rattle.runs.specs.Planned.{need_of, released_after, scanned_storage, block_after, block_size}
use Rattle.runs.specs.Answers.{View, passed, waits, done, too_few, next_chunk, then_chunk, take_read, take_answer, skip_read, skip_answer, hand_name, hand_answer}
use Rattle.runs.specs.Lives.{just_one}
use Rattle.runs.proofs.NextChunk.{Ready, ready}
use Rattle.shapes.specs.Views.{same_dims}
use Rattle.shapes.proofs.Compared.{same_dims_decides}

-- Accepted calls

never : {X A : Type 0} {x : X} {e : RunRefusal} → ◌≡◌ {A = Result X RunRefusal} (Ok x) (Err e) → A
never h = let z : ◌≡◌ {A = ℕ} 0 1 = cc in absurd (omega arith)

module _ {M : Type 0} where
  taken_by : (s k : ℕ) (c : Chunk M) → Ok tt ≡ take_read s k c → is_readable c ≡ true
  taken_by s k (values vs) h = refl
  taken_by s k (faulty cause entry) h = never h

  skipped_by : (c : Chunk M) → Ok tt ≡ skip_read c → is_readable c ≡ false
  skipped_by (values vs) h = never h
  skipped_by (faulty cause entry) h = refl

  module _ (σ : Meaning M) (v : View) where
    granted : (f : ℕ → Result (Unit {0}) RunRefusal) → Ok tt ≡ then_chunk (next_chunk v σ.dims) f
        → Ready v σ.dims (scanned_storage v.dims (passed v)) × (Ok tt ≡ f (scanned_storage v.dims (passed v)))
    granted f h = by (next_chunk v σ.dims) refl h
      where
        by : (r : Result ℕ RunRefusal) → next_chunk v σ.dims ≡ r → Ok tt ≡ then_chunk r f
            → Ready v σ.dims (scanned_storage v.dims (passed v)) × (Ok tt ≡ f (scanned_storage v.dims (passed v)))
        by (Ok k) e g =
            let is = ready v σ.dims k e in
            let same : k ≡ scanned_storage v.dims (passed v) = is.chunk in
            (subst (Ready v σ.dims) same is, g ∙ ap f same)
        by (Err x) e g = never g

    pub take_granted : Ok tt ≡ take_answer σ v → Ready v σ.dims (scanned_storage v.dims (passed v)) × (is_readable (σ.chunk (scanned_storage v.dims (passed v))) ≡ true)
    take_granted h =
        let g = granted (λ k. take_read (passed v) k (σ.chunk k)) h in
        (g.0, taken_by (passed v) (scanned_storage v.dims (passed v)) (σ.chunk (scanned_storage v.dims (passed v))) g.1)

    pub skip_granted : Ok tt ≡ skip_answer σ v → Ready v σ.dims (scanned_storage v.dims (passed v)) × (is_readable (σ.chunk (scanned_storage v.dims (passed v))) ≡ false)
    skip_granted h =
        let g = granted (λ k. skip_read (σ.chunk k)) h in
        (g.0, skipped_by (σ.chunk (scanned_storage v.dims (passed v))) g.1)

handed_by : (n size : ℕ) (t w s : Bool) (name x : ℕ × ℕ × ℕ) → Ok x ≡ cond t (Err (TooFew n)) (cond w (cond s (Err (ShortBuffer size)) (Ok name)) (Err NoBlock))
    → (w ≡ true) × (x ≡ name) × (s ≡ false)
handed_by n size true w s name x h = never h
handed_by n size false true true name x h = never h
handed_by n size false true false name x h = (refl, cc, refl)
handed_by n size false false s name x h = never h

-- a hand is accepted only while a block waits and with room for it, and names it
pub hand_granted : (v : View) (room : ℕ) (x : ℕ × ℕ × ℕ) → Ok x ≡ hand_answer v room
    → (v.handed < released_after v.dims (passed v)) × (x ≡ hand_name v.dims (block_after v.dims v.handed)) × (block_size v.dims (block_after v.dims v.handed) ≤ room)
hand_granted v room x h =
    let size : ℕ = block_size v.dims (block_after v.dims v.handed) in
    let g = handed_by (need_of v.dims) size (too_few v) (waits v) (ltb room size) (hand_name v.dims (block_after v.dims v.handed)) x h in
    (ltb-true v.handed (released_after v.dims (passed v)) g.0, g.1, ltb-false room size g.2)

-- What would be accepted, by the tests: too few cells, a block waits, all chunks passed, the same dimensions, a short buffer

abbrev next_by : ℕ → ℕ → Bool → Bool → Bool → Bool → Result ℕ RunRefusal
next_by n k t w e d = cond t (Err (TooFew n)) (cond w (Err BlockWaits) (cond e (Err AllPassed) (cond d (Ok k) (Err OtherShape))))

abbrev hand_by : ℕ → ℕ → Bool → Bool → Bool → ℕ × ℕ × ℕ → Result (ℕ × ℕ × ℕ) RunRefusal
hand_by n size t w short name = cond t (Err (TooFew n)) (cond w (cond short (Err (ShortBuffer size)) (Ok name)) (Err NoBlock))

module _ {M : Type 0} (n s k size : ℕ) (name : ℕ × ℕ × ℕ) (chunk : ℕ → Chunk M) where
  -- the chunk that is next can be read, or can't
  read_or_not : (c : Chunk M) → just_one (is_ok (take_read s k c)) (is_ok (skip_read c)) false ≡ true
  read_or_not (values vs) = refl
  read_or_not (faulty cause entry) = refl

  one_by : (w e : Bool) → (e && not w) ≡ false
      → just_one (is_ok (then_chunk (next_by n k false w e true) (λ j. take_read s j (chunk j)))) (is_ok (then_chunk (next_by n k false w e true) (λ j. skip_read (chunk j))))
      (is_ok (hand_by n size false w false name)) ≡ true
  one_by true e h = refl
  one_by false true h = absurd (true≢false h)
  one_by false false h = read_or_not (chunk k)

  none_by : (w e short : Bool) → (e && not w) ≡ true
      → (is_ok (then_chunk (next_by n k false w e true) (λ j. take_read s j (chunk j))) ≡ false) × (is_ok (then_chunk (next_by n k false w e true) (λ j. skip_read (chunk j))) ≡ false)
      × (is_ok (hand_by n size false w short name) ≡ false)
  none_by true true short h = absurd (true≢false (sym h))
  none_by true false short h = absurd (true≢false (sym h))
  none_by false true short h = (refl, refl, refl)
  none_by false false short h = absurd (true≢false (sym h))

module _ {M : Type 0} (μ : Meaning M) (v : View) (same : v.dims ≡ μ.dims) (enough : need_of v.dims ≤ v.lent) where
  abbrev next_size : ℕ
  next_size = block_size v.dims (block_after v.dims v.handed)

  next_is : next_chunk v μ.dims ≡ next_by (need_of v.dims) (scanned_storage v.dims (passed v)) false (waits v) (eqb (passed v) (total_chunks v.dims)) true
  next_is = ap₂ (λ t d. next_by (need_of v.dims) (scanned_storage v.dims (passed v)) t (waits v) (eqb (passed v) (total_chunks v.dims)) d)
      (le-ltb v.lent (need_of v.dims) enough) (ap (same_dims v.dims) (sym same) ∙ (same_dims_decides v.dims v.dims).1 refl)

  hand_is : (room : ℕ) → hand_answer v room ≡ hand_by (need_of v.dims) next_size false (waits v) (ltb room next_size) (hand_name v.dims (block_after v.dims v.handed))
  hand_is room = ap (λ t. hand_by (need_of v.dims) next_size t (waits v) (ltb room next_size) (hand_name v.dims (block_after v.dims v.handed)))
      (le-ltb v.lent (need_of v.dims) enough)

  -- where no block waits and not all is done, a take and a skip come to the chunk that is next
  going_on : waits v ≡ false → done v ≡ false → next_chunk v μ.dims ≡ Ok (scanned_storage v.dims (passed v))
  going_on w h = next_is ∙ ap₂ (λ x e. next_by (need_of v.dims) (scanned_storage v.dims (passed v)) false x e true) w left
    where
      left_by : (e x : Bool) → x ≡ false → (e && not x) ≡ false → e ≡ false
      left_by true true y z = y
      left_by true false y z = z
      left_by false x y z = refl

      left : eqb (passed v) (total_chunks v.dims) ≡ false
      left = left_by (eqb (passed v) (total_chunks v.dims)) (waits v) w h

  pub take_comes : waits v ≡ false → done v ≡ false
      → take_answer μ v ≡ take_read (passed v) (scanned_storage v.dims (passed v)) (μ.chunk (scanned_storage v.dims (passed v)))
  take_comes w h = ap (λ r. then_chunk r (λ k. take_read (passed v) k (μ.chunk k))) (going_on w h)

  pub skip_comes : waits v ≡ false → done v ≡ false → skip_answer μ v ≡ skip_read (μ.chunk (scanned_storage v.dims (passed v)))
  skip_comes w h = ap (λ r. then_chunk r (λ k. skip_read (μ.chunk k))) (going_on w h)

  -- while a block waits, a buffer that is long enough gets it
  pub hand_comes : waits v ≡ true → (room : ℕ) → next_size ≤ room → hand_answer v room ≡ Ok (hand_name v.dims (block_after v.dims v.handed))
  hand_comes w room l = hand_is room
      ∙ ap₂ (λ x short. hand_by (need_of v.dims) next_size false x short (hand_name v.dims (block_after v.dims v.handed))) w (le-ltb room next_size l)

  pub one_accepted : done v ≡ false → (room : ℕ) → next_size ≤ room → just_one (is_ok (take_answer μ v)) (is_ok (skip_answer μ v)) (is_ok (hand_answer v room)) ≡ true
  one_accepted h room l = rw (next_is, hand_is room, le-ltb room next_size l)
      (one_by (need_of v.dims) (passed v) (scanned_storage v.dims (passed v)) next_size (hand_name v.dims (block_after v.dims v.handed)) μ.chunk (waits v)
      (eqb (passed v) (total_chunks v.dims)) h)

  pub none_accepted : done v ≡ true → (room : ℕ) → (is_ok (take_answer μ v) ≡ false) × (is_ok (skip_answer μ v) ≡ false) × (is_ok (hand_answer v room) ≡ false)
  none_accepted h room = rw (next_is, hand_is room)
      (none_by (need_of v.dims) (passed v) (scanned_storage v.dims (passed v)) next_size (hand_name v.dims (block_after v.dims v.handed)) μ.chunk (waits v)
      (eqb (passed v) (total_chunks v.dims)) (ltb room next_size) h)
