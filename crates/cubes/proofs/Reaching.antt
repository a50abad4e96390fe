-- The machine comes wherever the handing order says, and its counts are those of the blocks handed out.
use Rattle.std.proofs.Common.{◌≡◌, ℕ, zero, suc, ◌+◌, ◌-◌, ◌^◌, ◌<◌, ◌≤◌, List, [], ◌∷◌, ◌++◌, length, get_or, take, Some, None, Option, sym, refl, ap, ◌∙◌, subst, arith}
use Rattle.std.specs.List.{range_with_len, flat_map}
use Rattle.std.proofs.lemmas.List.{length_push, length-append}
use Rattle.shapes.specs.declared.dims.Dim.{Dim}
use Rattle.shapes.specs.Arrays.{Group, total_chunks, mask, group, root}
use Rattle.cubes.specs.Handing.{Scan, release_of, released, handing, tally}
use Rattle.cubes.specs.Control.{Numbered, Table, tree, one_more, next_from, Reached, start, pass, hand, MachineLaws}
use Rattle.cubes.specs.Progress.{table_of, group_at, Progress, IsNext, Counted, MaskWithin, ProgressIsCounted}
use Rattle.cubes.proofs.Listing.{counting_suc, joined_append}
use Rattle.cubes.proofs.Groups.{mask_back, mask_within}
use Rattle.cubes.proofs.MachineLaws.{machine_laws}
use Rattle.cubes.proofs.Counting.{progress_laws}
use Rattle.shapes.proofs.Masks.{length-group, mask-group}

-- a chunk more releases no less
pub released_rising : (ds : List Dim) (place : ℕ → ℕ) (adds : Group → ℕ) (all : List Group) (t : ℕ)
    → released ds place adds all t ≤ released ds place adds all (suc t)
released_rising ds place adds all t = omega (
  arith,
  ap length (ap (flat_map (release_of ds place adds all)) (counting_suc t) ∙ joined_append (release_of ds place adds all) (range_with_len 0 t) (t ∷ [])),
  length-append (flat_map (release_of ds place adds all) (range_with_len 0 t)) (flat_map (release_of ds place adds all) (t ∷ [])),
)

module _ (ds : List Dim) (place : ℕ → ℕ) (adds : Group → ℕ) (all : List Group) (S : Scan ds place adds all) where
  hands : MachineLaws ds place adds all
  hands = machine_laws ds place adds all S

  -- a state after t chunks and k blocks
  pub record Reachable (t k : ℕ) : Type 0 where
    pub sequence : List Numbered
    pub next : Option Group
    pub table : Table
    pub reached : Reached ds place adds all sequence t next table
    pub so_many : length sequence ≡ k

  pub since : (xs : List Numbered) (t : ℕ) (o : Option Group) (d : Table) → Reached ds place adds all xs t o d → t ≤ total_chunks ds → (u : ℕ) → suc u ≡ t
      → released ds place adds all u ≤ length xs
  since xs t o d start l u e = absurd (omega arith)
  since xs t o d (pass {t = v} r) l u e = omega (arith, ap (released ds place adds all) same, hands.none_more r (omega arith))
    where
      same : u ≡ v
      same = omega arith
  since xs t o d (hand {xs = ys} {g = g} {d = f} r) l u e = omega (arith, since ys t (Some g) f r l u e, length_push ys (record { of = g; number = f g }))

  reachable_later : (j t k : ℕ) → t ≤ total_chunks ds → Reachable t k → k + j ≤ released ds place adds all t → Reachable t (k + j)
  reachable_later zero t k l c b = subst (Reachable t) (let e : k ≡ k + 0 = omega arith in e) c
  reachable_later (suc j) t k l c b =
      subst (Reachable t) (let e : suc k + j ≡ k + suc j = omega arith in e) (reachable_later j t (suc k) l (step c.next c.reached) (omega arith))
    where
      step : (o : Option Group) → Reached ds place adds all c.sequence t o c.table → Reachable t (suc k)
      step None r = absurd (omega (arith, hands.none_more r l, c.so_many))
      step (Some g) r = record {
        sequence = c.sequence ++ (record { of = g; number = c.table g } ∷ []);
        next = next_from (tree ds place adds all) t (suc (length ds)) (one_more c.table g) g;
        table = one_more c.table g;
        reached = hand r;
        so_many = length_push c.sequence (record { of = g; number = c.table g }) ∙ (omega (arith, c.so_many));
      }

  reachable_pass : (t : ℕ) → suc t ≤ total_chunks ds → Reachable t (released ds place adds all t) → Reachable (suc t) (released ds place adds all t)
  reachable_pass t l c = step c.next c.reached
    where
      step : (o : Option Group) → Reached ds place adds all c.sequence t o c.table → Reachable (suc t) (released ds place adds all t)
      step None r = record { sequence = c.sequence; next = Some (root (length ds)); table = c.table; reached = pass r; so_many = c.so_many }
      step (Some g) r = absurd (omega (arith, hands.some_more r (omega arith), c.so_many))

  -- where all that t chunks release was handed out
  pub reachable_all : (t : ℕ) → t ≤ total_chunks ds → Reachable t (released ds place adds all t)
  reachable_all zero l = record { sequence = []; next = None; table = λ _. 0; reached = start; so_many = refl }
  reachable_all (suc t) l = subst (Reachable (suc t)) (let e : released ds place adds all t + (released ds place adds all (suc t) - released ds place adds all t)
      ≡ released ds place adds all (suc t) = omega (arith, released_rising ds place adds all t) in e)
      (reachable_later (released ds place adds all (suc t) - released ds place adds all t) (suc t) (released ds place adds all t) l
      (reachable_pass t l (reachable_all t (omega arith)))
      (omega (arith, released_rising ds place adds all t)))

  -- a chunk more releases its own block at least
  pub released_more : (t : ℕ) → suc t ≤ total_chunks ds → released ds place adds all t < released ds place adds all (suc t)
  released_more t l = step (reachable_all t (omega arith)).next (reachable_all t (omega arith)).reached
    where
      step : (o : Option Group) → Reached ds place adds all (reachable_all t (omega arith)).sequence t o (reachable_all t (omega arith)).table
          → released ds place adds all t < released ds place adds all (suc t)
      step None r = omega (arith, hands.some_more (pass r) l, (reachable_all t (omega arith)).so_many)
      step (Some g) r = absurd (omega (arith, hands.some_more r (omega arith), (reachable_all t (omega arith)).so_many))

  -- and each number of blocks on the way
  pub reachable : (t k : ℕ) → t ≤ total_chunks ds → ((u : ℕ) → suc u ≡ t → released ds place adds all u ≤ k) → k ≤ released ds place adds all t → Reachable t k
  reachable zero k l low high = record { sequence = []; next = None; table = λ _. 0; reached = start; so_many = omega (arith, high) }
  reachable (suc t) k l low high =
      subst (Reachable (suc t)) (let e : released ds place adds all t + (k - released ds place adds all t) ≡ k = omega (arith, low t refl) in e)
      (reachable_later (k - released ds place adds all t) (suc t) (released ds place adds all t) l (reachable_pass t l (reachable_all t (omega arith)))
      (omega (arith, low t refl)))

  -- its counts
  pub tallied : (xs : List Numbered) (t : ℕ) (o : Option Group) (d : Table) → Reached ds place adds all xs t o d → t ≤ total_chunks ds → (h : Group) → d h
      ≡ tally (take (length xs) (handing ds place adds all)) h
  tallied xs t o d r l h = hands.counted r h ∙ ap (λ bs. tally bs h) (hands.front r l)

  to_counted : (t k : ℕ) (at : Option ℕ) (cs : List ℕ) → t ≤ total_chunks ds → MaskWithin (length ds) at → Progress ds place adds all t k at cs
      → Counted ds place adds all t k at cs
  to_counted t k at cs l w s = record { within = l; since = low; until = until at next; tallies = tallies; all_counts = s.all_counts; next = next }
    where
      low : (u : ℕ) → suc u ≡ t → released ds place adds all u ≤ k
      low u e = omega (arith, since s.sequence t (group_at (length ds) at) s.table s.reached l u e, s.handed)

      is_next : (o : Option ℕ) → MaskWithin (length ds) o → Progress ds place adds all t k o cs → IsNext ds place adds all t k o
      is_next None w p = sym ((progress_laws ds place adds all S).none_waits t k cs l p)
      is_next (Some m) w p = (
        w,
        (progress_laws ds place adds all S).some_wait t k m cs l p,
        λ b. ap (λ x. x.of)
            ((progress_laws ds place adds all S).next t k m cs w l p b),
      )

      next : IsNext ds place adds all t k at
      next = is_next at w s

      until : (o : Option ℕ) → IsNext ds place adds all t k o → k ≤ released ds place adds all t
      until None q = omega (arith, q)
      until (Some m) q = omega (arith, q.1)

      tallies : (m : ℕ) → m < 2 ^ length ds → get_or cs m 0 ≡ tally (take k (handing ds place adds all)) (group (length ds) m)
      tallies m lm = ap (λ i. get_or cs i 0) (sym (mask-group (length ds) m lm))
          ∙ (sym (s.counted (group (length ds) m) (length-group (length ds) m))
          ∙ (tallied s.sequence t (group_at (length ds) at) s.table s.reached l (group (length ds) m)
          ∙ ap (λ i. tally (take i (handing ds place adds all)) (group (length ds) m)) s.handed))

  from_counted : (t k : ℕ) (at : Option ℕ) (cs : List ℕ) → Counted ds place adds all t k at cs → (t ≤ total_chunks ds) × MaskWithin (length ds) at
      × Progress ds place adds all t k at cs
  from_counted t k at cs s = (
    s.within,
    below at s.next,
    record {
      sequence = it.sequence;
      table = it.table;
      reached = subst (λ o. Reached ds place adds all it.sequence t o it.table) (same at s.next it.next it.reached) it.reached;
      handed = it.so_many;
      counted = counted;
      all_counts = s.all_counts;
    },
  )
    where
      it : Reachable t k
      it = reachable t k s.within s.since s.until

      below : (o : Option ℕ) → IsNext ds place adds all t k o → MaskWithin (length ds) o
      below None q = tt
      below (Some m) q = q.0

      same : (o : Option ℕ) → IsNext ds place adds all t k o → (p : Option Group) → Reached ds place adds all it.sequence t p it.table → p
          ≡ group_at (length ds) o
      same None q None r = refl
      same None q (Some h) r = absurd (omega (arith, hands.some_more r s.within, it.so_many, q))
      same (Some m) q None r = absurd (omega (arith, hands.none_more r s.within, it.so_many, q.1))
      same (Some m) q (Some h) r = ap Some (sym (ap (λ x. x.of) (hands.next r s.within (record { of = h; at = [] })))
          ∙ (ap (λ i. (get_or (handing ds place adds all) i (record { of = h; at = [] })).of) it.so_many ∙ q.2 (record { of = h; at = [] })))

      counted : (h : Group) → length h ≡ length ds → it.table h ≡ table_of cs h
      counted h l = tallied it.sequence t it.next it.table it.reached s.within h
          ∙ (ap (λ i. tally (take i (handing ds place adds all)) h) it.so_many
          ∙ (ap (tally (take k (handing ds place adds all))) (sym (mask_back (length ds) h l)) ∙ sym (s.tallies (mask h) (mask_within (length ds) h l))))

  pub progress_is_counted : ProgressIsCounted ds place adds all
  progress_is_counted t k at cs = (λ p. to_counted t k at cs p.0 p.1 p.2, from_counted t k at cs)
