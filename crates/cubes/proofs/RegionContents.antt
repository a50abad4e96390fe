-- What a region holds, from one block of its parent to the next.
use Rattle.std.proofs.Common.{◌≡◌, ℕ, ◌+◌, true, false, cond, ◌⊎◌, List, get_or, set, sym, refl, ap, ◌∙◌, inl, inr}
use Rattle.std.proofs.lemmas.Bool.{cases_Bool}
use Rattle.shapes.specs.Arrays.{Below, radix, sizes, counts, chunk_of, agrees}
use Rattle.measures.specs.Laws.{Lawful}
use Rattle.cubes.specs.Summaries.{contribution}
use Rattle.cubes.specs.SummaryLaws.{parent_scan, held, RegionsHold}
use Rattle.cubes.proofs.Contents.{content_hit, content_miss}
use Rattle.cubes.proofs.RegionSteps.{region_complete, region_fresh, scan_apart_blocks, first_lowest, next_lowest, next_same}

pub regions_hold : {M : Type 0} (empty : M) (op : M → M → M) → Lawful empty op → RegionsHold empty op
regions_hold {M} empty op laws σ place h e divided order lh lacks = record {
  first = λ c b z. first_lowest σ.dims place order h e lh lacks.0 c b z;
  fresh = λ c x b bx r low. region_fresh empty op laws σ.dims σ.chunk place h e x c divided bx lh lacks.0 lacks.1 b r low;
  joined = λ c x b bx. at c x b bx (cases_Bool (agrees h (chunk_of σ.dims x) c));
  complete = λ c x b bx r high. region_complete empty op laws σ.dims σ.chunk place h e x c divided bx lh lacks.0 lacks.1 b r high;
  emptied = λ c c' x b b' next bx r high. ap (held empty op σ place h e x) (sym next)
      ∙ region_fresh empty op laws σ.dims σ.chunk place h e x c' divided bx lh lacks.0 lacks.1 b' r
      (next_lowest σ.dims place order h e lh lacks.0 c b c' b' next high);
  stays = λ c c' x b b' next low r i l t q. r i l t q ∙ next_same σ.dims place order h e lh lacks.0 c b c' b' next low i l q;
}
  where
    at : (c x : List ℕ) → Below (radix (set h e true) (counts σ.dims)) c → Below (sizes σ.dims) x
        → (agrees h (chunk_of σ.dims x) c ≡ true) ⊎ (agrees h (chunk_of σ.dims x) c ≡ false)
        → held empty op σ place h e x (parent_scan σ.dims place h e c + 1)
        ≡ cond (agrees h (chunk_of σ.dims x) c)
        (op (held empty op σ place h e x (parent_scan σ.dims place h e c)) (contribution empty op σ h e x (get_or c e 0)))
        (held empty op σ place h e x (parent_scan σ.dims place h e c))
    at c x b bx (inl t) =
        content_hit empty op laws σ.dims σ.chunk (parent_scan σ.dims place h e) h e x c (parent_scan σ.dims place h e c) divided bx lh lacks.0
        lacks.1
        (scan_apart_blocks σ.dims place order h e lh lacks.0) b refl t
        ∙ sym (ap (λ z. cond z (op (held empty op σ place h e x (parent_scan σ.dims place h e c)) (contribution empty op σ h e x (get_or c e 0)))
        (held empty op σ place h e x (parent_scan σ.dims place h e c))) t)
    at c x b bx (inr t) =
        content_miss empty op laws σ.dims σ.chunk (parent_scan σ.dims place h e) h e x c (parent_scan σ.dims place h e c) divided bx lh lacks.0
        lacks.1
        (scan_apart_blocks σ.dims place order h e lh lacks.0) b refl t
        ∙ sym (ap (λ z. cond z (op (held empty op σ place h e x (parent_scan σ.dims place h e c)) (contribution empty op σ h e x (get_or c e 0)))
        (held empty op σ place h e x (parent_scan σ.dims place h e c))) t)
