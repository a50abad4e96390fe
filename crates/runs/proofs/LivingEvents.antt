-- What one more event adds to a list of events, and one more hand to the blocks handed out.
use Rattle.std.proofs.Common.{◌≡◌, ℕ, zero, suc, ◌+◌, ◌<◌, List, [], ◌∷◌, ◌++◌, map, length, get_or, take, drop, Ok, Err, Result, sym, refl, ap, ◌∙◌, subst, ap₂, arith}
use Rattle.std.proofs.ByRecursion.{All-take}
use Rattle.sources.specs.Meanings.{Meaning}
use Rattle.cubes.specs.Summaries.{block}
use Rattle.cubes.specs.Handing.{Block, named, Distinct}
use Rattle.runs.specs.declared.refusals.RunRefusal.{RunRefusal}
use Rattle.runs.specs.Planned.{block_size}
use Rattle.runs.specs.Answers.{hand_name}
use Rattle.runs.specs.Lives.{Event, Handed, take as took, skip as skipped, hand as handed, count as counted, named_block, takes_in, skips_in, if_handed, hands_in, HandOut}

module _ {M : Type 0} where
  pub takes_push : (es : List (Event M)) (e : Event M) → takes_in (es ++ (e ∷ [])) ≡ takes_in es + takes_in (e ∷ [])
  takes_push [] e = omega arith
  takes_push (took r ∷ es) e = omega (arith, takes_push es e)
  takes_push (skipped r ∷ es) e = takes_push es e
  takes_push (handed old r new ∷ es) e = takes_push es e
  takes_push (counted r ∷ es) e = takes_push es e

  pub skips_push : (es : List (Event M)) (e : Event M) → skips_in (es ++ (e ∷ [])) ≡ skips_in es + skips_in (e ∷ [])
  skips_push [] e = omega arith
  skips_push (took r ∷ es) e = skips_push es e
  skips_push (skipped r ∷ es) e = omega (arith, skips_push es e)
  skips_push (handed old r new ∷ es) e = skips_push es e
  skips_push (counted r ∷ es) e = skips_push es e

  if_append : (old : List M) (r : Result (ℕ × ℕ × ℕ) RunRefusal) (new : List M) (hs ks : List (Handed M)) → if_handed old r new (hs ++ ks) ≡ if_handed old r new hs ++ ks
  if_append old (Ok x) new hs ks = refl
  if_append old (Err e) new hs ks = refl

  pub hands_push : (es : List (Event M)) (e : Event M) → hands_in (es ++ (e ∷ [])) ≡ hands_in es ++ hands_in (e ∷ [])
  hands_push [] e = refl
  hands_push (took r ∷ es) e = hands_push es e
  hands_push (skipped r ∷ es) e = hands_push es e
  hands_push (handed old r new ∷ es) e = ap (if_handed old r new) (hands_push es e) ∙ if_append old r new (hands_in es) (hands_in (e ∷ []))
  hands_push (counted r ∷ es) e = hands_push es e

  -- the hand after the first ones is that of the block after theirs
  pub hand_out_push : (empty : M) (op : M → M → M) (μ : Meaning M) (hs : List (Handed M)) (bs : List Block) (h : Handed M) (b : Block) → length hs < length bs
      → HandOut empty op μ hs bs → h.name ≡ hand_name μ.dims (get_or bs (length hs) b)
      → h.new ≡ block empty op μ (get_or bs (length hs) b).of (get_or bs (length hs) b).at ++ drop (block_size μ.dims (get_or bs (length hs) b)) h.old
      → HandOut empty op μ (hs ++ (h ∷ [])) bs
  hand_out_push empty op μ [] [] h b l o n w = absurd (omega arith)
  hand_out_push empty op μ [] (c ∷ bs) h b l o n w = (n, w, tt)
  hand_out_push empty op μ (k ∷ hs) [] h b l o n w = absurd o
  hand_out_push empty op μ (k ∷ hs) (c ∷ bs) h b l o n w = (o.0, o.1, hand_out_push empty op μ hs bs h b (omega arith) o.2 n w)

  -- the hands name the first blocks
  pub hand_out_names : (empty : M) (op : M → M → M) (μ : Meaning M) (hs : List (Handed M)) (bs : List Block) → HandOut empty op μ hs bs
      → map named_block hs ≡ take (length hs) (map (named μ.dims) bs)
  hand_out_names empty op μ [] bs o = refl
  hand_out_names empty op μ (h ∷ hs) [] o = absurd o
  hand_out_names empty op μ (h ∷ hs) (b ∷ bs) o = ap₂ (λ x xs. x ∷ xs) (ap (λ n. (n.0, n.1)) o.0) (hand_out_names empty op μ hs bs o.2)

pub distinct_take : {X : Type 0} (n : ℕ) (xs : List X) → Distinct xs → Distinct (take n xs)
distinct_take zero xs d = tt
distinct_take (suc n) [] d = tt
distinct_take (suc n) (x ∷ xs) d = (All-take (λ y. y ≡ x → ⊥) n xs d.0, distinct_take n xs d.1)

pub hands_once : {M : Type 0} (empty : M) (op : M → M → M) (μ : Meaning M) (hs : List (Handed M)) (bs : List Block) → HandOut empty op μ hs bs
    → Distinct (map (named μ.dims) bs) → Distinct (map named_block hs)
hands_once empty op μ hs bs o d = subst Distinct (sym (hand_out_names empty op μ hs bs o)) (distinct_take (length hs) (map (named μ.dims) bs) d)
