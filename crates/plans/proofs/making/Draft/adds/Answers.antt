use Rattle.std.proofs.Common.{◌≡◌, ℕ, ◌+◌, ◌-◌, ◌^◌, ◌<◌, ◌≤◌, ◌⊎◌, inl, inr, List, ◌++◌, length, drop, get_or, replicate, sym, ap, ◌∙◌, arith}
use Rattle.std.proofs.lemmas.Bool.{cases_lt}
use Rattle.std.proofs.lemmas.List.{length-take-le, length-replicate, get_or-drop, get_or-append-add, get_or-replicate, get_or_past}
use Rattle.plans.specs.declared.making.Draft.{Draft}
use Rattle.plans.proofs.Few.{few_masks}
use Rattle.plans.proofs.making.Draft.adds.Goals as goal

few_others : (d : Draft) (k : ℕ) → k ≡ 2 ^ length d.dims.now - 1 → k ≤ 64
few_others d k is = omega (arith, few_masks (length d.dims.now) d.few)

-- behind what was written a table of one number has that number
same_at : (a n i : ℕ) → get_or (replicate n a) i a ≡ a
same_at a n i = go (cases_lt i n)
  where
    go : (i < n) ⊎ (n ≤ i) → get_or (replicate n a) i a ≡ a
    go (inl h) = get_or-replicate n i a a h
    go (inr h) = get_or_past (replicate n a) i a (omega (arith, length-replicate n a))

same_behind : (a n : ℕ) (xs : List ℕ) (k m : ℕ) → length xs ≡ k → k ≤ m → get_or (xs ++ drop k (replicate n a)) m a ≡ a
same_behind a n xs k m long h =
    let e : m ≡ length xs + (m - k) = omega arith in
    ap (λ j. get_or (xs ++ drop k (replicate n a)) j a) e
    ∙ (get_or-append-add xs (drop k (replicate n a)) (m - k) a ∙ (get_or-drop k (replicate n a) (m - k) a ∙ same_at a n (k + (m - k))))

pub slice_bounds-adds-end : goal.slice_bounds-adds-end
slice_bounds-adds-end c = few_others c.args.self.now c.others.result c.others.ensures

pub slice_bounds-others-end : goal.slice_bounds-others-end
slice_bounds-others-end c = sym (length-take-le c.others.result _ (few_others c.args.self.now c.others.result c.others.ensures))

pub loop-mask-init : goal.loop-mask-init
loop-mask-init c = (length-take-le c.others.result _ (few_others c.args.self.now c.others.result c.others.ensures) ∙ c.others.ensures, λ k l. absurd (omega arith))

pub returns-clause-past : goal.returns-clause-past
returns-clause-past c = λ m h. same_behind 0 64 c.loop-mask.others c.others.result m (omega (arith, c.loop-mask.invariant.0, c.others.ensures)) (omega (arith, c.others.ensures))
