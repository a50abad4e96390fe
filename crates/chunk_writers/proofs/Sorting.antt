-- Sorted keys. Assumes nothing.
use Rattle.std.proofs.Common.{◌≡◌, ℕ, zero, suc, ◌+◌, ◌-◌, ◌<◌, ◌≤◌, Bool, false, ◌⊎◌, List, length, get_or, refl, subst, inr, arith}
use Rattle.std.specs.Ordering.{is_lt, nat_cmp, ordering_then}
use Rattle.std.specs.List.Sorted.{IsSortedWithin}
use Rattle.std.proofs.lemmas.Bool.Decides.{nat_tests}
use Rattle.chunk_writers.specs.declared.keys.Key.{Key}
use Rattle.chunk_writers.specs.Keys.{Below, Together, Ordered}

-- what a sort says of neighbours
abbrev pub less : Key → Key → Bool
less a b = is_lt (ordering_then (nat_cmp a.chunk b.chunk) (ordering_then (nat_cmp a.offset b.offset) (nat_cmp a.row b.row)))

abbrev pub Upto : Key → Key → Type 0
Upto a b = Below a b ⊎ (Together a b × (a.row ≤ b.row))

not_less : (a b : Key) → less b a ≡ false → Upto a b
not_less a b h = grind (arith, nat_tests)

upto_itself : (a : Key) → Upto a a
upto_itself a = inr ((refl, refl), omega arith)

upto_trans : (a b c : Key) → Upto a b → Upto b c → Upto a c
upto_trans a b c h k = grind arith

module _ (ks : List Key) (up : IsSortedWithin less ks 0 (length ks)) where
  far : (i m : ℕ) (d : Key) → i + m < length ks → Upto (get_or ks i d) (get_or ks (i + m) d)
  far i zero d l = let e : i ≡ i + 0 = omega arith in subst (λ n. Upto (get_or ks i d) (get_or ks n d)) e (upto_itself (get_or ks i d))
  far i (suc m) d l =
      let e : i + m + 1 ≡ i + suc m = omega arith in
      let next = not_less (get_or ks (i + m) d) (get_or ks (i + m + 1) d) (up (i + m) d (omega arith) (omega arith)) in
      subst (λ n. Upto (get_or ks i d) (get_or ks n d)) e (upto_trans (get_or ks i d) (get_or ks (i + m) d) (get_or ks (i + m + 1) d) (far i m d (omega arith)) next)

  pub ordered_from : Ordered ks
  ordered_from i j d h l =
      let e : i + (j - i) ≡ j = omega arith in
      subst (λ n. Upto (get_or ks i d) (get_or ks n d)) e (far i (j - i) d (omega arith))
