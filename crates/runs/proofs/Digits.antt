-- A walk over digits by rising number, with the cells of a box.
use Rattle.std.proofs.Common.{◌≡◌, ℕ, zero, suc, ◌+◌, ◌-◌, ◌*◌, ◌/◌, ◌%◌, ◌<◌, ◌≤◌, cond, ltb, ◌⊎◌, List, [], ◌∷◌, ◌++◌, length, get_or, drop, set, replicate, sym, refl, ap, ◌∙◌, subst, ap₂, inl, inr, div-add-mod', arith}
use lib.Arith.{digits_div, digits_mod}
use Rattle.std.proofs.lemmas.List.{drop_more, set_at, append_assoc, replicate_more, length-replicate, get_or_at, length-drop, length-append, drop_all}
use Rattle.std.proofs.lemmas.Bool.{lt-ltb, le-ltb, cases_lt}
use Rattle.std.proofs.lemmas.Nat.{mod_below}
use Rattle.shapes.specs.Arrays.{digits, Below}
use Rattle.runs.specs.Boxes.{dot, next_digits, Positive, Within}

pub dot_more : (ss cs : List ℕ) (i : ℕ) → i < length cs → length cs ≡ length ss → dot ss (set cs i (get_or cs i 0 + 1)) ≡ dot ss cs + get_or ss i 0
dot_more [] cs i l e = absurd (omega arith)
dot_more (s ∷ ss) [] i l e = absurd (omega arith)
dot_more (s ∷ ss) (c ∷ cs) zero l e = omega arith
dot_more (s ∷ ss) (c ∷ cs) (suc i) l e = omega (arith, dot_more ss cs i (omega arith) (omega arith))

pub dot_clear : (ss cs : List ℕ) (i : ℕ) → i < length cs → length cs ≡ length ss → dot ss (set cs i 0) + get_or cs i 0 * get_or ss i 0 ≡ dot ss cs
dot_clear [] cs i l e = absurd (omega arith)
dot_clear (s ∷ ss) [] i l e = absurd (omega arith)
dot_clear (s ∷ ss) (c ∷ cs) zero l e = omega arith
dot_clear (s ∷ ss) (c ∷ cs) (suc i) l e = omega (arith, dot_clear ss cs i (omega arith) (omega arith))

-- at the digit i: the lower ones are 0, the others as they were
module _ (ks cs : List ℕ) (i : ℕ) (l : i < length cs) (e : length cs ≡ length ks) where
  drop_cs : drop i cs ≡ get_or cs i 0 ∷ drop (i + 1) cs
  drop_cs = drop_more cs i 0 l

  pub front_at : get_or (replicate i 0 ++ drop i cs) i 0 ≡ get_or cs i 0
  front_at = ap (λ z. get_or (replicate i 0 ++ z) i 0) drop_cs ∙ get_or_at (replicate i 0) (get_or cs i 0) (drop (i + 1) cs) 0 i (length-replicate i 0)

  pub front_set : (v : ℕ) → set (replicate i 0 ++ drop i cs) i v ≡ replicate i 0 ++ v ∷ drop (i + 1) cs
  front_set v = ap (λ z. set (replicate i 0 ++ z) i v) drop_cs ∙ set_at (replicate i 0) (get_or cs i 0) (drop (i + 1) cs) v i (length-replicate i 0)

  pub front_more : set (replicate i 0 ++ drop i cs) i 0 ≡ replicate (i + 1) 0 ++ drop (i + 1) cs
  front_more = front_set 0 ∙ sym (append_assoc (replicate i 0) (0 ∷ []) (drop (i + 1) cs)) ∙ ap (λ ys. ys ++ drop (i + 1) cs) (replicate_more i 0)

  next_digits_here : next_digits (drop i ks) (drop i cs) ≡ cond (ltb (get_or cs i 0 + 1) (get_or ks i 0)) ((get_or cs i 0 + 1) ∷ drop (i + 1) cs) (0 ∷ next_digits (drop (i + 1) ks) (drop (i + 1) cs))
  next_digits_here = ap₂ next_digits (drop_more ks i 0 (omega arith)) drop_cs

  pub next_digits_stop : get_or cs i 0 + 1 < get_or ks i 0 → next_digits (drop i ks) (drop i cs) ≡ (get_or cs i 0 + 1) ∷ drop (i + 1) cs
  next_digits_stop h = next_digits_here ∙ ap (λ z. cond z ((get_or cs i 0 + 1) ∷ drop (i + 1) cs) (0 ∷ next_digits (drop (i + 1) ks) (drop (i + 1) cs))) (lt-ltb (get_or cs i 0 + 1) (get_or ks i 0) h)

  pub next_digits_carry : get_or ks i 0 ≤ get_or cs i 0 + 1 → replicate i 0 ++ next_digits (drop i ks) (drop i cs) ≡ replicate (i + 1) 0 ++ next_digits (drop (i + 1) ks) (drop (i + 1) cs)
  next_digits_carry h = ap (λ z. replicate i 0 ++ z) (next_digits_here ∙ ap (λ z. cond z ((get_or cs i 0 + 1) ∷ drop (i + 1) cs) (0 ∷ next_digits (drop (i + 1) ks) (drop (i + 1) cs))) (le-ltb (get_or cs i 0 + 1) (get_or ks i 0) h))
      ∙ sym (append_assoc (replicate i 0) (0 ∷ []) (next_digits (drop (i + 1) ks) (drop (i + 1) cs))) ∙ ap (λ ys. ys ++ next_digits (drop (i + 1) ks) (drop (i + 1) cs)) (replicate_more i 0)

pub digits_positive : (ks : List ℕ) (s : ℕ) → Positive ks → Below ks (digits ks s)
digits_positive [] s p = tt
digits_positive (k ∷ ks) s p = (mod_below s k p.0, digits_positive ks (s / k) p.1)

pub next_digits_digits : (ks : List ℕ) (s : ℕ) → Positive ks → next_digits ks (digits ks s) ≡ digits ks (s + 1)
next_digits_digits [] s p = refl
next_digits_digits (k ∷ ks) s p = at (cases_lt (s % k + 1) k) (next_digits_digits ks (s / k) p.1)
  where
    whole : s / k * k + s % k ≡ s
    whole = div-add-mod' s k

    at : (s % k + 1 < k) ⊎ (k ≤ s % k + 1) → next_digits ks (digits ks (s / k)) ≡ digits ks (s / k + 1)
        → cond (ltb (s % k + 1) k) ((s % k + 1) ∷ digits ks (s / k)) (0 ∷ next_digits ks (digits ks (s / k))) ≡ (s + 1) % k ∷ digits ks ((s + 1) / k)
    at (inl h) ih = ap (λ z. cond z ((s % k + 1) ∷ digits ks (s / k)) (0 ∷ next_digits ks (digits ks (s / k)))) (lt-ltb (s % k + 1) k h)
        ∙ sym (ap₂ (λ a b. a ∷ digits ks b) (ap (λ z. z % k) is ∙ digits_mod (s / k) h) (ap (λ z. z / k) is ∙ digits_div (s / k) h))
      where
        is : s + 1 ≡ s / k * k + (s % k + 1)
        is = omega arith
    at (inr h) ih = ap (λ z. cond z ((s % k + 1) ∷ digits ks (s / k)) (0 ∷ next_digits ks (digits ks (s / k)))) (le-ltb (s % k + 1) k h)
        ∙ ap (λ z. 0 ∷ z) ih
        ∙ sym (ap₂ (λ a b. a ∷ digits ks b) (ap (λ z. z % k) is ∙ digits_mod (s / k + 1) p.0) (ap (λ z. z / k) is ∙ digits_div (s / k + 1) p.0))
      where
        is : s + 1 ≡ (s / k + 1) * k + 0
        is = omega (arith, mod_below s k p.0)

pub digits_zero : (ks : List ℕ) → Positive ks → digits ks 0 ≡ replicate (length ks) 0
digits_zero [] p = refl
digits_zero (k ∷ ks) p = ap₂ (λ a b. a ∷ digits ks b) (omega arith) (omega arith) ∙ ap (λ z. 0 ∷ z) (digits_zero ks p.1)

pub dot_zero : (ss : List ℕ) (n : ℕ) → dot ss (replicate n 0) ≡ 0
dot_zero [] n = refl
dot_zero (s ∷ ss) zero = refl
dot_zero (s ∷ ss) (suc n) = omega (arith, dot_zero ss n)

-- one turn of the step's loop, for one of the boxes: f is the place so far, F the place at the start
module _ (ks ss a now : List ℕ) (i f F : ℕ) (la : length a ≡ length ks) (ls : length ss ≡ length ks) (l : i < length ks)
    (is : now ≡ replicate i 0 ++ drop i a) (adv : next_digits ks a ≡ replicate i 0 ++ next_digits (drop i ks) (drop i a)) (inv : f + dot ss a ≡ F + dot ss now) (pre : dot ss a ≤ F) where
  pub digit_is : get_or now i 0 ≡ get_or a i 0
  digit_is = ap (λ z. get_or z i 0) is ∙ front_at ks a i (omega arith) la

  length_now : length now ≡ length ks
  length_now = ap length is ∙ length-append (replicate i 0) (drop i a) ∙ ap₂ ◌+◌ (length-replicate i 0) (length-drop i a) ∙ omega arith

  pub room : get_or now i 0 * get_or ss i 0 ≤ f
  room = omega (arith, dot_clear ss now i (omega (arith, length_now)) (length_now ∙ sym ls))

  pub stop_list : get_or now i 0 + 1 < get_or ks i 0 → set now i (get_or now i 0 + 1) ≡ next_digits ks a
  stop_list h = ap (λ z. set now i (z + 1)) digit_is
      ∙ ap (λ z. set z i (get_or a i 0 + 1)) is
      ∙ front_set ks a i (omega arith) la (get_or a i 0 + 1)
      ∙ ap (λ z. replicate i 0 ++ z) (sym (next_digits_stop ks a i (omega arith) la (omega (arith, digit_is))))
      ∙ sym adv

  pub stop_place : get_or now i 0 + 1 < get_or ks i 0 → f + get_or ss i 0 + dot ss a ≡ F + dot ss (next_digits ks a)
  stop_place h = let e : dot ss (next_digits ks a) ≡ dot ss now + get_or ss i 0 = ap (dot ss) (sym (stop_list h)) ∙ dot_more ss now i (omega (arith, length_now)) (length_now ∙ sym ls) in omega arith

  pub carry_list : set now i 0 ≡ replicate (i + 1) 0 ++ drop (i + 1) a
  carry_list = ap (λ z. set z i 0) is ∙ front_more ks a i (omega arith) la

  pub carry_next_digits : get_or ks i 0 ≤ get_or now i 0 + 1 → next_digits ks a ≡ replicate (i + 1) 0 ++ next_digits (drop (i + 1) ks) (drop (i + 1) a)
  carry_next_digits h = adv ∙ next_digits_carry ks a i (omega arith) la (omega (arith, digit_is))

  pub carry_place : f - get_or now i 0 * get_or ss i 0 + dot ss a ≡ F + dot ss (set now i 0)
  carry_place = omega (arith, room, dot_clear ss now i (omega (arith, length_now)) (length_now ∙ sym ls))

-- the loop's end: every digit was the highest
pub next_digits_none : (ks a : List ℕ) (i : ℕ) → length a ≡ length ks → length ks ≤ i → replicate i 0 ++ next_digits (drop i ks) (drop i a) ≡ replicate i 0 ++ drop i a
next_digits_none ks a i la h = ap₂ (λ x y. replicate i 0 ++ next_digits x y) (drop_all i ks h) (drop_all i a (omega arith)) ∙ ap (λ y. replicate i 0 ++ y) (sym (drop_all i a (omega arith)))

-- a walk at the offset o, one step on
module _ (ks : List ℕ) (o : ℕ) (a : List ℕ) (pos : Positive ks) (at_o : a ≡ digits ks o) where
  pub walk_below : Below ks a
  walk_below = subst (Below ks) (sym at_o) (digits_positive ks o pos)

  next_digits_at : next_digits ks a ≡ digits ks (o + 1)
  next_digits_at = ap (next_digits ks) at_o ∙ next_digits_digits ks o pos

  pub walk_digits : (a' : List ℕ) → a' ≡ next_digits ks a → a' ≡ digits ks (o + 1)
  walk_digits a' e = e ∙ next_digits_at

  module _ (s f : ℕ) (ss : List ℕ) (is : f ≡ s + dot ss (digits ks o)) where
    same_dot : dot ss a ≡ dot ss (digits ks o)
    same_dot = ap (dot ss) at_o

    pub walk_room : dot ss a ≤ f
    walk_room = omega (arith, same_dot)

    pub walk_fits : (n : ℕ) → Within ks s ss n → f + dot ss (next_digits ks a) < n + dot ss a
    walk_fits n within = omega (arith, same_dot, ap (dot ss) next_digits_at, within (digits ks (o + 1)) (digits_positive ks (o + 1) pos))

    pub walk_place : (f' : ℕ) → f' + dot ss a ≡ f + dot ss (next_digits ks a) → f' ≡ s + dot ss (digits ks (o + 1))
    walk_place f' e = omega (arith, same_dot, ap (dot ss) next_digits_at)

pub start_digits : (ks : List ℕ) → Positive ks → length ks ≡ 6 → 0 ∷ 0 ∷ 0 ∷ 0 ∷ 0 ∷ 0 ∷ [] ≡ digits ks 0
start_digits ks pos l = sym (digits_zero ks pos ∙ ap (λ n. replicate n 0) l)

pub start_place : (ks ss : List ℕ) (s : ℕ) → Positive ks → s ≡ s + dot ss (digits ks 0)
start_place ks ss s pos = omega (arith, ap (dot ss) (digits_zero ks pos) ∙ dot_zero ss (length ks))
