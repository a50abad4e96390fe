-- Lists: what holds of each element, lists without a repeated element, counted lists, lists of lists, and what a test keeps.
use Rattle.std.proofs.Common.{◌≡◌, ℕ, zero, suc, ◌+◌, ◌-◌, ◌*◌, ◌/◌, ◌<◌, ◌≤◌, Bool, true, false, cond, eqb, ◌⊎◌, List, [], ◌∷◌, ◌++◌, map, length, get_or, filter, sym, refl, ap, ◌∙◌, inl, inr, ⊎_elim, append_assoc, add-zero, mul-le-mul_right, div-lt_iff_lt-mul, suc-add, zero-add, add-one, arith}
use native.Mathlib.Nat.{div-eq_of_lt-le, lt-div-mul-add}
use Rattle.std.specs.List.{range_with_len, flat_map, ContainsAt as Has, AllByRecursion}
use Rattle.std.proofs.lemmas.List.Elements.{filter-append}
use Rattle.std.proofs.ByRecursion.{all-has, All-append, All-map, all_kept_by, has_append_right}
use Rattle.std.proofs.lemmas.List.{map-append, append-nil}
use Rattle.std.proofs.lemmas.Bool.{eq-eqb, ne_eqb}
use Rattle.std.proofs.lemmas.List.FromFn.{map-range_with_len_more}
use Rattle.cubes.specs.Handing.{Distinct}
use Rattle.plans.proofs.Sums.{all_counting}

pub all_front : {X : Type 0} (P : X → Type 0) (xs ys : List X) → AllByRecursion P (xs ++ ys) → AllByRecursion P xs
all_front P [] ys a = tt
all_front P (x ∷ xs) ys a = (a.0, all_front P xs ys a.1)

pub all_back : {X : Type 0} (P : X → Type 0) (xs ys : List X) → AllByRecursion P (xs ++ ys) → AllByRecursion P ys
all_back P [] ys a = a
all_back P (x ∷ xs) ys a = all_back P xs ys a.1

pub all_both : {X : Type 0} (P Q R : X → Type 0) (f : (x : X) → P x → Q x → R x) (xs : List X) → AllByRecursion P xs → AllByRecursion Q xs → AllByRecursion R xs
all_both P Q R f [] a b = tt
all_both P Q R f (x ∷ xs) a b = (f x a.0 b.0, all_both P Q R f xs a.1 b.1)

pub all_always : {X : Type 0} (P : X → Type 0) → ((x : X) → P x) → (xs : List X) → AllByRecursion P xs
all_always P f [] = tt
all_always P f (x ∷ xs) = (f x, all_always P f xs)

pub all_unmap : {X Y : Type 0} (P : Y → Type 0) (f : X → Y) (xs : List X) → AllByRecursion P (map f xs) → AllByRecursion (λ x. P (f x)) xs
all_unmap P f [] a = tt
all_unmap P f (x ∷ xs) a = (a.0, all_unmap P f xs a.1)

pub all_cond : {X : Type 0} (P : X → Type 0) (b : Bool) (xs : List X) → AllByRecursion P xs → AllByRecursion P (cond b xs [])
all_cond P true xs a = a
all_cond P false xs a = tt

pub all_joined : {X Y : Type 0} (P : Y → Type 0) (f : X → List Y) (xs : List X) → AllByRecursion (λ x. AllByRecursion P (f x)) xs → AllByRecursion P (flat_map f xs)
all_joined P f [] a = tt
all_joined P f (x ∷ xs) a = All-append P (f x) (flat_map f xs) a.0 (all_joined P f xs a.1)

pub all_from_kept : {X : Type 0} (p : X → Bool) (P : X → Type 0) → ((x : X) → p x ≡ false → P x) → (xs : List X) → AllByRecursion P (filter p xs) → AllByRecursion P xs
all_from_kept p P f [] a = tt
all_from_kept p P f (x ∷ xs) a = step (p x) refl a (all_from_kept p P f xs)
  where
    step : (b : Bool) → p x ≡ b → AllByRecursion P (cond b (x ∷ filter p xs) (filter p xs)) → (AllByRecursion P (filter p xs) → AllByRecursion P xs) → AllByRecursion P (x ∷ xs)
    step true e a' ih = (a'.0, ih a'.1)
    step false e a' ih = (f x e, ih a')

pub distinct_front : {X : Type 0} (xs : List X) (x : X) (ys : List X) → Distinct (xs ++ (x ∷ ys)) → AllByRecursion (λ y. y ≡ x → ⊥) xs
distinct_front [] x ys a = tt
distinct_front (y ∷ xs) x ys a =
    (λ e. all-has (λ z. z ≡ y → ⊥) (xs ++ (x ∷ ys)) x a.0 (has_append_right xs (x ∷ ys) x (0, omega arith, λ d. refl)) (sym e), distinct_front xs x ys a.1)

pub distinct_back : {X : Type 0} (xs : List X) (x : X) (ys : List X) → Distinct (xs ++ (x ∷ ys)) → AllByRecursion (λ y. y ≡ x → ⊥) ys
distinct_back [] x ys a = a.0
distinct_back (y ∷ xs) x ys a = distinct_back xs x ys a.1

pub distinct_cond : {X : Type 0} (b : Bool) (x : X) (xs : List X) → Distinct (cond b (x ∷ xs) xs) → Distinct xs
distinct_cond true x xs a = a.1
distinct_cond false x xs a = a

pub distinct_kept : {X : Type 0} (p : X → Bool) (xs : List X) → Distinct xs → Distinct (filter p xs)
distinct_kept p [] a = tt
distinct_kept p (x ∷ xs) a = step (p x) (distinct_kept p xs a.1) (all_kept_by p (λ y. y ≡ x → ⊥) xs a.0)
  where
    step : (b : Bool) → Distinct (filter p xs) → AllByRecursion (λ y. y ≡ x → ⊥) (filter p xs) → Distinct (cond b (x ∷ filter p xs) (filter p xs))
    step true r f = (f, r)
    step false r f = r

pub distinct_map : {X Y : Type 0} (f : X → Y) (P : X → Type 0) → ((x y : X) → P x → P y → f x ≡ f y → x ≡ y) → (xs : List X) → AllByRecursion P xs → Distinct xs
    → Distinct (map f xs)
distinct_map f P inj [] v a = tt
distinct_map f P inj (x ∷ xs) v a = (
  All-map (λ y. y ≡ f x → ⊥) f xs (all_both P (λ y. y ≡ x → ⊥) (λ y. f y ≡ f x → ⊥) (λ y p n e. n (inj y x p v.0 e)) xs v.1 a.0),
  distinct_map f P inj xs
      v.1 a.1,
)

pub distinct_counting : (a n : ℕ) → Distinct (range_with_len a n)
distinct_counting a zero = tt
distinct_counting a (suc n) = (all_counting (λ u. u ≡ a → ⊥) (a + 1) n (λ u l m e. omega arith), distinct_counting (a + 1) n)

pub append_split : {X : Type 0} (ls bs xs ys : List X) → ls ++ bs ≡ xs ++ ys → ((zs : List X) × (ls ≡ xs ++ zs))
    ⊎ ((zs : List X) × (xs ≡ ls ++ zs) × (bs ≡ zs ++ ys))
append_split [] bs xs ys e = inr (xs, refl, e)
append_split (a ∷ ls) bs [] ys e = inl (a ∷ ls, refl)
append_split (a ∷ ls) bs (x ∷ xs) ys e = ⊎_elim (λ w. inl (w.0, (cc w.1))) (λ w. inr (w.0, (cc w.1), w.2)) (append_split ls bs xs ys tails)
  where
    tails : ls ++ bs ≡ xs ++ ys
    tails = cc

    heads : a ≡ x
    heads = cc

pub counting_append : (a m n : ℕ) → range_with_len a (m + n) ≡ range_with_len a m ++ range_with_len (a + m) n
counting_append a zero n = rw (zero-add, add-zero)
counting_append a (suc m) n = rw (suc-add) (ap (λ zs. a ∷ zs) (counting_append (a + 1) m n ∙ ap (λ b. range_with_len (a + 1) m ++ range_with_len b n) (omega arith)))

pub counting_suc : (n : ℕ) → range_with_len 0 (suc n) ≡ range_with_len 0 n ++ (n ∷ [])
counting_suc n = ap (range_with_len 0) (sym (add-one n)) ∙ (counting_append 0 n 1 ∙ ap (λ m. range_with_len 0 n ++ (m ∷ [])) (zero-add n))

pub map_counting_suc : {X : Type 0} (f : ℕ → X) (n : ℕ) → map f (range_with_len 0 (suc n)) ≡ map f (range_with_len 0 n) ++ (f n ∷ [])
map_counting_suc f n = ap (λ m. map f (range_with_len 0 m)) (sym (add-one n)) ∙ map-range_with_len_more f 0 n n (omega arith)

pub joined_append : {X Y : Type 0} (f : X → List Y) (xs ys : List X) → flat_map f (xs ++ ys) ≡ flat_map f xs ++ flat_map f ys
joined_append f [] ys = refl
joined_append f (x ∷ xs) ys = ap (λ zs. f x ++ zs) (joined_append f xs ys) ∙ sym (append_assoc (f x) (flat_map f xs) (flat_map f ys))

pub joined_same : {X Y : Type 0} (f g : X → List Y) (xs : List X) → AllByRecursion (λ x. f x ≡ g x) xs → flat_map f xs ≡ flat_map g xs
joined_same f g [] a = refl
joined_same f g (x ∷ xs) a = ap (λ ys. ys ++ flat_map f xs) a.0 ∙ ap (λ ys. g x ++ ys) (joined_same f g xs a.1)

pub joined_like : {X Z W : Type 0} (F : X → List W) (B : Z → W) (H : X → List Z) (xs : List X) → AllByRecursion (λ x. F x ≡ map B (H x)) xs → flat_map F xs ≡ map B (flat_map H xs)
joined_like F B H [] a = refl
joined_like F B H (x ∷ xs) a = ap (λ ys. ys ++ flat_map F xs) a.0
    ∙ (ap (λ ys. map B (H x) ++ ys) (joined_like F B H xs a.1) ∙ sym (map-append B (H x) (flat_map H xs)))

pub joined_map_like : {X Y Z W : Type 0} (F : Y → List W) (f : X → Y) (B : Z → W) (H : X → List Z) (xs : List X) → AllByRecursion (λ x. F (f x) ≡ map B (H x)) xs
    → flat_map F (map f xs) ≡ map B (flat_map H xs)
joined_map_like F f B H [] a = refl
joined_map_like F f B H (x ∷ xs) a = ap (λ ys. ys ++ flat_map F (map f xs)) a.0
    ∙ (ap (λ ys. map B (H x) ++ ys) (joined_map_like F f B H xs a.1) ∙ sym (map-append B (H x) (flat_map H xs)))

pub kept_none : {X : Type 0} (p : X → Bool) (xs : List X) → AllByRecursion (λ x. p x ≡ false) xs → filter p xs ≡ []
kept_none p [] a = refl
kept_none p (x ∷ xs) a = rw a.0 (kept_none p xs a.1)

pub kept_all : {X : Type 0} (p : X → Bool) (xs : List X) → AllByRecursion (λ x. p x ≡ true) xs → filter p xs ≡ xs
kept_all p [] a = refl
kept_all p (x ∷ xs) a = rw a.0 (ap (λ ys. x ∷ ys) (kept_all p xs a.1))

pub kept_like : {X : Type 0} (p q : X → Bool) (xs : List X) → AllByRecursion (λ x. p x ≡ q x) xs → filter p xs ≡ filter q xs
kept_like p q [] a = refl
kept_like p q (x ∷ xs) a = rw (a.0, kept_like p q xs a.1)

pub kept_map : {X Y : Type 0} (p : Y → Bool) (f : X → Y) (xs : List X) → filter p (map f xs) ≡ map f (filter (λ x. p (f x)) xs)
kept_map p f [] = refl
kept_map p f (x ∷ xs) = step (p (f x)) (kept_map p f xs)
  where
    step : (b : Bool) → filter p (map f xs) ≡ map f (filter (λ y. p (f y)) xs) → cond b (f x ∷ filter p (map f xs)) (filter p (map f xs))
        ≡ map f (cond b (x ∷ filter (λ y. p (f y)) xs) (filter (λ y. p (f y)) xs))
    step true e = ap (λ ys. f x ∷ ys) e
    step false e = e

pub has_kept : {X : Type 0} (p : X → Bool) (x : X) → p x ≡ true → (xs : List X) (k : ℕ) → k < length xs → ((d : X) → get_or xs k d ≡ x) → Has (filter p xs) x
has_kept p x e [] k l h = absurd (omega arith)
has_kept p x e (y ∷ xs) zero l h = rw (ap p (h x) ∙ e) (0, omega arith, h)
has_kept p x e (y ∷ xs) (suc k) l h = step (p y) (has_kept p x e xs k (omega arith) h)
  where
    step : (b : Bool) → Has (filter p xs) x → Has (cond b (y ∷ filter p xs) (filter p xs)) x
    step true (i, m, g) = (suc i, omega arith, g)
    step false h' = h'

-- the numbers with quotient q follow one another
pub kept_quotient : (q r l : ℕ) → 0 < r → q < l → filter (λ u. eqb q (u / r)) (range_with_len 0 (r * l)) ≡ range_with_len (q * r) r
kept_quotient q r l pos below =
    ap (λ n. filter (λ u. eqb q (u / r)) (range_with_len 0 n)) size
    ∙ (ap (filter (λ u. eqb q (u / r))) (counting_append 0 (q * r) (r + rest)
    ∙ ap (λ xs. range_with_len 0 (q * r) ++ xs) (ap (λ b. range_with_len b (r + rest)) (zero-add (q * r)) ∙ counting_append (q * r) r rest))
    ∙ (filter-append (λ u. eqb q (u / r)) (range_with_len 0 (q * r)) (range_with_len (q * r) r ++ range_with_len (q * r + r) rest)
    ∙ (ap (λ xs. xs ++ filter (λ u. eqb q (u / r)) (range_with_len (q * r) r ++ range_with_len (q * r + r) rest)) low
    ∙ (filter-append (λ u. eqb q (u / r)) (range_with_len (q * r) r) (range_with_len (q * r + r) rest)
    ∙ (ap (λ xs. xs ++ filter (λ u. eqb q (u / r)) (range_with_len (q * r + r) rest)) mid
    ∙ (ap (λ xs. range_with_len (q * r) r ++ xs) high ∙ append-nil (range_with_len (q * r) r)))))))
  where
    rest : ℕ
    rest = r * l - (q * r + r)

    room : suc q * r ≤ l * r
    room = mul-le-mul_right r below

    size : r * l ≡ q * r + (r + rest)
    size = omega (arith, room)

    low : filter (λ u. eqb q (u / r)) (range_with_len 0 (q * r)) ≡ []
    low = kept_none (λ u. eqb q (u / r)) (range_with_len 0 (q * r))
        (all_counting (λ u. eqb q (u / r) ≡ false) 0 (q * r)
        (λ u a b. ne_eqb q (u / r) (λ e. omega (arith, (div-lt_iff_lt-mul {k = r} {x = u} {y = q} pos).1 (omega arith)))))

    mid : filter (λ u. eqb q (u / r)) (range_with_len (q * r) r) ≡ range_with_len (q * r) r
    mid = kept_all (λ u. eqb q (u / r)) (range_with_len (q * r) r)
        (all_counting (λ u. eqb q (u / r) ≡ true) (q * r) r (λ u a b. eq-eqb q (u / r) (sym (div-eq_of_lt-le r a (omega arith)))))

    high : filter (λ u. eqb q (u / r)) (range_with_len (q * r + r) rest) ≡ []
    high = kept_none (λ u. eqb q (u / r)) (range_with_len (q * r + r) rest)
        (all_counting (λ u. eqb q (u / r) ≡ false) (q * r + r) rest
        (λ u a b. ne_eqb q (u / r) (λ e. omega (arith, lt-div-mul-add {a = u} {b = r} pos, ap (λ x. x * r) e))))
