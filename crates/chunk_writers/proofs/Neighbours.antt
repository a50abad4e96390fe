-- What an iterator over neighbours gives. Assumes nothing.
use Rattle.std.proofs.Common.{◌≡◌, ℕ, suc, ◌+◌, ◌-◌, ◌<◌, ◌≤◌, Bool, true, false, cond, ◌&&◌, eqb, ◌⊎◌, List, [], ◌∷◌, map, filter, zip, length, get_or, drop, MatchOption, IfSome, Contains, All, Some, None, Option, sym, refl, ap, ◌∙◌, subst, inl, inr, arith}
use Rattle.std.proofs.lemmas.Bool.Decides.{nat_tests}
use Rattle.std.proofs.lemmas.Grind.{common_steps}
use Rattle.std.specs.Ordering.{is_lt, nat_cmp}
use denote.Ref.{Bor}
use Rattle.std.proofs.lemmas.List.{length-drop, get_or-drop}
use Rattle.std.specs.List.{HoldsAt}
use Rattle.std.specs.Option.{option_map}
use Rattle.std.specs.Iterator.Runs.{Run, AnyItem, AllItems, ItemsMapTo, IsSkipRun, IsZipRun}
use Rattle.chunk_writers.specs.declared.keys.Key.{Key}

-- the least of what a run gave
pub least_from : {S : Type 0} {steps : S → Option ℕ → S → Type 0} (p : Run steps) (xs : List ℕ) (e : p.items ≡ xs) (o : Option ℕ)
    → MatchOption o (p.len ≡ 0) (λ m. AnyItem p (λ x. x ≡ m) × AllItems p (λ x. is_lt (nat_cmp x m) ≡ false)) → MatchOption o (length xs ≡ 0) (λ m. Contains xs m × All (λ r. m ≤ r) xs)
least_from p xs e o h = grind (arith, common_steps, nat_tests)

is_itself : {Y : Type 0} (o : Option Y) (y : Y) → option_map (λ z. z) o ≡ Some y → o ≡ Some y
is_itself None y e = cc
is_itself (Some z) y e = e

-- pairs of what stands at each place of two lists, up to the end of one
pub pairs_zip : {Y : Type 0} (a b : Y → Key) (rs : List Y) (at : ℕ → Option Y) (xs ys : List Key) → ((k : ℕ) (d : Y) → k < length rs → option_map (λ y. y) (at k) ≡ Some (get_or rs k d)) → length rs ≤ length xs → length rs ≤ length ys → (length rs ≡ length xs) ⊎ (length rs ≡ length ys)
    → ((k : ℕ) (y : Y) → at k ≡ Some y → ((d : Key) → a y ≡ get_or xs k d) × ((d : Key) → b y ≡ get_or ys k d)) → map (λ y. (a y, b y)) rs ≡ zip xs ys
pairs_zip a b [] at [] ys reads l m e says = refl
pairs_zip a b [] at (x ∷ xs) [] reads l m e says = refl
pairs_zip a b [] at (x ∷ xs) (y ∷ ys) reads l m (inl e) says = absurd (omega arith)
pairs_zip a b [] at (x ∷ xs) (y ∷ ys) reads l m (inr e) says = absurd (omega arith)
pairs_zip a b (r ∷ rs) at [] ys reads l m e says = absurd (omega arith)
pairs_zip a b (r ∷ rs) at (x ∷ xs) [] reads l m e says = absurd (omega arith)
pairs_zip a b (r ∷ rs) at (x ∷ xs) (y ∷ ys) reads l m e says =
    let here = says 0 r (is_itself (at 0) r (reads 0 r (omega arith))) in
    let f : a r ≡ x = here.0 x in
    let g : b r ≡ y = here.1 y in
    let more : (length rs ≡ length xs) ⊎ (length rs ≡ length ys) = elim e [ inl h ↦ inl (omega arith) | inr h ↦ inr (omega arith) ] in
    λ i. (f i, g i) ∷ pairs_zip a b rs (λ k. at (suc k)) xs ys (λ k d h. reads (suc k) d (omega arith)) (omega arith) (omega arith) more (λ k z h. says (suc k) z h) i

-- tests and rows of pairs that are seen otherwise
abbrev pub alike : Key → Key → Bool
alike a b = eqb b.chunk a.chunk && eqb b.offset a.offset

pub rows_seen : {Y : Type 0} (a b : Y → Key) (rs : List Y) → map (λ y. (b y).row) (filter (λ y. alike (a y) (b y)) rs) ≡ map (λ (p : Key × Key). p.1.row) (filter (λ (p : Key × Key). alike p.0 p.1) (map (λ y. (a y, b y)) rs))
rows_seen a b [] = refl
rows_seen a b (r ∷ rs) = go (alike (a r) (b r)) (rows_seen a b rs)
  where
    go : (t : Bool) → map (λ y. (b y).row) (filter (λ y. alike (a y) (b y)) rs) ≡ map (λ (p : Key × Key). p.1.row) (filter (λ (p : Key × Key). alike p.0 p.1) (map (λ y. (a y, b y)) rs))
        → map (λ y. (b y).row) (cond t (r ∷ filter (λ y. alike (a y) (b y)) rs) (filter (λ y. alike (a y) (b y)) rs))
        ≡ map (λ (p : Key × Key). p.1.row) (cond t ((a r, b r) ∷ filter (λ (p : Key × Key). alike p.0 p.1) (map (λ y. (a y, b y)) rs)) (filter (λ (p : Key × Key). alike p.0 p.1) (map (λ y. (a y, b y)) rs)))
    go true ih = λ i. (b r).row ∷ ih i
    go false ih = ih

-- a run over the keys beside the keys after the first
module _ {A B C D : Type 0} {rs : A → Option (Bor Key × Bor Key) → A → Type 0} {us : B → Option (Bor Key) → B → Type 0} {vs : C → Option (Bor Key) → C → Type 0} {qs : D → Option (Bor Key) → D → Type 0}
    (r : Run rs) (u : Run us) (v : Run vs) (q : Run qs) (xs : List Key) (zips : IsZipRun r u v) (skips : IsSkipRun v q 1) (first : ItemsMapTo u (λ y. y.now) xs) (second : ItemsMapTo q (λ y. y.now) xs) (done : r.whole ≡ true) where
  says : (k : ℕ) (y : Bor Key × Bor Key) → r.at k ≡ Some y → ((d : Key) → y.0.now ≡ get_or xs k d) × ((d : Key) → y.1.now ≡ get_or (drop 1 xs) k d)
  says k y e =
      let pu : u.at k ≡ Some y.0 = zips.0.2 k ∙ ap (option_map (λ (x : Bor Key × Bor Key). x.0)) e in
      let pv : q.at (1 + k) ≡ Some y.1 = sym (skips.3 k) ∙ zips.1.2 k ∙ ap (option_map (λ (x : Bor Key × Bor Key). x.1)) e in (
        subst (λ o. IfSome o (λ (x : Bor Key). HoldsAt (λ z. x.now ≡ z) xs k)) pu (first.3 k),
        λ d. subst (λ o. IfSome o (λ (x : Bor Key). HoldsAt (λ z. x.now ≡ z) xs (1 + k))) pv (second.3 (1 + k)) d ∙ sym (get_or-drop 1 xs k d),
      )

  count : length r.items ≡ length xs - 1
  count =
      let a = r.long in let b = zips.0.0 in let c = zips.1.0 in let d = skips.1 in let e = first.0 in let f = second.0 in
      elim (zips.2 done) [ inl h ↦ let g = first.1 h in omega arith | inr h ↦ let g = second.1 (skips.0 ∙ h) in omega arith ]

  pub neighbours_given : map (λ y. (y.0.now, y.1.now)) r.items ≡ zip xs (drop 1 xs)
  neighbours_given =
      let a = r.long in
      let n = length-drop 1 xs in
      let c = count in
      pairs_zip (λ y. y.0.now) (λ y. y.1.now) r.items r.at xs (drop 1 xs) (λ k d h. r.reads k d (omega arith)) (omega arith) (omega arith) (inr (omega arith)) says
