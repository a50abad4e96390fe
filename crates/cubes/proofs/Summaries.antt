-- The direct summaries, one dimension at a time.
use Rattle.std.proofs.Common.{◌≡◌, ℕ, zero, suc, ◌+◌, ◌*◌, ◌<◌, Bool, true, false, cond, ◌&&◌, eqb, List, [], ◌∷◌, map, length, get_or, set, replicate, filter, sym, refl, ap, ◌∙◌, div-add-mod', arith}
use mathlib.Core.Path.{fun_ext}
use Rattle.std.proofs.lemmas.List.{get_or-map, length-map, length-set, get_or-set_same, set-set, set-get_or}
use Rattle.std.proofs.lemmas.Bool.{eq-eqb, ne_eqb, true≢false}
use Rattle.shapes.specs.declared.dims.Dim.{Dim}
use Rattle.shapes.specs.Arrays.{chunks, sizes, none_dim, dim, all_digits, Below, Group, keeps, root, cleared, agrees}
use Rattle.measures.specs.Laws.{Lawful, total}
use Rattle.sources.specs.Meanings.{Chunk}
use Rattle.cubes.specs.Meanings.{meaning}
use Rattle.cubes.specs.Summaries.{Divided, big, readable, value, direct, base}
use Rattle.cubes.proofs.Joins.{nest, big_cong, big_swap, big_mul, big_one, nest_empty, total_kept_digits}

cond_and : {M : Type 0} (a b : Bool) (z e : M) → cond (a && b) z e ≡ cond b (cond a z e) e
cond_and true true z e = refl
cond_and true false z e = refl
cond_and false true z e = refl
cond_and false false z e = refl

cond_and_left : {M : Type 0} (a b : Bool) (z e : M) → cond (a && b) z e ≡ cond a (cond b z e) e
cond_and_left true b z e = refl
cond_and_left false b z e = refl

pub divided_at : (ds : List Dim) (e : ℕ) → Divided ds → e < length ds → chunks (dim ds e) * (dim ds e).edge ≡ (dim ds e).size
divided_at [] e c l = absurd (omega arith)
divided_at (d ∷ ds) zero c l = omega (arith, div-add-mod' d.size d.edge, c.0)
divided_at (d ∷ ds) (suc e) c l = divided_at ds e c.1 (omega arith)

-- what a dropped dimension holds does not count
pub agrees_set : (g : Group) (x y : List ℕ) (e v : ℕ) → keeps g e ≡ false → agrees g (set x e v) y ≡ agrees g x y
agrees_set [] x y e v lacks = refl
agrees_set (b ∷ g) [] y e v lacks = refl
agrees_set (b ∷ g) (x ∷ xs) [] zero v lacks = refl
agrees_set (b ∷ g) (x ∷ xs) [] (suc e) v lacks = refl
agrees_set (true ∷ g) (x ∷ xs) (y ∷ ys) zero v lacks = absurd (true≢false lacks)
agrees_set (false ∷ g) (x ∷ xs) (y ∷ ys) zero v lacks = refl
agrees_set (b ∷ g) (x ∷ xs) (y ∷ ys) (suc e) v lacks = ap (λ z. cond b (eqb x y) true && z) (agrees_set g xs ys e v lacks)

pub agrees_cleared : (g : Group) (x y : List ℕ) → agrees g (cleared g x) y ≡ agrees g x y
agrees_cleared [] x y = refl
agrees_cleared (b ∷ g) [] y = refl
agrees_cleared (b ∷ g) (x ∷ xs) [] = refl
agrees_cleared (true ∷ g) (x ∷ xs) (y ∷ ys) = ap (λ z. eqb x y && z) (agrees_cleared g xs ys)
agrees_cleared (false ∷ g) (x ∷ xs) (y ∷ ys) = agrees_cleared g xs ys

-- the join of f over the coordinates that agree with x in the kept dimensions
abbrev pub summary : {M : Type 0} → M → (M → M → M) → List ℕ → Group → List ℕ → (List ℕ → M) → M
summary empty join ks g x f = nest empty join ks (λ y. cond (agrees g x y) (f y) empty)

module _ {M : Type 0} (empty : M) (join : M → M → M) (laws : Lawful empty join) where
  -- a flag's share of the agreement goes into the function
  summary_head : (k : ℕ) (ks : List ℕ) (b : Bool) (g : Group) (x : ℕ) (xs : List ℕ) (f : List ℕ → M)
      → summary empty join (k ∷ ks) (b ∷ g) (x ∷ xs) f ≡ big empty join (λ v. summary empty join ks g xs (λ ys. cond (cond b (eqb x v) true) (f (v ∷ ys)) empty)) k
  summary_head k ks b g x xs f = ap (λ (z : ℕ → List ℕ → M). big empty join (λ v. nest empty join ks (z v)) k)
      (fun_ext (λ v. fun_ext (λ ys. cond_and (cond b (eqb x v) true) (agrees g xs ys) (f (v ∷ ys)) empty)))

  -- a kept dimension takes the one coordinate
  pub summary_kept : (k : ℕ) (ks : List ℕ) (g : Group) (x : ℕ) (xs : List ℕ) (f : List ℕ → M) → x < k
      → summary empty join (k ∷ ks) (true ∷ g) (x ∷ xs) f ≡ summary empty join ks g xs (λ ys. f (x ∷ ys))
  summary_kept k ks g x xs f l =
      big_one empty join laws (λ v. nest empty join ks (λ ys. cond (eqb x v && agrees g xs ys) (f (v ∷ ys)) empty)) k x l
      (λ v m ne. rw (ne_eqb x v (λ q. ne (sym q))) (nest_empty empty join laws ks))
      ∙ rw (eq-eqb x x refl)

  -- the child's summary joins the parent's along the dimension that the child lacks
  pub summary_child : (ks : List ℕ) (h : Group) (x : List ℕ) (e : ℕ) (f : List ℕ → M)
      → length h ≡ length ks → length x ≡ length ks → e < length ks → get_or h e false ≡ false
      → summary empty join ks h x f ≡ big empty join (λ v. summary empty join ks (set h e true) (set x e v) f) (get_or ks e 0)
  summary_child [] h x e f lh lx le lacks = absurd (omega arith)
  summary_child (k ∷ ks) [] x e f lh lx le lacks = absurd (omega arith)
  summary_child (k ∷ ks) (b ∷ h) [] e f lh lx le lacks = absurd (omega arith)
  summary_child (k ∷ ks) (true ∷ h) (x ∷ xs) zero f lh lx le lacks = absurd (true≢false lacks)
  summary_child (k ∷ ks) (false ∷ h) (x ∷ xs) zero f lh lx le lacks =
      big_cong empty join laws (λ v. summary empty join ks h xs (λ ys. f (v ∷ ys))) (λ v. summary empty join (k ∷ ks) (true ∷ h) (v ∷ xs) f) k
      (λ v l. sym (summary_kept k ks h v xs f l))
  summary_child (k ∷ ks) (b ∷ h) (x ∷ xs) (suc e) f lh lx le lacks =
      summary_head k ks b h x xs f
      ∙ big_cong empty join laws (λ v. summary empty join ks h xs (part v))
      (λ v. big empty join (λ w. summary empty join ks (set h e true) (set xs e w) (part v)) (get_or ks e 0)) k
      (λ v l. summary_child ks h xs e (part v) (omega arith) (omega arith) (omega arith) lacks)
      ∙ big_swap empty join laws (λ v w. summary empty join ks (set h e true) (set xs e w) (part v)) k (get_or ks e 0)
      ∙ big_cong empty join laws (λ w. big empty join (λ v. summary empty join ks (set h e true) (set xs e w) (part v)) k)
      (λ w. summary empty join (k ∷ ks) (b ∷ set h e true) (x ∷ set xs e w) f) (get_or ks e 0)
      (λ w l. sym (summary_head k ks b (set h e true) x (set xs e w) f))
    where
      part : ℕ → List ℕ → M
      part v ys = cond (cond b (eqb x v) true) (f (v ∷ ys)) empty

  -- with every dimension kept one value is left
  pub summary_root : (ks : List ℕ) (x : List ℕ) (f : List ℕ → M) → Below ks x → summary empty join ks (replicate (length ks) true) x f ≡ f x
  summary_root [] [] f b = refl
  summary_root [] (x ∷ xs) f b = absurd b
  summary_root (k ∷ ks) [] f b = absurd b
  summary_root (k ∷ ks) (x ∷ xs) f b = summary_kept k ks (replicate (length ks) true) x xs f b.0 ∙ summary_root ks xs (λ ys. f (x ∷ ys)) b.1

  module _ (ds : List Dim) (mean : ℕ → Chunk M) where
    pub direct_summary : (g : Group) (x : List ℕ) → direct empty join (meaning ds mean) g x ≡ summary empty join (sizes ds) g x (base empty (meaning ds mean))
    direct_summary g x =
        total_kept_digits empty join laws (sizes ds) (λ y. readable (meaning ds mean) y && agrees g x y) (value empty (meaning ds mean))
        ∙ ap (nest empty join (sizes ds)) (fun_ext (λ y. cond_and (readable (meaning ds mean) y) (agrees g x y) (value empty (meaning ds mean) y) empty))

    -- a cell of a child joins the cells of its parent along the dimension that it lacks
    pub direct_child : (h : Group) (x : List ℕ) (e : ℕ) → length h ≡ length ds → length x ≡ length ds → e < length ds → keeps h e ≡ false
        → direct empty join (meaning ds mean) h x ≡ big empty join (λ v. direct empty join (meaning ds mean) (set h e true) (set x e v)) (dim ds e).size
    direct_child h x e lh lx le lacks =
        direct_summary h x
        ∙ summary_child (sizes ds) h x e (base empty (meaning ds mean)) (lh ∙ sym lengths) (lx ∙ sym lengths) (rw lengths le) lacks
        ∙ ap (big empty join (λ v. summary empty join (sizes ds) (set h e true) (set x e v) (base empty (meaning ds mean))))
        (get_or-map (λ (d : Dim). d.size) ds e none_dim 0 le)
        ∙ big_cong empty join laws (λ v. summary empty join (sizes ds) (set h e true) (set x e v) (base empty (meaning ds mean)))
        (λ v. direct empty join (meaning ds mean) (set h e true) (set x e v)) (dim ds e).size
        (λ v l. sym (direct_summary (set h e true) (set x e v)))
      where
        lengths : length (sizes ds) ≡ length ds
        lengths = length-map ds (λ (d : Dim). d.size)

    -- the same from the parent's side: the child is g without e
    pub direct_without : (g : Group) (x : List ℕ) (e : ℕ) → length g ≡ length ds → length x ≡ length ds → e < length ds → keeps g e ≡ true
        → direct empty join (meaning ds mean) (set g e false) x ≡ big empty join (λ v. direct empty join (meaning ds mean) g (set x e v)) (dim ds e).size
    direct_without g x e lg lx le kept =
        direct_child (set g e false) x e (length-set g e false ∙ lg) lx le (get_or-set_same g e false false (rw lg le))
        ∙ ap (λ (z : Group). big empty join (λ v. direct empty join (meaning ds mean) z (set x e v)) (dim ds e).size)
        (set-set g e false true ∙ ap (set g e) (sym kept) ∙ set-get_or g e false)

    -- the same by the parent's blocks
    pub direct_blocks : (h : Group) (x : List ℕ) (e : ℕ) → Divided ds → length h ≡ length ds → length x ≡ length ds → e < length ds → keeps h e ≡ false
        → direct empty join (meaning ds mean) h x
        ≡ big empty join (λ k. big empty join (λ l. direct empty join (meaning ds mean) (set h e true) (set x e (k * (dim ds e).edge + l))) (dim ds e).edge)
        (chunks (dim ds e))
    direct_blocks h x e divided lh lx le lacks =
        direct_child h x e lh lx le lacks
        ∙ ap (big empty join (λ v. direct empty join (meaning ds mean) (set h e true) (set x e v))) (sym (divided_at ds e divided le))
        ∙ big_mul empty join laws (λ v. direct empty join (meaning ds mean) (set h e true) (set x e v)) (chunks (dim ds e)) (dim ds e).edge

    -- a cell of the root is its base cell
    pub direct_root : (x : List ℕ) → Below (sizes ds) x → direct empty join (meaning ds mean) (root (length ds)) x ≡ base empty (meaning ds mean) x
    direct_root x b =
        direct_summary (root (length ds)) x
        ∙ ap (λ n. summary empty join (sizes ds) (replicate n true) x (base empty (meaning ds mean))) (sym (length-map ds (λ (d : Dim). d.size)))
        ∙ summary_root (sizes ds) x (base empty (meaning ds mean)) b

    -- a summary does not depend on what its cell holds in a dropped dimension
    pub direct_set : (g : Group) (x : List ℕ) (e v : ℕ) → keeps g e ≡ false → direct empty join (meaning ds mean) g (set x e v)
        ≡ direct empty join (meaning ds mean) g x
    direct_set g x e v lacks = ap (λ (p : List ℕ → Bool). total empty join
        (map (value empty (meaning ds mean)) (filter (λ y. readable (meaning ds mean) y && p y) (all_digits (sizes ds)))))
        (fun_ext (λ y. agrees_set g x y e v lacks))

    pub direct_cleared : (g : Group) (x : List ℕ) → direct empty join (meaning ds mean) g (cleared g x) ≡ direct empty join (meaning ds mean) g x
    direct_cleared g x = ap (λ (p : List ℕ → Bool). total empty join
        (map (value empty (meaning ds mean)) (filter (λ y. readable (meaning ds mean) y && p y) (all_digits (sizes ds)))))
        (fun_ext (λ y. agrees_cleared g x y))
