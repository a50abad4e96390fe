-- Blocks as lists by offset: the root's, and a parent's block joined into a child's.
use Rattle.std.proofs.Common.{◌≡◌, ℕ, zero, suc, ◌+◌, ◌*◌, ◌/◌, ◌%◌, ◌<◌, Bool, true, false, cond, eqb, ◌⊎◌, List, [], ◌∷◌, length, get_or, take, set, replicate, sym, refl, ap, ◌∙◌, ap₂, inl, inr, mul_assoc, mul_comm, one-mul, mul-zero, add-one, arith}
use native.Mathlib.Nat.{mod-zero, mod-add-div, div-div-eq-div-mul}
use lib.Arith.{mod-mul}
use Rattle.std.proofs.lemmas.Nat.{div_below}
use Rattle.std.proofs.lemmas.List.{get_or-map, length-map, get_or-set_same, get_or-set_other, length-set, ext_get_or, get_or-replicate, length-replicate}
use Rattle.std.proofs.lemmas.Bool.{cases_eq, cases_Bool, eq-eqb, ne_eqb, both_ways, true≢false}
use Rattle.shapes.specs.declared.dims.Dim.{Dim}
use Rattle.shapes.specs.Arrays.{chunks, product, sizes, edges, counts, none_dim, dim, number, digits, Below, chunk_of, local_of, cell_at, Group, keeps, root, radix, cleared, agrees}
use Rattle.shapes.proofs.Numbering.{below_length, digits_below, number_digits, number_below, digits_number, length_by_digits, getD_by_digits, getD_by_number}
use Rattle.measures.specs.Laws.{Lawful}
use Rattle.sources.specs.Meanings.{Chunk, values, faulty}
use Rattle.cubes.specs.Meanings.{meaning, is_readable, values_of}
use Rattle.cubes.specs.Summaries.{Divided, big, direct, block, parent_block, contribution, content, projected_offset}
use Rattle.cubes.specs.Scans.{Injective}
use Rattle.shapes.proofs.Radixes.{length-radix}
use Rattle.cubes.proofs.Cells.{local_below, chunk_of_cell, local_of_cell, cell_below, cleared_below, below_cleared, cleared-set, below_set, agrees_same, cleared_from_agrees, below_fewer, getD_radix, below_edges, cell_parent, radix_all, below_counts}
use Rattle.cubes.proofs.Joins.{join_empty, big_cong, nest_cong, nest_digits}
use Rattle.cubes.proofs.Summaries.{agrees_cleared, summary, summary_kept, summary_child, direct_root, direct_cleared}
use Rattle.cubes.proofs.Contents.{content_hit}

-- every offset of the parent's block is projected into the child's
pub projected_below : (ds : List Dim) (h : Group) (e o : ℕ) → o < product (radix (set h e true) (edges ds))
    → projected_offset ds h e o < product (radix h (edges ds))
projected_below ds h e o l = number_below (radix h (edges ds)) (cleared h (digits (radix (set h e true) (edges ds)) o))
    (below_fewer h (edges ds) (digits (radix (set h e true) (edges ds)) o) e (digits_below (radix (set h e true) (edges ds)) o l))

-- the projected offset by strides: the edges before e make the row, and e's edge the rows that fall on one another
stride : (k r c o : ℕ) → 0 < k → o % k + k * (o / k / (r * c) * r + o / k % r) ≡ o / (k * r * c) * (k * r) + o % (k * r)
stride k zero c o pos =
    ap (λ z. o % k + k * (o / k / (0 * c) * 0 + z)) (mod-zero (o / k))
    ∙ omega (arith, mod-add-div o k)
    ∙ sym (ap (λ z. o / (z * c) * z + o % z) (mul-zero k) ∙ ap (λ z. o / (0 * c) * 0 + z) (mod-zero o))
stride k (suc r) c o pos =
    ap (λ z. o % k + k * (z * suc r + o / k % suc r)) (div-div-eq-div-mul o k (suc r * c) ∙ ap (λ z. o / z) (sym (mul_assoc k (suc r) c)))
    ∙ regroup (o / (k * suc r * c)) (o / k % suc r) (o % k)
    ∙ ap (λ z. o / (k * suc r * c) * (k * suc r) + z) (sym (ap (λ z. o % z) (mul_comm k (suc r)) ∙ mod-mul o {m = suc r} {c = k} (omega arith) pos))
  where
    regroup : (a b d : ℕ) → d + k * (a * suc r + b) ≡ a * (k * suc r) + (b * k + d)
    regroup a b d = omega arith

number_stride : (h : Group) (ks : List ℕ) (e o : ℕ) → length h ≡ length ks → e < length ks → keeps h e ≡ false → o < product (radix (set h e true) ks)
    → number (radix h ks) (cleared h (digits (radix (set h e true) ks) o))
    ≡ o / (product (take e (radix h ks)) * get_or ks e 1) * product (take e (radix h ks)) + o % product (take e (radix h ks))
number_stride [] [] e o l le lacks lo = absurd (omega arith)
number_stride [] (k ∷ ks) e o l le lacks lo = absurd (omega arith)
number_stride (b ∷ h) [] e o l le lacks lo = absurd (omega arith)
number_stride (true ∷ h) (k ∷ ks) zero o l le lacks lo = absurd (true≢false lacks)
number_stride (false ∷ h) (zero ∷ ks) zero o l le lacks lo = absurd (omega arith)
number_stride (false ∷ h) (suc k ∷ ks) zero o l le lacks lo =
    ap (λ z. 0 + 1 * z) (ap (number (radix h ks)) (cleared_below h ks (digits (radix h ks) (o / suc k)) (digits_below (radix h ks) (o / suc k) less))
    ∙ number_digits (radix h ks) (o / suc k) less)
    ∙ small (o / suc k)
    ∙ ap (λ z. o / z * 1 + o % 1) (sym (one-mul (suc k)))
  where
    less : o / suc k < product (radix h ks)
    less = div_below o (suc k) (product (radix h ks)) (omega arith) (omega arith)

    small : (q : ℕ) → 0 + 1 * q ≡ q * 1 + o % 1
    small q = omega arith
number_stride (b ∷ h) (k ∷ ks) (suc e) o l le lacks lo =
    ap₂ (λ y z. y + cond b k 1 * z) (head b)
    (number_stride h ks e (o / cond b k 1) (omega arith) (omega arith) lacks
    (div_below o (cond b k 1) (product (radix (set h e true) ks)) (positive (cond b k 1) lo)
    (omega (arith, mul_comm (cond b k 1) (product (radix (set h e true) ks)), lo))))
    ∙ stride (cond b k 1) (product (take e (radix h ks))) (get_or ks e 1) o (positive (cond b k 1) lo)
  where
    head : (b : Bool) → cond b (o % cond b k 1) 0 ≡ o % cond b k 1
    head true = refl
    head false = omega arith

    positive : (m : ℕ) → o < m * product (radix (set h e true) ks) → 0 < m
    positive zero y = absurd (omega arith)
    positive (suc m) y = omega arith

pub projected_stride : (ds : List Dim) (h : Group) (e o : ℕ) → length h ≡ length ds → e < length ds → keeps h e ≡ false
    → o < product (radix (set h e true) (edges ds))
    → projected_offset ds h e o ≡ o / (product (take e (radix h (edges ds))) * (dim ds e).edge) * product (take e (radix h (edges ds))) + o % product
    (take e (radix h (edges ds)))
projected_stride ds h e o lh le lacks lo =
    number_stride h (edges ds) e o (lh ∙ sym (length-map ds (λ (d : Dim). d.edge))) (rw (length-map ds (λ (d : Dim). d.edge)) le) lacks lo
    ∙ ap (λ z. o / (product (take e (radix h (edges ds))) * z) * product (take e (radix h (edges ds))) + o % product (take e (radix h (edges ds))))
    (get_or-map (λ (d : Dim). d.edge) ds e none_dim 1 le)

module _ {M : Type 0} (empty : M) (join : M → M → M) (laws : Lawful empty join) where
  -- over a block's own radices one value is left
  pub summary_block : (g : Group) (ks x : List ℕ) (f : List ℕ → M) → length g ≡ length ks → Below (radix g ks) x → summary empty join (radix g ks) g x f ≡ f x
  summary_block [] [] [] f l b = refl
  summary_block [] [] (x ∷ xs) f l b = absurd b
  summary_block [] (k ∷ ks) x f l b = absurd (omega arith)
  summary_block (c ∷ g) [] x f l b = absurd (omega arith)
  summary_block (c ∷ g) (k ∷ ks) [] f l b = absurd b
  summary_block (true ∷ g) (k ∷ ks) (x ∷ xs) f l b = summary_kept empty join laws k (radix g ks) g x xs f b.0
      ∙ summary_block g ks xs (λ ys. f (x ∷ ys)) (omega arith) b.1
  summary_block (false ∷ g) (k ∷ ks) (x ∷ xs) f l b =
      laws.neutral (summary empty join (radix g ks) g xs (λ ys. f (0 ∷ ys)))
      ∙ summary_block g ks xs (λ ys. f (0 ∷ ys)) (omega arith) b.1
      ∙ ap (λ z. f (z ∷ xs)) (omega (arith, b.0))

  -- the values of a parent's block whose projected offset is the offset q of the child's block
  pub projected_join : (ds : List Dim) (h : Group) (e q : ℕ) (p : ℕ → M) → length h ≡ length ds → e < length ds → keeps h e ≡ false
      → q < product (radix h (edges ds))
      → big empty join (λ o. cond (eqb (projected_offset ds h e o) q) (p o) empty) (product (radix (set h e true) (edges ds)))
      ≡ big empty join (λ l. p (number (radix (set h e true) (edges ds)) (set (digits (radix h (edges ds)) q) e l))) (dim ds e).edge
  projected_join ds h e q p lh le lacks lq =
      big_cong empty join laws (λ o. cond (eqb (projected_offset ds h e o) q) (p o) empty)
      (λ o. cond (eqb (number rh (cleared h (digits rg o))) q) (f (digits rg o)) empty) (product rg)
      (λ o l. ap (λ z. cond (eqb (projected_offset ds h e o) q) (p z) empty) (sym (number_digits rg o l)))
      ∙ nest_digits empty join laws rg (λ ys. cond (eqb (number rh (cleared h ys)) q) (f ys) empty)
      ∙ nest_cong empty join laws rg (λ ys. cond (eqb (number rh (cleared h ys)) q) (f ys) empty) (λ ys. cond (agrees h x ys) (f ys) empty)
      (λ ys b. ap (λ z. cond z (f ys) empty) (test ys b (cases_Bool (agrees h x ys))))
      ∙ summary_child empty join laws rg h x e f (length_h ∙ sym length_rg) (length_x ∙ sym length_rg) (rw length_rg (rw length_ks le)) lacks
      ∙ ap (big empty join (λ v. summary empty join rg (set h e true) (set x e v) f)) edge_is
      ∙ big_cong empty join laws (λ v. summary empty join rg (set h e true) (set x e v) f) (λ v. f (set x e v)) (dim ds e).edge
      (λ v l. summary_block (set h e true) (edges ds) (set x e v) f (length-set h e true ∙ length_h) (below_set h (edges ds) x e v below_x (rw edge_at l)))
    where
      rg : List ℕ
      rg = radix (set h e true) (edges ds)

      rh : List ℕ
      rh = radix h (edges ds)

      x : List ℕ
      x = digits rh q

      f : List ℕ → M
      f ys = p (number rg ys)

      length_ks : length (edges ds) ≡ length ds
      length_ks = length-map ds (λ (d : Dim). d.edge)

      length_h : length h ≡ length (edges ds)
      length_h = lh ∙ sym length_ks

      length_rg : length rg ≡ length (edges ds)
      length_rg = length-radix (set h e true) (edges ds) (length-set h e true ∙ length_h)

      below_x : Below rh x
      below_x = digits_below rh q lq

      length_x : length x ≡ length (edges ds)
      length_x = below_length rh x below_x ∙ length-radix h (edges ds) length_h

      edge_at : get_or (edges ds) e 0 ≡ (dim ds e).edge
      edge_at = get_or-map (λ (d : Dim). d.edge) ds e none_dim 0 le

      edge_is : get_or rg e 0 ≡ (dim ds e).edge
      edge_is = getD_radix h (edges ds) e 0 (omega arith) (rw length_ks le) ∙ edge_at

      test : (ys : List ℕ) → Below rg ys → (agrees h x ys ≡ true) ⊎ (agrees h x ys ≡ false) → eqb (number rh (cleared h ys)) q ≡ agrees h x ys
      test ys b (inl t) = eq-eqb (number rh (cleared h ys)) q
          (ap (number rh) (sym (cleared_from_agrees h x ys (length_x ∙ sym (below_length rg ys b ∙ length_rg)) t) ∙ cleared_below h (edges ds) x below_x)
          ∙ number_digits rh q lq)
          ∙ sym t
      test ys b (inr t) = ne_eqb (number rh (cleared h ys)) q
          (λ i. both_ways (agrees h x ys) t (ap (λ z. agrees h z ys) (is i) ∙ agrees_cleared h ys ys ∙ agrees_same h ys)) ∙ sym t
        where
          is : number rh (cleared h ys) ≡ q → x ≡ cleared h ys
          is i = ap (digits rh) (sym i) ∙ digits_number rh (cleared h ys) (below_fewer h (edges ds) ys e b)

  -- a loop over the parent's offsets, which joins each value into the child's list at its projected offset: what stands at q after i turns
  module _ (project : ℕ → ℕ) (p : ℕ → M) where
    abbrev pub Accumulated : List M → List M → ℕ → Type 0
    Accumulated s t i = (length t ≡ length s)
        × ((q : ℕ) → q < length s → get_or t q empty ≡ join (get_or s q empty) (big empty join (λ o. cond (eqb (project o) q) (p o) empty) i))

    pub accumulated_none : (s : List M) → Accumulated s s 0
    accumulated_none s = (refl, λ q l. sym (join_empty empty join laws (get_or s q empty)))

    pub accumulated_more : (s t : List M) (i : ℕ) → project i < length s → Accumulated s t i
        → Accumulated s (set t (project i) (join (get_or t (project i) empty) (p i))) (i + 1)
    accumulated_more s t i l inv = (length-set t (project i) (join (get_or t (project i) empty) (p i)) ∙ inv.0, λ q m. at q m (cases_eq q (project i)))
      where
        sofar : ℕ → M
        sofar q = big empty join (λ o. cond (eqb (project o) q) (p o) empty) i

        next : (q : ℕ) → big empty join (λ o. cond (eqb (project o) q) (p o) empty) (i + 1) ≡ join (sofar q) (cond (eqb (project i) q) (p i) empty)
        next q = ap (big empty join (λ o. cond (eqb (project o) q) (p o) empty)) (add-one i)

        at : (q : ℕ) → q < length s → (q ≡ project i) ⊎ (q ≡ project i → ⊥)
            → get_or (set t (project i) (join (get_or t (project i) empty) (p i))) q empty
            ≡ join (get_or s q empty) (big empty join (λ o. cond (eqb (project o) q) (p o) empty) (i + 1))
        at q m (inl is) =
            ap (λ z. get_or (set t (project i) (join (get_or t (project i) empty) (p i))) z empty) is
            ∙ get_or-set_same t (project i) (join (get_or t (project i) empty) (p i)) empty (omega (arith, inv.0))
            ∙ ap (λ z. join (get_or t z empty) (p i)) (sym is)
            ∙ ap (λ z. join z (p i)) (inv.1 q m)
            ∙ laws.assoc (get_or s q empty) (sofar q) (p i)
            ∙ ap (join (get_or s q empty)) (ap (λ z. join (sofar q) (cond z (p i) empty)) (sym (eq-eqb (project i) q (sym is))) ∙ sym (next q))
        at q m (inr ne) =
            get_or-set_other t (project i) q (join (get_or t (project i) empty) (p i)) empty ne
            ∙ inv.1 q m
            ∙ ap (join (get_or s q empty)) (sym (join_empty empty join laws (sofar q))
            ∙ ap (λ z. join (sofar q) (cond z (p i) empty)) (sym (ne_eqb (project i) q (λ z. ne (sym z)))) ∙ sym (next q))

  module _ (ds : List Dim) (mean : ℕ → Chunk M) where
    pub length_block : (g : Group) (c : List ℕ) → length (block empty join (meaning ds mean) g c) ≡ product (radix g (edges ds))
    length_block g c = length_by_digits (λ ls. direct empty join (meaning ds mean) g (cell_at ds c ls)) (radix g (edges ds))

    pub getD_block : (g : Group) (c : List ℕ) (o : ℕ) → o < product (radix g (edges ds)) → get_or (block empty join (meaning ds mean) g c) o empty
        ≡ direct empty join (meaning ds mean) g (cell_at ds c (digits (radix g (edges ds)) o))
    getD_block g c o l = getD_by_digits (λ ls. direct empty join (meaning ds mean) g (cell_at ds c ls)) (radix g (edges ds)) o empty l

    pub getD_block_at : (g : Group) (c ls : List ℕ) → Below (radix g (edges ds)) ls
        → get_or (block empty join (meaning ds mean) g c) (number (radix g (edges ds)) ls) empty ≡ direct empty join (meaning ds mean) g (cell_at ds c ls)
    getD_block_at g c ls b = getD_by_number (λ ls. direct empty join (meaning ds mean) g (cell_at ds c ls)) (radix g (edges ds)) ls empty b

    -- a block of the root is what the source means there
    pub radix_root : radix (root (length ds)) (edges ds) ≡ edges ds
    radix_root = radix_all (edges ds) (length ds) (length-map ds (λ (d : Dim). d.edge))

    pub length_block_root : (c : List ℕ) → length (block empty join (meaning ds mean) (root (length ds)) c) ≡ product (edges ds)
    length_block_root c = length_block (root (length ds)) c ∙ ap product radix_root

    pub getD_block_root : (c : List ℕ) (o : ℕ) → Divided ds → Below (counts ds) c → o < product (edges ds)
        → get_or (block empty join (meaning ds mean) (root (length ds)) c) o empty
        ≡ cond (is_readable (mean (number (counts ds) c))) (get_or (values_of (mean (number (counts ds) c))) o empty) empty
    getD_block_root c o divided below_c l =
        getD_block (root (length ds)) c o (rw radix_root l)
        ∙ ap (λ z. direct empty join (meaning ds mean) (root (length ds)) (cell_at ds c (digits z o))) radix_root
        ∙ direct_root empty join laws ds mean (cell_at ds c (digits (edges ds) o)) (cell_below ds c (digits (edges ds) o) divided below_c below_o)
        ∙ ap₂ (λ a b. cond (is_readable (mean (number (counts ds) a))) (get_or (values_of (mean (number (counts ds) a))) (number (edges ds) b) empty) empty)
        (chunk_of_cell ds c (digits (edges ds) o) length_c below_o) (local_of_cell ds c (digits (edges ds) o) length_c below_o)
        ∙ ap (λ n. cond (is_readable (mean (number (counts ds) c))) (get_or (values_of (mean (number (counts ds) c))) n empty) empty) (number_digits (edges ds) o l)
      where
        length_c : length c ≡ length ds
        length_c = below_length (counts ds) c below_c ∙ length-map ds chunks

        below_o : Below (edges ds) (digits (edges ds) o)
        below_o = digits_below (edges ds) o l

    pub block_root_readable : (c : List ℕ) (vs : List M) → Divided ds → Below (counts ds) c → mean (number (counts ds) c) ≡ values vs → length vs
        ≡ product (edges ds) → block empty join (meaning ds mean) (root (length ds)) c ≡ vs
    block_root_readable c vs divided below_c is lv = ext_get_or empty (block empty join (meaning ds mean) (root (length ds)) c) vs (length_block_root c ∙ sym lv)
        (λ o l. getD_block_root c o divided below_c (rw (length_block_root c) at l) ∙ ap (λ r. cond (is_readable r) (get_or (values_of r) o empty) empty) is)

    pub block_root_fault : (c : List ℕ) (cause entry : ℕ) → Divided ds → Below (counts ds) c → mean (number (counts ds) c) ≡ faulty cause entry
        → block empty join (meaning ds mean) (root (length ds)) c ≡ replicate (product (edges ds)) empty
    block_root_fault c cause entry divided below_c is =
        ext_get_or empty (block empty join (meaning ds mean) (root (length ds)) c) (replicate (product (edges ds)) empty)
        (length_block_root c ∙ sym (length-replicate (product (edges ds)) empty))
        (λ o l. let m : o < product (edges ds) = rw (length_block_root c) at l in
        getD_block_root c o divided below_c m ∙ ap (λ r. cond (is_readable r) (get_or (values_of r) o empty) empty) is
        ∙ sym (get_or-replicate (product (edges ds)) o empty empty m))

    -- what a parent's block gives to a cell, read off the block's list
    pub contribution_from_block : (h : Group) (e : ℕ) (x : List ℕ) (k : ℕ) → Divided ds → length h ≡ length ds → length x ≡ length ds → e < length ds
        → contribution empty join (meaning ds mean) h e x k
        ≡ big empty join (λ l. get_or (block empty join (meaning ds mean) (set h e true) (parent_block ds h e x k))
        (number (radix (set h e true) (edges ds)) (set (cleared h (local_of ds x)) e l)) empty) (dim ds e).edge
    contribution_from_block h e x k divided lh lx le = big_cong empty join laws
        (λ l. direct empty join (meaning ds mean) (set h e true) (set x e (k * (dim ds e).edge + l)))
        (λ l. get_or (block empty join (meaning ds mean) (set h e true) (parent_block ds h e x k))
        (number (radix (set h e true) (edges ds)) (set (cleared h (local_of ds x)) e l)) empty)
        (dim ds e).edge
        (λ l m. sym (
        getD_block_at (set h e true) (parent_block ds h e x k) (set (cleared h (local_of ds x)) e l)
        (below_set h (edges ds) (cleared h (local_of ds x)) e l (below_cleared h (edges ds) (local_of ds x) (local_below ds x divided lx))
        (rw (get_or-map (λ (d : Dim). d.edge) ds e none_dim 0 le) m))
        ∙ ap (direct empty join (meaning ds mean) (set h e true)) (cell_parent ds h x e k l lh lx le)
        ∙ direct_cleared empty join laws ds mean (set h e true) (set x e (k * (dim ds e).edge + l))))

    -- a loop over the offsets of the parent's block c that joins each value at its projected offset takes a child's block from d to d + 1
    pub block_step : (scan : List ℕ → ℕ) (h : Group) (e : ℕ) (c : List ℕ) (d q : ℕ) → Divided ds → length h ≡ length ds → e < length ds → keeps h e ≡ false
        → Injective scan (radix (set h e true) (counts ds)) → Below (radix (set h e true) (counts ds)) c → scan c ≡ d → q < product (radix h (edges ds))
        → content empty join (meaning ds mean) scan h e (cell_at ds (cleared h c) (digits (radix h (edges ds)) q)) (d + 1)
        ≡ join (content empty join (meaning ds mean) scan h e (cell_at ds (cleared h c) (digits (radix h (edges ds)) q)) d)
        (big empty join (λ o. cond (eqb (projected_offset ds h e o) q) (get_or (block empty join (meaning ds mean) (set h e true) c) o empty) empty)
        (product (radix (set h e true) (edges ds))))
    block_step scan h e c d q divided lh le lacks apart below_c now lq =
        content_hit empty join laws ds mean scan h e x c d divided (cell_below ds (cleared h c) ls divided below_hc below_ls) lh le lacks apart below_c now
        (ap (λ z. agrees h z c) chunk_is ∙ agrees_cleared h c c ∙ agrees_same h c)
        ∙ ap (join (content empty join (meaning ds mean) scan h e x d))
        (contribution_from_block h e x (get_or c e 0) divided lh length_x le
        ∙ ap₂ (λ b m. big empty join (λ l. get_or (block empty join (meaning ds mean) (set h e true) b) (number (radix (set h e true) (edges ds)) (set m e l)) empty)
        (dim ds e).edge)
        (ap (λ z. set (cleared h z) e (get_or c e 0)) chunk_is
        ∙ ap (λ z. set z e (get_or c e 0)) (cleared_below h (counts ds) (cleared h c) below_rh)
        ∙ cleared-set h c e ∙ cleared_below (set h e true) (counts ds) c below_c)
        (ap (cleared h) local_is ∙ cleared_below h (edges ds) ls (digits_below (radix h (edges ds)) q lq))
        ∙ sym (projected_join ds h e q (λ o. get_or (block empty join (meaning ds mean) (set h e true) c) o empty) lh le lacks lq))
      where
        ls : List ℕ
        ls = digits (radix h (edges ds)) q

        x : List ℕ
        x = cell_at ds (cleared h c) ls

        below_ls : Below (edges ds) ls
        below_ls = below_edges ds h ls divided lh (digits_below (radix h (edges ds)) q lq)

        below_rh : Below (radix h (counts ds)) (cleared h c)
        below_rh = below_fewer h (counts ds) c e below_c

        below_hc : Below (counts ds) (cleared h c)
        below_hc = below_counts ds h (cleared h c) divided lh below_rh

        length_hc : length (cleared h c) ≡ length ds
        length_hc = below_length (counts ds) (cleared h c) below_hc ∙ length-map ds chunks

        chunk_is : chunk_of ds x ≡ cleared h c
        chunk_is = chunk_of_cell ds (cleared h c) ls length_hc below_ls

        local_is : local_of ds x ≡ ls
        local_is = local_of_cell ds (cleared h c) ls length_hc below_ls

        length_x : length x ≡ length ds
        length_x = below_length (sizes ds) x (cell_below ds (cleared h c) ls divided below_hc below_ls) ∙ length-map ds (λ (d : Dim). d.size)

    -- the lists before and after: what the loop does to a child's block
    pub block_joined : (scan : List ℕ → ℕ) (h : Group) (e : ℕ) (c : List ℕ) (d : ℕ) (s t : List M) → Divided ds → length h ≡ length ds → e < length ds → keeps h e
        ≡ false
        → Injective scan (radix (set h e true) (counts ds)) → Below (radix (set h e true) (counts ds)) c → scan c ≡ d → length s ≡ product (radix h (edges ds))
        → ((q : ℕ) → q < product (radix h (edges ds)) → get_or s q empty
        ≡ content empty join (meaning ds mean) scan h e (cell_at ds (cleared h c) (digits (radix h (edges ds)) q)) d)
        → Accumulated (projected_offset ds h e) (λ o. get_or (block empty join (meaning ds mean) (set h e true) c) o empty) s t
        (product (radix (set h e true) (edges ds)))
        → (q : ℕ) → q < product (radix h (edges ds)) → get_or t q empty
        ≡ content empty join (meaning ds mean) scan h e (cell_at ds (cleared h c) (digits (radix h (edges ds)) q)) (d + 1)
    block_joined scan h e c d s t divided lh le lacks apart below_c now ls was inv q lq =
        inv.1 q (rw ls lq)
        ∙ ap (λ z. join z (big empty join (λ o. cond (eqb (projected_offset ds h e o) q) (get_or (block empty join (meaning ds mean) (set h e true) c) o empty) empty)
        (product (radix (set h e true) (edges ds))))) (was q lq)
        ∙ sym (block_step scan h e c d q divided lh le lacks apart below_c now lq)
