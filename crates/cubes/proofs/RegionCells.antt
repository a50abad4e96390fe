-- A region has the cells that the plan counts for it.
use Rattle.std.proofs.Common.{◌≡◌, ℕ, suc, ◌+◌, ◌-◌, ◌*◌, ◌/◌, ◌^◌, ◌<◌, Bool, true, false, cond, ltb, List, [], ◌∷◌, map, length, get_or, sum, sym, refl, ap, ◌∙◌, ap₂, mul-pos, one-mul, zero-add, mul-one, add-one, arith}
use Rattle.std.specs.List.{range_with_len, ContainsAt as Has, AllByRecursion}
use Rattle.std.proofs.ByRecursion.{All-map}
use Rattle.std.proofs.lemmas.List.FromFn.{length-map-range_with_len}
use Rattle.std.proofs.lemmas.List.{get_or-map, length-map}
use Rattle.shapes.specs.declared.dims.Dim.{Dim}
use Rattle.shapes.specs.Arrays.{group, groups, chunks, product, edges, counts, none_dim, dim, Group, keeps, radix, root}
use Rattle.plans.specs.Plans.{Order, Parents, share, cells, need, others}
use Rattle.measures.specs.Laws.{total}
use Rattle.cubes.specs.Summaries.{Divided, big}
use Rattle.cubes.specs.Scans.{width, scan_digits}
use Rattle.cubes.specs.Handing.{parent, blocks, region, region_blocks, Scan}
use Rattle.shapes.proofs.Radixes.{length-radix}
use Rattle.cubes.proofs.Cells.{divided_edged, radix_positive, radix_all}
use Rattle.cubes.proofs.Joins.{big_cong, big_join, big_first, total_counting}
use Rattle.cubes.proofs.Summaries.{divided_at}
use Rattle.cubes.proofs.ScanNumbers.{products, width_hit}
use Rattle.cubes.proofs.RegionSteps.{getD_radix_any}
use Rattle.cubes.proofs.Completions.{region_is}
use Rattle.cubes.proofs.Groups.{lattice_scan, groups_have, not_root_of}
use Rattle.cubes.proofs.Trees.{ChildOf, is_child, sized, inside, lacks_keeps}
use Rattle.plans.proofs.Sums.{all_counting}
use Rattle.shapes.proofs.Masks.{length-group}

pub product_total : (ks : List ℕ) → product ks ≡ total 1 ◌*◌ ks
product_total [] = refl
product_total (k ∷ ks) = ap (λ z. k * z) (product_total ks)

pub product_counting : (f : ℕ → ℕ) (n : ℕ) → product (map f (range_with_len 0 n)) ≡ big 1 ◌*◌ f n
product_counting f n = product_total (map f (range_with_len 0 n)) ∙ total_counting 1 ◌*◌ products f 0 n
    ∙ big_cong 1 ◌*◌ products (λ i. f (0 + i)) f n (λ i l. ap f (zero-add i))

product_big : (ks : List ℕ) → product ks ≡ big 1 ◌*◌ (λ i. get_or ks i 1) (length ks)
product_big [] = refl
product_big (k ∷ ks) = ap (λ z. k * z) (product_big ks) ∙ sym (big_first 1 ◌*◌ products (λ i. get_or (k ∷ ks) i 1) (length ks))

module _ (ds : List Dim) (place : ℕ → ℕ) (order : Order ds place) (divided : Divided ds) (h : Group) (e : ℕ) (lh : length h ≡ length ds) (le : e < length ds)
    (lacks : keeps h e ≡ false) where
  counts_long : length (counts ds) ≡ length ds
  counts_long = length-map ds chunks

  edges_long : length (edges ds) ≡ length ds
  edges_long = length-map ds (λ (d : Dim). d.edge)

  radices_long : length (radix h (counts ds)) ≡ length ds
  radices_long = length-radix h (counts ds) (lh ∙ sym counts_long) ∙ counts_long

  separate : (i j : ℕ) → i < length (radix h (counts ds)) → j < length (radix h (counts ds)) → place i ≡ place j → i ≡ j
  separate i j mi mj q = order.distinct i j (rw radices_long at mi) (rw radices_long at mj) q

  count_at : (i : ℕ) → i < length ds → get_or (radix h (counts ds)) i 1 ≡ cond (keeps h i) (chunks (dim ds i)) 1
  count_at i l = getD_radix_any h (counts ds) i (rw lh l) (rw counts_long l) ∙ ap (λ z. cond (keeps h i) z 1) (get_or-map chunks ds i none_dim 1 l)

  edge_at : (i : ℕ) → i < length ds → get_or (radix h (edges ds)) i 1 ≡ cond (keeps h i) (dim ds i).edge 1
  edge_at i l = getD_radix_any h (edges ds) i (rw lh l) (rw edges_long l) ∙ ap (λ z. cond (keeps h i) z 1) (get_or-map (λ (d : Dim). d.edge) ds i none_dim 1 l)

  -- e is dropped, so the places up to it are the places before it
  width_e : width place (radix h (counts ds)) (place e + 1) ≡ width place (radix h (counts ds)) (place e)
  width_e = ap (width place (radix h (counts ds))) (add-one (place e))
      ∙ width_hit place (radix h (counts ds)) separate (place e) e (rw radices_long le) refl
      ∙ ap (λ z. width place (radix h (counts ds)) (place e) * z) (count_at e le ∙ ap (λ z. cond z (chunks (dim ds e)) 1) lacks)
      ∙ mul-one (width place (radix h (counts ds)) (place e))

  -- a region has the cells that the plan counts for it
  pub region_cells : width place (radix h (counts ds)) (place e + 1) * product (radix h (edges ds)) ≡ cells ds place h e
  region_cells =
      ap₂ ◌*◌ (width_e ∙ ap (big 1 ◌*◌ before) radices_long) (product_big (radix h (edges ds))
      ∙ ap (big 1 ◌*◌ (λ i. get_or (radix h (edges ds)) i 1)) (length-radix h (edges ds) (lh ∙ sym edges_long) ∙ edges_long))
      ∙ sym (big_join 1 ◌*◌ products before (λ i. get_or (radix h (edges ds)) i 1) (length ds))
      ∙ big_cong 1 ◌*◌ products (λ i. before i * get_or (radix h (edges ds)) i 1) (share ds place h e) (length ds)
      (λ i l. ap₂ (λ a b. cond (ltb (place i) (place e)) a 1 * b) (count_at i l) (edge_at i l) ∙ at i l (keeps h i) (ltb (place i) (place e)))
      ∙ sym (product_counting (share ds place h e) (length ds))
    where
      before : ℕ → ℕ
      before i = cond (ltb (place i) (place e)) (get_or (radix h (counts ds)) i 1) 1

      at : (i : ℕ) → i < length ds → (t u : Bool) → cond u (cond t (chunks (dim ds i)) 1) 1 * cond t (dim ds i).edge 1
          ≡ cond t (cond u (dim ds i).size (dim ds i).edge) 1
      at i l true true = divided_at ds i divided l
      at i l true false = one-mul (dim ds i).edge
      at i l false true = refl
      at i l false false = refl

product_positive : (ks : List ℕ) → ((i : ℕ) → 0 < get_or ks i 1) → 0 < product ks
product_positive [] h = omega arith
product_positive (k ∷ ks) h = mul-pos (h 0) (product_positive ks (λ i. h (suc i)))

module _ (ds : List Dim) (place : ℕ → ℕ) (adds : Group → ℕ) (all : List Group) (S : Scan ds place adds all) (h : Group) (has : Has all h)
    (n : h ≡ root (length ds) → ⊥) where
  k : ChildOf adds all h
  k = is_child ds place adds all S h has n

  lh : length h ≡ length ds
  lh = sized ds place adds all S h has

  -- a region has share blocks
  region_long : (s : ℕ) → s < product (radix (parent adds h) (counts ds))
      → length (region ds place adds h (scan_digits place (radix (parent adds h) (counts ds)) s)) ≡ width place (radix h (counts ds)) (place (adds h) + 1)
  region_long s l =
      ap length (region_is ds place S.edged S.order adds h lh (inside ds place adds all S h k) (lacks_keeps h (adds h) k.1) s l)
      ∙ length-map-range_with_len (scan_digits place (radix h (counts ds)))
      (s / width place (radix (parent adds h) (counts ds)) (place (adds h) + 1) * width place (radix h (counts ds)) (place (adds h) + 1))
      (width place (radix h (counts ds)) (place (adds h) + 1))

  pub region_blocks_are : region_blocks ds place adds h ≡ width place (radix h (counts ds)) (place (adds h) + 1)
  region_blocks_are = region_long 0 (product_positive (radix (parent adds h) (counts ds)) (λ i. radix_positive ds (parent adds h) i S.edged))

  -- the blocks of a region, times the cells of one
  pub region_blocks_cells : Divided ds → region_blocks ds place adds h * product (radix h (edges ds)) ≡ cells ds place h (adds h)
  region_blocks_cells divided = ap (λ m. m * product (radix h (edges ds))) region_blocks_are
      ∙ region_cells ds place S.order divided h (adds h) lh (inside ds place adds all S h k) (lacks_keeps h (adds h) k.1)

  pub region_has_cells : Divided ds → AllByRecursion (λ b. (length (region ds place adds h b) ≡ region_blocks ds place adds h)
      × (length (region ds place adds h b) * product (radix h (edges ds)) ≡ cells ds place h (adds h))) (blocks ds place (parent adds h))
  region_has_cells divided =
      All-map (λ b. (length (region ds place adds h b) ≡ region_blocks ds place adds h)
      × (length (region ds place adds h b) * product (radix h (edges ds)) ≡ cells ds place h (adds h)))
      (scan_digits place (radix (parent adds h) (counts ds))) (range_with_len 0 (product (radix (parent adds h) (counts ds))))
      (all_counting (λ s. (length (region ds place adds h (scan_digits place (radix (parent adds h) (counts ds)) s)) ≡ region_blocks ds place adds h)
      × (length (region ds place adds h (scan_digits place (radix (parent adds h) (counts ds)) s)) * product (radix h (edges ds)) ≡ cells ds place h (adds h))) 0
      (product (radix (parent adds h) (counts ds)))
      (λ s a b. (same s (omega arith), ap (λ m. m * product (radix h (edges ds))) (same s (omega arith)) ∙ region_blocks_cells divided)))
    where
      same : (s : ℕ) → s < product (radix (parent adds h) (counts ds)) → length (region ds place adds h (scan_digits place (radix (parent adds h) (counts ds)) s))
          ≡ region_blocks ds place adds h
      same s l = region_long s l ∙ sym region_blocks_are

map_same : {X : Type 0} (f g : X → ℕ) (xs : List X) → AllByRecursion (λ x. f x ≡ g x) xs → map f xs ≡ map g xs
map_same f g [] a = refl
map_same f g (x ∷ xs) a = ap₂ ◌∷◌ a.0 (map_same f g xs a.1)

-- the need is the cells of the regions
pub need_is_regions : (ds : List Dim) (place : ℕ → ℕ) (adds : Group → ℕ) → Divided ds → Order ds place → Parents ds adds
    → need ds place adds
    ≡ product (radix (root (length ds)) (edges ds)) + sum (map (λ h. region_blocks ds place adds h * product (radix h (edges ds))) (others ds))
need_is_regions ds place adds divided order parents =
    ap₂ (λ a b. product a + sum b) (sym (radix_all (edges ds) (length ds) (length-map ds (λ (d : Dim). d.edge))))
    (map_same (λ g. cells ds place g (adds g)) (λ h. region_blocks ds place adds h * product (radix h (edges ds))) (others ds)
    (All-map (λ h. cells ds place h (adds h) ≡ region_blocks ds place adds h * product (radix h (edges ds))) (group (length ds)) (range_with_len 0 (2 ^ length ds - 1))
    (all_counting (λ m. cells ds place (group (length ds) m) (adds (group (length ds) m))
    ≡ region_blocks ds place adds (group (length ds) m) * product (radix (group (length ds) m) (edges ds)))
    0 (2 ^ length ds - 1) (λ m a b. sym
    (region_blocks_cells ds place adds (groups (length ds)) (lattice_scan ds place adds (divided_edged ds divided) order parents) (group (length ds) m)
    (groups_have (length ds) (group (length ds) m) (length-group (length ds) m)) (not_root_of (length ds) m (omega arith)) divided)))))
