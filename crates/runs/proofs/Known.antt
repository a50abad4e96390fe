-- Boxes with known numbers: within so many cells, and one behind the other; and the regions of a known shape, order and parents.
use Rattle.std.proofs.Common.{◌≡◌, ℕ, zero, suc, ◌+◌, ◌-◌, ◌*◌, ◌^◌, ◌<◌, ◌≤◌, false, cond, ltb, List, [], ◌∷◌, map, length, get_or, sym, ap, ap₂, ◌∙◌, mul-le-mul_right, arith}
use Rattle.std.specs.List.{range_with_len}
use Rattle.shapes.specs.declared.dims.Dim.{Dim}
use Rattle.shapes.specs.Arrays.{Below, dim, edges, group, radix, volume}
use Rattle.shapes.specs.Views.{dims_of, six}
use Rattle.cubes.specs.Summaries.{big}
use Rattle.runs.specs.declared.bases.Regions.{Regions}
use Rattle.runs.specs.declared.layouts.Layout.{Layout}
use Rattle.runs.specs.declared.layouts.Region.{Region}
use Rattle.runs.specs.Boxes.{dot, Within, Disjoint}
use Rattle.runs.specs.Grids.{ApartUnder, Inside, Joinable, block_edges, cells_in, start_of, strides_in}
use Rattle.runs.specs.Standing.{region_in}
use Rattle.runs.proofs.Strides.{within_same, disjoint_same}

-- the last cell of a box stands farthest
pub farthest : (ks ss ls : List ℕ) → Below ks ls → dot ss ls ≤ dot ss (map (λ k. k - 1) ks)
farthest ks [] ls b = omega arith
farthest [] (s ∷ ss) [] b = omega arith
farthest [] (s ∷ ss) (l ∷ ls) b = absurd b
farthest (k ∷ ks) (s ∷ ss) [] b = absurd b
farthest (k ∷ ks) (s ∷ ss) (l ∷ ls) b =
    let le : l ≤ k - 1 = omega (arith, b.0) in
    omega (arith, mul-le-mul_right s le, farthest ks ss ls b.1)

pub within : (ks ss : List ℕ) (s n : ℕ) → s + dot ss (map (λ k. k - 1) ks) < n → Within ks s ss n
within ks ss s n l ls b = omega (arith, farthest ks ss ls b)

pub behind : (ks fs ts : List ℕ) (f t : ℕ) → f + dot fs (map (λ k. k - 1) ks) < t → Disjoint ks f fs t ts
behind ks fs ts f t l us vs bu bv same = omega (arith, farthest ks fs us bu)

-- a region of a layout by its dimensions and their places alone, so that it computes where these are known
abbrev radix_with : List Dim → List ℕ → Region → ℕ → ℕ
radix_with ds ps r i = cond (get_or r.kept i false) (cond (ltb (get_or ps i 0) r.lacked) (dim ds i).size (dim ds i).edge) 1

abbrev stride_with : List Dim → List ℕ → Region → ℕ → ℕ
stride_with ds ps r i = cond (get_or r.kept i false) (big 1 ◌*◌ (radix_with ds ps r) i) 0

abbrev start_with : List Dim → List ℕ → Region → List ℕ → ℕ
start_with ds ps r c = r.base + big 0 ◌+◌ (λ i. cond (ltb (get_or ps i 0) r.lacked) (get_or c i 0 * (dim ds i).edge) 0 * stride_with ds ps r i) 6

abbrev strides_with : List Dim → List ℕ → Region → List ℕ
strides_with ds ps r = map (stride_with ds ps r) (range_with_len 0 6)

abbrev edges_with : List Dim → Region → List ℕ
edges_with ds r = radix r.kept (six 1 (edges ds))

module _ (ds : List Dim) (ps : List ℕ) (y : Layout) (e : (dims_of y.shape ≡ ds) × (y.places ≡ ps)) where
  pub edges_known : (r : Region) → block_edges y r ≡ radix r.kept (six 1 (edges ds))
  edges_known r = ap (λ es. radix r.kept (six 1 (edges es))) e.0

  pub start_known : (r : Region) (c : List ℕ) → start_of y r c ≡ start_with ds ps r c
  start_known r c = ap₂ (λ es qs. start_with es qs r c) e.0 e.1

  pub strides_known : (r : Region) → strides_in y r ≡ map (stride_with ds ps r) (range_with_len 0 6)
  strides_known r = ap₂ (λ es qs. map (stride_with es qs r) (range_with_len 0 6)) e.0 e.1

  pub cells_known : (r : Region) → cells_in y r ≡ big 1 ◌*◌ (radix_with ds ps r) 6
  cells_known r = ap₂ (λ es qs. big 1 ◌*◌ (radix_with es qs r) 6) e.0 e.1

  pub inside_known : (r : Region) (c : List ℕ) (n : ℕ) → start_with ds ps r c + dot (strides_with ds ps r) (map (λ k. k - 1) (edges_with ds r)) < n
      → Inside y r (block_edges y r) c n
  inside_known r c n l = within_same (block_edges y r) (edges_with ds r) (start_of y r c) (start_with ds ps r c) (strides_in y r) (strides_with ds ps r) n
      (edges_known r) (start_known r c) (strides_known r) (within (edges_with ds r) (strides_with ds ps r) (start_with ds ps r c) n l)

  -- the block of r is joined into u
  module _ (r u : Region) (c : List ℕ) (n : ℕ) (l : start_with ds ps u c + dot (strides_with ds ps u) (map (λ k. k - 1) (edges_with ds r)) < n) where
    under : Inside y u (block_edges y r) c n
    under = within_same (block_edges y r) (edges_with ds r) (start_of y u c) (start_with ds ps u c) (strides_in y u) (strides_with ds ps u) n
        (edges_known r) (start_known u c) (strides_known u) (within (edges_with ds r) (strides_with ds ps u) (start_with ds ps u c) n l)

    apart : Disjoint (edges_with ds r) (start_with ds ps r c) (strides_with ds ps r) (start_with ds ps u c) (strides_with ds ps u) → ApartUnder y r u c
    apart = disjoint_same (block_edges y r) (edges_with ds r) (start_of y r c) (start_with ds ps r c) (strides_in y r) (strides_with ds ps r)
        (start_of y u c) (start_with ds ps u c) (strides_in y u) (strides_with ds ps u) (edges_known r) (start_known r c) (strides_known r) (start_known u c) (strides_known u)

    pub joinable_behind : start_with ds ps r c + dot (strides_with ds ps r) (map (λ k. k - 1) (edges_with ds r)) < start_with ds ps u c → Joinable y r u c n
    joinable_behind b = (under, apart (behind (edges_with ds r) (strides_with ds ps r) (strides_with ds ps u) (start_with ds ps r c) (start_with ds ps u c) b))

    pub joinable_before : start_with ds ps u c + dot (strides_with ds ps u) (map (λ k. k - 1) (edges_with ds r)) < start_with ds ps r c → Joinable y r u c n
    joinable_before b = (
      under,
      apart (λ us vs bu bv q. behind (edges_with ds r) (strides_with ds ps u) (strides_with ds ps r) (start_with ds ps u c) (start_with ds ps r c) b vs us bv bu (sym q)),
    )

-- the same of the regions by mask
abbrev lacked_with : List Dim → List ℕ → List ℕ → ℕ → ℕ
lacked_with ds ps adds m = cond (ltb m (2 ^ length ds - 1)) (get_or ps (get_or adds m 0) 0) 0

abbrev pub region_with : List Dim → List ℕ → List ℕ → ℕ → ℕ → Region
region_with ds ps adds m base = record { base = base; kept = group 6 m; lacked = lacked_with ds ps adds m }

abbrev pub base_with : List Dim → List ℕ → List ℕ → ℕ → ℕ
base_with ds ps adds m = volume ds + big 0 ◌+◌ (λ k. big 1 ◌*◌ (radix_with ds ps (region_with ds ps adds k 0)) 6) m

module _ (ds : List Dim) (ps adds : List ℕ) (s : Regions) (e : (dims_of s.layout.shape ≡ ds) × (s.layout.places ≡ ps) × (s.layout.adds ≡ adds)) where
  same : (f : List Dim → List ℕ → List ℕ → ℕ) → f (dims_of s.layout.shape) s.layout.places s.layout.adds ≡ f ds ps adds
  same f = ap (λ x. f x s.layout.places s.layout.adds) e.0 ∙ ap (λ x. f ds x s.layout.adds) e.1 ∙ ap (f ds ps) e.2

  region_from : (m base : ℕ) → get_or s.bases m 0 ≡ base → region_in s m ≡ region_with ds ps adds m base
  region_from m base b = ap₂ (λ (k l : ℕ). let r : Region = record { base = k; kept = group 6 m; lacked = l } in r) b (same (λ x y z. lacked_with x y z m))

  pub region_known : (m : ℕ) → m < 2 ^ length ds - 1 → region_in s m ≡ region_with ds ps adds m (base_with ds ps adds m)
  region_known m l = region_from m (base_with ds ps adds m) (s.starts.others m (omega (arith, ap (λ (x : List Dim). 2 ^ length x) e.0)) ∙ same (λ x y z. base_with x y z m))

  pub root_known : region_in s (2 ^ length ds - 1) ≡ region_with ds ps adds (2 ^ length ds - 1) 0
  root_known = region_from (2 ^ length ds - 1) 0 (ap (λ (x : List Dim). get_or s.bases (2 ^ length x - 1) 0) (sym e.0) ∙ s.starts.own)

-- what holds of six numbers
pub each_of_six : (P : ℕ → Type 0) → P 0 → P 1 → P 2 → P 3 → P 4 → P 5 → (i : ℕ) → i < 6 → P i
each_of_six P a b c d e f zero l = a
each_of_six P a b c d e f (suc zero) l = b
each_of_six P a b c d e f (suc (suc zero)) l = c
each_of_six P a b c d e f (suc (suc (suc zero))) l = d
each_of_six P a b c d e f (suc (suc (suc (suc zero)))) l = e
each_of_six P a b c d e f (suc (suc (suc (suc (suc zero))))) l = f
each_of_six P a b c d e f (suc (suc (suc (suc (suc (suc i)))))) l = absurd (omega arith)
