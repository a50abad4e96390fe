use Rattle.std.proofs.Common.{◌≡◌, ℕ, ◌+◌, ◌<◌, ◌≤◌, ◌⊎◌, get_or, set, replicate, refl, ap, ◌∙◌, inl, inr, arith, below_more}
use Rattle.std.proofs.lemmas.List.{get_or-replicate, get_or_past, length-replicate, length-set, get_or-set_same, get_or-set_other}
use Rattle.std.proofs.lemmas.Bool.{cases_lt}
use Rattle.cubes.proofs.Joins.{big_last}
use Rattle.cubes.proofs.ScanNumbers.{sums}
use Rattle.runs.specs.Grids.{cells_in, region_at, cells_below, top}
use Rattle.runs.proofs.LaidRegions.{mask_few}
use Rattle.runs.proofs.Narrows.{table_small}
use Rattle.runs.proofs.Strides.{sum_part}
use Rattle.runs.proofs.layouts.Layout.bases.Goals as goal

zeros : (n k : ℕ) → get_or {A = ℕ} (replicate n 0) k 0 ≡ 0
zeros n k = by (cases_lt k n)
  where
    by : (k < n) ⊎ (n ≤ k) → get_or {A = ℕ} (replicate n 0) k 0 ≡ 0
    by (inl l) = get_or-replicate n k 0 0 l
    by (inr l) = get_or_past (replicate n 0) k 0 (omega (arith, length-replicate {A = ℕ} n 0))

pub loop-mask-init : goal.loop-mask-init
loop-mask-init c = (refl, λ k l. absurd (omega arith), λ k l. zeros 64 k, omega arith)

pub overflow_add-next : goal.overflow_add-next
overflow_add-next c =
    let y = c.args.self.now in
    let f : ℕ → ℕ = λ k. cells_in y (region_at y c.args.self.now.adds (top c.args.self.now) k 0) in
    omega (arith, table_small y, c.loop-mask.invariant.3, c.region_len-next.ensures, ap (cells_in y) c.region.ensures, sum_part f c.loop-mask.mask (top c.args.self.now) (omega (arith, c.root-mask-end.ensures.mask)), c.chunk_cells-next.ensures)

pub loop-mask-preserved : goal.loop-mask-preserved
loop-mask-preserved c =
    let y = c.args.self.now in
    let f : ℕ → ℕ = λ k. cells_in y (region_at y c.args.self.now.adds (top c.args.self.now) k 0) in
    let xs = c.loop-mask.bases in
    let m = c.loop-mask.mask in
    let v = c.loop-mask.next in
    let inv = c.loop-mask.invariant in (
      length-set xs m v ∙ inv.0,
      below_more (λ k. get_or (set xs m v) k 0 ≡ c.chunk_cells-next.result + cells_below y c.args.self.now.adds (top c.args.self.now) k) m
          (λ k l. get_or-set_other xs m k v 0 (λ q. omega arith) ∙ inv.1 k l)
          (get_or-set_same xs m v 0 (omega (arith, inv.0, mask_few c.args.self.now (top c.args.self.now) (omega arith), c.root-mask-end.ensures.mask)) ∙ inv.3),
      λ k l. get_or-set_other xs m k v 0 (λ q. omega arith) ∙ inv.2 k (omega arith),
      omega (arith, inv.3, c.region_len-next.ensures, ap (cells_in y) c.region.ensures, big_last 0 ◌+◌ sums f m),
    )

pub returns : goal.returns
returns c =
    let v = c.chunk_cells-next.ensures in
    let e = c.root-mask-end.ensures.mask in
    record {
      others = λ m l. c.loop-mask.invariant.1 m (omega arith) ∙ ap (λ z. z + cells_below c.args.self.now c.args.self.now.adds (top c.args.self.now) m) v;
      own = c.loop-mask.invariant.2 (top c.args.self.now) (omega arith);
    }
