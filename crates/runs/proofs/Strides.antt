-- The loops that work out a grid, and what a grid means among the cells.
use Rattle.std.proofs.Common.{◌≡◌, ℕ, ◌+◌, ◌-◌, ◌*◌, ◌<◌, ◌≤◌, List, ap, ◌∙◌, subst, ap₂, arith}
use Rattle.shapes.specs.Arrays.{digits, Below}
use Rattle.cubes.specs.Summaries.{big}
use Rattle.runs.specs.Boxes.{dot, box_cells, box_joined, Within, Disjoint, Positive}
use Rattle.cubes.proofs.Joins.{big_add, big_last}
use Rattle.runs.proofs.Digits.{digits_positive}
use Rattle.cubes.proofs.ScanNumbers.{sums, products}

pub sum_rises : (f : ℕ → ℕ) (i n : ℕ) → i ≤ n → big 0 ◌+◌ f i ≤ big 0 ◌+◌ f n
sum_rises f i n l =
    let e : i + (n - i) ≡ n = omega arith in
    omega (arith, big_add 0 ◌+◌ sums f i (n - i), ap (big 0 ◌+◌ f) e)

pub sum_part : (f : ℕ → ℕ) (i n : ℕ) → i < n → big 0 ◌+◌ f i + f i ≤ big 0 ◌+◌ f n
sum_part f i n l = omega (arith, sum_rises f (i + 1) n (omega arith), big_last 0 ◌+◌ sums f i)

pub width_more : (f : ℕ → ℕ) (i : ℕ) → big 1 ◌*◌ f (i + 1) ≡ big 1 ◌*◌ f i * f i
width_more f i = big_last 1 ◌*◌ products f i

pub within_start : (ks : List ℕ) (s : ℕ) (ss : List ℕ) (n : ℕ) → Positive ks → Within ks s ss n → s < n
within_start ks s ss n pos w = omega (arith, w (digits ks 0) (digits_positive ks 0 pos))

pub within_same : (ks ks' : List ℕ) (s s' : ℕ) (ss ss' : List ℕ) (n : ℕ) → ks ≡ ks' → s ≡ s' → ss ≡ ss' → Within ks' s' ss' n → Within ks s ss n
within_same ks ks' s s' ss ss' n e es ess w ls b = omega (arith, w ls (subst (λ z. Below z ls) e b), ap (λ z. dot z ls) ess)

pub disjoint_same : (ks ks' : List ℕ) (f f' : ℕ) (fs fs' : List ℕ) (t t' : ℕ) (ts ts' : List ℕ) → ks ≡ ks' → f ≡ f' → fs ≡ fs' → t ≡ t' → ts ≡ ts' → Disjoint ks' f' fs' t' ts' → Disjoint ks f fs t ts
disjoint_same ks ks' f f' fs fs' t t' ts ts' e ef efs et ets w us vs bu bv q =
    w us vs (subst (λ z. Below z us) e bu) (subst (λ z. Below z vs) e bv) (omega (arith, ap (λ z. dot z us) efs, ap (λ z. dot z vs) ets))

pub box_cells_same : {M : Type 0} (empty : M) (cells : List M) (ks ks' : List ℕ) (s s' : ℕ) (ss ss' : List ℕ) → ks ≡ ks' → s ≡ s' → ss ≡ ss' → box_cells empty cells ks s ss ≡ box_cells empty cells ks' s' ss'
box_cells_same empty cells ks ks' s s' ss ss' e es ess = ap (λ z. box_cells empty cells z s ss) e ∙ ap₂ (box_cells empty cells ks') es ess

pub box_joined_same : {M : Type 0} (empty : M) (join : M → M → M) (cells : List M) (ks ks' : List ℕ) (f f' : ℕ) (fs fs' : List ℕ) (t t' : ℕ) (ts ts' : List ℕ) → ks ≡ ks' → f ≡ f' → fs ≡ fs' → t ≡ t' → ts ≡ ts'
    → box_joined empty join cells ks f fs t ts ≡ box_joined empty join cells ks' f' fs' t' ts'
box_joined_same empty join cells ks ks' f f' fs fs' t t' ts ts' e ef efs et ets =
    ap (λ z. box_joined empty join cells z f fs t ts) e ∙ ap₂ (λ a b. box_joined empty join cells ks' a b t ts) ef efs ∙ ap₂ (box_joined empty join cells ks' f' fs') et ets
