-- The chunk that is next, over a source: what is known where it is answered.
use Rattle.std.proofs.Common.{◌≡◌, ℕ, ◌≤◌, Bool, true, false, cond, eqb, List, Ok, Err, refl, arith}
use Rattle.std.proofs.lemmas.Bool.{ltb-false, eqb-false}
use Rattle.shapes.specs.declared.dims.Dim.{Dim}
use Rattle.shapes.specs.Arrays.{total_chunks}
use Rattle.runs.specs.declared.refusals.RunRefusal.{RunRefusal}
use Rattle.runs.specs.declared.refusals.RunRefusal.TheVariants.{TooFew, BlockWaits, AllPassed, OtherShape}
use Rattle.runs.specs.Planned.{need_of, scanned_storage}
use Rattle.runs.specs.Answers.{View, passed, waits, too_few, next_chunk}
use Rattle.shapes.specs.Views.{same_dims}
use Rattle.shapes.proofs.Compared.{same_dims_decides}

-- the chunk that is next was found: there are enough cells, no block waits, chunks are left, and the source has the run's shape
pub record Ready (v : View) (ds : List Dim) (k : ℕ) : Type 0 where
  pub enough : need_of v.dims ≤ v.lent
  pub idle : waits v ≡ false
  pub left : passed v ≡ total_chunks v.dims → ⊥
  pub same : v.dims ≡ ds
  pub chunk : k ≡ scanned_storage v.dims (passed v)
  pub found : next_chunk v ds ≡ Ok k

answered : (a b c d : Bool) (p q r s : RunRefusal) (x k : ℕ) → cond a (Err p) (cond b (Err q) (cond c (Err r) (cond d (Ok x) (Err s)))) ≡ Ok k
    → (a ≡ false) × (b ≡ false) × (c ≡ false) × (d ≡ true) × (k ≡ x)
answered true b c d p q r s x k e = let z : ◌≡◌ {A = ℕ} 0 1 = cc in absurd (omega arith)
answered false true c d p q r s x k e = let z : ◌≡◌ {A = ℕ} 0 1 = cc in absurd (omega arith)
answered false false true d p q r s x k e = let z : ◌≡◌ {A = ℕ} 0 1 = cc in absurd (omega arith)
answered false false false true p q r s x k e = (refl, refl, refl, refl, cc)
answered false false false false p q r s x k e = let z : ◌≡◌ {A = ℕ} 0 1 = cc in absurd (omega arith)

pub ready : (v : View) (ds : List Dim) (k : ℕ) → next_chunk v ds ≡ Ok k → Ready v ds k
ready v ds k e =
    let a = answered (too_few v) (waits v) (eqb (passed v) (total_chunks v.dims)) (same_dims v.dims ds) (TooFew (need_of v.dims)) BlockWaits AllPassed OtherShape
    (scanned_storage v.dims (passed v)) k e in
    record {
      enough = ltb-false v.lent (need_of v.dims) a.0;
      idle = a.1;
      left = eqb-false (passed v) (total_chunks v.dims) a.2;
      same = (same_dims_decides v.dims ds).0 a.3;
      chunk = a.4;
      found = e;
    }
