-- A run that was made: what its user knows of it, and what its cells hold.
use Rattle.std.proofs.Common.{◌≡◌, ℕ, ◌<◌, ◌≤◌, cond, ◌⊎◌, List, ◌++◌, length, drop, replicate, sym, refl, ap, ◌∙◌, subst, inl, inr, arith}
use Rattle.std.proofs.lemmas.List.{length-append, length-drop, length-replicate}
use Rattle.std.proofs.lemmas.Bool.{cases_lt, le-leb, lt-leb}
use Rattle.shapes.specs.declared.shape.Shape.{Shape}
use Rattle.shapes.specs.Views.{dims_of}
use Rattle.shapes.proofs.Held.{limits}
use Rattle.measures.specs.Laws.{Lawful}
use Rattle.sources.specs.Meanings.{Meaning, faulty}
use Rattle.cubes.specs.Meanings.{meaning}
use Rattle.runs.specs.declared.state.State.{State}
use Rattle.runs.specs.Planned.{need_of}
use Rattle.runs.specs.Answers.{passed}
use Rattle.runs.specs.Holdings.{Moment, moment_of, dims_in, view, first_emptied, planned_emptied, Represents}
use Rattle.runs.specs.Calls.{Makes}
use Rattle.runs.specs.Steps.{Begins}
use Rattle.runs.proofs.FromState.{divided_in, needs}
use Rattle.runs.proofs.Holding.{Holds, represents_of}
use Rattle.runs.proofs.ChunkPassed.{holds_start}

pub emptied_length : {M : Type 0} (empty : M) (n : ℕ) (xs : List M) → length (first_emptied empty n xs) ≡ length xs
emptied_length empty n xs = by (cases_lt (length xs) n)
  where
    by : (length xs < n) ⊎ (n ≤ length xs) → length (first_emptied empty n xs) ≡ length xs
    by (inl l) = ap (λ z. length (cond z (replicate n empty ++ drop n xs) xs)) (lt-leb n (length xs) l)
    by (inr l) = ap (λ z. length (cond z (replicate n empty ++ drop n xs) xs)) (le-leb n (length xs) l)
        ∙ length-append (replicate n empty) (drop n xs) ∙ omega (arith, length-replicate n empty, length-drop n xs)

module _ {M : Type 0} (empty : M) (op : M → M → M) (lawful : Lawful empty op) (shape : Shape) (xs ys : List M) (s : State) (begins : Begins shape s)
    (cells : ys ≡ first_emptied empty s.plan.need xs) where
  abbrev m : Moment M
  m = moment_of s ys

  dims_is : dims_in m ≡ dims_of shape
  dims_is = ap dims_of begins.shaped

  emptied_is : ys ≡ planned_emptied empty (dims_of shape) xs
  emptied_is = cells ∙ ap (λ n. first_emptied empty n xs) (needs s ∙ ap need_of dims_is)

  long : length ys ≡ length xs
  long = ap length cells ∙ emptied_length empty s.plan.need xs

  none_passed : passed (view m) ≡ 0
  none_passed = omega (arith, begins.none_taken, begins.none_skipped)

  holds : (f : _) → need_of (dims_of shape) ≤ length xs → Holds empty op (dims_in m) f (passed (view m)) s.control.handed ys
  holds f enough =
      subst (λ p. Holds empty op (dims_in m) f p s.control.handed ys) (sym none_passed)
      (subst (λ h. Holds empty op (dims_in m) f 0 h ys) (sym begins.none_handed)
      (subst (Holds empty op (dims_in m) f 0 0)
      (sym (emptied_is ∙ ap (λ d. planned_emptied empty d xs) (sym dims_is)
      ∙ ap (λ z. cond z (replicate (need_of (dims_in m)) empty ++ drop (need_of (dims_in m)) xs) xs) (le-leb (need_of (dims_in m)) (length xs) (omega (arith, ap need_of dims_is)))))
      (holds_start empty op lawful (dims_in m) (limits s.shape) (divided_in s) f xs (omega (arith, ap need_of dims_is)))))

  pub represents_all : need_of (dims_of shape) ≤ length xs → (σ : Meaning M) → σ.dims ≡ dims_of shape → Represents empty op σ m
  represents_all enough σ same = represents_of empty op m σ (same ∙ sym dims_is) (omega (arith, ap need_of dims_is, long)) (holds σ.chunk enough)

  pub makes_run : Makes empty op (dims_of shape) xs m
  makes_run = record {
    begins =
        let a : dims_in m ≡ dims_of shape = dims_is in
        let b : s.taken ≡ 0 = begins.none_taken in
        let c : s.skipped ≡ 0 = begins.none_skipped in
        let d : s.control.handed ≡ 0 = begins.none_handed in
        let e : length ys ≡ length xs = long in
        cc;
    emptied = emptied_is;
    clean = λ enough w. (represents_all (omega (arith, ap need_of dims_is, long)) (meaning (dims_of shape) (λ _. faulty 0 0)) refl).chunk_gone w;
    represents = represents_all;
  }
