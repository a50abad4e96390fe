-- How many of the chunks passed can be read: by scan number while the scan goes on, by storage number at its end.
use Rattle.std.proofs.Common.{◌≡◌, ℕ, zero, suc, ◌+◌, ◌<◌, Bool, cond, not, eqb, List, count_by, sym, refl, ap, ◌∙◌, add-one}
use Rattle.std.specs.List.{range_with_len}
use Rattle.std.proofs.lemmas.List.Sums.{sum_by_push}
use Rattle.std.proofs.lemmas.Bool.{eq-eqb, ne_eqb}
use Rattle.shapes.specs.declared.dims.Dim.{Dim}
use Rattle.shapes.specs.Arrays.{total_chunks}
use Rattle.shapes.specs.Limits.{Limits}
use Rattle.measures.specs.Laws.{Lawful}
use Rattle.sources.specs.Meanings.{Meaning}
use Rattle.cubes.specs.Meanings.{is_readable}
use Rattle.cubes.specs.Summaries.{big}
use Rattle.cubes.proofs.Joins.{big_cong, big_swap, big_one, big_eqb}
use Rattle.cubes.proofs.Listing.{counting_suc}
use Rattle.cubes.proofs.ScanNumbers.{sums}
use Rattle.runs.specs.Planned.{scanned_storage}
use Rattle.runs.specs.Surveys.{readable_chunks, unreadable_chunks}
use Rattle.runs.proofs.LivingScans.{storage_below, scan_of, scan_of_below, scan_of_storage, storage_of_scan}

-- a join over the numbers below n, the numbers taken in another order
pub big_reordered : {M : Type 0} (empty : M) (op : M → M → M) → Lawful empty op → (f : ℕ → M) (n : ℕ) (to from : ℕ → ℕ)
    → ((i : ℕ) → i < n → to i < n) → ((k : ℕ) → k < n → from k < n) → ((i : ℕ) → i < n → from (to i) ≡ i) → ((k : ℕ) → k < n → to (from k) ≡ k)
    → big empty op (λ i. f (to i)) n ≡ big empty op f n
big_reordered empty op laws f n to from inside back once all =
    big_cong empty op laws (λ i. f (to i)) (λ i. big empty op (λ k. cond (eqb (to i) k) (f k) empty) n) n (λ i l. sym (big_eqb empty op laws f n (to i) (inside i l)))
    ∙ big_swap empty op laws (λ i k. cond (eqb (to i) k) (f k) empty) n n
    ∙ big_cong empty op laws (λ k. big empty op (λ i. cond (eqb (to i) k) (f k) empty) n) f n
    (λ k l. big_one empty op laws (λ i. cond (eqb (to i) k) (f k) empty) n (from k) (back k l) (λ i m d. ap (λ b. cond b (f k) empty)
    (ne_eqb (to i) k (λ e. d (sym (once i m) ∙ ap from e))))
    ∙ ap (λ b. cond b (f k) empty) (eq-eqb (to (from k)) k (all k l)))

-- one number more
pub count_more : (p : ℕ → Bool) (n : ℕ) → count_by p (range_with_len 0 (n + 1)) ≡ count_by p (range_with_len 0 n) + cond (p n) 1 0
count_more p n = ap (λ k. count_by p (range_with_len 0 k)) (add-one n) ∙ ap (count_by p) (counting_suc n) ∙ sum_by_push (λ x. cond (p x) 1 0) (range_with_len 0 n) n

count_is : (p : ℕ → Bool) (n : ℕ) → count_by p (range_with_len 0 n) ≡ big 0 ◌+◌ (λ i. cond (p i) 1 0) n
count_is p zero = refl
count_is p (suc n) = ap (count_by p) (counting_suc n) ∙ sum_by_push (λ x. cond (p x) 1 0) (range_with_len 0 n) n ∙ ap (λ k. k + cond (p n) 1 0) (count_is p n)

-- each chunk has one scan number and one storage number: a test holds of as many by the one as by the other
pub count_scanned : (ds : List Dim) → Limits ds → (p : ℕ → Bool) → count_by (λ s. p (scanned_storage ds s)) (range_with_len 0 (total_chunks ds)) ≡ count_by p (range_with_len 0 (total_chunks ds))
count_scanned ds l p =
    count_is (λ s. p (scanned_storage ds s)) (total_chunks ds)
    ∙ big_reordered 0 ◌+◌ sums (λ k. cond (p k) 1 0) (total_chunks ds) (scanned_storage ds) (scan_of ds) (storage_below ds l) (scan_of_below ds l) (scan_of_storage ds l) (storage_of_scan ds l)
    ∙ sym (count_is p (total_chunks ds))

module _ {M : Type 0} (μ : Meaning M) where
  -- whether the chunk with the scan number s can be read
  abbrev pub reads : ℕ → Bool
  reads s = is_readable (μ.chunk (scanned_storage μ.dims s))

  pub all_readable : Limits μ.dims → count_by reads (range_with_len 0 (total_chunks μ.dims)) ≡ readable_chunks μ
  unfolding readable_chunks
  all_readable l = count_scanned μ.dims l (λ k. is_readable (μ.chunk k))

  pub all_unreadable : Limits μ.dims → count_by (λ s. not (reads s)) (range_with_len 0 (total_chunks μ.dims)) ≡ unreadable_chunks μ
  unfolding unreadable_chunks
  all_unreadable l = count_scanned μ.dims l (λ k. not (is_readable (μ.chunk k)))
