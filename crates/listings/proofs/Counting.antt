-- How many chunks pass a test.
use Rattle.std.proofs.Common.{◌≡◌, ℕ, zero, suc, ◌+◌, ◌<◌, ◌≤◌, Bool, true, false, cond, not, is_err, count_by, sym, refl, ap, ◌∙◌, ap₂, add-one, arith}
use mir.Val.{bool_byte}
use Rattle.std.specs.List.{range_with_len}
use Rattle.std.proofs.lemmas.List.FromFn.{length-range_with_len}
use Rattle.std.proofs.lemmas.List.Filters.{length-filter_both}
use Rattle.std.proofs.lemmas.List.Sums.{count_by-le-length, length-filter}
use Rattle.shapes.specs.Arrays.{volume, total_chunks}
use Rattle.sources.specs.Meanings.{Chunk, values, faulty, Meaning, read_answer, fetch_answer}
use Rattle.sources.proofs.Alikes.{full_answer}
use Rattle.cubes.specs.Meanings.{is_readable}
use Rattle.runs.specs.Surveys.{unreadable_chunks}
use Rattle.listings.specs.Making.{unfetched_count}
use Rattle.runs.proofs.LivingChunks.{count_more}

-- a test as a number
pub byte_counts : (t : Bool) (n : ℕ) → n ≡ bool_byte t → (n ≡ cond t 1 0) × (n ≤ 1)
byte_counts true n e = (e, omega arith)
byte_counts false n e = (e, omega arith)

-- a counter that goes up where the test holds
pub counted_more : (test : ℕ → Bool) (n count after : ℕ) (t : Bool) → count ≡ count_by test (range_with_len 0 n) → test n ≡ t → after ≡ count + cond t 1 0 → after ≡ count_by test (range_with_len 0 (n + 1))
counted_more test n count after t so_far tested then = then ∙ (ap₂ (λ (a : ℕ) (b : Bool). a + cond b 1 0) so_far (sym tested) ∙ sym (count_more test n))

pub count_bound : (test : ℕ → Bool) (n : ℕ) → count_by test (range_with_len 0 n) ≤ n
count_bound test n = omega (arith, count_by-le-length test (range_with_len 0 n), length-range_with_len 0 n)

pub count_same : (p q : ℕ → Bool) (n : ℕ) → ((k : ℕ) → k < n → p k ≡ q k) → count_by p (range_with_len 0 n) ≡ count_by q (range_with_len 0 n)
count_same p q zero h = refl
count_same p q (suc n) h =
    ap (λ m. count_by p (range_with_len 0 m)) (sym (add-one n))
    ∙ (count_more p n
    ∙ (ap₂ (λ (a : ℕ) (t : Bool). a + cond t 1 0) (count_same p q n (λ k l. h k (omega arith))) (h n (omega arith))
    ∙ (sym (count_more q n) ∙ ap (λ m. count_by q (range_with_len 0 m)) (add-one n))))

-- what passes a test and what does not is all
pub count_both : (p : ℕ → Bool) (n : ℕ) → count_by p (range_with_len 0 n) + count_by (λ k. not (p k)) (range_with_len 0 n) ≡ n
count_both p n =
    omega (arith, length-filter_both p (λ k. not (p k)) (λ _. refl) (range_with_len 0 n), length-filter p (range_with_len 0 n), length-filter (λ k. not (p k)) (range_with_len 0 n), length-range_with_len 0 n)

unread : {M : Type 0} (k : ℕ) (c : Chunk M) → is_err (read_answer k c) ≡ not (is_readable c)
unread k (values vs) = refl
unread k (faulty cause entry) = refl

-- what can't be fetched into V cells can't be read
pub unfetched_unreadable : {M : Type 0} → M → (σ : Meaning M) (room : ℕ) → volume σ.dims ≤ room → unfetched_count σ room ≡ unreadable_chunks σ
unfolding unreadable_chunks
unfetched_unreadable empty σ room fits =
    count_same (λ k. is_err (fetch_answer σ k room)) (λ k. not (is_readable (σ.chunk k))) (total_chunks σ.dims)
    (λ k below. ap is_err (full_answer empty σ k below room fits) ∙ unread k (σ.chunk k))
