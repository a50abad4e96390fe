use Rattle.std.proofs.Common.{◌≡◌, ℕ, ◌+◌, List, map, length, get_or, take, drop, sym, ap, ◌∙◌, arith, rules}
use borrow.Author.Tests.{tests}
use Rattle.std.specs.List.{range_with_len}
use Rattle.std.specs.Array.{IsFirstChunk}
use Rattle.std.proofs.lemmas.List.{get_or-drop, get_or-take, length-take-le}
use Rattle.std.proofs.lemmas.List.FromFn.{fill_by_all, length-map-range_with_len, get_or-map-range_with_len}
use Rattle.shapes.proofs.Made.{made_from_fn}
use Rattle.chunk_files.proofs.bytes.bytes_at.Goals as goal

-- the first n bytes of those from p on
first_bytes : (bs rest raw : List ℕ) (p n : ℕ) → rest ≡ drop p bs → IsFirstChunk rest raw n → raw ≡ map (λ k. get_or bs (p + k) 0) (range_with_len 0 n)
first_bytes bs rest raw p n e first =
    fill_by_all (λ k. get_or bs (p + k) 0) raw n 0 (ap length first.same ∙ length-take-le n rest first.enough)
    (λ k l. ap (λ zs. get_or zs k 0) first.same ∙ (get_or-take n rest k 0 l ∙ (ap (λ zs. get_or zs k 0) e ∙ get_or-drop p bs k 0)))

pub returns-in-Some : goal.returns-in-Some
returns-in-Some g c = first_bytes c.args.bytes.now c.bytes_from-rest.result.now c.in-Some.raw.now c.args.p g.row.N c.bytes_from-rest.ensures c.in-Some.ensures.cases

pub returns-in-None : goal.returns-in-None
returns-in-None g c =
    let f : ℕ → ℕ = λ k. get_or c.args.bytes.now (c.args.p + k) 0 in
    made_from_fn _ (λ k. get_or c.bytes_from-rest.result.now k 0) 0 c.from_fn.result (map f (range_with_len 0 g.row.N)) c.from_fn.ensures.items (length-map-range_with_len f 0 g.row.N) (λ k y q l b. search (rules, tests)) (λ k l. ap (λ zs. get_or zs k 0) c.bytes_from-rest.ensures ∙ (get_or-drop c.args.p c.args.bytes.now k 0 ∙ sym (get_or-map-range_with_len f 0 g.row.N k k 0 l (omega arith))))
