-- The body of a chunk, key by key. Assumes nothing.
use Rattle.std.proofs.Common.{◌≡◌, ℕ, ◌+◌, ◌*◌, ◌≤◌, Bool, true, false, cond, map, length, sym, refl, ap, ◌∙◌, subst, arith}
use Rattle.std.specs.List.{flat_map}
use Rattle.std.proofs.lemmas.Bool.{ltb-true, cond-true, cond-false}
use Rattle.std.proofs.lemmas.List.{length-map}
use Rattle.std.proofs.lemmas.List.FromFn.{length-map-range_with_len}
use Rattle.chunk_files.specs.Bodies.{pair_bytes, cell_bytes, held, filled}
use Rattle.chunk_writers.specs.declared.bodies.Body.{Body}
use Rattle.chunk_files.specs.declared.kind.BodyKind.TheVariants.{Pairs, Words}
use Rattle.chunk_writers.specs.Keys.{pair_of}
use Rattle.chunk_files.specs.Kinds.{kind_number}
use Rattle.chunk_writers.specs.Kinds.{made_kind}
use Rattle.chunk_writers.specs.Segments.{Climb}
use Rattle.chunk_writers.specs.Tables.{cells_of}
use Rattle.chunk_writers.specs.Written.{pairs_of, dense, body_bytes}
use Rattle.chunk_writers.proofs.Filed.{length_joined}
use Rattle.chunk_writers.proofs.Pairing.{climb_from, pairs_held, length_pairs_of}

-- the kind of a body
pairs_made : (v n : ℕ) → Pairs ≡ made_kind v n → dense v n ≡ false
pairs_made v n h = go (dense v n) refl h
  where
    go : (b : Bool) → dense v n ≡ b → Pairs ≡ cond b Words Pairs → dense v n ≡ false
    go true e h = cc
    go false e h = e

words_made : (v n : ℕ) → Words ≡ made_kind v n → dense v n ≡ true
words_made v n h = go (dense v n) refl h
  where
    go : (b : Bool) → dense v n ≡ b → Words ≡ cond b Words Pairs → dense v n ≡ true
    go true e h = e
    go false e h = cc

pub number_made : (v n : ℕ) → kind_number (made_kind v n) ≡ cond (dense v n) 1 0
number_made v n = go (dense v n)
  where
    go : (b : Bool) → kind_number (cond b Words Pairs) ≡ cond b 1 0
    go true = refl
    go false = refl

module _ (b : Body) where
  pub body_climbs : Climb 0 b.cells (map (pair_of b.rows.now) b.keys.now)
  body_climbs = climb_from b.rows.now b.keys.now 0 b.cells (λ p d l. (omega arith, (b.kept p d l).1)) b.climbs

  pub body_pairs : pairs_of 0 (cells_of b) ≡ map (pair_of b.rows.now) b.keys.now
  body_pairs =
      let high : b.cells ≡ 0 + b.cells = omega arith in
      pairs_held b.cells 0 (map (pair_of b.rows.now) b.keys.now) (subst (λ h. Climb 0 h (map (pair_of b.rows.now) b.keys.now)) high body_climbs)

  long_pairs : length (pairs_of 0 (cells_of b)) ≡ length b.keys.now
  long_pairs = ap length body_pairs ∙ length-map b.keys.now (pair_of b.rows.now)

  pub body_filled : filled (cells_of b) ≡ length b.keys.now
  body_filled = sym (length_pairs_of 0 (cells_of b)) ∙ long_pairs

  -- of either kind
  module _ (h : Pairs ≡ made_kind b.cells (filled (cells_of b))) where
    pub pairs_bytes : body_bytes b.cells (cells_of b) ≡ flat_map pair_bytes (pairs_of 0 (cells_of b))
    pairs_bytes = cond-false (dense b.cells (filled (cells_of b))) (flat_map cell_bytes (cells_of b)) (flat_map pair_bytes (pairs_of 0 (cells_of b))) (pairs_made b.cells (filled (cells_of b)) h)

    pub pairs_size : length (body_bytes b.cells (cells_of b)) ≡ 6 * length b.keys.now
    pairs_size = ap length pairs_bytes ∙ length_joined pair_bytes 6 (λ x. refl) (pairs_of 0 (cells_of b)) ∙ ap (λ n. 6 * n) long_pairs

  module _ (h : Words ≡ made_kind b.cells (filled (cells_of b))) where
    pub words_bytes : body_bytes b.cells (cells_of b) ≡ flat_map cell_bytes (cells_of b)
    words_bytes = cond-true (dense b.cells (filled (cells_of b))) (flat_map cell_bytes (cells_of b)) (flat_map pair_bytes (pairs_of 0 (cells_of b))) (words_made b.cells (filled (cells_of b)) h)

    pub words_size : length (body_bytes b.cells (cells_of b)) ≡ 4 * b.cells
    words_size = ap length words_bytes ∙ length_joined cell_bytes 4 (λ x. refl) (cells_of b) ∙ ap (λ n. 4 * n) (length-map-range_with_len (held (map (pair_of b.rows.now) b.keys.now)) 0 b.cells)

    pub words_many : 4 * b.cells ≤ 10 * length b.keys.now
    words_many = let m = ltb-true (b.cells * 2) (filled (cells_of b) * 5) (words_made b.cells (filled (cells_of b)) h) in let f = body_filled in omega arith
