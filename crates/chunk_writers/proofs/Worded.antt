-- The words of a body, as its keys are written one after another. Assumes nothing.
use Rattle.std.proofs.Common.{◌≡◌, ℕ, zero, suc, ◌+◌, ◌-◌, ◌*◌, ◌<◌, ◌≤◌, Bool, true, false, cond, eqb, ◌≢◌, List, [], ◌∷◌, ◌++◌, map, length, get_or, take, replicate, Some, None, Option, sym, refl, ap, ◌∙◌, inl, inr, arith}
use Rattle.std.specs.List.{range_with_len, flat_map}
use Rattle.std.proofs.lemmas.List.{append_assoc, map-append, length-map, length-take-le, get_or-map, get_or-take, take_more}
use Rattle.std.proofs.lemmas.List.FromFn.{length-map-range_with_len}
use Rattle.chunk_files.specs.Layouts.{le4}
use Rattle.chunk_files.specs.Bodies.{Pair, cell_bytes, held}
use Rattle.chunk_writers.specs.declared.bodies.Body.{Body}
use Rattle.chunk_writers.specs.declared.keys.Key.{Key}
use Rattle.chunk_writers.specs.Keys.{none_key, pair_of}
use Rattle.chunk_writers.specs.Written.{put}
use Rattle.chunk_writers.proofs.Filed.{length_joined}
use Rattle.chunk_writers.proofs.Pairing.{held_first, held_later, held_cases, map_counting_same}
use Rattle.chunk_writers.proofs.Putting.{put_over}

abbrev pub words : (ℕ → Option ℕ) → ℕ → ℕ → List ℕ
words h a n = flat_map cell_bytes (map h (range_with_len a n))

pub length_words : (h : ℕ → Option ℕ) (a n : ℕ) → length (words h a n) ≡ 4 * n
length_words h a n = length_joined cell_bytes 4 (λ x. refl) (map h (range_with_len a n)) ∙ ap (λ m. 4 * m) (length-map-range_with_len h a n)

-- of empty cells
pub words_none : (a n : ℕ) → replicate (4 * n) 255 ≡ words (held []) a n
words_none a zero = refl
words_none a (suc n) =
    let e : 4 * suc n ≡ suc (suc (suc (suc (4 * n)))) = omega arith in
    ap (λ m. replicate m 255) e ∙ ap (λ bs. 255 ∷ 255 ∷ 255 ∷ 255 ∷ bs) (words_none (a + 1) n)

-- the word of one cell, and those before and after it
words_split : (h : ℕ → Option ℕ) (a m n all : ℕ) → all ≡ m + suc n → words h a all ≡ words h a m ++ (cell_bytes (h (a + m)) ++ words h (a + m + 1) n)
words_split h a zero n all e = ap (words h a) (let z : all ≡ suc n = omega arith in z) ∙ (let z : a ≡ a + 0 = omega arith in λ i. cell_bytes (h (z i)) ++ words h (z i + 1) n)
words_split h a (suc m) n all e =
    let more : all ≡ suc (m + suc n) = omega arith in
    let next : a + 1 + m ≡ a + suc m = omega arith in
    ap (words h a) more
    ∙ ap (λ bs. cell_bytes (h a) ++ bs) (words_split h (a + 1) m n (m + suc n) refl ∙ (λ i. words h (a + 1) m ++ (cell_bytes (h (next i)) ++ words h (next i + 1) n)))
    ∙ sym (append_assoc (cell_bytes (h a)) (words h (a + 1) m) (cell_bytes (h (a + suc m)) ++ words h (a + suc m + 1) n))

-- one cell filled
words_set : (h h' : ℕ → Option ℕ) (o r v : ℕ) (out : List ℕ) (at : ℕ) → o < v → ((y : ℕ) → o ≢ y → h' y ≡ h y) → h' o ≡ Some r → at + 4 * v ≤ length out → put (put out at (words h 0 v)) (at + 4 * o) (le4 r) ≡ put out at (words h' 0 v)
words_set h h' o r v out at l others here room =
    let n = v - o - 1 in
    let all : v ≡ o + suc n = omega arith in
    let z : 0 + o ≡ o = omega arith in
    let was : words h 0 v ≡ words h 0 o ++ (cell_bytes (h o) ++ words h (o + 1) n) = words_split h 0 o n v all ∙ (λ i. words h 0 o ++ (cell_bytes (h (z i)) ++ words h (z i + 1) n)) in
    let now : words h' 0 v ≡ words h' 0 o ++ (cell_bytes (h' o) ++ words h' (o + 1) n) = words_split h' 0 o n v all ∙ (λ i. words h' 0 o ++ (cell_bytes (h' (z i)) ++ words h' (z i + 1) n)) in
    let before : words h' 0 o ≡ words h 0 o = ap (flat_map cell_bytes) (map_counting_same h' h 0 o (λ y a b. let ne : o ≢ y = omega arith in others y ne)) in
    let after : words h' (o + 1) n ≡ words h (o + 1) n = ap (flat_map cell_bytes) (map_counting_same h' h (o + 1) n (λ y a b. let ne : o ≢ y = omega arith in others y ne)) in
    let c = length_words h 0 o in
    let d = ap length was ∙ refl in
    let f = length_words h 0 v in
    ap (λ bs. put (put out at bs) (at + 4 * o) (le4 r)) was
    ∙ put_over out at (at + 4 * o) (words h 0 o) (cell_bytes (h o)) (le4 r) (words h (o + 1) n) (omega arith) refl (omega arith)
    ∙ sym (ap (put out at) (now ∙ (λ i. before i ++ (cell_bytes (here i) ++ after i))))

-- one pair more
held_more : (ps : List Pair) (p : Pair) (x : ℕ) → p.offset ≢ x → held (ps ++ p ∷ []) x ≡ held ps x
held_more [] p x ne = held_later p [] x ne
held_more (q ∷ ps) p x ne = ap (λ o. cond (eqb q.offset x) (Some q.reading) o) (held_more ps p x ne)

held_new : (ps : List Pair) (p : Pair) (x : ℕ) → p.offset ≡ x → held ps x ≡ None → held (ps ++ p ∷ []) x ≡ Some p.reading
held_new [] p x e h = held_first p [] x e
held_new (q ∷ ps) p x e h = go (eqb q.offset x) h (held_new ps p x e)
  where
    go : (b : Bool) → cond b (Some q.reading) (held ps x) ≡ None → (held ps x ≡ None → held (ps ++ p ∷ []) x ≡ Some p.reading) → cond b (Some q.reading) (held (ps ++ p ∷ []) x) ≡ Some p.reading
    go true h ih = cc
    go false h ih = ih h

module _ (b : Body) (i : ℕ) (l : i < length b.keys.now) where
  abbrev pairs : ℕ → List Pair
  pairs n = map (pair_of b.rows.now) (take n b.keys.now)

  abbrev key : Key
  key = get_or b.keys.now i none_key

  more : pairs (i + 1) ≡ pairs i ++ pair_of b.rows.now key ∷ []
  more = ap (map (pair_of b.rows.now)) (take_more b.keys.now i none_key l) ∙ map-append (pair_of b.rows.now) (take i b.keys.now) (key ∷ [])

  free : held (pairs i) key.offset ≡ None
  free = elim (held_cases (pairs i) key.offset) [
    | inr h ↦ h.0
    | inl h ↦
        let n = length-map (take i b.keys.now) (pair_of b.rows.now) in
        let m = length-take-le i b.keys.now (omega arith) in
        let p = h.0 in
        let g = h.1 in
        let d = pair_of b.rows.now none_key in
        let below : p < i = omega arith in
        let is = ap (λ (q : Pair). q.offset) (get_or-map (pair_of b.rows.now) (take i b.keys.now) p none_key d (omega arith)) in
        let key_is = ap (λ (k : Key). k.offset) (get_or-take i b.keys.now p none_key below) in
        let up = b.climbs p i none_key below l in
        let same = (h.2 d).0 in
        absurd (omega arith)
  ]

  pub words_step : (out : List ℕ) (at : ℕ) → at + 4 * b.cells ≤ length out → put (put out at (words (held (map (pair_of b.rows.now) (take i b.keys.now))) 0 b.cells)) (at + 4 * (get_or b.keys.now i none_key).offset) (le4 (pair_of b.rows.now (get_or b.keys.now i none_key)).reading) ≡ put out at (words (held (map (pair_of b.rows.now) (take (i + 1) b.keys.now))) 0 b.cells)
  words_step out at room =
      words_set (held (pairs i)) (held (pairs (i + 1))) key.offset (pair_of b.rows.now key).reading b.cells out at (b.kept i none_key l).1
      (λ y ne. ap (λ ps. held ps y) more ∙ held_more (pairs i) (pair_of b.rows.now key) y ne)
      (ap (λ ps. held ps key.offset) more ∙ held_new (pairs i) (pair_of b.rows.now key) key.offset refl free)
      room
