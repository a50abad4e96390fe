-- Bytes are what the numbers and records that stand in them spell.
use Rattle.std.proofs.Common.{◌≡◌, ℕ, zero, suc, ◌+◌, ◌*◌, ◌/◌, ◌%◌, ◌^◌, ◌<◌, ◌≤◌, List, [], ◌∷◌, ◌++◌, map, length, get_or, take, drop, sym, ap, ◌∙◌, add-zero, arith}
use Rattle.std.specs.List.{range_with_len, flat_map}
use Rattle.std.proofs.lemmas.List.{append_assoc, append-nil, take_more, take_all, drop-drop, get_or-drop, length-drop}
use Rattle.std.proofs.lemmas.Nat.{shr-shr, div-mul-add, mod-mul-add}
use Rattle.std.proofs.lemmas.List.FromFn.{map-range_with_len_more}
use Rattle.chunk_files.specs.Layouts.{le2, le4, half, word, dim_at, entry_at, dim_bytes, entry_bytes}

abbrev pub Bytes : List ℕ → Type 0
Bytes bs = (i : ℕ) → get_or bs i 0 < 256

-- the last digit to base 256, and the digits above it
low : (w x a : ℕ) → w ≡ x * 256 + a → a < 256 → (w % 256 ≡ a) × (w / 256 ≡ x)
low w x a e l = (ap (λ n. n % 256) e ∙ mod-mul-add x 256 a l, ap (λ n. n / 256) e ∙ div-mul-add x 256 a l)

le2_spelled : (a b : ℕ) → a < 256 → b < 256 → le2 (a + b * 256) ≡ a ∷ b ∷ []
le2_spelled a b p q =
    let w : ℕ = a + b * 256 in
    let f = low w b a (omega arith) p in
    let y : w / 256 % 256 ≡ b = ap (λ n. n % 256) f.1 ∙ omega arith in
    λ i. f.0 i ∷ y i ∷ []

le4_spelled : (a b c d : ℕ) → a < 256 → b < 256 → c < 256 → d < 256 → le4 (a + b * 256 + c * 65536 + d * 16777216) ≡ a ∷ b ∷ c ∷ d ∷ []
le4_spelled a b c d p q r s =
    let w : ℕ = a + b * 256 + c * 65536 + d * 16777216 in
    let x : ℕ = b + c * 256 + d * 65536 in
    let y : ℕ = c + d * 256 in
    let f = low w x a (omega arith) p in
    let g = low x y b (omega arith) q in
    let h = low y d c (omega arith) r in
    let e2 : w / 65536 ≡ y = sym (shr-shr w 8 8) ∙ (ap (λ n. n / 256) f.1 ∙ g.1) in
    let e3 : w / 16777216 ≡ d = sym (shr-shr w 16 8) ∙ (ap (λ n. n / 256) e2 ∙ h.1) in
    let b' : w / 256 % 256 ≡ b = ap (λ n. n % 256) f.1 ∙ g.0 in
    let c' : w / 65536 % 256 ≡ c = ap (λ n. n % 256) e2 ∙ h.0 in
    let d' : w / 16777216 % 256 ≡ d = ap (λ n. n % 256) e3 ∙ omega arith in
    λ i. f.0 i ∷ b' i ∷ c' i ∷ d' i ∷ []

-- the first bytes from a place on
take_one : (bs : List ℕ) (p k : ℕ) → p + k < length bs → take (k + 1) (drop p bs) ≡ take k (drop p bs) ++ get_or bs (p + k) 0 ∷ []
take_one bs p k l = let n = length-drop p bs in take_more (drop p bs) k 0 (omega arith) ∙ ap (λ x. take k (drop p bs) ++ x ∷ []) (get_or-drop p bs k 0)

take_2 : (bs : List ℕ) (p : ℕ) → p + 2 ≤ length bs → take 2 (drop p bs) ≡ get_or bs p 0 ∷ get_or bs (p + 1) 0 ∷ []
take_2 bs p l = take_one bs p 1 (omega arith) ∙ (ap (λ x. x ++ get_or bs (p + 1) 0 ∷ []) (take_one bs p 0 (omega arith)) ∙ ap (λ n. get_or bs n 0 ∷ get_or bs (p + 1) 0 ∷ []) (add-zero p))

pub take_4 : (bs : List ℕ) (p : ℕ) → p + 4 ≤ length bs → take 4 (drop p bs) ≡ get_or bs p 0 ∷ get_or bs (p + 1) 0 ∷ get_or bs (p + 2) 0 ∷ get_or bs (p + 3) 0 ∷ []
take_4 bs p l =
    take_one bs p 3 (omega arith) ∙ (ap (λ x. x ++ get_or bs (p + 3) 0 ∷ []) (take_one bs p 2 (omega arith))
    ∙ ap (λ x. (x ++ get_or bs (p + 2) 0 ∷ []) ++ get_or bs (p + 3) 0 ∷ []) (take_2 bs p (omega arith)))

pub take_split : (xs : List ℕ) (a b : ℕ) → take a xs ++ take b (drop a xs) ≡ take (a + b) xs
take_split xs zero b = ap (λ n. take n xs) (omega arith)
take_split [] (suc a) b = take_all b [] (omega arith) ∙ sym (take_all (suc a + b) [] (omega arith))
take_split (x ∷ xs) (suc a) b =
    let e : suc (a + b) ≡ suc a + b = omega arith in
    ap (λ ys. x ∷ ys) (take_split xs a b) ∙ ap (λ n. take n (x ∷ xs)) e

take_split_at : (bs : List ℕ) (p a b : ℕ) → take a (drop p bs) ++ take b (drop (p + a) bs) ≡ take (a + b) (drop p bs)
take_split_at bs p a b = ap (λ zs. take a (drop p bs) ++ take b zs) (sym (drop-drop a p bs)) ∙ take_split (drop p bs) a b

joined_push : {X : Type 0} (f : X → List ℕ) (xs : List X) (x : X) → flat_map f (xs ++ x ∷ []) ≡ flat_map f xs ++ f x
joined_push f [] x = append-nil (f x)
joined_push f (y ∷ xs) x = ap (λ zs. f y ++ zs) (joined_push f xs x) ∙ sym (append_assoc (f y) (flat_map f xs) (f x))

-- records of one width that are read from bytes spell those bytes
module _ {X : Type 0} (enc : X → List ℕ) (dec : List ℕ → ℕ → X) (w : ℕ) (bs : List ℕ)
    (spells : (p : ℕ) → p + w ≤ length bs → enc (dec bs p) ≡ take w (drop p bs)) where
  pub records_spelled : (from n : ℕ) → from + w * n ≤ length bs → flat_map enc (map (λ k. dec bs (from + w * k)) (range_with_len 0 n)) ≡ take (w * n) (drop from bs)
  records_spelled from zero l = let e : 0 ≡ w * 0 = omega arith in ap (λ m. take m (drop from bs)) e
  records_spelled from (suc n) l =
      let e : suc n ≡ n + 1 = omega arith in
      let m : w * n + w ≡ w * suc n = omega arith in
      ap (λ k. flat_map enc (map (λ k. dec bs (from + w * k)) (range_with_len 0 k))) e
      ∙ (ap (flat_map enc) (map-range_with_len_more (λ k. dec bs (from + w * k)) 0 n n (omega arith))
      ∙ (joined_push enc (map (λ k. dec bs (from + w * k)) (range_with_len 0 n)) (dec bs (from + w * n))
      ∙ ((λ i. records_spelled from n (omega arith) i ++ spells (from + w * n) (omega arith) i)
      ∙ (take_split_at bs from (w * n) w ∙ ap (λ m. take m (drop from bs)) m))))

module _ (bs : List ℕ) (small : Bytes bs) where
  word_spelled : (p : ℕ) → p + 4 ≤ length bs → le4 (word bs p) ≡ take 4 (drop p bs)
  word_spelled p l = le4_spelled (get_or bs p 0) (get_or bs (p + 1) 0) (get_or bs (p + 2) 0) (get_or bs (p + 3) 0) (small p) (small (p + 1)) (small (p + 2)) (small (p + 3)) ∙ sym (take_4 bs p l)

  half_spelled : (p : ℕ) → p + 2 ≤ length bs → le2 (half bs p) ≡ take 2 (drop p bs)
  half_spelled p l = le2_spelled (get_or bs p 0) (get_or bs (p + 1) 0) (small p) (small (p + 1)) ∙ sym (take_2 bs p l)

  pub word_short : (p : ℕ) → word bs p < 2 ^ 32
  word_short p = let a = small p in let b = small (p + 1) in let c = small (p + 2) in let d = small (p + 3) in omega arith

  pub dim_spelled : (p : ℕ) → p + 8 ≤ length bs → dim_bytes (dim_at bs p) ≡ take 8 (drop p bs)
  dim_spelled p l = (λ i. word_spelled p (omega arith) i ++ word_spelled (p + 4) (omega arith) i) ∙ take_split_at bs p 4 4

  pub entry_spelled : (p : ℕ) → p + 8 ≤ length bs → entry_bytes (entry_at bs p) ≡ take 8 (drop p bs)
  entry_spelled p l =
      let z : p + 6 + 1 ≡ p + 7 = omega arith in
      let two : get_or bs (p + 6) 0 ∷ get_or bs (p + 7) 0 ∷ [] ≡ take 2 (drop (p + 6) bs) = sym (take_2 bs (p + 6) (omega arith) ∙ ap (λ n. get_or bs (p + 6) 0 ∷ get_or bs n 0 ∷ []) z) in
      let y : p + 4 + 2 ≡ p + 6 = omega arith in
      let rest : le2 (half bs (p + 4)) ++ (get_or bs (p + 6) 0 ∷ get_or bs (p + 7) 0 ∷ []) ≡ take 4 (drop (p + 4) bs) = (λ i. half_spelled (p + 4) (omega arith) i ++ (two ∙ ap (λ n. take 2 (drop n bs)) (sym y)) i) ∙ take_split_at bs (p + 4) 2 2 in
      (λ i. word_spelled p (omega arith) i ++ rest i) ∙ take_split_at bs p 4 4
