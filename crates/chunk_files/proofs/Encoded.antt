-- Numbers and records in bytes, read back.
use Rattle.std.proofs.Common.{◌≡◌, ℕ, zero, suc, ◌+◌, ◌*◌, ◌/◌, ◌%◌, ◌^◌, ◌<◌, List, [], ◌∷◌, ◌++◌, map, length, get_or, sym, refl, ap, ◌∙◌, add-zero, add_assoc, arith}
use Rattle.std.specs.List.{range_with_len, flat_map, AllByRecursion}
use Rattle.std.proofs.lemmas.List.{append_assoc, get_or-append-add, length-append}
use Rattle.std.proofs.lemmas.Nat.{shr-shr}
use Rattle.std.proofs.lemmas.List.FromFn.{fill_by_all}
use Rattle.shapes.specs.declared.dims.Dim.{Dim}
use Rattle.chunk_files.specs.declared.entry.Entry.{Entry}
use Rattle.chunk_files.specs.Layouts.{le4, half, word, dim_at, entry_at, dim_bytes, entry_bytes}
use Rattle.chunk_files.specs.Bodies.{Pair, pair_at, pair_bytes}

pub le4_value : (w : ℕ) → w < 2 ^ 32 → w % 256 + w / 256 % 256 * 256 + w / 65536 % 256 * 65536 + w / 16777216 % 256 * 16777216 ≡ w
le4_value w l =
    let a : w / 256 / 256 ≡ w / 65536 = shr-shr w 8 8 in
    let b : w / 65536 / 256 ≡ w / 16777216 = shr-shr w 16 8 in
    go w (w / 256) (w / 65536) (w / 16777216) l refl a b
  where
    go : (w x y z : ℕ) → w < 2 ^ 32 → w / 256 ≡ x → x / 256 ≡ y → y / 256 ≡ z → w % 256 + x % 256 * 256 + y % 256 * 65536 + z % 256 * 16777216 ≡ w
    go w x y z l p q r = omega arith

pub le2_value : (h : ℕ) → h < 2 ^ 16 → h % 256 + h / 256 % 256 * 256 ≡ h
le2_value h l = omega arith

-- numbers behind other bytes
getD_pre : (pre ys : List ℕ) (p i : ℕ) → get_or (pre ++ ys) (length pre + p + i) 0 ≡ get_or ys (p + i) 0
getD_pre pre ys p i = ap (λ n. get_or (pre ++ ys) n 0) (add_assoc (length pre) p i) ∙ get_or-append-add pre ys (p + i) 0

pub word_pre : (pre ys : List ℕ) (p : ℕ) → word (pre ++ ys) (length pre + p) ≡ word ys p
word_pre pre ys p =
    let a = get_or-append-add pre ys p 0 in let b = getD_pre pre ys p 1 in let c = getD_pre pre ys p 2 in let d = getD_pre pre ys p 3 in omega (arith, a, b, c, d)

pub half_pre : (pre ys : List ℕ) (p : ℕ) → half (pre ++ ys) (length pre + p) ≡ half ys p
half_pre pre ys p = let a = get_or-append-add pre ys p 0 in let b = getD_pre pre ys p 1 in omega (arith, a, b)

word_pre0 : (pre ys : List ℕ) → word (pre ++ ys) (length pre) ≡ word ys 0
word_pre0 pre ys = ap (word (pre ++ ys)) (sym (add-zero (length pre))) ∙ word_pre pre ys 0

half_pre0 : (pre ys : List ℕ) → half (pre ++ ys) (length pre) ≡ half ys 0
half_pre0 pre ys = ap (half (pre ++ ys)) (sym (add-zero (length pre))) ∙ half_pre pre ys 0

-- records of one width, one after another, read back by place
module _ {X : Type 0} (enc : X → List ℕ) (dec : List ℕ → ℕ → X) (w : ℕ) (Good : X → Type 0)
    (wide : (x : X) → length (enc x) ≡ w)
    (back : (pre post : List ℕ) (x : X) → Good x → dec (pre ++ (enc x ++ post)) (length pre) ≡ x) where
  pub length_records : (xs : List X) → length (flat_map enc xs) ≡ w * length xs
  length_records [] = omega arith
  length_records (x ∷ xs) = let a = length-append (enc x) (flat_map enc xs) in let b = wide x in let c = length_records xs in omega arith

  pub record_at : (xs : List X) (pre post : List ℕ) (at k : ℕ) (d : X) → AllByRecursion Good xs → length pre ≡ at → k < length xs → dec (pre ++ (flat_map enc xs ++ post)) (at + w * k) ≡ get_or xs k d
  record_at [] pre post at k d g e l = let z : ⊥ = omega arith in absurd z
  record_at (x ∷ xs) pre post at zero d g e l =
      let z : at + w * 0 ≡ length pre = omega arith in
      (λ i. dec (pre ++ append_assoc (enc x) (flat_map enc xs) post i) (z i)) ∙ back pre (flat_map enc xs ++ post) x g.0
  record_at (x ∷ xs) pre post at (suc k) d g e l =
      let a = length-append pre (enc x) in let b = wide x in
      let z : at + w * suc k ≡ at + w + w * k = omega arith in
      let s : pre ++ ((enc x ++ flat_map enc xs) ++ post) ≡ (pre ++ enc x) ++ (flat_map enc xs ++ post) = ap (λ ys. pre ++ ys) (append_assoc (enc x) (flat_map enc xs) post) ∙ sym (append_assoc pre (enc x) (flat_map enc xs ++ post)) in
      (λ i. dec (s i) (z i)) ∙ record_at xs (pre ++ enc x) post (at + w) k d g.1 (omega arith) (omega arith)

  pub records_back : (xs : List X) (pre post : List ℕ) (at : ℕ) (d : X) → AllByRecursion Good xs → length pre ≡ at → map (λ k. dec (pre ++ (flat_map enc xs ++ post)) (at + w * k)) (range_with_len 0 (length xs)) ≡ xs
  records_back xs pre post at d g e = sym (fill_by_all (λ k. dec (pre ++ (flat_map enc xs ++ post)) (at + w * k)) xs (length xs) d refl (λ k l. sym (record_at xs pre post at k d g e l)))

-- the kinds of record, where their numbers are short enough
pub word_back : (pre post : List ℕ) (w : ℕ) → w < 2 ^ 32 → word (pre ++ (le4 w ++ post)) (length pre) ≡ w
word_back pre post w l = word_pre0 pre (le4 w ++ post) ∙ le4_value w l

abbrev pub ShortPair : Pair → Type 0
ShortPair p = (p.offset < 2 ^ 16) × (p.reading < 2 ^ 32)

pub pair_back : (pre post : List ℕ) (p : Pair) → ShortPair p → pair_at (pre ++ (pair_bytes p ++ post)) (length pre) ≡ p
pair_back pre post p g =
    let a : half (pre ++ (pair_bytes p ++ post)) (length pre) ≡ p.offset = half_pre0 pre (pair_bytes p ++ post) ∙ le2_value p.offset g.0 in
    let b : word (pre ++ (pair_bytes p ++ post)) (length pre + 2) ≡ p.reading = word_pre pre (pair_bytes p ++ post) 2 ∙ le4_value p.reading g.1 in
    λ i. record { offset = a i; reading = b i }

abbrev pub ShortDim : Dim → Type 0
ShortDim d = (d.size < 2 ^ 32) × (d.edge < 2 ^ 32)

pub dim_back : (pre post : List ℕ) (d : Dim) → ShortDim d → dim_at (pre ++ (dim_bytes d ++ post)) (length pre) ≡ d
dim_back pre post d g =
    let a : word (pre ++ (dim_bytes d ++ post)) (length pre) ≡ d.size = word_pre0 pre (dim_bytes d ++ post) ∙ le4_value d.size g.0 in
    let b : word (pre ++ (dim_bytes d ++ post)) (length pre + 4) ≡ d.edge = word_pre pre (dim_bytes d ++ post) 4 ∙ le4_value d.edge g.1 in
    λ i. record { size = a i; edge = b i }

abbrev pub ShortEntry : Entry → Type 0
ShortEntry e = (e.start < 2 ^ 32) × (e.count < 2 ^ 16)

pub entry_back : (pre post : List ℕ) (e : Entry) → ShortEntry e → entry_at (pre ++ (entry_bytes e ++ post)) (length pre) ≡ e
entry_back pre post e g =
    let a : word (pre ++ (entry_bytes e ++ post)) (length pre) ≡ e.start = word_pre0 pre (entry_bytes e ++ post) ∙ le4_value e.start g.0 in
    let b : half (pre ++ (entry_bytes e ++ post)) (length pre + 4) ≡ e.count = half_pre pre (entry_bytes e ++ post) 4 ∙ le2_value e.count g.1 in
    let c : get_or (pre ++ (entry_bytes e ++ post)) (length pre + 6) 0 ≡ e.kind = get_or-append-add pre (entry_bytes e ++ post) 6 0 in
    let d : get_or (pre ++ (entry_bytes e ++ post)) (length pre + 7) 0 ≡ e.spare = get_or-append-add pre (entry_bytes e ++ post) 7 0 in
    λ i. record { start = a i; count = b i; kind = c i; spare = d i }
