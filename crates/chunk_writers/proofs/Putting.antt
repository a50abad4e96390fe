-- A buffer after bytes were written to it.
use Rattle.std.proofs.Common.{◌≡◌, ℕ, ◌+◌, ◌*◌, ◌<◌, ◌≤◌, List, [], ◌++◌, length, get_or, take, drop, sym, ap, ◌∙◌, arith}
use Rattle.std.specs.List.{flat_map}
use borrow.Rule.Slice.PartMut.{put_mid}
use Rattle.std.proofs.lemmas.List.{append_assoc, length-append, length-take-le, length-drop, take_at, drop_at, drop-drop, take-append-drop, take-append-le, drop-append-le, take-take, drop_more, drop_all}
use Rattle.std.proofs.Math.Nat.{mul-le-mul_left}
use Rattle.chunk_writers.specs.Written.{put}

pub put_is : (out ys xs : List ℕ) (at k : ℕ) → ys ≡ xs → k ≡ length xs → put_mid at k out ys ≡ put out at xs
put_is out ys xs at k e f = (λ i. take at out ++ (e i ++ drop (f i) (drop at out))) ∙ ap (λ zs. take at out ++ (xs ++ zs)) (drop-drop (length xs) at out)

pub length_put : (out : List ℕ) (at : ℕ) (xs : List ℕ) → at + length xs ≤ length out → length (put out at xs) ≡ length out
length_put out at xs l =
    let a = length-append (take at out) (xs ++ drop (at + length xs) out) in
    let b = length-append xs (drop (at + length xs) out) in
    let c = length-take-le at out (omega arith) in
    let d = length-drop (at + length xs) out in
    omega arith

pub put_none : (out : List ℕ) (at : ℕ) → put out at [] ≡ out
put_none out at = ap (λ n. take at out ++ drop n out) (omega arith) ∙ take-append-drop at out

-- one write after another
pub put_put : (out : List ℕ) (at b : ℕ) (xs ys : List ℕ) → b ≡ at + length xs → at + length xs ≤ length out → put (put out at xs) b ys ≡ put out at (xs ++ ys)
put_put out at b xs ys e l =
    let c = length-take-le at out (omega arith) in
    let n : length (take at out ++ xs) ≡ b = length-append (take at out) xs ∙ omega arith in
    let s : put out at xs ≡ (take at out ++ xs) ++ drop (at + length xs) out = sym (append_assoc (take at out) xs (drop (at + length xs) out)) in
    let t : take b (put out at xs) ≡ take at out ++ xs = ap (take b) s ∙ take_at (take at out ++ xs) (drop (at + length xs) out) b n in
    let d : drop (b + length ys) (put out at xs) ≡ drop (at + length (xs ++ ys)) out =
    sym (drop-drop (length ys) b (put out at xs)) ∙ (ap (λ zs. drop (length ys) (drop b zs)) s ∙ (ap (drop (length ys)) (drop_at (take at out ++ xs) (drop (at + length xs) out) b n) ∙ (drop-drop (length ys) (at + length xs) out ∙ ap (λ m. drop m out) (omega (arith, length-append xs ys))))) in
    (λ i. t i ++ (ys ++ d i)) ∙ (append_assoc (take at out) xs (ys ++ drop (at + length (xs ++ ys)) out) ∙ ap (λ zs. take at out ++ zs) (sym (append_assoc xs ys (drop (at + length (xs ++ ys)) out))))

-- the same, of the buffers as they are seen
pub put_then : (b₀ b₁ b₂ : List ℕ) (at b : ℕ) (xs ys : List ℕ) → b₁ ≡ put b₀ at xs → b₂ ≡ put b₁ b ys → b ≡ at + length xs → at + length xs ≤ length b₀ → b₂ ≡ put b₀ at (xs ++ ys)
put_then b₀ b₁ b₂ at b xs ys p q e l = q ∙ (ap (λ o. put o b ys) p ∙ put_put b₀ at b xs ys e l)

-- the same, where the bytes are those of numbers
pub put_both : (b₀ b₁ b₂ : List ℕ) (at b : ℕ) (x y xs ys : List ℕ) → x ≡ xs → y ≡ ys → b₁ ≡ put b₀ at x → b₂ ≡ put b₁ b y → b ≡ at + length xs → at + length xs ≤ length b₀ → b₂ ≡ put b₀ at (xs ++ ys)
put_both b₀ b₁ b₂ at b x y xs ys s t p q e l = put_then b₀ b₁ b₂ at b xs ys (p ∙ ap (put b₀ at) s) (q ∙ ap (put b₁ b) t) e l

-- one write more, where the rest of the bytes is still to be written
pub put_step : (out out' : List ℕ) (a b : ℕ) (xs ys zs : List ℕ) → out' ≡ put out a xs → b ≡ a + length xs → a + length xs ≤ length out → zs ≡ xs ++ ys → put out' b ys ≡ put out a zs
put_step out out' a b xs ys zs p e l s = ap (λ o. put o b ys) p ∙ put_put out a b xs ys e l ∙ ap (put out a) (sym s)

-- a loop that writes the bytes of one item after another, w for each; what is still to be written is added to the buffer
module _ {X : Type 0} (f : X → List ℕ) (w : ℕ) (wide : (x : X) → length (f x) ≡ w) (xs : List X) (at i : ℕ) where
  pub each_step : (out out' : List ℕ) (d : X) → i < length xs → at + w * length xs ≤ length out → out' ≡ put out (at + w * i) (f (get_or xs i d)) → put out' (at + w * (i + 1)) (flat_map f (drop (i + 1) xs)) ≡ put out (at + w * i) (flat_map f (drop i xs))
  each_step out out' d l room is =
      let n = wide (get_or xs i d) in
      let m : w * (i + 1) ≤ w * length xs = mul-le-mul_left w (let z : i + 1 ≤ length xs = omega arith in z) in
      put_step out out' (at + w * i) (at + w * (i + 1)) (f (get_or xs i d)) (flat_map f (drop (i + 1) xs)) (flat_map f (drop i xs)) is (omega arith) (omega arith) (ap (flat_map f) (drop_more xs i d l))

  pub each_done : (out : List ℕ) → length xs ≤ i → put out (at + w * i) (flat_map f (drop i xs)) ≡ out
  each_done out l = ap (λ ys. put out (at + w * i) (flat_map f ys)) (drop_all i xs l) ∙ put_none out (at + w * i)

-- writes to two places, where the first ends before the second begins
pub put_apart : (out : List ℕ) (a b : ℕ) (xs ys : List ℕ) → a + length xs ≤ b → b ≤ length out → put (put out b ys) a xs ≡ put (put out a xs) b ys
put_apart out a b xs ys l m =
    let c = a + length xs in
    let R = drop (b + length ys) out in
    let M = drop c (take b out) in
    let long = length-take-le b out m in
    let few : a ≤ length (take b out) = omega arith in
    let fits : c ≤ length (take b out) = omega arith in
    let below : a ≤ b = omega arith in
    let left : put (put out b ys) a xs ≡ take a out ++ (xs ++ (M ++ (ys ++ R))) =
    (λ i. (take-append-le a (take b out) (ys ++ R) few ∙ take-take a b out below) i ++ (xs ++ drop-append-le c (take b out) (ys ++ R) fits i)) in
    let rest : drop c out ≡ M ++ drop b out = ap (drop c) (sym (take-append-drop b out)) ∙ drop-append-le c (take b out) (drop b out) fits in
    let F = (take a out ++ xs) ++ M in
    let first : put out a xs ≡ F ++ drop b out = ap (λ zs. take a out ++ (xs ++ zs)) rest ∙ sym (append_assoc (take a out) xs (M ++ drop b out)) ∙ sym (append_assoc (take a out ++ xs) M (drop b out)) in
    let n : length F ≡ b =
    let u = length-append (take a out ++ xs) M in let v = length-append (take a out) xs in let w = length-take-le a out (omega arith) in let z = length-drop c (take b out) in omega arith in
    let t : take b (put out a xs) ≡ F = ap (take b) first ∙ take_at F (drop b out) b n in
    let d : drop (b + length ys) (put out a xs) ≡ R = sym (drop-drop (length ys) b (put out a xs)) ∙ (ap (drop (length ys)) (ap (drop b) first ∙ drop_at F (drop b out) b n) ∙ drop-drop (length ys) b out) in
    left ∙ sym ((λ i. t i ++ (ys ++ d i)) ∙ (append_assoc (take a out ++ xs) M (ys ++ R) ∙ append_assoc (take a out) xs (M ++ (ys ++ R))))

-- one write more at each of two places, where the rest of the bytes is still to be written
pub both_step : (out out₁ out₂ : List ℕ) (a a' b b' : ℕ) (es fs bs cs ds gs : List ℕ) → out₁ ≡ put out a es → out₂ ≡ put out₁ b bs → a' ≡ a + length es → b' ≡ b + length bs → ds ≡ es ++ fs → gs ≡ bs ++ cs → a' + length fs ≤ b → b + length bs ≤ length out
    → put (put out₂ a' fs) b' cs ≡ put (put out a ds) b gs
both_step out out₁ out₂ a a' b b' es fs bs cs ds gs p q e f s t apart room =
    let n = ap length p ∙ length_put out a es (omega arith) in
    let m = length_put out₁ a' fs (omega arith) in
    let swap : put out₂ a' fs ≡ put (put out₁ a' fs) b bs = ap (λ o. put o a' fs) q ∙ put_apart out₁ a' b fs bs apart (omega arith) in
    ap (λ o. put o b' cs) swap ∙ put_put (put out₁ a' fs) b b' bs cs f (omega arith) ∙ (λ i. put (put_step out out₁ a a' es fs ds p e (omega arith) s i) b (sym t i))

-- a write over a part of what was written
pub put_over : (out : List ℕ) (at b : ℕ) (xs ys ys' zs : List ℕ) → b ≡ at + length xs → length ys ≡ length ys' → at + length (xs ++ (ys ++ zs)) ≤ length out → put (put out at (xs ++ (ys ++ zs))) b ys' ≡ put out at (xs ++ (ys' ++ zs))
put_over out at b xs ys ys' zs e same room =
    let u = length-append xs (ys ++ zs) in
    let w = length-append ys zs in
    let w' = length-append ys' zs in
    let O = put out at xs in
    let long = length_put out at xs (omega arith) in
    let T = take b O in
    let R = drop (b + length (ys ++ zs)) O in
    let n = length-take-le b O (omega arith) in
    let first : take b (put O b (ys ++ zs)) ≡ T = take_at T ((ys ++ zs) ++ R) b n in
    let m : length (T ++ ys) ≡ b + length ys' = length-append T ys ∙ omega arith in
    let last : drop (b + length ys') (put O b (ys ++ zs)) ≡ zs ++ R =
    ap (λ q. drop (b + length ys') (T ++ q)) (append_assoc ys zs R) ∙ ap (drop (b + length ys')) (sym (append_assoc T ys (zs ++ R))) ∙ drop_at (T ++ ys) (zs ++ R) (b + length ys') m in
    let over : put (put O b (ys ++ zs)) b ys' ≡ put O b (ys' ++ zs) =
    (λ i. first i ++ (ys' ++ last i)) ∙ ap (λ q. T ++ q) (sym (append_assoc ys' zs R)) ∙ ap (λ k. T ++ ((ys' ++ zs) ++ drop k O)) (let z : b + length (ys ++ zs) ≡ b + length (ys' ++ zs) = omega arith in z) in
    ap (λ o. put o b ys') (sym (put_put out at b xs (ys ++ zs) e (omega arith))) ∙ over ∙ put_put out at b xs (ys' ++ zs) e (omega arith)
