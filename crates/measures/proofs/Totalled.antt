-- What the laws give of the join of a list. Assumes nothing.
use Rattle.std.proofs.Common.{◌≡◌, List, [], ◌∷◌, ◌++◌, sym, ap, ◌∙◌}
use Rattle.std.specs.List.{fold}
use Rattle.measures.specs.Laws.{Lawful, total}

module _ {M : Type 0} {empty : M} {op : M → M → M} (lawful : Lawful empty op) where
  -- the empty value changes nothing on the right either
  pub neutral_right : (x : M) → op x empty ≡ x
  neutral_right x = lawful.comm x empty ∙ lawful.neutral x

  pub total_append : (xs ys : List M) → total empty op (xs ++ ys) ≡ op (total empty op xs) (total empty op ys)
  total_append [] ys = sym (lawful.neutral (total empty op ys))
  total_append (x ∷ xs) ys = ap (op x) (total_append xs ys) ∙ sym (lawful.assoc x (total empty op xs) (total empty op ys))

  -- values joined one by one, from any value on
  pub fold_total : (x : M) (xs : List M) → fold op x xs ≡ op x (total empty op xs)
  fold_total x [] = sym (neutral_right x)
  fold_total x (y ∷ xs) = fold_total (op x y) xs ∙ lawful.assoc x y (total empty op xs)
