-- What a measure owes, and what a row of values comes to. Assumes nothing.
use Rattle.std.specs.Prelude.{◌≡◌, List, [], ◌∷◌}

-- the order and the grouping of joins do not matter, and the empty value changes nothing
pub record Lawful {M : Type 0} (empty : M) (op : M → M → M) : Type 0 where
  pub assoc : (x y z : M) → op (op x y) z ≡ op x (op y z)
  pub comm : (x y : M) → op x y ≡ op y x
  pub neutral : (x : M) → op empty x ≡ x

-- the join of the empty value and all values of a list
abbrev pub total : {M : Type 0} → M → (M → M → M) → List M → M
total empty op [] = empty
total empty op (x ∷ xs) = op x (total empty op xs)
