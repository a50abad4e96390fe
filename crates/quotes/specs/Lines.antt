-- The lines of a price list: fields with one space between, each a size, a slash and an edge in decimal digits. Assumes nothing.
use Rattle.std.specs.Prelude.{ℕ, ◌+◌, ◌-◌, ◌*◌, ◌^◌, min, Bool, cond, ◌&&◌, List, [], ◌∷◌, map, length, take, Some, None, Option, ◌==◌, nat_le, slice_index}
use Rattle.std.specs.Option.{option_map}
use Rattle.shapes.specs.declared.dims.Dim.{Dim}

abbrev pub put_first : ℕ → List (List ℕ) → List (List ℕ)
put_first x [] = (x ∷ []) ∷ []
put_first x (p ∷ ps) = (x ∷ p) ∷ ps

-- a text cut at every byte b: one part more than there are such bytes
abbrev pub parts : ℕ → List ℕ → List (List ℕ)
parts b [] = [] ∷ []
parts b (x ∷ xs) = cond (x == b) ([] ∷ parts b xs) (put_first x (parts b xs))

abbrev pub is_digit : ℕ → Bool
is_digit x = nat_le 48 x && nat_le x 57

-- decimal digits read after a number; past 2 ^ 32 - 1 the number stays there, which is over every limit of a shape
abbrev pub digits_after : ℕ → List ℕ → Option ℕ
digits_after n [] = Some n
digits_after n (x ∷ xs) = cond (is_digit x) (digits_after (min (10 * n + (x - 48)) (2 ^ 32 - 1)) xs) None

-- a number: one digit or more
abbrev pub number_of : List ℕ → Option ℕ
number_of [] = None
number_of (x ∷ xs) = digits_after 0 (x ∷ xs)

abbrev pub dim_from : Option ℕ → Option ℕ → Option Dim
dim_from None edge = None
dim_from (Some size) None = None
dim_from (Some size) (Some edge) = Some (record { size = size; edge = edge })

-- a field has two parts, the size before the slash and the edge behind it
abbrev pub field_from : List (List ℕ) → Option Dim
field_from [] = None
field_from (p ∷ []) = None
field_from (p ∷ q ∷ []) = dim_from (number_of p) (number_of q)
field_from (p ∷ q ∷ r ∷ ps) = None

abbrev pub field_of : List ℕ → Option Dim
field_of text = field_from (parts 47 text)

-- the values of all, where each has one
abbrev pub put_front : Option Dim → Option (List Dim) → Option (List Dim)
put_front None os = None
put_front (Some d) os = option_map (λ ds. d ∷ ds) os

abbrev pub all_of : List (Option Dim) → Option (List Dim)
all_of [] = Some []
all_of (o ∷ os) = put_front o (all_of os)

-- the dimensions that a line names, if it is fields with one space between
abbrev pub line_dims : List ℕ → Option (List Dim)
line_dims line = all_of (map field_of (parts 32 line))

-- a carriage return at the end of a line is no part of it
abbrev pub trimmed : List ℕ → List ℕ
trimmed line = cond (slice_index line (length line - 1) == 13) (take (length line - 1) line) line
