-- The definition on small inputs, worked out. Assumes nothing.
use Rattle.std.specs.Prelude.{◌≡◌, ℕ, List, [], ◌∷◌, ◌++◌, take, codes, slice_set}
use Rattle.listings.specs.Listings.{listing}

-- sizes 4 and 2 with edges 2 and 2, and readings 5 at (0, 0), 7 at (3, 0) and 1 at (3, 1), as a chunk file: the header with the sizes, two entries, two bodies
abbrev pub example_file : List ℕ
example_file =
    (1 ∷ 2 ∷ 0 ∷ 0 ∷ 4 ∷ 0 ∷ 0 ∷ 0 ∷ 2 ∷ 0 ∷ 0 ∷ 0 ∷ 2 ∷ 0 ∷ 0 ∷ 0 ∷ 2 ∷ 0 ∷ 0 ∷ 0 ∷ [])
    ++ ((36 ∷ 0 ∷ 0 ∷ 0 ∷ 1 ∷ 0 ∷ 0 ∷ 0 ∷ 42 ∷ 0 ∷ 0 ∷ 0 ∷ 2 ∷ 0 ∷ 1 ∷ 0 ∷ [])
    ++ ((0 ∷ 0 ∷ 5 ∷ 0 ∷ 0 ∷ 0 ∷ []) ++ (255 ∷ 255 ∷ 255 ∷ 255 ∷ 7 ∷ 0 ∷ 0 ∷ 0 ∷ 255 ∷ 255 ∷ 255 ∷ 255 ∷ 1 ∷ 0 ∷ 0 ∷ 0 ∷ [])))

-- a single chunk of 2,048 cells, all empty
abbrev pub large_file : List ℕ
large_file = 1 ∷ 1 ∷ 0 ∷ 0 ∷ 0 ∷ 8 ∷ 0 ∷ 0 ∷ 0 ∷ 8 ∷ 0 ∷ 0 ∷ 20 ∷ 0 ∷ 0 ∷ 0 ∷ 0 ∷ 0 ∷ 0 ∷ 0 ∷ []

pub record Examples : Type 0 where
  pub totals : listing example_file
      ≡ codes "DIMS 2 4/2 2/2\nCELLS 9 UNREADABLE 0\n3 0 0 1 5\n1 0 0 1 5\n3 1 1 1 7\n3 1 3 1 1\n1 1 1 2 8\n2 0 0 2 12\n2 0 1 1 1\n0 0 0 3 13\nEND 2 0 6\n"
  pub ranges : listing (codes "R" ++ example_file)
      ≡ codes "DIMS 2 4/2 2/2\nCELLS 9 UNREADABLE 0\n3 0 0 5 5\n1 0 0 5 5\n3 1 1 7 7\n3 1 3 1 1\n1 1 1 1 7\n2 0 0 5 7\n2 0 1 1 1\n0 0 0 1 7\nEND 2 0 6\n"
  pub marks : listing (codes "M" ++ example_file)
      ≡ codes "DIMS 2 4/2 2/2\nCELLS 9 UNREADABLE 0\n3 0 0 32\n1 0 0 32\n3 1 1 128\n3 1 3 2\n1 1 1 130\n2 0 0 160\n2 0 1 2\n0 0 0 162\nEND 2 0 6\n"
  -- the first reading is over the limit, so chunk 0 is unreadable
  pub with_a_fault : listing (slice_set example_file 41 1)
      ≡ codes "DIMS 2 4/2 2/2\nCELLS 9 UNREADABLE 1\n3 1 1 1 7\n3 1 3 1 1\n1 1 1 2 8\n2 0 0 1 7\n2 0 1 1 1\n0 0 0 2 8\nEND 1 1 6\n"
  -- without the last byte
  pub cut : listing (take 57 example_file)
      ≡ codes "DIMS 0\nREFUSED 10 0\n"
  -- one cell more is needed than is given
  pub too_large : listing large_file
      ≡ codes "DIMS 0\nREFUSED 17 2049\n"
