-- The handing order from counts alone, a block at a time: for each group how many of its blocks were handed out, and the group whose block is next. Assumes nothing.
use Rattle.std.specs.Prelude.{◌≡◌, ℕ, zero, suc, ◌+◌, ◌*◌, ◌/◌, ◌%◌, ◌<◌, ◌≤◌, Bool, true, cond, List, [], ◌∷◌, ◌++◌, map, length, take, Some, None, Option, ◌≢◌, nat_lt, slice_index_or}
use Rattle.std.specs.List.{ContainsAt as Has}
use Rattle.shapes.specs.declared.dims.Dim.{Dim}
use Rattle.shapes.specs.Arrays.{Group, product, radix, counts, total_chunks, root}
use Rattle.cubes.specs.Scans.{width, scan_digits}
use Rattle.cubes.specs.Handing.{Block, same_group, lacks, parent, children, completes, released_by, handing, tally}

-- a block by its group and its number in the group's scan order
pub record Numbered : Type 0 where
  pub of : Group
  pub number : ℕ

-- the block of a number
abbrev pub numbered_block : List Dim → (ℕ → ℕ) → Numbered → Block
numbered_block ds place x = record { of = x.of; at = scan_digits place (radix x.of (counts ds)) x.number }

-- a tree of groups: one block of the parent in every `period` completes a region of the group, and a region has `share` blocks
pub record Tree : Type 0 where
  pub children_of : Group → List Group
  pub parent_of : Group → Group
  pub is_root : Group → Bool
  pub period : Group → ℕ
  pub share : Group → ℕ

-- the tree of a scan: both are products of chunk counts at the places up to that of the dimension added
abbrev pub tree : List Dim → (ℕ → ℕ) → (Group → ℕ) → List Group → Tree
tree ds place adds all = record {
  children_of = children adds all;
  parent_of = parent adds;
  is_root = λ h. same_group h (root (length ds));
  period = λ h. width place (radix (parent adds h) (counts ds)) (place (adds h) + 1);
  share = λ h. width place (radix h (counts ds)) (place (adds h) + 1);
}

-- how many blocks of each group were handed out
abbrev pub Table : Type 0
Table = Group → ℕ

-- as many blocks of a group as its parent's make due: a region for each that they complete
abbrev pub due_below : Tree → Table → Group → ℕ
due_below S d h = (d (S.parent_of h) / S.period h) * S.share h

-- how many blocks of a group are due: of the root, one for each of t chunks
abbrev pub due : Tree → ℕ → Table → Group → ℕ
due S t d h = cond (S.is_root h) t ((d (S.parent_of h) / S.period h) * S.share h)

-- the same after t chunks and all that they release: it is enough to look up as many levels as there are
abbrev pub due_by : Tree → ℕ → ℕ → Group → ℕ
due_by S t zero h = t
due_by S t (suc levels) h = cond (S.is_root h) t ((due_by S t levels (S.parent_of h) / S.period h) * S.share h)

-- a group has handed out no more than is due; it lags by a region at most, and its parent does not go on meanwhile
pub record WithinDue (S : Tree) (d : Table) (h : Group) : Type 0 where
  pub no_more : d h ≤ due_below S d h
  pub no_less : due_below S d h ≤ d h + S.share h
  pub meanwhile : d h < due_below S d h → d (S.parent_of h) % S.period h ≡ 0

-- a group waits while fewer of its blocks were handed out than are due
abbrev pub waits : Tree → ℕ → Table → Group → Bool
waits S t d h = nat_lt (d h) (due S t d h)

-- one more block of g
abbrev pub one_more : Table → Group → Table
one_more d g h = cond (same_group h g) (suc (d h)) (d h)

-- the first group that passes a test
abbrev pub first : (Group → Bool) → List Group → Option Group
first p [] = None
first p (h ∷ hs) = cond (p h) (Some h) (first p hs)

abbrev pub or_next : Option Group → Option Group → Option Group
or_next (Some h) o = Some h
or_next None o = o

-- where the next block is, seen from a group: at the first child that waits, else at the group if it waits, else as seen from its parent
abbrev pub next_step : Tree → ℕ → Table → Option Group → Group → Option Group
next_step S t d above g = or_next (first (waits S t d) (S.children_of g)) (cond (waits S t d g) (Some g) (cond (S.is_root g) None above))

abbrev pub next_from : Tree → ℕ → ℕ → Table → Group → Option Group
next_from S t zero d g = None
next_from S t (suc levels) d g = next_step S t d (next_from S t levels d (S.parent_of g)) g

-- A state has the number t of chunks passed, where the next block is (None: no block waits) and the count of each group.
-- A chunk is passed where no block waits; then the root is next. The next block of the group that is next is handed out; then what is next is seen from that group.
pub data Reached (ds : List Dim) (place : ℕ → ℕ) (adds : Group → ℕ) (all : List Group) : List Numbered → ℕ → Option Group → Table → Type 0 where
  start : Reached ds place adds all [] 0 None (λ _. 0)
  pass : {xs : List Numbered} {t : ℕ} {d : Table} → Reached ds place adds all xs t None d → Reached ds place adds all xs (suc t) (Some (root (length ds))) d
  hand : {xs : List Numbered} {t : ℕ} {g : Group} {d : Table} → Reached ds place adds all xs t (Some g) d
      → Reached ds place adds all (xs ++ (record { of = g; number = d g } ∷ [])) t (next_from (tree ds place adds all) t (suc (length ds)) (one_more d g) g)
      (one_more d g)

-- the states that are reached hand out the handing order
pub record MachineLaws (ds : List Dim) (place : ℕ → ℕ) (adds : Group → ℕ) (all : List Group) : Type 0 where
  -- where no block waits, all that the chunks passed release was handed out
  pub none_waits : {xs : List Numbered} {t : ℕ} {d : Table} → Reached ds place adds all xs t None d → t ≤ total_chunks ds
      → released_by ds place adds all t ≡ map (numbered_block ds place) xs
  -- else the block that is next comes next
  pub one_waits : {xs : List Numbered} {t : ℕ} {g : Group} {d : Table} → Reached ds place adds all xs t (Some g) d → t ≤ total_chunks ds
      → (rest : List Block) × (released_by ds place adds all t
      ≡ map (numbered_block ds place) xs ++ (numbered_block ds place (record { of = g; number = d g }) ∷ rest))
  -- so what was handed out is a front of the handing order, and the next is the one behind it
  pub front : {xs : List Numbered} {t : ℕ} {o : Option Group} {d : Table} → Reached ds place adds all xs t o d → t ≤ total_chunks ds
      → map (numbered_block ds place) xs ≡ take (length xs) (handing ds place adds all)
  pub next : {xs : List Numbered} {t : ℕ} {g : Group} {d : Table} → Reached ds place adds all xs t (Some g) d → t ≤ total_chunks ds → (b : Block)
      → slice_index_or (handing ds place adds all) (length xs) b ≡ numbered_block ds place (record { of = g; number = d g })
  -- a block waits while the chunks passed release more than was handed out
  pub none_more : {xs : List Numbered} {t : ℕ} {d : Table} → Reached ds place adds all xs t None d → t ≤ total_chunks ds
      → length (released_by ds place adds all t) ≡ length xs
  pub some_more : {xs : List Numbered} {t : ℕ} {g : Group} {d : Table} → Reached ds place adds all xs t (Some g) d → t ≤ total_chunks ds
      → length xs < length (released_by ds place adds all t)
  -- that is a block of a group
  pub next_is : {xs : List Numbered} {t : ℕ} {g : Group} {d : Table} → Reached ds place adds all xs t (Some g) d → t ≤ total_chunks ds
      → Has all g × (d g < product (radix g (counts ds))) × (d g < due (tree ds place adds all) t d g)
  -- the counts are those of what was handed out, within the groups' numbers of blocks
  pub counted : {xs : List Numbered} {t : ℕ} {o : Option Group} {d : Table} → Reached ds place adds all xs t o d → (h : Group)
      → d h ≡ tally (map (numbered_block ds place) xs) h
  pub within : {xs : List Numbered} {t : ℕ} {o : Option Group} {d : Table} → Reached ds place adds all xs t o d → t ≤ total_chunks ds → (h : Group) → Has all h
      → d h ≤ product (radix h (counts ds))
  pub at_rest : {xs : List Numbered} {t : ℕ} {d : Table} → Reached ds place adds all xs t None d → (h : Group) → Has all h
      → d h ≡ due_by (tree ds place adds all) t (length ds) h
  pub within_due : {xs : List Numbered} {t : ℕ} {o : Option Group} {d : Table} → Reached ds place adds all xs t o d → (h : Group) → Has all h
      → (h ≢ root (length ds))
      → WithinDue (tree ds place adds all) d h
  -- after a block the children wait whose regions it completes
  pub completing : {xs : List Numbered} {t : ℕ} {g : Group} {d : Table} → Reached ds place adds all xs t (Some g) d → (h : Group) → Has all h → lacks h (adds h)
      ≡ true → parent adds h ≡ g
      → waits (tree ds place adds all) t (one_more d g) h ≡ completes ds place adds h (scan_digits place (radix g (counts ds)) (d g))
  -- only the counts of groups matter
  pub alike : (t levels : ℕ) (d d' : Table) (h : Group) → ((g : Group) → length g ≡ length ds → d g ≡ d' g) → length h ≡ length ds
      → next_from (tree ds place adds all) t levels d h ≡ next_from (tree ds place adds all) t levels d' h
  -- what is next, seen from a group, without a count of levels
  pub seen_from : (t : ℕ) (d : Table) (h : Group) → Has all h
      → next_from (tree ds place adds all) t (suc (length ds)) d h
      ≡ next_step (tree ds place adds all) t d (next_from (tree ds place adds all) t (suc (length ds)) d (parent adds h)) h
