-- Blocks by scan number, and by mask and block number: no two blocks that are handed out share one.
use Rattle.std.proofs.Common.{◌≡◌, ℕ, suc, ◌<◌, ◌≤◌, List, map, length, sym, ap, ◌∙◌, subst, ap₂, arith}
use Rattle.std.specs.List.{ContainsAt as Has, AllByRecursion}
use Rattle.std.proofs.ByRecursion.{All-map, All-weaker}
use Rattle.std.proofs.lemmas.List.{length-map}
use Rattle.shapes.specs.declared.dims.Dim.{Dim}
use Rattle.shapes.specs.Arrays.{Group, Below, number, radix, only, counts, chunks, total_chunks, root}
use Rattle.shapes.proofs.Numbering.{number_injective, number_only}
use Rattle.plans.specs.Plans.{Edged, Order}
use Rattle.cubes.specs.Scans.{scan_digits}
use Rattle.cubes.specs.Handing.{Block, Distinct, Scan, released_by, handing, named}
use Rattle.cubes.specs.HandingLaws.{ScanNumbers}
use Rattle.cubes.specs.Control.{Numbered, numbered_block, tree}
use Rattle.shapes.proofs.Radixes.{length-radix}
use Rattle.cubes.proofs.Cells.{radix_positive}
use Rattle.cubes.proofs.ScanNumbers.{scan_digits_within, scan_below, digits_of_scan, scan_of_digits}
use Rattle.cubes.proofs.Listing.{all_unmap, distinct_map}
use Rattle.cubes.proofs.Groups.{mask_injective}
use Rattle.cubes.proofs.Trees.{level, sized}
use Rattle.cubes.proofs.States.{numbered_by}
use Rattle.cubes.proofs.Handing.{released_is, released_of_groups, handed_once}

-- a block has its chunk coordinates below the chunk counts
pub block_within : (ds : List Dim) (place : ℕ → ℕ) → Edged ds → Order ds place → (g : Group) → length g ≡ length ds → (s : ℕ)
    → Below (radix g (counts ds)) (scan_digits place (radix g (counts ds)) s)
block_within ds place edged order g lg s = scan_digits_within place rs separate inside (λ i. radix_positive ds g i edged) s
  where
    rs : List ℕ
    rs = radix g (counts ds)

    long : length rs ≡ length ds
    long = length-radix g (counts ds) (lg ∙ sym (length-map ds chunks)) ∙ length-map ds chunks

    inside : (i : ℕ) → i < length rs → place i < suc (length rs)
    inside i m = rw long (omega (arith, order.within i (rw long at m)))

    separate : (i j : ℕ) → i < length rs → j < length rs → place i ≡ place j → i ≡ j
    separate i j mi mj q = order.distinct i j (rw long at mi) (rw long at mj) q

-- scan numbers and coordinates are inverse
pub scan_numbers : ScanNumbers
scan_numbers ds place edged order g lg = (
  λ c b. (scan_below place rs separate inside c b, digits_of_scan place rs separate inside c b),
  λ s l. (block_within ds place edged order g lg s, scan_of_digits place rs separate inside s l),
)
  where
    rs : List ℕ
    rs = radix g (counts ds)

    long : length rs ≡ length ds
    long = length-radix g (counts ds) (lg ∙ sym (length-map ds chunks)) ∙ length-map ds chunks

    inside : (i : ℕ) → i < length rs → place i < suc (length rs)
    inside i m = rw long (omega (arith, order.within i (rw long at m)))

    separate : (i j : ℕ) → i < length rs → j < length rs → place i ≡ place j → i ≡ j
    separate i j mi mj q = order.distinct i j (rw long at mi) (rw long at mj) q

module _ (ds : List Dim) (place : ℕ → ℕ) (adds : Group → ℕ) (all : List Group) (S : Scan ds place adds all) where
  pub released_within : (t : ℕ) → t ≤ total_chunks ds → AllByRecursion (λ b. Has all b.of × Below (radix b.of (counts ds)) b.at) (released_by ds place adds all t)
  released_within t l = subst (AllByRecursion (λ b. Has all b.of × Below (radix b.of (counts ds)) b.at)) (sym (released_is ds place adds all S t l))
      (All-map (λ b. Has all b.of × Below (radix b.of (counts ds)) b.at) (numbered_block ds place) numbers
      (All-weaker (λ x. Has all x.of) (λ x. Has all x.of × Below (radix x.of (counts ds)) (scan_digits place (radix x.of (counts ds)) x.number))
      (λ x k. (k, block_within ds place S.edged S.order x.of (sized ds place adds all S x.of k) x.number)) numbers
      (all_unmap (λ b. Has all b.of) (numbered_block ds place) numbers
      (subst (AllByRecursion (λ b. Has all b.of)) (released_is ds place adds all S t l) (released_of_groups ds place adds all S t)))))
    where
      numbers : List Numbered
      numbers = numbered_by (tree ds place adds all) (root (length ds)) (level (root (length ds))) t

  named_injective : (a b : Block) → Has all a.of × Below (radix a.of (counts ds)) a.at → Has all b.of × Below (radix b.of (counts ds)) b.at
      → named ds a ≡ named ds b → a ≡ b
  named_injective a b ka kb e = join a.of b.of a.at b.at of_same at_same
    where
      of_same : a.of ≡ b.of
      of_same = mask_injective (length ds) a.of b.of (sized ds place adds all S a.of ka.0) (sized ds place adds all S b.of kb.0) (ap (λ x. x.0) e)

      at_same : a.at ≡ b.at
      at_same = number_injective (radix a.of (counts ds)) a.at b.at ka.1 (subst (λ g. Below (radix g (counts ds)) b.at) (sym of_same) kb.1)
          (ap (λ x. x.1) e ∙ ap (λ g. number (radix g (counts ds)) b.at) (sym of_same))

      join : (g h : Group) (c d : List ℕ) → g ≡ h → c ≡ d → ◌≡◌ {A = Block} (record { of = g; at = c }) (record { of = h; at = d })
      join g h c d p q = ap₂ {C = Block} (λ x y. record { of = x; at = y }) p q

  pub named_once : Distinct (map (named ds) (handing ds place adds all))
  named_once = distinct_map (named ds) (λ b. Has all b.of × Below (radix b.of (counts ds)) b.at) named_injective (handing ds place adds all)
      (released_within (total_chunks ds) (omega arith)) (handed_once ds place adds all S)

  -- the block number counts over the kept dimensions alone
  pub numbered_over_kept : AllByRecursion (λ b. number (radix b.of (counts ds)) b.at ≡ number (only b.of (counts ds)) (only b.of b.at))
      (handing ds place adds all)
  numbered_over_kept = All-weaker (λ b. Has all b.of × Below (radix b.of (counts ds)) b.at)
      (λ b. number (radix b.of (counts ds)) b.at ≡ number (only b.of (counts ds)) (only b.of b.at))
      (λ b k. number_only b.of (counts ds) b.at k.1) (handing ds place adds all) (released_within (total_chunks ds) (omega arith))
