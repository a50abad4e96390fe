use Rattle.std.proofs.Common.{◌≡◌, ℕ, ◌+◌, ◌-◌, ◌^◌, ◌<◌, ◌≤◌, true, false, List, [], ◌∷◌, length, replicate, sym, subst, ◌∙◌, lit<, arith}
use Rattle.std.proofs.lemmas.Bool.{true≢false}
use Rattle.cubes.specs.Examples.{four_by_two}
use Rattle.runs.specs.declared.layouts.Region.{Region}
use Rattle.runs.specs.declared.bases.Regions.{Regions}
use Rattle.runs.specs.Grids.{Inside, Joinable, block_edges, cells_in, child_at}
use Rattle.runs.specs.Standing.{region_in}
use Rattle.shapes.specs.Views.{dims_of}
use Rattle.runs.proofs.Known.{cells_known, inside_known, joinable_behind, joinable_before, region_known, root_known, each_of_six}
use Rattle.runs.proofs.cell_tests.another_order.Goals as goal

abbrev places : List ℕ
places = 1 ∷ 2 ∷ 0 ∷ 0 ∷ 0 ∷ 0 ∷ []

abbrev adds : List ℕ
adds = 0 ∷ 1 ∷ replicate 62 0

abbrev block : List ℕ
block = 1 ∷ 0 ∷ 0 ∷ 0 ∷ 0 ∷ 0 ∷ []

-- the regions, worked out by hand
abbrev none : Region
none = record { base = 4; kept = false ∷ false ∷ false ∷ false ∷ false ∷ false ∷ []; lacked = 1 }

abbrev first : Region
first = record { base = 5; kept = true ∷ false ∷ false ∷ false ∷ false ∷ false ∷ []; lacked = 2 }

abbrev second : Region
second = record { base = 9; kept = false ∷ true ∷ false ∷ false ∷ false ∷ false ∷ []; lacked = 1 }

abbrev both : Region
both = record { base = 0; kept = true ∷ true ∷ false ∷ false ∷ false ∷ false ∷ []; lacked = 0 }

module _ (s : Regions) (e : (dims_of s.layout.shape ≡ four_by_two) × (s.layout.places ≡ places) × (s.layout.adds ≡ adds)) where
  is_none : region_in s 0 ≡ none
  is_none = region_known four_by_two places adds s e 0 (lit< tt)

  is_first : region_in s 1 ≡ first
  is_first = region_known four_by_two places adds s e 1 (lit< tt)

  is_second : region_in s 2 ≡ second
  is_second = region_known four_by_two places adds s e 2 (lit< tt)

  is_both : region_in s 3 ≡ both
  is_both = root_known four_by_two places adds s e

  into : (r u r' u' : Region) (n : ℕ) → r' ≡ r → u' ≡ u → Joinable s.layout r u block n → Joinable s.layout r' u' block n
  into r u r' u' n p q j = subst (λ z. Joinable s.layout z u' block n) (sym p) (subst (λ z. Joinable s.layout r z block n) (sym q) j)

  of_both : (i : ℕ) → i < 6 → child_at s.layout.adds 3 i ≡ true → Joinable s.layout (region_in s 3) (region_in s (3 - 2 ^ i)) block 11
  of_both = each_of_six (λ i. child_at s.layout.adds 3 i ≡ true → Joinable s.layout (region_in s 3) (region_in s (3 - 2 ^ i)) block 11)
      (λ t. into both second (region_in s 3) (region_in s 2) 11 is_both is_second (joinable_behind four_by_two places s.layout (e.0, e.1) both second block 11 (lit< tt) (lit< tt)))
      (λ t. into both first (region_in s 3) (region_in s 1) 11 is_both is_first (joinable_behind four_by_two places s.layout (e.0, e.1) both first block 11 (lit< tt) (lit< tt)))
      (λ t. absurd (true≢false (sym t))) (λ t. absurd (true≢false (sym t))) (λ t. absurd (true≢false (sym t))) (λ t. absurd (true≢false (sym t)))

  of_first : (n : ℕ) → n ≡ 11 → (i : ℕ) → i < 6 → child_at s.layout.adds 1 i ≡ true → Joinable s.layout (region_in s 1) (region_in s (1 - 2 ^ i)) block n
  of_first n is = subst (λ k. (i : ℕ) → i < 6 → child_at s.layout.adds 1 i ≡ true → Joinable s.layout (region_in s 1) (region_in s (1 - 2 ^ i)) block k) (sym is)
      (each_of_six (λ i. child_at s.layout.adds 1 i ≡ true → Joinable s.layout (region_in s 1) (region_in s (1 - 2 ^ i)) block 11)
      (λ t. into first none (region_in s 1) (region_in s 0) 11 is_first is_none (joinable_before four_by_two places s.layout (e.0, e.1) first none block 11 (lit< tt) (lit< tt)))
      (λ t. absurd (true≢false (sym t))) (λ t. absurd (true≢false (sym t))) (λ t. absurd (true≢false (sym t))) (λ t. absurd (true≢false (sym t))) (λ t. absurd (true≢false (sym t))))

  first_inside : (n : ℕ) → n ≡ 11 → Inside s.layout (region_in s 1) (block_edges s.layout (region_in s 1)) block n
  first_inside n is = subst (λ r. Inside s.layout r (block_edges s.layout r) block n) (sym is_first)
      (subst (Inside s.layout first (block_edges s.layout first) block) (sym is) (inside_known four_by_two places s.layout (e.0, e.1) first block 11 (lit< tt)))

  first_fits : (n : ℕ) → n ≡ 11 → (region_in s 1).base + cells_in s.layout (region_in s 1) ≤ n
  first_fits n is = subst (λ (r : Region). r.base + cells_in s.layout r ≤ n) (sym is_first) (omega (arith, cells_known four_by_two places s.layout (e.0, e.1) first))

pub join_children-requires-clause-joinable : goal.join_children-requires-clause-joinable
join_children-requires-clause-joinable g c = of_both c.in_ok-regions.regions c.in_ok-regions.ensures

pub join_children-requires-2-clause-inside : goal.join_children-requires-2-clause-inside
join_children-requires-2-clause-inside g c = first_inside c.in_ok-regions.regions c.in_ok-regions.ensures (length c.join_children.new.cells) c.join_children.auto.cells

pub join_children-requires-2-clause-joinable : goal.join_children-requires-2-clause-joinable
join_children-requires-2-clause-joinable g c = of_first c.in_ok-regions.regions c.in_ok-regions.ensures (length c.join_children.new.cells) c.join_children.auto.cells

pub empty-requires-clause-room : goal.empty-requires-clause-room
empty-requires-clause-room g c = first_fits c.in_ok-regions.regions c.in_ok-regions.ensures (length c.join_children-2.new.cells) (c.join_children-2.auto.cells ∙ c.join_children.auto.cells)
