-- The dimensions of an array, as code reads them.
use Rattle.std.proofs.Common.{◌≡◌, ℕ, ◌-◌, ◌<◌, ◌≤◌, List, map, length, get_or, sym, ap, ◌∙◌, arith}
use Rattle.std.proofs.lemmas.List.{get_or_default}
use Rattle.std.proofs.lemmas.List.FromFn.{length-map-range_with_len, get_or-map-range_with_len}
use Rattle.shapes.specs.declared.dims.Dim.{Dim}
use Rattle.shapes.specs.Arrays.{none_dim, dim, numbers, keeps, group}
use Rattle.shapes.proofs.Masks.{keeps_bit}
use Rattle.plans.specs.Plans.{slack, plan_place}

-- the default of a read
abbrev pub no_dim : Dim
no_dim = record { size = 0; edge = 0 }

pub read_dim : (ds : List Dim) (i : ℕ) → i < length ds → get_or ds i no_dim ≡ dim ds i
read_dim ds i l = get_or_default ds i no_dim none_dim l

pub slack_at : (ds : List Dim) (i : ℕ) → i < length ds → (get_or ds i no_dim).size - (get_or ds i no_dim).edge ≡ slack ds i
slack_at ds i l = ap (λ (d : Dim). d.size - d.edge) (read_dim ds i l)

-- the flags of a mask for six dimensions begin with those for n
pub same_flags : (n m i : ℕ) → n ≤ 6 → i < n → keeps (group 6 m) i ≡ keeps (group n m) i
same_flags n m i few l = keeps_bit 6 m i (omega arith) ∙ sym (keeps_bit n m i l)

-- the places of the plan, by number
module _ (ds : List Dim) (ps : List ℕ) (placed : ps ≡ map (plan_place ds) (numbers ds)) where
  pub places_long : length ps ≡ length ds
  places_long = ap length placed ∙ length-map-range_with_len (plan_place ds) 0 (length ds)

  pub place_at : (i : ℕ) → i < length ds → get_or ps i 0 ≡ plan_place ds i
  place_at i l = ap (λ xs. get_or xs i 0) placed ∙ get_or-map-range_with_len (plan_place ds) 0 (length ds) i i 0 l (omega arith)
