use Rattle.std.proofs.Common.{◌≡◌, ℕ, List, map, Some, vec_items, Bor}
use Rattle.quotes.specs.Lines.{field_of, all_of}
use Rattle.quotes.proofs.lines.read_dims.Given as goal

-- the fields so far are the dimensions
abbrev pub invariant-loop-text : goal.invariant-loop-text
invariant-loop-text l = all_of (map (λ (t : Bor (List ℕ)). field_of t.now) l.yielded) ≡ Some (vec_items l.dims)
