use Rattle.std.proofs.Common.{◌≡◌, drop}
use Rattle.quotes.specs.Lines.{digits_after}
use Rattle.quotes.proofs.lines.number.Given as goal

abbrev pub invariant-loop-b : goal.invariant-loop-b
invariant-loop-b l = digits_after l.n (drop l.b-index l.text) ≡ digits_after 0 l.text
