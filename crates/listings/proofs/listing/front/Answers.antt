use Rattle.std.proofs.Common.{take, ap, ◌∙◌, arith}
use Rattle.std.proofs.lemmas.List.{take_min}
use Rattle.listings.specs.Listings.{most_bytes}
use Rattle.listings.proofs.listing.front.Goals as goal

pub returns : goal.returns
returns c = ap (λ n. take n c.args.input.now) (omega arith) ∙ take_min most_bytes c.args.input.now
