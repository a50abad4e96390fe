use Rattle.std.proofs.Common.{◌≡◌, IfOk, string_bytes, ◌∙◌}
use Rattle.std.proofs.lemmas.Result.{IfOk-weaker}
use Rattle.listings.specs.Listings.{listing}
use Rattle.listings.proofs.Asking.{listing_asked}
use Rattle.listings.proofs.SecondLines.{second_line_tells}
use Rattle.listings.proofs.listing.list_input.Goals as goal

pub returns : goal.returns
returns c =
    let input = c.args.input.now in
    let asked = c.read_letter-kind in
    let text : IfOk c.list_kind.result (λ s. string_bytes s ≡ listing input) =
    IfOk-weaker c.list_kind.result _ _ (λ s h. h ∙ listing_asked input c.front.result.now asked.result.1.now asked.result.0 c.front.ensures asked.ensures.kind asked.ensures.file) c.list_kind.ensures in
    record { text = text; least_need_and_unreadable = IfOk-weaker c.list_kind.result _ _ (λ s h. second_line_tells input (string_bytes s) h) text }
