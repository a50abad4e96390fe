-- What an input asks for.
use Rattle.std.proofs.Common.{◌≡◌, ℕ, List, take, ap, ◌∙◌, ap₂}
use Rattle.listings.specs.declared.letters.Kind.{Kind}
use Rattle.listings.specs.Listings.{most_bytes, asked, kind_listing, listing}

-- what is listed for an input whose first bytes ask so
pub listing_asked : (input front file : List ℕ) (kind : Kind) → front ≡ take most_bytes input → kind ≡ (asked front).0 → file ≡ (asked front).1 → kind_listing kind file ≡ listing input
unfolding listing
listing_asked input front file kind is named behind =
    ap₂ kind_listing (named ∙ ap (λ bs. (asked bs).0) is) (behind ∙ ap (λ bs. (asked bs).1) is)
