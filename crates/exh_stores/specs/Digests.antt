-- What is known of the digest of the block that a page has in a page file.
use Rattle.std.specs.Prelude.{◌≡◌, ℕ, List, Option, IfSome}
use Rattle.exh_codec.specs.declared.Page.{Page}
use Rattle.exh_codec.specs.PageImage.{page_digest}

-- a digest that is known is that of the page's block
abbrev pub IsKnownOf : Page → Option (List ℕ) → Type 0
IsKnownOf page known = IfSome known (λ digest. digest ≡ page_digest page)
