-- What is read of the pages that a ward is made of.
use Rattle.std.specs.Prelude.{◌≡◌, ℕ, List, map}
use Rattle.std.specs.List.{flat_map}
use Rattle.exh_page.specs.declared.page.Page.{Page}
use Rattle.exh_page.specs.Page.{low_bound, records_of}
use Rattle.exh_legal.specs.Pages.{IsAt}
use Rattle.exh_page.specs.KeyMap.{pair_of}

-- no two pages share a low bound
abbrev pub HaveOwnBounds : List Page → Type 0
HaveOwnBounds pages = (one other : ℕ) (page twin : Page) → IsAt pages one page → IsAt pages other twin → low_bound page ≡ low_bound twin → one ≡ other

-- the pairs of all records, page by page
abbrev pub pairs_of : List Page → List (List ℕ × List ℕ)
pairs_of pages = map pair_of (flat_map records_of pages)
