-- What a page has for a key.
use Rattle.std.specs.Prelude.{◌≡◌, ℕ, List}
use Rattle.std.specs.List.{AllByRecursion}
use Rattle.exh_page.specs.declared.lookup.Lookup.{Lookup}
use Rattle.exh_page.specs.declared.page.Page.{Page}
use Rattle.exh_page.specs.Page.{records_of}
use Rattle.exh_page.specs.PageHead.{head_of}
use Rattle.exh_page.specs.Place.{Place}
use Rattle.exh_page.specs.Records.{value_at}
use Rattle.exh_page.specs.Search.{IsStood}

-- the page's head, and where its record of the place stands, with its value, if it has one
pub record IsLookup (place : Place) (page : Page) (lookup : Lookup) : Type 0 where
  pub head : lookup.head ≡ head_of page
  pub spot : IsStood place (records_of page) lookup.spot
  pub value : lookup.value ≡ value_at place (records_of page)

-- a record of this key has this pseudokey, if the page has one
abbrev pub HasPseudokey : ℕ → List ℕ → Page → Type 0
HasPseudokey pseudokey key page = AllByRecursion (λ r. r.key ≡ key → r.pseudokey ≡ pseudokey) (records_of page)
