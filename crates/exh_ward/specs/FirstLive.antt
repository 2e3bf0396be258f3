-- The first live page on the way from a page.
use Rattle.std.specs.Prelude.{◌≡◌, ℕ, Bool, List, length, Option}
use Rattle.exh_prefix.specs.Prefix.{low_of}
use Rattle.exh_page.specs.declared.page.Page.{Page}
use Rattle.exh_page.specs.declared.page.Page.TheVariants.{Live}
use Rattle.exh_page.specs.declared.record.Record.{Record}
use Rattle.exh_legal.specs.Pages.{IsAt}
use Rattle.exh_ward.specs.Distance.{IsForwarded}
use Rattle.exh_ward.specs.declared.ward.distance.FirstLive.{FirstLive}

-- a live page at a number, with a low bound and a right link
pub record IsLivePage (pages : List Page) (number low : ℕ) (right : Option ℕ) : Type 0 where
  pub prefix : List Bool
  pub records : List Record
  pub there : IsAt pages number (Live prefix right records)
  pub low_is : low ≡ low_of prefix

-- forwarding leads to it, over as many pages as were counted
pub record IsFirstLive (pages : List Page) (from : ℕ) (first : FirstLive) : Type 0 where
  pub over : List ℕ
  pub live : ℕ
  pub forwarded : IsForwarded pages from over live
  pub counted : first.forwards ≡ length over
  pub is : IsLivePage pages live first.low first.right
