-- How far it is from a page to the live page that answers for a pseudokey.
use Rattle.std.specs.Prelude.{◌≡◌, ℕ, ◌+◌, Bool, true, false, ◌&&◌, nat_lt, nat_le, List, [], ◌∷◌, length, count_by}
use Rattle.exh_prefix.specs.Prefix.{low_of}
use Rattle.exh_page.specs.declared.page.Page.{Page}
use Rattle.exh_page.specs.declared.page.Page.TheVariants.{Live, Forward}
use Rattle.exh_page.specs.Page.{IsLive, low_bound}
use Rattle.exh_legal.specs.Pages.{IsAt}

-- each of the forwarding pages of the list sends on to the next, the first being where it begins, and the last to the page `to`
abbrev pub IsForwarded : List Page → ℕ → List ℕ → ℕ → Type 0
IsForwarded pages from [] to = from ≡ to
IsForwarded pages from (number ∷ over) to = (from ≡ number) × ((low target : ℕ) × IsAt pages number (Forward low target) × IsForwarded pages target over to)

-- a live page whose low bound is above one number and at most another
abbrev pub is_live_between : ℕ → ℕ → Page → Bool
is_live_between low pseudokey (Live prefix right records) = nat_lt low (low_of prefix) && nat_le (low_of prefix) pseudokey
is_live_between low pseudokey (Forward bound target) = false

abbrev pub live_between : List Page → ℕ → ℕ → ℕ
live_between pages low pseudokey = count_by (is_live_between low pseudokey) pages

-- how many live pages there are
abbrev pub is_live : Page → Bool
is_live (Live prefix right records) = true
is_live (Forward bound target) = false

abbrev pub live_pages : List Page → ℕ
live_pages pages = count_by is_live pages

-- the forwarding pages on the way to the first live page, and the live pages to its right up to the pseudokey
pub record IsDistance (pages : List Page) (from pseudokey distance : ℕ) : Type 0 where
  pub over : List ℕ
  pub live : ℕ
  pub forwarded : IsForwarded pages from over live
  pub page : Page
  pub there : IsAt pages live page
  pub lives : IsLive page
  pub sum : distance ≡ length over + live_between pages (low_bound page) pseudokey
