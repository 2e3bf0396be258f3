-- Splits and merges: the pages of a ward before and after.
use Rattle.std.specs.Prelude.{◌≡◌, ◌≢◌, ◌⊎◌, ℕ, ◌+◌, ◌<◌, ◌≤◌, Bool, true, false, List, [], ◌∷◌, ◌++◌, length, slice_get, Option, Some}
use Rattle.exh_prefix.specs.declared.prefix.TheConstants.{LIMIT}
use Rattle.exh_prefix.specs.Prefix.{low_of}
use Rattle.exh_page.specs.declared.page.Page.{Page}
use Rattle.exh_page.specs.declared.page.Page.TheVariants.{Live, Forward}
use Rattle.exh_page.specs.declared.record.Record.{Record}
use Rattle.exh_page.specs.Page.{low_bound, begun_by}
use Rattle.exh_legal.specs.Pages.{IsAt}

-- the forwarding page of a low bound
abbrev pub IsForwardOf : List Page → ℕ → ℕ → Type 0
IsForwardOf pages low number = (target : ℕ) × IsAt pages number (Forward low target)

-- where a page of a low bound goes: it takes the place of the forwarding page of that low bound, or, where no page has it, comes last
abbrev pub IsRevived : List Page → ℕ → ℕ → List Page → Type 0
IsRevived pages low number new = IsForwardOf pages low number × (length new ≡ length pages)

pub record IsFresh (pages : List Page) (low number : ℕ) (new : List Page) : Type 0 where
  pub none : (other : ℕ) (page : Page) → IsAt pages other page → low_bound page ≢ low
  pub last : number ≡ length pages
  pub more : length new ≡ length pages + 1

-- a split of the page at a number, of a prefix, gives its right child to the page `right`
pub record IsSplit (cap : ℕ) (pages : List Page) (at : ℕ) (prefix : List Bool) (right : ℕ) (new : List Page) : Type 0 where
  -- the page is live, full and shorter than LIMIT
  pub link : Option ℕ
  pub records : List Record
  pub there : IsAt pages at (Live prefix link records)
  pub full : cap ≤ length records
  pub short : length prefix < LIMIT
  -- the page of the right child's low bound becomes its right link, and takes its old one; each record goes to the page whose prefix begins it
  pub left : IsAt new at (Live (prefix ++ false ∷ []) (Some right) (begun_by (prefix ++ false ∷ []) records))
  pub right_half : IsAt new right (Live (prefix ++ true ∷ []) link (begun_by (prefix ++ true ∷ []) records))
  pub place : IsRevived pages (low_of (prefix ++ true ∷ [])) right new ⊎ IsFresh pages (low_of (prefix ++ true ∷ [])) right new
  -- the other pages stay
  pub others : (number : ℕ) → number ≢ at → number ≢ right → slice_get new number ≡ slice_get pages number

-- a merge of the page at a number, the left child of a prefix, with its right buddy
pub record IsMerge (cap : ℕ) (pages : List Page) (at : ℕ) (prefix : List Bool) (new : List Page) : Type 0 where
  -- both are live, and hold at most cap records together
  pub right : ℕ
  pub left_link : Option ℕ
  pub right_link : Option ℕ
  pub left_records : List Record
  pub right_records : List Record
  pub there : IsAt pages at (Live (prefix ++ false ∷ []) left_link left_records)
  pub buddy : IsAt pages right (Live (prefix ++ true ∷ []) right_link right_records)
  pub few : length left_records + length right_records ≤ cap
  -- the page gets the parent's prefix, all records and the buddy's right link, and the buddy sends callers on to it
  pub merged : IsAt new at (Live prefix right_link (left_records ++ right_records))
  pub forwards : IsAt new right (Forward (low_of (prefix ++ true ∷ [])) at)
  -- the other pages stay, and none comes or goes
  pub others : (number : ℕ) → number ≢ at → number ≢ right → slice_get new number ≡ slice_get pages number
  pub same : length new ≡ length pages
