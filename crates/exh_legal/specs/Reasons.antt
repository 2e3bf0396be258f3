-- The six reasons for which a page file isn't legal: each a test of its own over the whole file.
use Rattle.std.specs.Prelude.{◌≡◌, ℕ, ◌<◌, ◌≤◌, ◌^◌, Bool, cond, nat_le, List, length, Option, None, Some}
use Rattle.exh_prefix.specs.Prefix.{Begins, low_of}
use Rattle.exh_table.specs.Table.{TableMap}
use Rattle.exh_page.specs.declared.page.Page.{Page}
use Rattle.exh_page.specs.declared.page.Page.TheVariants.{Live, Forward}
use Rattle.exh_page.specs.declared.record.Record.{Record}
use Rattle.exh_page.specs.Page.{IsLive, low_bound, records_of}
use Rattle.exh_legal.specs.Fit.{FitsPages}
use Rattle.exh_legal.specs.Growth.{IsLiveAt}
use Rattle.exh_legal.specs.Pages.{IsAt, IsHome, IsRightLink, IsTarget}
use Rattle.exh_legal.specs.declared.reason.Reason.{Reason}
use Rattle.exh_legal.specs.declared.reason.Reason.TheVariants.{Cap, LowBounds, Leaves, Links, Forwards, Table}
use Rattle.exh_legal.specs.LegalParts.{FileParts, OfEachWard, HasNoStrays}

-- ---- the tests of a ward's pages

-- no page has more than cap records
abbrev pub KeepsCap : ℕ → List Page → Type 0
KeepsCap cap pages = (number : ℕ) (page : Page) → IsAt pages number page → length (records_of page) ≤ cap

-- page 0 is live and has the ward's low bound, each page's low bound is the ward's, and no two pages share one
pub record HasLows (ward : List Bool) (pages : List Page) : Type 0 where
  pub first : (page : Page) × IsAt pages 0 page × IsLive page × (low_bound page ≡ low_of ward)
  pub within : (number : ℕ) (page : Page) → IsAt pages number page → Begins ward (low_bound page)
  pub apart : (one other : ℕ) (page twin : Page) → IsAt pages one page → IsAt pages other twin → low_bound page ≡ low_bound twin → one ≡ other

-- no live prefix is shorter than the ward's, and each pseudokey of the ward is begun by one live prefix and only one
pub record HasLeaves (ward : List Bool) (pages : List Page) : Type 0 where
  pub long : (prefix : List Bool) (number : ℕ) → IsLiveAt pages prefix number → length ward ≤ length prefix
  pub home : (pseudokey : ℕ) → pseudokey < 2 ^ 64 → Begins ward pseudokey → (number : ℕ) × (page : Page) × IsAt pages number page × IsHome page pseudokey
  pub one_home : (pseudokey : ℕ) → pseudokey < 2 ^ 64 → Begins ward pseudokey → (one other : ℕ) (page twin : Page) → IsAt pages one page → IsAt pages other twin → IsHome page pseudokey → IsHome twin pseudokey → one ≡ other

-- a live page's right link is the live page with the next greater low bound, or none where there is no such page
abbrev pub HasLinks : List Page → Type 0
HasLinks pages = (number : ℕ) (prefix : List Bool) (right : Option ℕ) (records : List Record) → IsAt pages number (Live prefix right records) → IsRightLink pages (Live prefix right records) right

-- a forwarding page's target is the page whose low bound is its own with the lowest set bit cleared
abbrev pub HasTargets : List Page → Type 0
HasTargets pages = (number low target : ℕ) → IsAt pages number (Forward low target) → IsTarget pages low target

-- ---- the reasons of a ward

-- the reason doesn't hold of a ward's prefix, table and pages
abbrev pub WardPasses : ℕ → List Bool → TableMap → List Page → Reason → Type 0
WardPasses cap ward table pages Cap = KeepsCap cap pages
WardPasses cap ward table pages LowBounds = HasLows ward pages
WardPasses cap ward table pages Leaves = HasLeaves ward pages
WardPasses cap ward table pages Links = HasLinks pages
WardPasses cap ward table pages Forwards = HasTargets pages
WardPasses cap ward table pages Table = FitsPages ward table pages

-- ---- the reasons of a file

-- the reason doesn't hold of the file
abbrev pub ReasonPasses : FileParts → Reason → Type 0
ReasonPasses parts Cap = OfEachWard parts (λ ward table pages. KeepsCap parts.cap pages)
ReasonPasses parts LowBounds = OfEachWard parts (λ ward table pages. HasLows ward pages)
ReasonPasses parts Leaves = OfEachWard parts (λ ward table pages. HasLeaves ward pages)
ReasonPasses parts Links = OfEachWard parts (λ ward table pages. HasLinks pages)
ReasonPasses parts Forwards = OfEachWard parts (λ ward table pages. HasTargets pages)
ReasonPasses parts Table = OfEachWard parts FitsPages × HasNoStrays parts

-- the place of a reason in the order in which they are tested
abbrev pub rank_of : Reason → ℕ
rank_of Cap = 1
rank_of LowBounds = 2
rank_of Leaves = 3
rank_of Links = 4
rank_of Forwards = 5
rank_of Table = 6

-- the first reason that doesn't pass, or none where all do
abbrev pub IsFirstUnpassed : (Reason → Type 0) → Option Reason → Type 0
IsFirstUnpassed Passed None = (reason : Reason) → Passed reason
IsFirstUnpassed Passed (Some reason) = (Passed reason → ⊥) × ((earlier : Reason) → rank_of earlier < rank_of reason → Passed earlier)

abbrev pub IsFirstOfWard : ℕ → List Bool → TableMap → List Page → Option Reason → Type 0
IsFirstOfWard cap ward table pages found = IsFirstUnpassed (WardPasses cap ward table pages) found

abbrev pub IsFirstReason : FileParts → Option Reason → Type 0
IsFirstReason parts found = IsFirstUnpassed (ReasonPasses parts) found

-- of two reasons the one that is tested first
abbrev pub lesser_of : Option Reason → Option Reason → Option Reason
lesser_of None other = other
lesser_of (Some one) None = Some one
lesser_of (Some one) (Some other) = cond (nat_le (rank_of one) (rank_of other)) (Some one) (Some other)
