-- A store of pages: what its calls leave of it.
pub use Rattle.exh_codec.specs.PageHead.{HasHead}
use Rattle.std.specs.Prelude.{◌≡◌, ℕ, ◌<◌, ◌↔◌, List, slice_get, Option, Some, Result, Ok, Err}
use Rattle.exh_codec.specs.declared.Page.{Page}
use Rattle.exh_stores.specs.declared.pages_fault.PagesFault.{PagesFault}
use Rattle.exh_stores.specs.declared.pages_fault.PagesFault.TheVariants.{Memory, Page as OutOfReach}

-- what holds of the page of a number, if there is one
abbrev pub IfPage : List Page → ℕ → (Page → Type 0) → Type 0
IfPage pages number P = (page : Page) → slice_get pages number ≡ Some page → P page

-- the page of a number is at hand, as a store that keeps one has it
abbrev pub IsAtHand : Option (ℕ × Page) → List Page → ℕ → Type 0
IsAtHand kept pages number = (page : Page) × (kept ≡ Some (number, page)) × (slice_get pages number ≡ Some page)

-- the count of failures rises where a call answers a page fault, and only there
abbrev pub CountsFaults : {T : Type 0} → Result T PagesFault → ℕ → ℕ → Type 0
CountsFaults (Ok value) old new = new ≡ old
CountsFaults (Err Memory) old new = new ≡ old
CountsFaults (Err OutOfReach) old new = old < new

-- what a store takes never changes
abbrev pub TakesTheSame : {S : Type 0} → (S → Page → Type 0) → S → S → Type 0
TakesTheSame takes old new = (page : Page) → takes old page ↔ takes new page
