-- What reads of a page file of version 3 give: contracts of private functions.
use Rattle.std.specs.Prelude.{◌≡◌, ℕ, suc, ◌+◌, ◌-◌, ◌*◌, ◌^◌, ◌<◌, ◌⊎◌, min, List, ◌++◌, Option, Some, length, slice_get}
use Rattle.std.specs.Io.KnownBytes.{Consumes}
use Rattle.std.specs.List.{AllByRecursion, flat_map}
use Rattle.exh_prefix.specs.Version.{second_version}
use Rattle.exh_keyer.specs.declared.any_keyer.AnyKeyer.{AnyKeyer}
use Rattle.exh_keyer.specs.Pseudokey.{any_pseudokey}
use Rattle.exh_page.specs.declared.page.Page.{Page}
use Rattle.exh_page.specs.declared.file_settings.FileSettings.{FileSettings}
use Rattle.exh_codec.specs.PageImage.{IsPage}
use Rattle.exh_format.specs.declared.file_fault.FileFault.{FileFault}
use Rattle.exh_format.specs.FileParts.{TakesFormed}
use Rattle.exh_format.specs.FileTests.{NextFails}
use Rattle.exh_format.specs.PageFile.{page_block}
use Rattle.exh_format.specs.Reading.{AreBytes, FailsInPages, GivesPages}
use Rattle.exh_cells.specs.declared.cell.Cell.{Cell}
use Rattle.exh_cells.specs.declared.places.TheConstants.{GROUP_PAGES}
use Rattle.exh_cells.specs.LegalPlaced.{pages_of_ward}
use Rattle.exh_cells.specs.PlacedFile.{group_bytes, lows_of, walk_block}
use Rattle.exh_cells.specs.WalkImage.{IsCell, IsWalkImage}
use Rattle.exh_versions.specs.declared.placed_pages.PlacedPages.{PlacedPages}
use Rattle.exh_versions.specs.PlacedTests.{WalkFails}

-- ---- pages that were put

-- these pages were put, in this order: each ward has those that are its own, and takes others
pub record ArePlaced {W : Type 0} (own : W → List Page) (Takes : W → Page → Type 0) (settings : FileSettings AnyKeyer) (pages : List Page) (placed : PlacedPages W) : Type 0 where
  pub count : length placed.wards.items ≡ 2 ^ settings.ward_bits
  pub each : (number : ℕ) (ward : W) → slice_get placed.wards.items number ≡ Some ward → own ward ≡ pages_of_ward settings.ward_bits pages number
  pub taking : (number : ℕ) (ward : W) → slice_get placed.wards.items number ≡ Some ward → TakesFormed Takes (any_pseudokey settings.keyer) ward
  pub lows : placed.lows.items ≡ lows_of pages

-- some were
abbrev pub HasPlaced : {W : Type 0} → (W → List Page) → (W → Page → Type 0) → FileSettings AnyKeyer → PlacedPages W → Type 0
HasPlaced own Takes settings placed = (pages : List Page) × ArePlaced own Takes settings pages placed

-- these were put behind the others
abbrev pub AddsPages : {W : Type 0} → (W → List Page) → (W → Page → Type 0) → FileSettings AnyKeyer → List Page → PlacedPages W → PlacedPages W → Type 0
AddsPages own Takes settings pages old new = (before : List Page) → ArePlaced own Takes settings before old → ArePlaced own Takes settings (before ++ pages) new

-- so many pages were given, and put
pub record ReadsPages {W : Type 0} (own : W → List Page) (Takes : W → Page → Type 0) (settings : FileSettings AnyKeyer) (old new : Option (List ℕ)) (count : ℕ) (was now : PlacedPages W) : Type 0 where
  pub pages : List Page
  pub all : length pages ≡ count
  pub given : GivesPages second_version (any_pseudokey settings.keyer) old new pages
  pub adds : AddsPages own Takes settings pages was now

-- ---- groups

-- the blocks of a group were given
pub record GivesGroup (pseudo : List ℕ → ℕ) (old new : Option (List ℕ)) (pages : List Page) (cells : List Cell) : Type 0 where
  pub given : Consumes old new (walk_block cells ++ flat_map page_block pages)
  pub are_bytes : AreBytes (walk_block cells ++ flat_map page_block pages)
  pub pages_valid : AllByRecursion (IsPage second_version pseudo) pages
  pub cells_valid : AllByRecursion IsCell cells

-- and its pages put
pub record ReadsGroup {W : Type 0} (own : W → List Page) (Takes : W → Page → Type 0) (settings : FileSettings AnyKeyer) (old new : Option (List ℕ)) (count : ℕ) (was now : PlacedPages W) (cells : List Cell) : Type 0 where
  pub pages : List Page
  pub all : length pages ≡ count
  pub count_is : length cells ≡ count
  pub given : GivesGroup (any_pseudokey settings.keyer) old new pages cells
  pub adds : AddsPages own Takes settings pages was now

-- the blocks of so many groups were given
pub record GivesGroups (pseudo : List ℕ → ℕ) (old new : Option (List ℕ)) (groups : ℕ) (pages : List Page) (cells : List Cell) : Type 0 where
  pub given : Consumes old new (group_bytes groups pages cells)
  pub are_bytes : AreBytes (group_bytes groups pages cells)
  pub pages_valid : AllByRecursion (IsPage second_version pseudo) pages
  pub cells_valid : AllByRecursion IsCell cells

-- and their pages, so many, were put
pub record ReadsGroups {W : Type 0} (own : W → List Page) (Takes : W → Page → Type 0) (settings : FileSettings AnyKeyer) (old new : Option (List ℕ)) (groups count : ℕ) (now : PlacedPages W) (cells : List Cell) : Type 0 where
  pub pages : List Page
  pub all : length pages ≡ count
  pub count_is : length cells ≡ count
  pub given : GivesGroups (any_pseudokey settings.keyer) old new groups pages cells
  pub placed : ArePlaced own Takes settings pages now

-- ---- groups that fail

-- behind a walk block of so many cells stand pages of which one is cut short or fails
pub record FailsBehindCells (pseudo : List ℕ → ℕ) (place count : ℕ) (bytes : List ℕ) (fault : FileFault) : Type 0 where
  pub cells : List Cell
  pub rest : List ℕ
  pub image : IsWalkImage cells (walk_block cells)
  pub all : length cells ≡ count
  pub whole : bytes ≡ walk_block cells ++ rest
  pub fails : FailsInPages second_version pseudo (suc place) count rest fault

-- the walk block of a group is cut short or fails, or a page behind it
abbrev pub FailsInGroup : (List ℕ → ℕ) → ℕ → ℕ → List ℕ → FileFault → Type 0
FailsInGroup pseudo place count bytes fault = NextFails (WalkFails place count) bytes fault ⊎ FailsBehindCells pseudo place count bytes fault

-- behind some full groups, of fewer pages than there are to be, stands one that is cut short or fails
pub record FailsInGroups (pseudo : List ℕ → ℕ) (place count : ℕ) (bytes : List ℕ) (fault : FileFault) : Type 0 where
  pub groups : ℕ
  pub pages : List Page
  pub cells : List Cell
  pub rest : List ℕ
  pub fewer : GROUP_PAGES * groups < count
  pub full : length pages ≡ GROUP_PAGES * groups
  pub all : length cells ≡ GROUP_PAGES * groups
  pub whole : bytes ≡ group_bytes groups pages cells ++ rest
  pub are_bytes : AreBytes (group_bytes groups pages cells)
  pub pages_valid : AllByRecursion (IsPage second_version pseudo) pages
  pub cells_valid : AllByRecursion IsCell cells
  pub fails : FailsInGroup pseudo (place + (GROUP_PAGES + 1) * groups) (min GROUP_PAGES (count - GROUP_PAGES * groups)) rest fault
