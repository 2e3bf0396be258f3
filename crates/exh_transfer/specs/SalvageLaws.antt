-- Of a legal page file, of any version, a salvage of all blocks saves just the pairs of its pages, in the order of the blocks.
use Rattle.std.specs.Prelude.{◌≡◌, ◌⊎◌, ℕ, Bool, ◌*◌, ◌^◌, ◌<◌, List, flat_map, length, map}
use Rattle.std.specs.FinMap.{from_entries}
use Rattle.std.specs.List.{AllByRecursion}
use Rattle.exh_prefix.specs.declared.version.Version.{Version as KnownVersion}
use Rattle.exh_table.specs.Table.{TableMap}
use Rattle.exh_page.specs.declared.page.Page.{Page}
use Rattle.exh_legal.specs.Pages.{map_of}
use Rattle.exh_codec.specs.declared.block.TheConstants.{BLOCK_LEN}
use Rattle.exh_salvage.specs.SavedBlock.{pairs_of}
use Rattle.exh_salvage.specs.Salvage.{IsSalvage}
use Rattle.exh_salvage.specs.WholeLaws.{both_of}
use Rattle.exh_salvage.specs.declared.salvage.Salvage.{Salvage}
use Rattle.exh_format.specs.FileVersion.{file_version}
use Rattle.exh_format.specs.LegalFile.{IsLegalPageFile}
use Rattle.exh_format.specs.PageFile.{PageFile, pages_of}
use Rattle.exh_cells.specs.LegalPlaced.{IsLegalPlacedFile}
use Rattle.exh_cells.specs.PlacedFile.{PlacedFile}
use Rattle.exh_compact.specs.LegalBytes.{IsLegalBytes, SaysPlaced}
use Rattle.exh_compact.specs.FileChange.{HasMap}
use Rattle.exh_compact.specs.Opened.{OpenedState}
use Rattle.exh_compact.specs.Opening.{IsOpenedFile}
use Rattle.exh_map.specs.Pairs.{AreOnce}

-- all blocks of the bytes were gone through, and each could be read
pub record IsOfAll (bytes : List ℕ) (salvage : Salvage) : Type 0 where
  pub count : ℕ
  pub all : length bytes ≡ BLOCK_LEN * count
  pub failed : ℕ → Bool
  pub is : IsSalvage failed bytes count salvage
  pub read : salvage.unread ≡ 0

-- just the pages' pairs are saved, and no block is lost
pub record SavesJust (pages : List Page) (salvage : Salvage) : Type 0 where
  pub pairs : map both_of salvage.pairs.items ≡ flat_map pairs_of pages
  pub lost : salvage.lost ≡ 0

-- of version 3
abbrev pub PlacedFilesAreSaved : Type 0
PlacedFilesAreSaved = (file : PlacedFile) (tables : List TableMap) (bytes : List ℕ) (salvage : Salvage) → IsLegalPlacedFile file tables bytes → IsOfAll bytes salvage → SavesJust file.pages salvage

-- each number of a change is below 2^30: from there on a block of the table may be a page's image too
abbrev pub HasFewChanges : PageFile → Type 0
HasFewChanges file = AllByRecursion (λ item. item.entry.number < 2 ^ 30) file.entries

-- of version 1 or 2
abbrev pub PlainFilesAreSaved : Type 0
PlainFilesAreSaved = (version : KnownVersion) (file : PageFile) (bytes : List ℕ) (salvage : Salvage) → IsLegalPageFile (file_version version) file bytes → HasFewChanges file → IsOfAll bytes salvage
    → SavesJust (pages_of file.wards) salvage

-- the saved pairs are those of the file's map, each key once, which is the map that the wards have together that opening it gives
pub record SavesMap (file : PageFile) (salvage : Salvage) : Type 0 where
  pub map_is : from_entries (map both_of salvage.pairs.items) ≡ map_of (pages_of file.wards)
  pub once : AreOnce (map both_of salvage.pairs.items)
  pub has : (opened : OpenedState) → IsOpenedFile file opened → HasMap opened (from_entries (map both_of salvage.pairs.items))

-- of any version
abbrev pub MapsAreSaved : Type 0
MapsAreSaved = (file : PageFile) (bytes : List ℕ) (salvage : Salvage) → IsLegalBytes file bytes → SaysPlaced bytes ⊎ HasFewChanges file → IsOfAll bytes salvage → SavesMap file salvage
