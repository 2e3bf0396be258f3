-- A file of version 3 that is made of wards, their tables and an order of their pages.
use Rattle.std.specs.Prelude.{◌≡◌, ℕ, ◌<◌, ◌^◌, List, [], length, map, get_or, slice_get, slice_index, Some}
use Rattle.std.specs.List.{flat_map}
use Rattle.std.specs.Option.{option_to_list}
use Rattle.exh_prefix.specs.Version.{second_version}
use Rattle.exh_keyer.specs.declared.any_keyer.AnyKeyer.{AnyKeyer}
use Rattle.exh_keyer.specs.Pseudokey.{any_pseudokey}
use Rattle.exh_table.specs.Table.{TableMap}
use Rattle.exh_page.specs.declared.page.Page.{Page}
use Rattle.exh_legal.specs.LegalParts.{parts_of}
use Rattle.exh_legal.specs.ReasonLaws.{IsLegalFile}
use Rattle.exh_codec.specs.PageImage.{IsPage}
use Rattle.exh_cells.specs.declared.fit.TheConstants.{COUNTS_LEN}
use Rattle.exh_cells.specs.CellLaws.{AreTold}
use Rattle.exh_cells.specs.LegalPlaced.{HasTables, IsLegalPlaced, wards_of}
use Rattle.exh_cells.specs.PlacedFile.{IsPlaced, PlacedFile, lows_of}
use Rattle.exh_cells.specs.StampedHeader.{IsStampedHeader}
use Rattle.exh_placing.specs.declared.page_at.PageAt.{PageAt}
use Rattle.exh_placing.specs.Order.{BeginsWithFirsts, IsOrderOf}

-- the pages of wards in an order
pub record ArePagesOf (wards : List (List Page)) (order : List PageAt) (pages : List Page) : Type 0 where
  pub count : length pages ≡ length order
  pub each : (place : ℕ) (at : PageAt) → slice_get order place ≡ Some at → slice_get pages place ≡ slice_get (get_or wards at.ward []) at.number

-- those that there are, one after the other
abbrev pub pages_named : List (List Page) → List PageAt → List Page
pages_named wards order = flat_map (λ at. option_to_list (slice_get (get_or wards at.ward []) at.number)) order

-- the file has the pages in the order, their counts, and cells that tell of the tables
pub record IsFileOfWards (wards : List (List Page)) (tables : List TableMap) (order : List PageAt) (file : PlacedFile) : Type 0 where
  pub count : length wards ≡ 2 ^ file.header.settings.ward_bits
  pub order_is : IsOrderOf (map length wards) order
  pub firsts : BeginsWithFirsts (length wards) order
  pub pages_are : ArePagesOf wards order file.pages
  pub counts_are : (ward : ℕ) → ward < COUNTS_LEN → slice_index file.header.page_counts ward ≡ get_or (map length wards) ward 0
  pub cells_are : AreTold file.header.settings.ward_bits (lows_of file.pages) file.cells tables

-- each page of the wards has an image
abbrev pub HaveImages : AnyKeyer → List (List Page) → Type 0
HaveImages keyer wards = (ward number : ℕ) (own : List Page) (page : Page) → slice_get wards ward ≡ Some own → slice_get own number ≡ Some page → IsPage second_version (any_pseudokey keyer) page

-- the file of wards whose pages have images has bytes
abbrev pub FilesOfWardsArePlaced : Type 0
FilesOfWardsArePlaced = (wards : List (List Page)) (tables : List TableMap) (order : List PageAt) (file : PlacedFile) → IsStampedHeader file.header → HaveImages file.header.settings.keyer wards → IsFileOfWards wards tables order file → IsPlaced file

-- a legal file of these wards and tables, which are read from it
pub record IsLegalFileOf (wards : List (List Page)) (tables : List TableMap) (file : PlacedFile) : Type 0 where
  pub legal : IsLegalPlaced file tables
  pub wards_are : wards_of file ≡ wards
  pub tables_are : (others : List TableMap) → HasTables file others → others ≡ tables

-- of legal wards comes a legal file
abbrev pub LegalWardsGiveFiles : Type 0
LegalWardsGiveFiles = (wards : List (List Page)) (tables : List TableMap) (order : List PageAt) (file : PlacedFile)
    → IsLegalFile (any_pseudokey file.header.settings.keyer) (parts_of file.header.settings.cap file.header.settings.ward_bits wards tables) → IsFileOfWards wards tables order file → IsLegalFileOf wards tables file
