-- What edits of a page file of version 3 are as edits of its blocks, and which block stands where.
use Rattle.std.specs.Prelude.{◌≡◌, ℕ, ◌*◌, ◌<◌, List, ◌∷◌, [], ◌++◌, length, slice_get, slice_set, Some}
use Rattle.std.specs.List.{sum}
use Rattle.exh_prefix.specs.Version.{second_version}
use Rattle.exh_keyer.specs.Pseudokey.{any_pseudokey}
use Rattle.exh_page.specs.declared.page.Page.{Page}
use Rattle.exh_codec.specs.declared.block.TheConstants.{BLOCK_LEN}
use Rattle.exh_codec.specs.PageImage.{IsPage}
use Rattle.exh_cells.specs.FileTests.{IsWhole, block_at}
use Rattle.exh_cells.specs.PageFile.{page_block}
use Rattle.exh_cells.specs.declared.cell.Cell.{Cell}
use Rattle.exh_cells.specs.declared.places.TheConstants.{GROUP_PAGES}
use Rattle.exh_cells.specs.declared.stamped_header.StampedHeader.{StampedHeader}
use Rattle.exh_cells.specs.Places.{end_block_of, group_in, page_block_of, walk_block_of}
use Rattle.exh_cells.specs.PlacedFile.{IsPlacedFile, PlacedFile, stamped_block, walk_block}
use Rattle.exh_cells.specs.StampedHeader.{IsStampedHeader}
use Rattle.exh_cells.specs.WalkImage.{IsCell}
use Rattle.exh_edits.specs.BlockEdits.{with_block}
use Rattle.exh_edits.specs.PlacedEdits.{counted_more, group_cells, with_cell, with_header, with_more, with_page}

-- a page may stand in the file
abbrev pub FitsFile : PlacedFile → Page → Type 0
FitsFile file page = IsPage second_version (any_pseudokey file.header.settings.keyer) page

-- ---- which block stands where

pub record StandsAt (bytes : List ℕ) (place : ℕ) (block : List ℕ) : Type 0 where
  pub whole : IsWhole place bytes
  pub is : block_at place bytes ≡ block

abbrev pub HeadersStand : Type 0
HeadersStand = (file : PlacedFile) (bytes : List ℕ) → IsPlacedFile file bytes → StandsAt bytes 0 (stamped_block file.header)

abbrev pub PagesStand : Type 0
PagesStand = (file : PlacedFile) (bytes : List ℕ) (place : ℕ) (page : Page) → IsPlacedFile file bytes → slice_get file.pages place ≡ Some page → StandsAt bytes (page_block_of place) (page_block page)

abbrev pub WalkBlocksStand : Type 0
WalkBlocksStand = (file : PlacedFile) (bytes : List ℕ) (group : ℕ) → IsPlacedFile file bytes → GROUP_PAGES * group < length file.pages → StandsAt bytes (walk_block_of group) (walk_block (group_cells group file.cells))

-- the file has so many blocks
abbrev pub BlocksAreCounted : Type 0
BlocksAreCounted = (file : PlacedFile) (bytes : List ℕ) → IsPlacedFile file bytes → length bytes ≡ BLOCK_LEN * end_block_of (length file.pages)

-- ---- edits

-- another header, of as many pages, under the same keyer
abbrev pub HeadersChange : Type 0
HeadersChange = (file : PlacedFile) (bytes : List ℕ) (header : StampedHeader)
    → IsPlacedFile file bytes → IsStampedHeader header → sum header.page_counts ≡ length file.pages → header.settings.keyer ≡ file.header.settings.keyer
    → IsPlacedFile (with_header header file) (with_block 0 (stamped_block header) bytes)

abbrev pub PagesChange : Type 0
PagesChange = (file : PlacedFile) (bytes : List ℕ) (place : ℕ) (page : Page)
    → IsPlacedFile file bytes → place < length file.pages → FitsFile file page → IsPlacedFile (with_page place page file) (with_block (page_block_of place) (page_block page) bytes)

abbrev pub CellsChange : Type 0
CellsChange = (file : PlacedFile) (bytes : List ℕ) (place : ℕ) (cell : Cell)
    → IsPlacedFile file bytes → place < length file.pages → IsCell cell
    → IsPlacedFile (with_cell place cell file) (with_block (walk_block_of (group_in place)) (walk_block (group_cells (group_in place) (slice_set file.cells place cell))) bytes)

-- the bytes with a page more: its header, the walk block of the new page's group, which may be new too, and the page
abbrev pub more_bytes : ℕ → Page → Cell → PlacedFile → List ℕ → List ℕ
more_bytes ward page cell file bytes =
    let place = length file.pages in
    with_block (page_block_of place) (page_block page)
    (with_block (walk_block_of (group_in place)) (walk_block (group_cells (group_in place) (file.cells ++ cell ∷ [])))
    (with_block 0 (stamped_block (counted_more ward file.header)) bytes))

abbrev pub PagesAreAdded : Type 0
PagesAreAdded = (file : PlacedFile) (bytes : List ℕ) (ward : ℕ) (page : Page) (cell : Cell)
    → IsPlacedFile file bytes → ward < length file.header.page_counts → IsStampedHeader (counted_more ward file.header) → FitsFile file page → IsCell cell
    → IsPlacedFile (with_more ward page cell file) (more_bytes ward page cell file bytes)
