-- A whole page file of version 3: what it says, and the bytes that say it.
use Rattle.std.specs.Prelude.{◌≡◌, ℕ, zero, suc, List, [], ◌++◌, length, map, take, drop}
use Rattle.std.specs.List.{AllByRecursion, flat_map, sum}
use Rattle.exh_prefix.specs.Version.{second_version}
use Rattle.exh_keyer.specs.Pseudokey.{any_pseudokey}
use Rattle.exh_format.specs.declared.Page.{Page}
use Rattle.exh_format.specs.Page.{low_bound}
use Rattle.exh_codec.specs.declared.block.TheConstants.{CONTENT_LEN}
use Rattle.exh_codec.specs.Block.{sealed}
use Rattle.exh_codec.specs.PageImage.{IsPage, padded}
use Rattle.exh_format.specs.PageFile.{page_block}
use Rattle.exh_cells.specs.declared.cell.Cell.{Cell}
use Rattle.exh_cells.specs.declared.places.TheConstants.{GROUP_PAGES}
use Rattle.exh_cells.specs.declared.stamped_header.StampedHeader.{StampedHeader}
use Rattle.exh_cells.specs.Places.{groups_of}
use Rattle.exh_cells.specs.StampedHeader.{IsStampedHeader, stamped_bytes}
use Rattle.exh_cells.specs.WalkImage.{IsCell, cell_bytes}

-- its header, and its pages and their cells in the order of their places
pub record PlacedFile : Type 0 where
  pub header : StampedHeader
  pub pages : List Page
  pub cells : List Cell

abbrev pub lows_of : List Page → List ℕ
lows_of pages = map low_bound pages

-- ---- its blocks

unfoldable pub stamped_block : StampedHeader → List ℕ
stamped_block header = sealed (padded CONTENT_LEN (stamped_bytes header))

unfoldable pub walk_block : List Cell → List ℕ
walk_block cells = sealed (padded CONTENT_LEN (flat_map cell_bytes cells))

-- so many groups: each is a walk block and behind it its pages, as many as there is room for, in the last the others
abbrev pub group_bytes : ℕ → List Page → List Cell → List ℕ
group_bytes zero pages cells = []
group_bytes (suc groups) pages cells =
    walk_block (take GROUP_PAGES cells) ++ (flat_map page_block (take GROUP_PAGES pages) ++ group_bytes groups (drop GROUP_PAGES pages) (drop GROUP_PAGES cells))

-- ---- its bytes

-- the header tells how many pages there are, and each has a cell
pub record IsPlaced (file : PlacedFile) : Type 0 where
  pub header : IsStampedHeader file.header
  pub count : length file.pages ≡ sum file.header.page_counts
  pub all : length file.cells ≡ length file.pages
  pub pages : AllByRecursion (IsPage second_version (any_pseudokey file.header.settings.keyer)) file.pages
  pub cells : AllByRecursion IsCell file.cells

abbrev pub placed_bytes : PlacedFile → List ℕ
placed_bytes file = stamped_block file.header ++ group_bytes (groups_of (length file.pages)) file.pages file.cells

-- the bytes are those of the file
pub record IsPlacedFile (file : PlacedFile) (bytes : List ℕ) : Type 0 where
  pub valid : IsPlaced file
  pub whole : bytes ≡ placed_bytes file
