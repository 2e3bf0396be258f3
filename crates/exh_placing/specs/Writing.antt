-- A page file of version 3 that is written place by place.
use Rattle.std.specs.Prelude.{◌≡◌, ℕ, ◌+◌, ◌≤◌, ◌%◌, nat_eq, if◌then◌else◌, List, [], ◌++◌, length, take, drop, slice_get, Some}
use Rattle.std.specs.List.{flat_map, range_with_len}
use Rattle.std.specs.Option.{option_map_or}
use Rattle.exh_page.specs.declared.page.Page.{Page}
use Rattle.exh_cells.specs.PageFile.{page_block}
use Rattle.exh_cells.specs.declared.cell.Cell.{Cell}
use Rattle.exh_cells.specs.declared.places.TheConstants.{GROUP_PAGES}
use Rattle.exh_cells.specs.PlacedFile.{PlacedFile, placed_bytes, stamped_block, walk_block}

-- what stands before the block of the page at a place: where a group begins its walk block
abbrev pub opening : List Cell → ℕ → List ℕ
opening cells place = if nat_eq (place % GROUP_PAGES) 0 then walk_block (take GROUP_PAGES (drop place cells)) else []

-- that and the block of the page there, if there is one
abbrev pub place_bytes : List Page → List Cell → ℕ → List ℕ
place_bytes pages cells place = opening cells place ++ option_map_or page_block (slice_get pages place) []

-- the header's block and those of the first places, so many
abbrev pub bytes_to : PlacedFile → ℕ → List ℕ
bytes_to file places = stamped_block file.header ++ flat_map (place_bytes file.pages file.cells) (range_with_len 0 places)

-- the header's block comes first
abbrev pub HeadersBegin : Type 0
HeadersBegin = (file : PlacedFile) → bytes_to file 0 ≡ stamped_block file.header

-- one place more
abbrev pub PlacesFollow : Type 0
PlacesFollow = (file : PlacedFile) (place : ℕ) (page : Page) → slice_get file.pages place ≡ Some page → bytes_to file (place + 1) ≡ bytes_to file place ++ (opening file.cells place ++ page_block page)

-- those of all places are the file's bytes
abbrev pub PlacesMakeFile : Type 0
PlacesMakeFile = (file : PlacedFile) → bytes_to file (length file.pages) ≡ placed_bytes file

-- and behind those of some places there is a rest
abbrev pub PlacesBeginFile : Type 0
PlacesBeginFile = (file : PlacedFile) (places : ℕ) → places ≤ length file.pages → (rest : List ℕ) × (placed_bytes file ≡ bytes_to file places ++ rest)
