-- Page files of version 3 of which a page, a cell or the header is another, or that have a page more.
use Rattle.std.specs.Prelude.{ℕ, ◌+◌, ◌*◌, List, [], ◌∷◌, ◌++◌, take, drop, slice_index, slice_set}
use Rattle.exh_page.specs.declared.page.Page.{Page}
use Rattle.exh_cells.specs.declared.cell.Cell.{Cell}
use Rattle.exh_cells.specs.declared.places.TheConstants.{GROUP_PAGES}
use Rattle.exh_cells.specs.declared.stamped_header.StampedHeader.{StampedHeader}
use Rattle.exh_cells.specs.PlacedFile.{PlacedFile}

-- ---- files

abbrev pub with_header : StampedHeader → PlacedFile → PlacedFile
with_header header file = record file { header = header }

-- the page at a place is this one
abbrev pub with_page : ℕ → Page → PlacedFile → PlacedFile
with_page place page file = record file { pages = slice_set file.pages place page }

-- the cell of the page at a place is this one
abbrev pub with_cell : ℕ → Cell → PlacedFile → PlacedFile
with_cell place cell file = record file { cells = slice_set file.cells place cell }

-- the header counts one page more of a ward
abbrev pub counted_more : ℕ → StampedHeader → StampedHeader
counted_more ward header = record header { page_counts = slice_set header.page_counts ward (slice_index header.page_counts ward + 1) }

-- a page more, of a ward, with its cell, behind the others
abbrev pub with_more : ℕ → Page → Cell → PlacedFile → PlacedFile
with_more ward page cell file = record { header = counted_more ward file.header; pages = file.pages ++ page ∷ []; cells = file.cells ++ cell ∷ [] }

-- ---- their walk blocks

-- the cells of a group
abbrev pub group_cells : ℕ → List Cell → List Cell
group_cells group cells = take GROUP_PAGES (drop (GROUP_PAGES * group) cells)
