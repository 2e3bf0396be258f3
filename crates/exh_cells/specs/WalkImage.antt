-- Walk blocks: the cells of a group's pages, one after the other, and their slots.
use Rattle.std.specs.Prelude.{◌≡◌, ℕ, ◌^◌, ◌<◌, ◌≤◌, List, ◌++◌, length}
use Rattle.std.specs.List.{AllByRecursion, flat_map}
use Rattle.byteorder.specs.Endian.{big_bytes}
use Rattle.exh_codec.specs.declared.block.TheConstants.{CONTENT_LEN}
use Rattle.exh_codec.specs.Block.{sealed}
use Rattle.exh_codec.specs.PageImage.{padded}
use Rattle.exh_cells.specs.declared.cell.Cell.{Cell}
use Rattle.exh_cells.specs.declared.cell.Slot.{Slot}
use Rattle.exh_cells.specs.declared.cell.TheConstants.{SLOTS}
use Rattle.exh_cells.specs.declared.places.TheConstants.{GROUP_PAGES}

-- ---- cells

-- any two numbers of four bytes
pub record IsReadSlot (slot : Slot) : Type 0 where
  pub number : slot.number < 2 ^ 32
  pub page : slot.page < 2 ^ 32

-- a slot without an entry has no page
abbrev pub IsTidySlot : Slot → Type 0
IsTidySlot slot = slot.number ≡ 0 → slot.page ≡ 0

-- a cell as any bytes say one
pub record IsRead (cell : Cell) : Type 0 where
  pub number : cell.number < 2 ^ 32
  pub count : length cell.slots ≡ SLOTS
  pub slots : AllByRecursion IsReadSlot cell.slots

abbrev pub IsTidy : Cell → Type 0
IsTidy cell = AllByRecursion IsTidySlot cell.slots

-- a cell that a file may have
pub record IsCell (cell : Cell) : Type 0 where
  pub read : IsRead cell
  pub tidy : IsTidy cell

-- ---- their bytes

-- number and page, the highest byte first
abbrev pub slot_bytes : Slot → List ℕ
slot_bytes slot = big_bytes 4 slot.number ++ big_bytes 4 slot.page

abbrev pub cell_bytes : Cell → List ℕ
cell_bytes cell = big_bytes 4 cell.number ++ flat_map slot_bytes cell.slots

-- the bytes begin with those of so many cells, as any bytes say some, and then come the others
pub record AreCells (count : ℕ) (bytes : List ℕ) (cells : List Cell) (rest : List ℕ) : Type 0 where
  pub all : length cells ≡ count
  pub read : AllByRecursion IsRead cells
  pub whole : bytes ≡ flat_map cell_bytes cells ++ rest

-- the block is the image of at most 24 cells
pub record IsWalkImage (cells : List Cell) (block : List ℕ) : Type 0 where
  pub few : length cells ≤ GROUP_PAGES
  pub valid : AllByRecursion IsCell cells
  pub whole : block ≡ sealed (padded CONTENT_LEN (flat_map cell_bytes cells))
