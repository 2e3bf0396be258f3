-- What cells and the tables that they tell of say of each other.
use Rattle.std.specs.Prelude.{◌≡◌, ℕ, ◌<◌, ◌≤◌, ◌^◌, Bool, List, length, take, slice_get, Some}
use Rattle.std.specs.List.{AllByRecursion}
use Rattle.std.specs.FinMap.{get}
use Rattle.exh_prefix.specs.declared.prefix.TheConstants.{WARD_BITS_LIMIT}
use Rattle.exh_prefix.specs.Bits.{word_bits}
use Rattle.exh_prefix.specs.Leading.{ward_of}
use Rattle.exh_prefix.specs.Prefix.{HasPrefix}
use Rattle.exh_notice.specs.declared.entry.Entry.{Entry}
use Rattle.exh_format.specs.Table.{TableMap}
use Rattle.exh_cells.specs.declared.cell.Cell.{Cell}
use Rattle.exh_cells.specs.declared.cell.Slot.{Slot}
use Rattle.exh_cells.specs.Fit.{FitEach}
use Rattle.exh_cells.specs.Told.{AreTablesOf, entry_in}
use Rattle.exh_cells.specs.WalkImage.{IsCell}

-- no two pages share a low bound
abbrev pub AreApart : List ℕ → Type 0
AreApart lows = (one other low : ℕ) → slice_get lows one ≡ Some low → slice_get lows other ≡ Some low → one ≡ other

-- each is a word of 64 bits
abbrev pub AreWords : List ℕ → Type 0
AreWords lows = AllByRecursion (λ low. low < 2 ^ 64) lows

-- cells that fit pages, each of its own low bound, and the tables that they tell of
pub record AreTold (ward_bits : ℕ) (lows : List ℕ) (cells : List Cell) (tables : List TableMap) : Type 0 where
  pub few : ward_bits ≤ WARD_BITS_LIMIT
  pub apart : AreApart lows
  pub words : AreWords lows
  pub all : length cells ≡ length lows
  pub valid : AllByRecursion IsCell cells
  pub fit : FitEach ward_bits lows cells
  pub tables_are : AreTablesOf ward_bits lows cells tables

-- a slot of a page
pub record IsSlotOf (ward_bits : ℕ) (lows : List ℕ) (cells : List Cell) (ward : ℕ) (prefix : List Bool) (slot : Slot) : Type 0 where
  pub place : ℕ
  pub low : ℕ
  pub cell : Cell
  pub len : ℕ
  pub page_is : slice_get lows place ≡ Some low
  pub cell_is : slice_get cells place ≡ Some cell
  pub slot_is : slice_get cell.slots len ≡ Some slot
  -- the page is the ward's, and the prefix has its low bound
  pub ward_is : ward_of ward_bits low ≡ ward
  pub has_prefix : HasPrefix len low
  pub prefix_is : prefix ≡ take len (word_bits low)

-- what a ward's table has at a prefix is what the slot of that length tells, of the page that has its low bound
abbrev pub SlotsAreEntries : Type 0
SlotsAreEntries = (ward_bits : ℕ) (lows : List ℕ) (cells : List Cell) (tables : List TableMap) (ward : ℕ) (table : TableMap) (prefix : List Bool) (slot : Slot)
    → AreTold ward_bits lows cells tables → slice_get tables ward ≡ Some table → IsSlotOf ward_bits lows cells ward prefix slot → get table prefix ≡ entry_in cells slot

-- and each entry is that of such a slot
abbrev pub EntriesHaveSlots : Type 0
EntriesHaveSlots = (ward_bits : ℕ) (lows : List ℕ) (cells : List Cell) (tables : List TableMap) (ward : ℕ) (table : TableMap) (prefix : List Bool) (entry : Entry)
    → AreTold ward_bits lows cells tables → slice_get tables ward ≡ Some table → get table prefix ≡ Some entry → (slot : Slot) × IsSlotOf ward_bits lows cells ward prefix slot × (entry_in cells slot ≡ Some entry)

-- cells tell of one list of tables
abbrev pub CellsTellTables : Type 0
CellsTellTables = (ward_bits : ℕ) (lows : List ℕ) (cells : List Cell) (tables others : List TableMap) → AreTablesOf ward_bits lows cells tables → AreTablesOf ward_bits lows cells others → tables ≡ others

-- and tables are told by one list of cells
abbrev pub TablesTellCells : Type 0
TablesTellCells = (ward_bits : ℕ) (lows : List ℕ) (cells others : List Cell) (tables : List TableMap) → AreTold ward_bits lows cells tables → AreTold ward_bits lows others tables → cells ≡ others

-- tables, one for each ward, that have at the prefix of each slot what it tells, and no entry elsewhere
pub record AreMatched (ward_bits : ℕ) (lows : List ℕ) (cells : List Cell) (tables : List TableMap) : Type 0 where
  pub count : length tables ≡ 2 ^ ward_bits
  pub slots : (ward : ℕ) (table : TableMap) (prefix : List Bool) (slot : Slot) → slice_get tables ward ≡ Some table → IsSlotOf ward_bits lows cells ward prefix slot → get table prefix ≡ entry_in cells slot
  pub entries : (ward : ℕ) (table : TableMap) (prefix : List Bool) (entry : Entry) → slice_get tables ward ≡ Some table → get table prefix ≡ Some entry → (slot : Slot) × IsSlotOf ward_bits lows cells ward prefix slot

-- the other way round: such tables are those that the cells tell of
abbrev pub MatchedTablesAreTold : Type 0
MatchedTablesAreTold = (ward_bits : ℕ) (lows : List ℕ) (cells : List Cell) (tables : List TableMap) → FitEach ward_bits lows cells → AreMatched ward_bits lows cells tables → AreTablesOf ward_bits lows cells tables
