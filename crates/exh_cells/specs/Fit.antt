-- Cells that fit pages, which are given by their low bounds in the order of their places.
use Rattle.std.specs.Prelude.{◌≡◌, ◌≢◌, ℕ, ◌<◌, ◌^◌, nat_eq, true, List, [], ◌∷◌, ◌++◌, take, count_by, slice_get, slice_index, Some}
use Rattle.exh_prefix.specs.Bits.{word_bits}
use Rattle.exh_prefix.specs.Leading.{ward_of}
use Rattle.exh_prefix.specs.Prefix.{HasPrefix, low_of}
use Rattle.exh_cells.specs.declared.cell.Cell.{Cell}
use Rattle.exh_cells.specs.declared.cell.Slot.{Slot}
use Rattle.exh_cells.specs.declared.fit.TheConstants.{COUNTS_LEN}

-- how many of the pages are a ward's
abbrev pub pages_in : ℕ → ℕ → List ℕ → ℕ
pages_in ward_bits ward lows = count_by (λ low. nat_eq (ward_of ward_bits low) ward) lows

-- the prefix of a length has the low bound, and the page at the place has that of its right child
pub record FitsSlot (lows : List ℕ) (low len page : ℕ) : Type 0 where
  pub prefix : HasPrefix len low
  pub page_is : slice_get lows page ≡ Some (low_of (take len (word_bits low) ++ true ∷ []))

-- each slot with an entry fits, that of the length len being at the place len
abbrev pub FitsSlots : List ℕ → ℕ → List Slot → Type 0
FitsSlots lows low slots = (len : ℕ) (slot : Slot) → slice_get slots len ≡ Some slot → slot.number ≢ 0 → FitsSlot lows low len slot.page

-- each slot with an entry is at a prefix that has the low bound
abbrev pub HasPrefixes : ℕ → List Slot → Type 0
HasPrefixes low slots = (len : ℕ) (slot : Slot) → slice_get slots len ≡ Some slot → slot.number ≢ 0 → HasPrefix len low

-- a cell of the page at a place: its number is how many pages of the ward stand before it
pub record FitsCell (ward_bits : ℕ) (lows : List ℕ) (place low : ℕ) (cell : Cell) : Type 0 where
  pub number : cell.number ≡ pages_in ward_bits (ward_of ward_bits low) (take place lows)
  pub slots : FitsSlots lows low cell.slots

-- each does
abbrev pub FitEach : ℕ → List ℕ → List Cell → Type 0
FitEach ward_bits lows cells = (place low : ℕ) (cell : Cell) → slice_get lows place ≡ Some low → slice_get cells place ≡ Some cell → FitsCell ward_bits lows place low cell

-- the first pages are those of the wards, in their order
abbrev pub BeginWards : ℕ → List ℕ → Type 0
BeginWards ward_bits lows = (place low : ℕ) → place < 2 ^ ward_bits → slice_get lows place ≡ Some low → ward_of ward_bits low ≡ place

-- the pages, the counts of them and the cells belong together
pub record FitsCells (ward_bits : ℕ) (counts lows : List ℕ) (cells : List Cell) : Type 0 where
  pub firsts : BeginWards ward_bits lows
  pub counts_are : (ward : ℕ) → ward < COUNTS_LEN → slice_index counts ward ≡ pages_in ward_bits ward lows
  pub each : FitEach ward_bits lows cells
