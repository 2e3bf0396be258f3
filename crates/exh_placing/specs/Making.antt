-- What the parts of a cell are made of.
use Rattle.std.specs.Prelude.{◌≡◌, ◌≢◌, ◌↔◌, ℕ, ◌<◌, Bool, true, List, [], ◌∷◌, ◌++◌, length, take, slice_get, Option, None, Some, IsSome}
use Rattle.std.specs.BTreeMap.{is_at}
use Rattle.std.specs.FinMap.{get}
use Rattle.std.specs.Map.{lookup}
use Rattle.std.specs.Option.{option_map}
use Rattle.std.specs.Ordering.{nat_cmp}
use Rattle.exh_prefix.specs.declared.prefix.TheConstants.{LIMIT}
use Rattle.exh_prefix.specs.Bits.{word_bits}
use Rattle.exh_prefix.specs.Prefix.{HasPrefix, low_of}
use Rattle.exh_notice.specs.declared.entry.Entry.{Entry}
use Rattle.exh_table.specs.Table.{TableMap}
use Rattle.exh_cells.specs.declared.cell.Slot.{Slot}
use Rattle.exh_cells.specs.WalkImage.{IsReadSlot}

-- ---- places by low bounds

-- what the entries have at a low bound
abbrev pub place_in : List (ℕ × ℕ) → ℕ → Option ℕ
place_in entries low = lookup (is_at (nat_cmp low)) entries

-- the entries are the first places, so many, by their pages' low bounds
abbrev pub AreFirstPlaces : List (ℕ × ℕ) → List ℕ → ℕ → Type 0
AreFirstPlaces entries lows count = (low place : ℕ) → (place_in entries low ≡ Some place) ↔ ((place < count) × (slice_get lows place ≡ Some low))

abbrev pub ArePlaces : List (ℕ × ℕ) → List ℕ → Type 0
ArePlaces entries lows = AreFirstPlaces entries lows (length lows)

-- ---- slots

-- what is asked of an entry: its number isn't 0, and its right child's low bound has a place
pub record HasRightPlace (places : List (ℕ × ℕ)) (prefix : List Bool) (entry : Entry) : Type 0 where
  pub short : length prefix < LIMIT
  pub some : entry.number ≢ 0
  pub right : IsSome (place_in places (low_of (prefix ++ true ∷ [])))

abbrev pub HasRightPlaces : List (ℕ × ℕ) → TableMap → Type 0
HasRightPlaces places table = (prefix : List Bool) (entry : Entry) → get table prefix ≡ Some entry → HasRightPlace places prefix entry

-- a slot without an entry: none stands at the prefix of the length that has the low bound, if there is one
pub record TellsNone (table : TableMap) (low len : ℕ) (slot : Slot) : Type 0 where
  pub page : slot.page ≡ 0
  pub absent : HasPrefix len low → get table (take len (word_bits low)) ≡ None

-- a slot with the number of the entry there, and the place of its right child's low bound
pub record TellsEntry (places : List (ℕ × ℕ)) (table : TableMap) (low len : ℕ) (slot : Slot) : Type 0 where
  pub has_prefix : HasPrefix len low
  pub number : option_map (λ (entry : Entry). entry.number) (get table (take len (word_bits low))) ≡ Some slot.number
  pub page : place_in places (low_of (take len (word_bits low) ++ true ∷ [])) ≡ Some slot.page

pub record IsSlotFor (places : List (ℕ × ℕ)) (table : TableMap) (low len : ℕ) (slot : Slot) : Type 0 where
  pub read : IsReadSlot slot
  pub none : slot.number ≡ 0 → TellsNone table low len slot
  pub some : slot.number ≢ 0 → TellsEntry places table low len slot

abbrev pub AreSlotsFor : List (ℕ × ℕ) → TableMap → ℕ → List Slot → Type 0
AreSlotsFor places table low slots = (len : ℕ) (slot : Slot) → slice_get slots len ≡ Some slot → IsSlotFor places table low len slot
