-- The tables that cells tell of.
use Rattle.std.specs.Prelude.{◌≡◌, ℕ, ◌%◌, ◌^◌, nat_eq, Bool, if◌then◌else◌, List, [], ◌∷◌, length, map, take, get_or, slice_get, Option, None, Some}
use Rattle.std.specs.List.{flat_map, range_with_len}
use Rattle.std.specs.Option.{option_map_or}
use Rattle.exh_prefix.specs.Bits.{word_bits}
use Rattle.exh_prefix.specs.Leading.{ward_of}
use Rattle.exh_notice.specs.declared.entry.Entry.{Entry}
use Rattle.exh_notice.specs.declared.entry.Kind.{Kind}
use Rattle.exh_notice.specs.declared.entry.Kind.TheVariants.{Merge, Split}
use Rattle.exh_format.specs.Table.{IsTableOf, TableMap}
use Rattle.exh_cells.specs.declared.cell.Cell.{Cell}
use Rattle.exh_cells.specs.declared.cell.Slot.{Slot}

-- ---- a slot's entry

-- the number in its ward of the page at a place
abbrev pub number_at : List Cell → ℕ → ℕ
number_at cells place = get_or (map (λ cell. cell.number) cells) place 0

-- odd exactly for a split; the right page is said by its number in the ward
abbrev pub kind_in : List Cell → Slot → Kind
kind_in cells slot = if nat_eq (slot.number % 2) 1 then Split (number_at cells slot.page) else Merge

-- the entry that a slot tells of, if there is one
abbrev pub entry_in : List Cell → Slot → Option Entry
entry_in cells slot = if nat_eq slot.number 0 then None else Some (record { number = slot.number; kind = kind_in cells slot })

-- ---- what all slots tell

-- the entry of a length stands at the prefix that has so many leading bits of the low bound
abbrev pub told_at : ℕ → ℕ → Option Entry → List (List Bool × Entry)
told_at low len entry = option_map_or (λ entry. (take len (word_bits low), entry) ∷ []) entry []

abbrev pub told_by_slot : List Cell → ℕ → List Slot → ℕ → List (List Bool × Entry)
told_by_slot cells low slots len = option_map_or (λ slot. told_at low len (entry_in cells slot)) (slice_get slots len) []

-- the first slots of a page of a low bound, so many
abbrev pub told_by_slots : List Cell → ℕ → List Slot → ℕ → List (List Bool × Entry)
told_by_slots cells low slots count = flat_map (told_by_slot cells low slots) (range_with_len 0 count)

abbrev pub told_by_cell : List Cell → ℕ → Cell → List (List Bool × Entry)
told_by_cell cells low cell = told_by_slots cells low cell.slots (length cell.slots)

-- the cell at a place, if its page is the ward's
abbrev pub told_by_place : ℕ → ℕ → List ℕ → List Cell → ℕ → List (List Bool × Entry)
told_by_place ward_bits ward lows cells place =
    option_map_or (λ low. if nat_eq (ward_of ward_bits low) ward then option_map_or (told_by_cell cells low) (slice_get cells place) [] else []) (slice_get lows place) []

-- the cells of the ward's pages at the first places, so many
abbrev pub told_by_places : ℕ → ℕ → List ℕ → List Cell → ℕ → List (List Bool × Entry)
told_by_places ward_bits ward lows cells count = flat_map (told_by_place ward_bits ward lows cells) (range_with_len 0 count)

-- what the cells of all pages tell of a ward
abbrev pub told_of_ward : ℕ → ℕ → List ℕ → List Cell → List (List Bool × Entry)
told_of_ward ward_bits ward lows cells = told_by_places ward_bits ward lows cells (length lows)

-- a table for each ward: at each prefix the entry that the cells tell of it, the greatest where there are several
pub record AreTablesOf (ward_bits : ℕ) (lows : List ℕ) (cells : List Cell) (tables : List TableMap) : Type 0 where
  pub count : length tables ≡ 2 ^ ward_bits
  pub each : (ward : ℕ) (table : TableMap) → slice_get tables ward ≡ Some table → IsTableOf (told_of_ward ward_bits ward lows cells) table
