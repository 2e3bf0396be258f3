-- The entries that cells tell of fit their bytes.
use Rattle.std.proofs.Common.{◌≡◌, ℕ, zero, suc, ◌+◌, ◌%◌, ◌^◌, ◌<◌, Bool, true, false, cond, nat_eq, List, [], ◌∷◌, length, get_or, Option, Some, None, refl, subst, Contains, arith}
use Rattle.std.specs.FinMap.{get}
use Rattle.std.specs.List.{AllByRecursion, flat_map, range_with_len, slice_get}
use Rattle.std.specs.Option.{option_map_or}
use Rattle.exh_prefix.specs.Leading.{ward_of}
use Rattle.exh_prefix.specs.PrefixListLemmas.{AllByRecursion-append}
use Rattle.exh_notice.specs.declared.entry.Entry.{Entry}
use Rattle.exh_notice.specs.declared.entry.Kind.TheVariants.{Merge, Split}
use Rattle.exh_notice.specs.NoticeImages.{right_field}
use Rattle.exh_table.specs.Table.{IsEntryOf, TableMap}
use Rattle.exh_cells.specs.declared.cell.Cell.{Cell}
use Rattle.exh_cells.specs.declared.cell.Slot.{Slot}
use Rattle.exh_versions.specs.Told.{AreTablesOf, entry_in, kind_in, number_at, told_at, told_by_cell, told_by_place, told_by_slot, told_of_ward}
use Rattle.exh_versions.specs.WalkImage.{IsCell, IsReadSlot}

-- an entry whose numbers have four bytes
pub record IsSmall (entry : Entry) : Type 0 where
  pub number : entry.number < 2 ^ 32
  pub right : right_field entry.kind < 2 ^ 32

abbrev IsSmallTold : List Bool × Entry → Type 0
IsSmallTold told = IsSmall told.1

-- ---- lists

module _ {A : Type 0} (P : A → Type 0) where
  all_made : (f : ℕ → List A) (from count : ℕ) → ((n : ℕ) → AllByRecursion P (f n)) → AllByRecursion P (flat_map f (range_with_len from count))
  all_made f from zero each = tt
  all_made f from (suc count) each = AllByRecursion-append P (f from) (flat_map f (range_with_len (from + 1) count)) (each from) (all_made f (from + 1) count each)

  holds_at : (xs : List A) (i : ℕ) (d : A) → AllByRecursion P xs → i < length xs → P (get_or xs i d)
  holds_at [] i d all less = absurd (omega arith)
  holds_at (x ∷ xs) zero d all less = all.0
  holds_at (x ∷ xs) (suc i) d all less = holds_at xs i d all.1 (omega arith)

  holds_of : (xs : List A) (x : A) → AllByRecursion P xs → Contains xs x → P x
  holds_of xs x all contains = subst P contains.2 (holds_at xs contains.0 x all contains.1)

pub all_there : {X : Type 0} (P : X → Type 0) (xs : List X) (i : ℕ) (x : X) → AllByRecursion P xs → slice_get xs i ≡ Some x → P x
all_there P [] i x all is = cc
all_there P (y ∷ xs) zero x all is = let same : y ≡ x = cc in subst P same all.0
all_there P (y ∷ xs) (suc i) x all is = all_there P xs i x all.1 is

-- ---- one slot

module _ (cells : List Cell) (valid : AllByRecursion IsCell cells) where
  number_small : (some : List Cell) (place : ℕ) → AllByRecursion IsCell some → number_at some place < 2 ^ 32
  number_small [] place all = omega arith
  number_small (cell ∷ some) zero all = all.0.read.number
  number_small (cell ∷ some) (suc place) all = number_small some place all.1

  right_small : (slot : Slot) → right_field (kind_in cells slot) < 2 ^ 32
  right_small slot = elim (nat_eq (slot.number % 2) 1) as (λ (odd : Bool). right_field (cond odd (Split (number_at cells slot.page)) Merge) < 2 ^ 32) [
    | true ↦ number_small cells slot.page valid
    | false ↦ omega arith
  ]

  slot_small : (low len : ℕ) (slot : Slot) → IsReadSlot slot → AllByRecursion IsSmallTold (told_at low len (entry_in cells slot))
  slot_small low len slot read = elim (nat_eq slot.number 0) as (λ (none : Bool). AllByRecursion IsSmallTold (told_at low len (cond none None (Some (record { number = slot.number; kind = kind_in cells slot }))))) [
    | true ↦ tt
    | false ↦ (record { number = read.number; right = right_small slot }, tt)
  ]

  slots_small : (low : ℕ) (slots : List Slot) → AllByRecursion IsReadSlot slots → (len : ℕ) → AllByRecursion IsSmallTold (told_by_slot cells low slots len)
  slots_small low slots read len = elim (slice_get slots len) as (λ (found : Option Slot). slice_get slots len ≡ found → AllByRecursion IsSmallTold (option_map_or (λ slot. told_at low len (entry_in cells slot)) found [])) [
    | None ↦ λ is. tt
    | Some slot ↦ λ is. slot_small low len slot (all_there IsReadSlot slots len slot read is)
  ] refl

  cell_small : (low : ℕ) (cell : Cell) → IsCell cell → AllByRecursion IsSmallTold (told_by_cell cells low cell)
  cell_small low cell is = all_made IsSmallTold (told_by_slot cells low cell.slots) 0 (length cell.slots) (slots_small low cell.slots is.read.slots)

  place_small : (ward_bits ward : ℕ) (lows : List ℕ) (place : ℕ) → AllByRecursion IsSmallTold (told_by_place ward_bits ward lows cells place)
  place_small ward_bits ward lows place =
      let of_cell : ℕ → Option Cell → List (List Bool × Entry) = λ low found. option_map_or (told_by_cell cells low) found [] in
      let cell_there : (low : ℕ) → AllByRecursion IsSmallTold (of_cell low (slice_get cells place)) = λ low.
      elim (slice_get cells place) as (λ (found : Option Cell). slice_get cells place ≡ found → AllByRecursion IsSmallTold (of_cell low found)) [
        | None ↦ λ is. tt
        | Some cell ↦ λ is. cell_small low cell (all_there IsCell cells place cell valid is)
      ] refl in
      elim (slice_get lows place) as (λ (found : Option ℕ). AllByRecursion IsSmallTold (option_map_or (λ low. cond (nat_eq (ward_of ward_bits low) ward) (of_cell low (slice_get cells place)) []) found [])) [
        | None ↦ tt
        | Some low ↦ elim (nat_eq (ward_of ward_bits low) ward) as (λ (own : Bool). AllByRecursion IsSmallTold (cond own (of_cell low (slice_get cells place)) [])) [
          | true ↦ cell_there low
          | false ↦ tt
        ]
      ]

  -- ---- the tables

  all_small : (ward_bits : ℕ) (lows : List ℕ) (ward : ℕ) → AllByRecursion IsSmallTold (told_of_ward ward_bits ward lows cells)
  all_small ward_bits lows ward = all_made IsSmallTold (told_by_place ward_bits ward lows cells) 0 (length lows) (place_small ward_bits ward lows)

  given_small : (told : List (List Bool × Entry)) (prefix : List Bool) (found : Option Entry) (entry : Entry) → AllByRecursion IsSmallTold told → IsEntryOf told prefix found → found ≡ Some entry → IsSmall entry
  given_small told prefix None entry all is found = cc
  given_small told prefix (Some top) entry all is found =
      let same : top ≡ entry = cc in
      subst IsSmall same (holds_of IsSmallTold told (prefix, top) all is.member)

  pub entries_small : (ward_bits : ℕ) (lows : List ℕ) (tables : List TableMap) (ward : ℕ) (table : TableMap) (prefix : List Bool) (entry : Entry)
      → AreTablesOf ward_bits lows cells tables → slice_get tables ward ≡ Some table → get table prefix ≡ Some entry → IsSmall entry
  entries_small ward_bits lows tables ward table prefix entry are there found =
      given_small (told_of_ward ward_bits ward lows cells) prefix (get table prefix) entry (all_small ward_bits lows ward) (are.each ward table there prefix) found
