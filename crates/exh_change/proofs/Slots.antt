-- What the slot of a page tells of its ward's table, and the slot of one change more.
use Rattle.std.proofs.Common.{◌≡◌, ◌≢◌, ℕ, ◌+◌, ◌%◌, ◌^◌, ◌<◌, ◌≤◌, nat_eq, Bool, true, false, List, [], ◌∷◌, ◌++◌, length, take, get_or, slice_get, Option, None, Some, inl, inr, refl, sym, ap, ◌∙◌, arith}
use Rattle.std.specs.FinMap.{empty, get}
use Rattle.std.specs.Option.{option_map_or}
use Rattle.std.proofs.lemmas.Bool.{cases_eq}
use Rattle.std.proofs.lemmas.List.{length_push, take-append-le, take-take}
use Rattle.std.proofs.lemmas.Option.{slice_get-get_or, slice_get_within}
use Rattle.exh_prefix.specs.declared.prefix.TheConstants.{LIMIT}
use Rattle.exh_prefix.specs.Bits.{number_of, word_bits}
use Rattle.exh_prefix.specs.Leading.{ward_of}
use Rattle.exh_prefix.specs.Prefix.{Begins, HasPrefix, low_of}
use Rattle.exh_prefix.specs.PrefixLemmas.{HasPrefix-low_of, take-low_of}
use Rattle.exh_prefix.specs.PrefixListLemmas.{within_there}
use Rattle.exh_notice.specs.declared.entry.Entry.{Entry}
use Rattle.exh_notice.specs.declared.entry.Kind.{Kind}
use Rattle.exh_notice.specs.declared.entry.Kind.TheVariants.{Merge, Split}
use Rattle.exh_table.specs.Table.{TableMap, table_with}
use Rattle.exh_table.specs.RaisedLemmas.{raised_elsewhere, raised_here}
use Rattle.exh_table.specs.TableLemmas.{later_wins}
use Rattle.exh_page.specs.declared.page.Page.{Page}
use Rattle.exh_page.specs.Page.{low_bound}
use Rattle.exh_legal.specs.ChangeNumbers.{next_notice, number_at as table_number}
use Rattle.exh_cells.specs.declared.cell.Cell.{Cell}
use Rattle.exh_cells.specs.declared.cell.Slot.{Slot}
use Rattle.exh_cells.specs.CellLaws.{IsSlotOf, SlotsAreEntries}
use Rattle.exh_cells.specs.Fit.{FitsSlot, pages_in}
use Rattle.exh_cells.specs.LegalPlaced.{IsLegalPlaced, pages_of_ward}
use Rattle.exh_cells.specs.PlacedFile.{IsPlaced, PlacedFile, lows_of}
use Rattle.exh_cells.specs.Told.{entry_in, number_at}
use Rattle.exh_cells.specs.WalkImage.{IsCell}
use Rattle.exh_change.specs.PlacedSteps.{no_slot, slot_of}
use Rattle.exh_change.proofs.ChangedCells.{all_at}
use Rattle.exh_change.proofs.StepsCounts.{few_bits}
use Rattle.exh_change.proofs.LegalWards.{are_told, length-lows, table_there, ward_less}
use Rattle.exh_change.proofs.WardPlaces.{low_at, numbered, other_is, page_of_low, same_is}

-- ---- wards of prefixes

ward_of_low : (bits : ℕ) (prefix : List Bool) → bits ≤ length prefix → length prefix ≤ LIMIT → ward_of bits (low_of prefix) ≡ number_of (take bits prefix)
ward_of_low bits prefix long short = ap number_of (sym (take-take bits (length prefix) (word_bits (low_of prefix)) long) ∙ ap (take bits) (take-low_of prefix short))

-- a prefix begins pseudokeys of its low bound's ward
pub ward_of_prefix : (bits k : ℕ) (prefix : List Bool) → bits ≤ length prefix → length prefix ≤ LIMIT → Begins prefix k → ward_of bits (low_of prefix) ≡ ward_of bits k
ward_of_prefix bits k prefix long short begins =
    let other : take bits (word_bits k) ≡ take bits prefix = sym (take-take bits (length prefix) (word_bits k) long) ∙ ap (take bits) begins in
    ward_of_low bits prefix long short ∙ ap number_of (sym other)

-- a child's is that of its parent
pub ward_of_child : (bits : ℕ) (prefix : List Bool) (bit : Bool) → bits ≤ length prefix → length prefix < LIMIT → ward_of bits (low_of (prefix ++ bit ∷ [])) ≡ ward_of bits (low_of prefix)
ward_of_child bits prefix bit long short =
    let longer : length (prefix ++ bit ∷ []) ≡ length prefix + 1 = length_push prefix bit in
    ward_of_low bits (prefix ++ bit ∷ []) (omega (arith, long, longer)) (omega (arith, short, longer)) ∙ ap number_of (take-append-le bits prefix (bit ∷ []) long) ∙ sym (ward_of_low bits prefix long (omega (arith, short)))

-- ---- entries of slots

entry_number : (cells : List Cell) (slot : Slot) → option_map_or (λ (entry : Entry). entry.number) (entry_in cells slot) 0 ≡ slot.number
entry_number cells slot = elim (cases_eq slot.number 0) [
  | inl none ↦ (let test : nat_eq slot.number 0 ≡ true = same_is slot.number 0 none in rw test (sym none))
  | inr some ↦ (let test : nat_eq slot.number 0 ≡ false = other_is slot.number 0 some in rw test refl)
]

pub no_entry : (cells : List Cell) (slot : Slot) → slot.number ≡ 0 → entry_in cells slot ≡ None
no_entry cells slot none = let test : nat_eq slot.number 0 ≡ true = same_is slot.number 0 none in rw test refl

pub split_entry : (cells : List Cell) (slot : Slot) → slot.number % 2 ≡ 1 → entry_in cells slot ≡ Some (record { number = slot.number; kind = Split (number_at cells slot.page) })
split_entry cells slot odd =
    let some : nat_eq slot.number 0 ≡ false = other_is slot.number 0 (λ none. omega (arith, none, odd)) in
    let test : nat_eq (slot.number % 2) 1 ≡ true = same_is (slot.number % 2) 1 odd in
    rw (some, test) refl

pub merge_entry : (cells : List Cell) (slot : Slot) → slot.number ≢ 0 → slot.number % 2 ≡ 0 → entry_in cells slot ≡ Some (record { number = slot.number; kind = Merge })
merge_entry cells slot some even =
    let some_test : nat_eq slot.number 0 ≡ false = other_is slot.number 0 some in
    let test : nat_eq (slot.number % 2) 1 ≡ false = other_is (slot.number % 2) 1 (λ odd. omega (arith, even, odd)) in
    rw (some_test, test) refl

-- ---- a page of a legal file

module _ (file : PlacedFile) (tables : List TableMap) (valid : IsPlaced file) (legal : IsLegalPlaced file tables) (place : ℕ) (page : Page) (cell : Cell) (page_is : slice_get file.pages place ≡ Some page) (cell_is : slice_get file.cells place ≡ Some cell) where
  abbrev bits : ℕ
  bits = file.header.settings.ward_bits

  pub few : bits ≤ 4
  few = few_bits file.header valid.header

  -- its number is that of its cell
  pub number_is : cell.number ≡ pages_in bits (ward_of bits (low_bound page)) (take place (lows_of file.pages))
  number_is = (legal.fits.each place (low_bound page) cell (low_at file.pages place page page_is) cell_is).number

  pub stands : (ward : ℕ) → ward_of bits (low_bound page) ≡ ward → slice_get (pages_of_ward bits file.pages ward) cell.number ≡ Some page
  stands ward own =
      let at : cell.number ≡ pages_in bits ward (take place (lows_of file.pages)) = number_is ∙ ap (λ (ward : ℕ). pages_in bits ward (take place (lows_of file.pages))) own in
      ap (slice_get (pages_of_ward bits file.pages ward)) at ∙ numbered bits ward file.pages place page page_is own

-- the page of the right child's low bound, of the same ward, at a place, and its cell
pub record IsRightPage (file : PlacedFile) (prefix : List Bool) (place : ℕ) : Type 0 where
  pub page : Page
  pub there : slice_get file.pages place ≡ Some page
  pub low : low_bound page ≡ low_of (prefix ++ true ∷ [])
  pub cell : Cell
  pub cell_is : slice_get file.cells place ≡ Some cell
  pub own : ward_of file.header.settings.ward_bits (low_bound page) ≡ ward_of file.header.settings.ward_bits (low_of prefix)

-- ---- the slot at a prefix that has the page's low bound

module _ (slots_are : SlotsAreEntries) (file : PlacedFile) (tables : List TableMap) (valid : IsPlaced file) (legal : IsLegalPlaced file tables) (place : ℕ) (page : Page) (cell : Cell) (page_is : slice_get file.pages place ≡ Some page) (cell_is : slice_get file.cells place ≡ Some cell)
    (prefix : List Bool) (low_is : low_bound page ≡ low_of prefix) (short : length prefix < LIMIT) (long : file.header.settings.ward_bits ≤ length prefix) where
  abbrev file_bits : ℕ
  file_bits = file.header.settings.ward_bits

  abbrev lows : List ℕ
  lows = lows_of file.pages

  abbrev pub own_ward : ℕ
  own_ward = ward_of file_bits (low_of prefix)

  abbrev own : List Page
  own = pages_of_ward file_bits file.pages own_ward

  abbrev pub own_table : TableMap
  own_table = get_or tables own_ward empty

  abbrev slot : Slot
  slot = slot_of cell (length prefix)

  pub ward_fits : own_ward < 2 ^ file_bits
  ward_fits = ward_less file_bits (low_of prefix) (few file tables valid legal place page cell page_is cell_is)

  pub low_there : slice_get lows place ≡ Some (low_of prefix)
  low_there = low_at file.pages place page page_is ∙ ap (λ (low : ℕ). Some low) low_is

  pub has : HasPrefix (length prefix) (low_of prefix)
  has = HasPrefix-low_of prefix (omega (arith, short))

  pub prefix_is : prefix ≡ take (length prefix) (word_bits (low_of prefix))
  prefix_is = sym (take-low_of prefix (omega (arith, short)))

  pub slot_is : slice_get cell.slots (length prefix) ≡ Some slot
  slot_is =
      let is : IsCell cell = all_at IsCell file.cells place cell valid.cells cell_is in
      slice_get-get_or cell.slots (length prefix) no_slot (omega (arith, short, is.read.count))

  is_slot : IsSlotOf file_bits lows file.cells own_ward prefix slot
  is_slot = record {
    place = place;
    low = low_of prefix;
    cell = cell;
    len = length prefix;
    page_is = low_there;
    cell_is = cell_is;
    slot_is = slot_is;
    ward_is = refl;
    has_prefix = has;
    prefix_is = prefix_is;
  }

  pub entry_is : get own_table prefix ≡ entry_in file.cells slot
  entry_is = slots_are file_bits lows file.cells tables own_ward own_table prefix slot (are_told file tables valid legal) (table_there file tables valid legal own_ward ward_fits) is_slot

  pub table_number_is : table_number own_table prefix ≡ slot.number
  table_number_is = ap (λ (found : Option Entry). option_map_or (λ (entry : Entry). entry.number) found 0) entry_is ∙ entry_number file.cells slot

  -- where the slot has an entry its page is that of the right child's low bound
  pub has_right : slot.number ≢ 0 → IsRightPage file prefix slot.page
  has_right some =
      let fits : FitsSlot lows (low_of prefix) (length prefix) slot.page = (legal.fits.each place (low_of prefix) cell low_there cell_is).slots (length prefix) slot slot_is some in
      let low : slice_get lows slot.page ≡ Some (low_of (prefix ++ true ∷ [])) = fits.page_is ∙ ap (λ (front : List Bool). Some (low_of (front ++ true ∷ []))) (sym prefix_is) in
      let right = page_of_low file.pages slot.page (low_of (prefix ++ true ∷ [])) low in
      let right_cell = within_there file.cells slot.page (omega (arith, slice_get_within lows slot.page _ low, length-lows file tables valid legal, valid.all)) in
      record {
        page = right.0;
        there = right.1;
        low = right.2;
        cell = right_cell.0;
        cell_is = right_cell.1;
        own = ap (ward_of file_bits) right.2 ∙ ward_of_child file_bits prefix true long short;
      }

  -- ---- one change more

  abbrev pub next_table : Kind → TableMap
  next_table kind = table_with own_table (next_notice own_ward own_table prefix kind)

  abbrev pub next_entry : Kind → Entry
  next_entry kind = record { number = table_number own_table prefix + 1; kind = kind }

  pub next_here : (kind : Kind) → get (next_table kind) prefix ≡ Some (next_entry kind)
  next_here kind = raised_here own_table prefix (next_entry kind) ∙ ap (λ (entry : Entry). Some entry) (later_wins (get own_table prefix) (next_entry kind) (omega arith))

  pub next_elsewhere : (kind : Kind) (other : List Bool) → other ≢ prefix → get (next_table kind) other ≡ get own_table other
  next_elsewhere kind other differ = raised_elsewhere own_table prefix (next_entry kind) other differ

  abbrev pub next_slot : ℕ → Slot
  next_slot right = record { number = slot.number + 1; page = right }

  pub split_told : (cells : List Cell) (right : ℕ) → slot.number % 2 ≡ 0 → entry_in cells (next_slot right) ≡ Some (next_entry (Split (number_at cells right)))
  split_told cells right even =
      split_entry cells (next_slot right) (omega (arith, even)) ∙ ap (λ (number : ℕ). let entry : Entry = record { number = number + 1; kind = Split (number_at cells right) } in Some entry) (sym table_number_is)

  pub merge_told : (cells : List Cell) (right : ℕ) → slot.number % 2 ≡ 1 → entry_in cells (next_slot right) ≡ Some (next_entry Merge)
  merge_told cells right odd =
      merge_entry cells (next_slot right) (λ none. omega (arith, none)) (omega (arith, odd)) ∙ ap (λ (number : ℕ). let entry : Entry = record { number = number + 1; kind = Merge } in Some entry) (sym table_number_is)
