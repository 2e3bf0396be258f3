-- Cells that are made page by page are those that tell of the tables.
use Rattle.std.proofs.Common.{◌≡◌, ℕ, suc, ◌+◌, ◌<◌, ◌≤◌, ◌^◌, Bool, nat_eq, eq-eqb, cond, true, false, List, [], ◌∷◌, ◌++◌, length, map, take, get_or, Option, None, Some, IsSome, refl, sym, ap, ◌∙◌, subst, inl, inr, arith}
use Rattle.std.specs.FinMap.{get}
use Rattle.std.specs.List.{AllByRecursion, slice_get}
use Rattle.std.specs.Option.{option_map}
use Rattle.std.specs.Prelude.{slice_set}
use Rattle.std.proofs.lemmas.Bool.{cases_eq, cases_lt}
use Rattle.std.proofs.lemmas.Bool.Decides.{eqb_tells}
use Rattle.std.proofs.lemmas.List.{get_or-set_other, get_or-set_same, length-append}
use Rattle.std.proofs.lemmas.List.Sums.{count_by_more_no, count_by_more_yes}
use Rattle.std.proofs.lemmas.Nat.{pow_below}
use Rattle.std.proofs.lemmas.Option.{get_or_from_slice_get, slice_get-map, slice_get_within}
use Rattle.exh_prefix.specs.declared.prefix.TheConstants.{WARD_BITS_LIMIT}
use Rattle.exh_prefix.specs.Bits.{word_bits}
use Rattle.exh_prefix.specs.Leading.{ward_of}
use Rattle.exh_prefix.specs.LeadingLemmas.{leading-lt}
use Rattle.exh_prefix.specs.Prefix.{low_of}
use Rattle.exh_prefix.specs.PrefixLemmas.{HasPrefix-low_of, take-low_of}
use Rattle.exh_prefix.specs.PrefixListLemmas.{at_front, at_last, one_there, within_there}
use Rattle.exh_notice.specs.declared.entry.Entry.{Entry}
use Rattle.exh_notice.specs.declared.entry.Kind.{Kind}
use Rattle.exh_table.specs.Table.{TableMap}
use Rattle.exh_cells.specs.declared.cell.Cell.{Cell}
use Rattle.exh_cells.specs.declared.cell.Slot.{Slot}
use Rattle.exh_cells.specs.CellLaws.{AreApart, AreTold, AreWords, IsSlotOf, MatchedTablesAreTold}
use Rattle.exh_cells.specs.Fit.{FitEach, pages_in}
use Rattle.exh_cells.specs.Told.{entry_in, kind_in, number_at}
use Rattle.exh_cells.specs.WalkImage.{IsCell}
use Rattle.exh_placing.specs.Making.{ArePlaces, AreSlotsFor, HasRightPlaces, place_in}
use Rattle.exh_placing.specs.Placed.{HavePlaces, kind_by, number_by}

-- what holds at each place holds of each element
pub all_from : {X : Type 0} (P : X → Type 0) (xs : List X) → ((i : ℕ) (x : X) → slice_get xs i ≡ Some x → P x) → AllByRecursion P xs
all_from P [] each = tt
all_from P (x ∷ xs) each = (each 0 x refl, all_from P xs (λ i. each (suc i)))

-- the cell of the page at a place: its number, and its slots by the table of its ward
pub record IsMadeCell (ward_bits : ℕ) (lows : List ℕ) (places : List (ℕ × ℕ)) (table : TableMap) (place low : ℕ) (cell : Cell) : Type 0 where
  pub number : cell.number ≡ pages_in ward_bits (ward_of ward_bits low) (take place lows)
  pub valid : IsCell cell
  pub slots : AreSlotsFor places table low cell.slots

-- each of the first cells, so many
abbrev pub AreMadeCells : ℕ → List ℕ → List TableMap → List (ℕ × ℕ) → ℕ → List Cell → Type 0
AreMadeCells ward_bits lows tables places count cells = (place low : ℕ) (cell : Cell) (table : TableMap) → place < count → slice_get lows place ≡ Some low → slice_get cells place ≡ Some cell
    → slice_get tables (ward_of ward_bits low) ≡ Some table → IsMadeCell ward_bits lows places table place low cell

not_eqb : (one other : ℕ) → (one ≡ other → ⊥) → nat_eq one other ≡ false
not_eqb one other differ = elim (eqb_tells one other) [ inl same ↦ absurd (differ same.1) | inr else ↦ else.0 ]

pub one_longer : (cells new : List Cell) (cell : Cell) (count : ℕ) → new ≡ cells ++ cell ∷ [] → length cells ≡ count → length new ≡ count + 1
one_longer cells new cell count is long = ap length is ∙ length-append cells (cell ∷ []) ∙ ap (λ (n : ℕ). n + 1) long

pub own_made : (ward_bits : ℕ) (lows : List ℕ) (places : List (ℕ × ℕ)) (table : TableMap) (place low at number : ℕ) (cell : Cell) → at ≡ ward_of ward_bits low → cell.number ≡ number → number ≡ pages_in ward_bits at (take place lows)
    → IsCell cell → AreSlotsFor places table low cell.slots → IsMadeCell ward_bits lows places table place low cell
own_made ward_bits lows places table place low at number cell at_is is counted valid slots = record {
  number = is ∙ counted ∙ ap (λ (ward : ℕ). pages_in ward_bits ward (take place lows)) at_is;
  valid = valid;
  slots = slots;
}

-- ---- one page more

pub first_made : (ward_bits : ℕ) (lows : List ℕ) (tables : List TableMap) (places : List (ℕ × ℕ)) (cells : List Cell) → AreMadeCells ward_bits lows tables places 0 cells
first_made ward_bits lows tables places cells = λ place low cell table before. absurd (omega (arith, before))

pub more_made : (ward_bits : ℕ) (lows : List ℕ) (tables : List TableMap) (places : List (ℕ × ℕ)) (place low : ℕ) (cells new : List Cell) (cell : Cell) (table : TableMap) → AreMadeCells ward_bits lows tables places place cells
    → length cells ≡ place → new ≡ cells ++ cell ∷ [] → slice_get lows place ≡ Some low → slice_get tables (ward_of ward_bits low) ≡ Some table → IsMadeCell ward_bits lows places table place low cell
    → AreMadeCells ward_bits lows tables places (place + 1) new
more_made ward_bits lows tables places place low cells new cell table made long new_is low_is table_is own = λ other other_low other_cell other_table before is its their. elim (cases_lt other place) [
  | inl earlier ↦ made other other_low other_cell other_table earlier is (sym (ap (λ (cells : List Cell). slice_get cells other) new_is ∙ at_front cells (cell ∷ []) other (omega (arith, earlier, long))) ∙ its) their
  | inr past ↦
      let here : other ≡ place = omega (arith, past, before) in
      let same_low : low ≡ other_low = one_there lows place low other_low low_is (ap (slice_get lows) (sym here) ∙ is) in
      let at_end : slice_get new other ≡ Some cell = ap (slice_get new) (here ∙ sym long) ∙ ap (λ (cells_now : List Cell). slice_get cells_now (length cells)) new_is ∙ at_last cells cell in
      let same_cell : cell ≡ other_cell = one_there new other cell other_cell at_end its in
      let same_table : table ≡ other_table = one_there tables (ward_of ward_bits other_low) table other_table (ap (λ (low : ℕ). slice_get tables (ward_of ward_bits low)) (sym same_low) ∙ table_is) their in
      let with_low : IsMadeCell ward_bits lows places table place other_low cell = subst (λ (low : ℕ). IsMadeCell ward_bits lows places table place low cell) same_low own in
      let with_cell : IsMadeCell ward_bits lows places table place other_low other_cell = subst (IsMadeCell ward_bits lows places table place other_low) same_cell with_low in
      let with_table : IsMadeCell ward_bits lows places other_table place other_low other_cell = subst (λ (table : TableMap). IsMadeCell ward_bits lows places table place other_low other_cell) same_table with_cell in
      subst (λ (place : ℕ). IsMadeCell ward_bits lows places other_table place other_low other_cell) (sym here) with_table
]

-- ---- counts

pub wards_few : (ward_bits low : ℕ) → ward_bits ≤ WARD_BITS_LIMIT → ward_of ward_bits low < 16
wards_few ward_bits low few = elim (cases_lt ward_bits 4) [
  | inl less ↦ omega (arith, leading-lt ward_bits low (omega (arith, few)), pow_below ward_bits 4 less)
  | inr not_less ↦ let same : ward_bits ≡ 4 = omega (arith, few, not_less) in subst (λ (n : ℕ). ward_of ward_bits low < 2 ^ n) same (leading-lt ward_bits low (omega (arith, few)))
]

-- one page more is one of its ward, and none of another
pub more_counted : (ward_bits : ℕ) (lows : List ℕ) (place at : ℕ) (found : List ℕ) → length found ≡ 16 → ((ward : ℕ) → ward < 16 → get_or found ward 0 ≡ pages_in ward_bits ward (take place lows)) → place < length lows
    → at ≡ ward_of ward_bits (get_or lows place 0) → at < 16
    → (ward : ℕ) → ward < 16 → get_or (slice_set found at (get_or found at 0 + 1)) ward 0 ≡ pages_in ward_bits ward (take (place + 1) lows)
more_counted ward_bits lows place at found long counted within at_is few ward ward_few =
    let low = get_or lows place 0 in
    let room : at < length found = omega (arith, few, long) in
    elim (cases_eq ward at) [
      | inl same ↦
          ap (λ (ward : ℕ). get_or (slice_set found at (get_or found at 0 + 1)) ward 0) same ∙ get_or-set_same found at (get_or found at 0 + 1) 0 room ∙ ap (λ (n : ℕ). n + 1) (counted at few)
          ∙ sym (count_by_more_yes (λ low. nat_eq (ward_of ward_bits low) at) lows place 0 within (eq-eqb (ward_of ward_bits low) at (sym at_is)))
          ∙ ap (λ (ward : ℕ). pages_in ward_bits ward (take (place + 1) lows)) (sym same)
      | inr other ↦
          get_or-set_other found at ward (get_or found at 0 + 1) 0 other ∙ counted ward ward_few
          ∙ sym (count_by_more_no (λ low. nat_eq (ward_of ward_bits low) ward) lows place 0 within (not_eqb (ward_of ward_bits low) ward (λ same. other (sym same ∙ sym at_is))))
    ]

-- an entry of a ward's table has the place of its right child's low bound
pub right_placed : (ward_bits : ℕ) (lows : List ℕ) (tables : List TableMap) (places : List (ℕ × ℕ)) → HavePlaces ward_bits lows tables → ArePlaces places lows → (ward : ℕ) (table : TableMap) → slice_get tables ward ≡ Some table
    → HasRightPlaces places table
right_placed ward_bits lows tables places have index ward table there prefix entry is =
    let has = have.each ward table prefix entry there is in
    let low = low_of (prefix ++ true ∷ []) in
    let found = (index low has.right).1 (slice_get_within lows has.right low has.right_is, has.right_is) in
    record { short = has.short; some = has.some; right = subst (λ (found : Option ℕ). IsSome found) (sym found) refl }

pub all_words : (lows : List ℕ) → ((place : ℕ) → get_or lows place 0 < 2 ^ 64) → AreWords lows
all_words lows words = all_from (λ (low : ℕ). low < 2 ^ 64) lows (λ place low is. subst (λ (low : ℕ). low < 2 ^ 64) (get_or_from_slice_get lows place low 0 is) (words place))

-- ---- an entry that a slot tells

made_entry : ℕ → Kind → Entry
made_entry number kind = record { number = number; kind = kind }

pub entry_none : (cells : List Cell) (slot : Slot) → slot.number ≡ 0 → entry_in cells slot ≡ None
unfolding made_entry
entry_none cells slot none = ap (λ (is : Bool). cond is None (Some (made_entry slot.number (kind_in cells slot)))) (eq-eqb slot.number 0 none)

pub entry_there : (cells : List Cell) (slot : Slot) (entry : Entry) → (slot.number ≡ 0 → ⊥) → entry.number ≡ slot.number → entry.kind ≡ kind_in cells slot → Some entry ≡ entry_in cells slot
unfolding made_entry
entry_there cells slot entry some number kind =
    (λ i. Some (made_entry (number i) (kind i))) ∙ sym (ap (λ (is : Bool). cond is None (Some (made_entry slot.number (kind_in cells slot)))) (not_eqb slot.number 0 some))

module _ (ward_bits : ℕ) (lows : List ℕ) (places : List (ℕ × ℕ)) (cells : List Cell) (tables : List TableMap) (few : ward_bits ≤ WARD_BITS_LIMIT) (have : HavePlaces ward_bits lows tables) (index : ArePlaces places lows)
    (all : length cells ≡ length lows) (made : AreMadeCells ward_bits lows tables places (length lows) cells) where
  -- ---- cells fit

  table_at : (low : ℕ) → (table : TableMap) × (slice_get tables (ward_of ward_bits low) ≡ Some table)
  table_at low = within_there tables (ward_of ward_bits low) (omega (arith, leading-lt ward_bits low (omega (arith, few)), have.count))

  own_cell : (place low : ℕ) (cell : Cell) → slice_get lows place ≡ Some low → slice_get cells place ≡ Some cell → IsMadeCell ward_bits lows places (table_at low).0 place low cell
  own_cell place low cell low_is cell_is = made place low cell (table_at low).0 (slice_get_within lows place low low_is) low_is cell_is (table_at low).1

  each_fits : FitEach ward_bits lows cells
  each_fits place low cell low_is cell_is =
      let own = own_cell place low cell low_is cell_is in
      record {
        number = own.number;
        slots = λ len slot slot_is some.
            let told = (own.slots len slot slot_is).some some in
            record { prefix = told.has_prefix; page_is = ((index (low_of (take len (word_bits low) ++ true ∷ [])) slot.page).0 told.page).1 };
      }

  each_valid : AllByRecursion IsCell cells
  each_valid = all_from IsCell cells (λ place cell is.
      let low = within_there lows place (omega (arith, all, slice_get_within cells place cell is)) in
      (own_cell place low.0 cell low.1 is).valid)

  -- ---- slots tell of entries

  number_is : (place low : ℕ) → slice_get lows place ≡ Some low → number_at cells place ≡ pages_in ward_bits (ward_of ward_bits low) (take place lows)
  number_is place low is =
      let cell = within_there cells place (omega (arith, all, slice_get_within lows place low is)) in
      get_or_from_slice_get (map (λ (cell : Cell). cell.number) cells) place (cell.0).number 0
      (slice_get-map (λ (cell : Cell). cell.number) cells place ∙ ap (option_map (λ (cell : Cell). cell.number)) cell.1)
      ∙ (own_cell place low cell.0 is cell.1).number

  kind_said : (ward : ℕ) (table : TableMap) (prefix : List Bool) (entry : Entry) (slot : Slot) → slice_get tables ward ≡ Some table → get table prefix ≡ Some entry → entry.number ≡ slot.number
      → place_in places (low_of (prefix ++ true ∷ [])) ≡ Some slot.page → entry.kind ≡ kind_in cells slot
  kind_said ward table prefix entry slot there is number page =
      let has = have.each ward table prefix entry there is in
      let low = low_of (prefix ++ true ∷ []) in
      let other = (index low has.right).1 (slice_get_within lows has.right low has.right_is, has.right_is) in
      let both : Some has.right ≡ Some slot.page = sym other ∙ page in
      let same : has.right ≡ slot.page = cc in
      let right : number_by ward_bits lows low has.right ≡ number_at cells slot.page = sym (number_is has.right low has.right_is) ∙ ap (number_at cells) same in
      has.kind_is ∙ (λ i. kind_by (number i) (right i))

  entry_said : (ward : ℕ) (table : TableMap) (prefix : List Bool) (slot : Slot) (found : Option Entry) → slice_get tables ward ≡ Some table → (slot.number ≡ 0 → ⊥) → get table prefix ≡ found
      → option_map (λ (entry : Entry). entry.number) found ≡ Some slot.number → place_in places (low_of (prefix ++ true ∷ [])) ≡ Some slot.page → found ≡ entry_in cells slot
  entry_said ward table prefix slot None there some is number page = cc
  entry_said ward table prefix slot (Some entry) there some is number page =
      let same : entry.number ≡ slot.number = cc in
      entry_there cells slot entry some same (kind_said ward table prefix entry slot there is same page)

  slot_said : (ward : ℕ) (table : TableMap) (prefix : List Bool) (slot : Slot) → slice_get tables ward ≡ Some table → IsSlotOf ward_bits lows cells ward prefix slot → get table prefix ≡ entry_in cells slot
  slot_said ward table prefix slot there is =
      let own = made is.place is.low is.cell table (slice_get_within lows is.place is.low is.page_is) is.page_is is.cell_is (ap (slice_get tables) is.ward_is ∙ there) in
      let made_for = own.slots is.len slot is.slot_is in
      elim (cases_eq slot.number 0) [
        | inl none ↦ ap (get table) is.prefix_is ∙ (made_for.none none).absent is.has_prefix ∙ sym (entry_none cells slot none)
        | inr some ↦
            let told = made_for.some some in
            let at = take is.len (word_bits is.low) in
            ap (get table) is.prefix_is ∙ entry_said ward table at slot (get table at) there some refl told.number told.page
      ]

  -- ---- entries have slots

  entry_slot : (ward : ℕ) (table : TableMap) (prefix : List Bool) (entry : Entry) → slice_get tables ward ≡ Some table → get table prefix ≡ Some entry → (slot : Slot) × IsSlotOf ward_bits lows cells ward prefix slot
  entry_slot ward table prefix entry there is =
      let has = have.each ward table prefix entry there is in
      let low = low_of prefix in
      let cell = within_there cells has.left (omega (arith, all, slice_get_within lows has.left low has.left_is)) in
      let own = own_cell has.left low cell.0 has.left_is cell.1 in
      let slot = within_there (cell.0).slots (length prefix) (omega (arith, own.valid.read.count, has.short)) in (
        slot.0,
        record {
          place = has.left;
          low = low;
          cell = cell.0;
          len = length prefix;
          page_is = has.left_is;
          cell_is = cell.1;
          slot_is = slot.1;
          ward_is = has.own;
          has_prefix = HasPrefix-low_of prefix (omega (arith, has.short));
          prefix_is = sym (take-low_of prefix (omega (arith, has.short)));
        },
      )

  pub cells_told : MatchedTablesAreTold → AreApart lows → AreWords lows → AreTold ward_bits lows cells tables
  cells_told law apart words = record {
    few = few;
    apart = apart;
    words = words;
    all = all;
    valid = each_valid;
    fit = each_fits;
    tables_are = law ward_bits lows cells tables each_fits (record { count = have.count; slots = slot_said; entries = entry_slot });
  }
