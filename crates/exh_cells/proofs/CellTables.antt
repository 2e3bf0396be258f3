-- What cells tell, slot by slot, and the tables that they come to.
use Rattle.std.proofs.Common.{◌≡◌, ℕ, zero, suc, ◌+◌, ◌<◌, ◌^◌, Bool, nat_eq, eq-eqb, cond, List, [], ◌∷◌, ◌++◌, length, take, get_or, Option, Some, None, refl, sym, ap, ◌∙◌, subst, Contains, inl, inr, arith}
use Rattle.std.specs.FinMap.{get}
use Rattle.std.specs.List.{AllByRecursion, flat_map, range_with_len, slice_get}
use Rattle.std.specs.Option.{option_map_or}
use Rattle.std.proofs.lemmas.Bool.{cases_eq}
use Rattle.std.proofs.lemmas.List.Elements.{Contains-append_left, Contains-append_right, Contains-append_cases}
use Rattle.std.proofs.lemmas.Option.{slice_get_within}
use Rattle.exh_prefix.specs.Bits.{word_bits}
use Rattle.exh_prefix.specs.Leading.{ward_of}
use Rattle.exh_prefix.specs.LeadingLemmas.{leading-lt}
use Rattle.exh_prefix.specs.Prefix.{HasPrefix, low_of}
use Rattle.exh_prefix.specs.PrefixLemmas.{low_of-stored, length-stored}
use Rattle.exh_notice.specs.declared.entry.Entry.{Entry}
use Rattle.exh_format.specs.Table.{IsEntryOf, TableMap}
use Rattle.exh_format.specs.SetLemmas.{members_decide}
use Rattle.exh_cells.specs.declared.cell.Cell.{Cell}
use Rattle.exh_cells.specs.declared.cell.Slot.{Slot}
use Rattle.exh_cells.specs.CellLaws.{AreTold, IsSlotOf}
use Rattle.exh_cells.specs.Told.{AreTablesOf, entry_in, kind_in, told_at, told_by_cell, told_by_place, told_by_slot, told_of_ward}
use Rattle.exh_cells.specs.WalkImage.{IsCell, IsTidySlot}
use Rattle.exh_cells.proofs.InOrder.{flat_more, not_eqb}
use Rattle.exh_cells.proofs.TellSteps.{place_told}

abbrev Told : Type 0
Told = List (List Bool × Entry)

-- ---- elements of lists that are made number by number

module _ {A : Type 0} (f : ℕ → List A) (x : A) where
  next_one : (n : ℕ) → flat_map f (range_with_len 0 (suc n)) ≡ flat_map f (range_with_len 0 n) ++ f n
  next_one n = let next : suc n ≡ n + 1 = omega arith in ap (λ (count : ℕ). flat_map f (range_with_len 0 count)) next ∙ flat_more f n

  pub made_by : (n : ℕ) → Contains (flat_map f (range_with_len 0 n)) x → (i : ℕ) × (i < n) × Contains (f i) x
  made_by zero contains = absurd (omega (arith, contains.1))
  made_by (suc n) contains =
      elim (Contains-append_cases (flat_map f (range_with_len 0 n)) (f n) x (subst (λ (xs : List A). Contains xs x) (next_one n) contains)) [
        | inl before ↦ let found = made_by n before in (found.0, omega (arith, found.1), found.2)
        | inr here ↦ (n, omega arith, here)
      ]

  pub made_there : (n i : ℕ) → i < n → Contains (f i) x → Contains (flat_map f (range_with_len 0 n)) x
  made_there zero i within contains = absurd (omega arith)
  made_there (suc n) i within contains =
      subst (λ (xs : List A). Contains xs x) (sym (next_one n)) (elim (cases_eq i n) [
        | inl same ↦ Contains-append_right (flat_map f (range_with_len 0 n)) (f n) x (subst (λ (i : ℕ). Contains (f i) x) same contains)
        | inr other ↦ Contains-append_left (flat_map f (range_with_len 0 n)) (f n) x (made_there n i (omega (arith, within, other)) contains)
      ])

-- ---- what one slot tells

told_one : (low len : ℕ) (given : Option Entry) (prefix : List Bool) (entry : Entry) → Contains (told_at low len given) (prefix, entry) → (given ≡ Some entry) × (prefix ≡ take len (word_bits low))
told_one low len None prefix entry contains = absurd (omega (arith, contains.1))
told_one low len (Some given) prefix entry contains =
    let first : contains.0 ≡ 0 = omega (arith, contains.1) in
    let same : (take len (word_bits low), given) ≡ (prefix, entry) =
    ap (λ (k : ℕ). get_or ((take len (word_bits low), given) ∷ []) k (prefix, entry)) (sym first) ∙ contains.2 in
    (ap (λ (told : List Bool × Entry). Some told.1) same, sym (ap (λ (told : List Bool × Entry). told.0) same))

told_here : (low len : ℕ) (given : Option Entry) (entry : Entry) → given ≡ Some entry → Contains (told_at low len given) (take len (word_bits low), entry)
told_here low len given entry is = subst (λ (given : Option Entry). Contains (told_at low len given) (take len (word_bits low), entry)) (sym is) (0, omega arith, refl)

-- an element that an option gives, or none
of_option : {X A : Type 0} (f : X → List A) (found : Option X) (x : A) → Contains (option_map_or f found []) x → (y : X) × (found ≡ Some y) × Contains (f y) x
of_option f None x contains = absurd (omega (arith, contains.1))
of_option f (Some y) x contains = (y, refl, contains)

-- a slot of the ward's pages that tells the entry at the prefix
pub record Tells (ward_bits : ℕ) (lows : List ℕ) (cells : List Cell) (ward : ℕ) (prefix : List Bool) (entry : Entry) : Type 0 where
  pub place : ℕ
  pub low : ℕ
  pub cell : Cell
  pub len : ℕ
  pub slot : Slot
  pub page_is : slice_get lows place ≡ Some low
  pub cell_is : slice_get cells place ≡ Some cell
  pub slot_is : slice_get cell.slots len ≡ Some slot
  pub ward_is : ward_of ward_bits low ≡ ward
  pub prefix_is : prefix ≡ take len (word_bits low)
  pub entry_is : entry_in cells slot ≡ Some entry

module _ (ward_bits : ℕ) (lows : List ℕ) (cells : List Cell) where
  pub told_by : (ward : ℕ) (prefix : List Bool) (entry : Entry) → Contains (told_of_ward ward_bits ward lows cells) (prefix, entry) → Tells ward_bits lows cells ward prefix entry
  told_by ward prefix entry contains =
      let at = made_by (told_by_place ward_bits ward lows cells) (prefix, entry) (length lows) contains in
      let place = at.0 in
      let page = of_option (λ low. cond (nat_eq (ward_of ward_bits low) ward) (option_map_or (told_by_cell cells low) (slice_get cells place) []) []) (slice_get lows place) (prefix, entry) at.2 in
      let low = page.0 in
      elim (cases_eq (ward_of ward_bits low) ward) [
        | inl same ↦
            let here = subst (λ (is : Bool). Contains (cond is (option_map_or (told_by_cell cells low) (slice_get cells place) []) []) (prefix, entry)) (eq-eqb (ward_of ward_bits low) ward same) page.2 in
            let own = of_option (told_by_cell cells low) (slice_get cells place) (prefix, entry) here in
            let cell = own.0 in
            let by = made_by (told_by_slot cells low cell.slots) (prefix, entry) (length cell.slots) own.2 in
            let len = by.0 in
            let one = of_option (λ slot. told_at low len (entry_in cells slot)) (slice_get cell.slots len) (prefix, entry) by.2 in
            let told = told_one low len (entry_in cells one.0) prefix entry one.2 in
            record { place = place; low = low; cell = cell; len = len; slot = one.0; page_is = page.1; cell_is = own.1; slot_is = one.1; ward_is = same; prefix_is = told.1; entry_is = told.0 }
        | inr other ↦
            let here = subst (λ (is : Bool). Contains (cond is (option_map_or (told_by_cell cells low) (slice_get cells place) []) []) (prefix, entry)) (not_eqb (ward_of ward_bits low) ward other) page.2 in
            absurd (omega (arith, here.1))
      ]

  pub tells : (ward : ℕ) (prefix : List Bool) (entry : Entry) → Tells ward_bits lows cells ward prefix entry → Contains (told_of_ward ward_bits ward lows cells) (prefix, entry)
  tells ward prefix entry told =
      let low = told.low in
      let slots = told.cell.slots in
      let len = told.len in
      let at : Contains (told_at low len (entry_in cells told.slot)) (prefix, entry) =
      subst (λ (prefix : List Bool). Contains (told_at low len (entry_in cells told.slot)) (prefix, entry)) (sym told.prefix_is) (told_here low len (entry_in cells told.slot) entry told.entry_is) in
      let by_slot : Contains (told_by_slot cells low slots len) (prefix, entry) =
      subst (λ (found : Option Slot). Contains (option_map_or (λ slot. told_at low len (entry_in cells slot)) found []) (prefix, entry)) (sym told.slot_is) at in
      let by_cell : Contains (told_by_cell cells low told.cell) (prefix, entry) = made_there (told_by_slot cells low slots) (prefix, entry) (length slots) len (slice_get_within slots len told.slot told.slot_is) by_slot in
      let by_place : Contains (told_by_place ward_bits ward lows cells told.place) (prefix, entry) =
      subst (λ (more : Told). Contains more (prefix, entry)) (sym (place_told ward_bits ward lows cells told.place low told.cell told.page_is told.cell_is told.ward_is)) by_cell in
      made_there (told_by_place ward_bits ward lows cells) (prefix, entry) (length lows) told.place (slice_get_within lows told.place low told.page_is) by_place

-- ---- one slot for each prefix

same_some : {X : Type 0} (found : Option X) (one other : X) → found ≡ Some one → found ≡ Some other → one ≡ other
same_some found one other first second = let both : Some one ≡ Some other = sym first ∙ second in cc

all_at : {X : Type 0} (P : X → Type 0) (xs : List X) (i : ℕ) (x : X) → AllByRecursion P xs → slice_get xs i ≡ Some x → P x
all_at P [] i x all is = cc
all_at P (y ∷ xs) zero x all is = let same : y ≡ x = cc in subst P same all.0
all_at P (y ∷ xs) (suc i) x all is = all_at P xs i x all.1 is

abbrev entry_given : List Cell → Slot → Entry
entry_given cells slot = record { number = slot.number; kind = kind_in cells slot }

pub entry_none : (cells : List Cell) (slot : Slot) → slot.number ≡ 0 → entry_in cells slot ≡ None
entry_none cells slot none = ap (λ (is : Bool). cond is None (Some (entry_given cells slot))) (eq-eqb slot.number 0 none)

pub entry_there : (cells : List Cell) (slot : Slot) → (slot.number ≡ 0 → ⊥) → entry_in cells slot ≡ Some (entry_given cells slot)
entry_there cells slot some = ap (λ (is : Bool). cond is None (Some (entry_given cells slot))) (not_eqb slot.number 0 some)

entry_number : (cells : List Cell) (slot : Slot) (entry : Entry) → entry_in cells slot ≡ Some entry → entry.number ≡ slot.number
entry_number cells slot entry is = elim (cases_eq slot.number 0) [
  | inl none ↦ let no : None ≡ Some entry = sym (entry_none cells slot none) ∙ is in cc
  | inr some ↦
      let both : Some (entry_given cells slot) ≡ Some entry = sym (entry_there cells slot some) ∙ is in
      let same : entry_given cells slot ≡ entry = cc in
      sym (ap (λ (entry : Entry). entry.number) same)
]

pub entry_some : (cells : List Cell) (slot : Slot) (entry : Entry) → entry_in cells slot ≡ Some entry → (slot.number ≡ 0 → ⊥) × (entry.number ≡ slot.number)
entry_some cells slot entry is = (
  λ none. let no : None ≡ Some entry = sym (entry_none cells slot none) ∙ is in cc,
  entry_number cells slot entry is,
)

module _ (ward_bits : ℕ) (lows : List ℕ) (cells : List Cell) (tables : List TableMap) (are : AreTold ward_bits lows cells tables) where
  -- the slot of a telling has the low bound of its prefix
  telling_prefix : (ward : ℕ) (prefix : List Bool) (entry : Entry) (told : Tells ward_bits lows cells ward prefix entry) → HasPrefix told.len told.low
  telling_prefix ward prefix entry told = ((are.fit told.place told.low told.cell told.page_is told.cell_is).slots told.len told.slot told.slot_is (entry_some cells told.slot entry told.entry_is).0).prefix

  low_word : (place low : ℕ) → slice_get lows place ≡ Some low → low < 2 ^ 64
  low_word place low is = all_at (λ (low : ℕ). low < 2 ^ 64) lows place low are.words is

  -- a telling at the prefix of a slot is that slot's
  one_slot : (ward : ℕ) (prefix : List Bool) (entry : Entry) (slot : Slot) → Tells ward_bits lows cells ward prefix entry → IsSlotOf ward_bits lows cells ward prefix slot → entry_in cells slot ≡ Some entry
  one_slot ward prefix entry slot told is =
      let has = telling_prefix ward prefix entry told in
      let one : low_of prefix ≡ told.low = ap low_of told.prefix_is ∙ low_of-stored told.len told.low (low_word told.place told.low told.page_is) has in
      let other : low_of prefix ≡ is.low = ap low_of is.prefix_is ∙ low_of-stored is.len is.low (low_word is.place is.low is.page_is) is.has_prefix in
      let same_low : told.low ≡ is.low = sym one ∙ other in
      let same_len : told.len ≡ is.len = sym (ap length told.prefix_is ∙ length-stored told.len told.low has) ∙ ap length is.prefix_is ∙ length-stored is.len is.low is.has_prefix in
      let same_place : told.place ≡ is.place = are.apart told.place is.place is.low (told.page_is ∙ ap (λ (low : ℕ). Some low) same_low) is.page_is in
      let same_cell : told.cell ≡ is.cell = same_some (slice_get cells is.place) told.cell is.cell (subst (λ (place : ℕ). slice_get cells place ≡ Some told.cell) same_place told.cell_is) is.cell_is in
      let there : slice_get is.cell.slots is.len ≡ Some told.slot =
      subst (λ (len : ℕ). slice_get is.cell.slots len ≡ Some told.slot) same_len (subst (λ (cell : Cell). slice_get cell.slots told.len ≡ Some told.slot) same_cell told.slot_is) in
      let same_slot : told.slot ≡ slot = same_some (slice_get is.cell.slots is.len) told.slot slot there is.slot_is in
      ap (entry_in cells) (sym same_slot) ∙ told.entry_is

  telling : (ward : ℕ) (prefix : List Bool) (entry : Entry) (slot : Slot) → IsSlotOf ward_bits lows cells ward prefix slot → entry_in cells slot ≡ Some entry → Tells ward_bits lows cells ward prefix entry
  telling ward prefix entry slot is entry_is = record {
    place = is.place;
    low = is.low;
    cell = is.cell;
    len = is.len;
    slot = slot;
    page_is = is.page_is;
    cell_is = is.cell_is;
    slot_is = is.slot_is;
    ward_is = is.ward_is;
    prefix_is = is.prefix_is;
    entry_is = entry_is;
  }

  by_table : (ward : ℕ) (prefix : List Bool) (slot : Slot) (found : Option Entry) → IsSlotOf ward_bits lows cells ward prefix slot → IsEntryOf (told_of_ward ward_bits ward lows cells) prefix found
      → (given : Option Entry) → entry_in cells slot ≡ given → found ≡ given
  by_table ward prefix slot None is entry_of None given_is = refl
  by_table ward prefix slot None is entry_of (Some entry) given_is = absurd (entry_of entry (tells ward_bits lows cells ward prefix entry (telling ward prefix entry slot is given_is)))
  by_table ward prefix slot (Some top) is entry_of None given_is =
      let told = told_by ward_bits lows cells ward prefix top entry_of.member in
      let other = one_slot ward prefix top slot told is in
      cc
  by_table ward prefix slot (Some top) is entry_of (Some entry) given_is =
      let told = told_by ward_bits lows cells ward prefix top entry_of.member in
      let other = one_slot ward prefix top slot told is in
      cc

  pub slot_is_entry : (ward : ℕ) (table : TableMap) (prefix : List Bool) (slot : Slot) → slice_get tables ward ≡ Some table → IsSlotOf ward_bits lows cells ward prefix slot → get table prefix ≡ entry_in cells slot
  slot_is_entry ward table prefix slot there is = by_table ward prefix slot (get table prefix) is (are.tables_are.each ward table there prefix) (entry_in cells slot) refl

  found_told : (ward : ℕ) (prefix : List Bool) (entry : Entry) (found : Option Entry) → IsEntryOf (told_of_ward ward_bits ward lows cells) prefix found → found ≡ Some entry → Tells ward_bits lows cells ward prefix entry
  found_told ward prefix entry None entry_of is = cc
  found_told ward prefix entry (Some top) entry_of is =
      let same : top ≡ entry = cc in
      told_by ward_bits lows cells ward prefix entry (subst (λ (entry : Entry). Contains (told_of_ward ward_bits ward lows cells) (prefix, entry)) same entry_of.member)

  pub entry_has_slot : (ward : ℕ) (table : TableMap) (prefix : List Bool) (entry : Entry) → slice_get tables ward ≡ Some table → get table prefix ≡ Some entry
      → (slot : Slot) × IsSlotOf ward_bits lows cells ward prefix slot × (entry_in cells slot ≡ Some entry)
  entry_has_slot ward table prefix entry there is =
      let told = found_told ward prefix entry (get table prefix) (are.tables_are.each ward table there prefix) is in (
        told.slot,
        record {
          place = told.place;
          low = told.low;
          cell = told.cell;
          len = told.len;
          page_is = told.page_is;
          cell_is = told.cell_is;
          slot_is = told.slot_is;
          ward_is = told.ward_is;
          has_prefix = telling_prefix ward prefix entry told;
          prefix_is = told.prefix_is;
        },
        told.entry_is,
      )

-- ---- one list of cells, and one of tables

pub same_lists : {X : Type 0} (one other : List X) → length one ≡ length other → ((i : ℕ) (x y : X) → slice_get one i ≡ Some x → slice_get other i ≡ Some y → x ≡ y) → one ≡ other
same_lists [] [] len agree = refl
same_lists [] (y ∷ other) len agree = absurd (omega (arith, len))
same_lists (x ∷ one) [] len agree = absurd (omega (arith, len))
same_lists {X} (x ∷ one) (y ∷ other) len agree =
    ap (λ (x : X). x ∷ one) (agree 0 x y refl refl) ∙ ap (λ (rest : List X). y ∷ rest) (same_lists one other (omega (arith, len)) (λ i. agree (suc i)))

pub same_tables : (ward_bits : ℕ) (lows : List ℕ) (cells : List Cell) (tables others : List TableMap) → AreTablesOf ward_bits lows cells tables → AreTablesOf ward_bits lows cells others → tables ≡ others
same_tables ward_bits lows cells tables others first second =
    same_lists tables others (first.count ∙ sym second.count) (λ ward table other is too.
    members_decide (told_of_ward ward_bits ward lows cells) (told_of_ward ward_bits ward lows cells) table other (λ pair. (λ contains. contains, λ contains. contains))
    (first.each ward table is) (second.each ward other too))

there_at : {X : Type 0} (xs : List X) (i : ℕ) → i < length xs → (x : X) × (slice_get xs i ≡ Some x)
there_at [] i within = absurd (omega arith)
there_at (x ∷ xs) zero within = (x, refl)
there_at (x ∷ xs) (suc i) within = there_at xs i (omega (arith, within))

made_slot : ℕ → ℕ → Slot
made_slot number page = record { number = number; page = page }

made_cell : ℕ → List Slot → Cell
made_cell number slots = record { number = number; slots = slots }

module _ (ward_bits : ℕ) (lows : List ℕ) (tables : List TableMap) where
  -- a slot with an entry has the number of the other list's slot at its place
  half : (cells others : List Cell) → AreTold ward_bits lows cells tables → AreTold ward_bits lows others tables
      → (place low len : ℕ) (cell other : Cell) (slot twin : Slot) → slice_get lows place ≡ Some low → slice_get cells place ≡ Some cell → slice_get others place ≡ Some other
      → slice_get cell.slots len ≡ Some slot → slice_get other.slots len ≡ Some twin → (slot.number ≡ 0 → ⊥) → (slot.number ≡ twin.number) × (twin.number ≡ 0 → ⊥)
  half cells others are too place low len cell other slot twin low_is cell_is other_is slot_is twin_is some =
      let ward = ward_of ward_bits low in
      let has = ((are.fit place low cell low_is cell_is).slots len slot slot_is some).prefix in
      let prefix = take len (word_bits low) in
      let table = there_at tables ward (omega (arith, leading-lt ward_bits low (omega (arith, are.few)), are.tables_are.count)) in
      let first = slot_is_entry ward_bits lows cells tables are ward table.0 prefix slot table.1
      (record { place = place; low = low; cell = cell; len = len; page_is = low_is; cell_is = cell_is; slot_is = slot_is; ward_is = refl; has_prefix = has; prefix_is = refl }) in
      let second = slot_is_entry ward_bits lows others tables too ward table.0 prefix twin table.1
      (record { place = place; low = low; cell = other; len = len; page_is = low_is; cell_is = other_is; slot_is = twin_is; ward_is = refl; has_prefix = has; prefix_is = refl }) in
      let given : entry_in others twin ≡ Some (entry_given cells slot) = sym second ∙ first ∙ entry_there cells slot some in
      let said = entry_some others twin (entry_given cells slot) given in
      (said.1, said.0)

  module _ (cells others : List Cell) (are : AreTold ward_bits lows cells tables) (too : AreTold ward_bits lows others tables) where
    same_slot : (place low len : ℕ) (cell other : Cell) (slot twin : Slot) → slice_get lows place ≡ Some low → slice_get cells place ≡ Some cell → slice_get others place ≡ Some other
        → slice_get cell.slots len ≡ Some slot → slice_get other.slots len ≡ Some twin → slot ≡ twin
    unfolding made_slot
    same_slot place low len cell other slot twin low_is cell_is other_is slot_is twin_is = elim (cases_eq slot.number 0) [
      | inl none ↦ elim (cases_eq twin.number 0) [
        | inl nor ↦
            let page : slot.page ≡ 0 = all_at IsTidySlot cell.slots len slot (all_at IsCell cells place cell are.valid cell_is).tidy slot_is none in
            let other_page : twin.page ≡ 0 = all_at IsTidySlot other.slots len twin (all_at IsCell others place other too.valid other_is).tidy twin_is nor in
            let number : slot.number ≡ twin.number = none ∙ sym nor in
            let pages : slot.page ≡ twin.page = page ∙ sym other_page in
            (λ i. made_slot (number i) (pages i))
        | inr some ↦
            let back = half others cells too are place low len other cell twin slot low_is other_is cell_is twin_is slot_is some in
            absurd (back.1 none)
      ]
      | inr some ↦
          let over = half cells others are too place low len cell other slot twin low_is cell_is other_is slot_is twin_is some in
          let page = ((are.fit place low cell low_is cell_is).slots len slot slot_is some).page_is in
          let other_page = ((too.fit place low other low_is other_is).slots len twin twin_is over.1).page_is in
          let pages : slot.page ≡ twin.page = are.apart slot.page twin.page _ page other_page in
          let number = over.0 in
          (λ i. made_slot (number i) (pages i))
    ]

    pub same_told : cells ≡ others
    unfolding made_cell
    same_told = same_lists cells others (are.all ∙ sym too.all) (λ place cell other cell_is other_is.
        let page = there_at lows place (omega (arith, slice_get_within cells place cell cell_is, are.all)) in
        let numbers : cell.number ≡ other.number = (are.fit place page.0 cell page.1 cell_is).number ∙ sym (too.fit place page.0 other page.1 other_is).number in
        let slots : cell.slots ≡ other.slots =
        same_lists cell.slots other.slots ((all_at IsCell cells place cell are.valid cell_is).read.count ∙ sym (all_at IsCell others place other too.valid other_is).read.count)
        (λ len slot twin slot_is twin_is. same_slot place page.0 len cell other slot twin page.1 cell_is other_is slot_is twin_is) in
        (λ i. made_cell (numbers i) (slots i)))
