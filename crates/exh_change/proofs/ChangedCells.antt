-- Cells of which one has another slot, or that are one more, and the tables that they match.
use Rattle.std.proofs.Common.{◌≡◌, ◌≢◌, ◌⊎◌, ℕ, zero, suc, ◌<◌, ◌^◌, nat_eq, Bool, true, false, if◌then◌else◌, List, [], ◌∷◌, ◌++◌, length, map, take, get_or, slice_get, inl, inr, Option, None, Some, refl, sym, ap, ◌∙◌, subst, arith, ◌%◌}
use Rattle.std.specs.Prelude.{slice_set, replicate}
use Rattle.std.specs.FinMap.{empty, get}
use Rattle.std.specs.List.{AllByRecursion}
use Rattle.std.proofs.lemmas.Bool.{cases_eq}
use Rattle.std.proofs.lemmas.List.{length-set, take-append-le, take_all}
use Rattle.std.proofs.lemmas.Option.{slice_get_within}
use Rattle.exh_prefix.specs.Bits.{word_bits}
use Rattle.exh_prefix.specs.Leading.{ward_of}
use Rattle.exh_prefix.specs.Prefix.{HasPrefix}
use Rattle.exh_prefix.specs.PrefixLemmas.{stored_length, stored_low}
use Rattle.exh_prefix.specs.PrefixListLemmas.{AllByRecursion-push, at_front, at_last, one_there, set_else, set_here, set_is}
use Rattle.exh_notice.specs.declared.entry.Entry.{Entry}
use Rattle.exh_notice.specs.declared.entry.Kind.TheVariants.{Merge, Split}
use Rattle.exh_table.specs.Table.{TableMap}
use Rattle.exh_cells.specs.declared.cell.Cell.{Cell}
use Rattle.exh_cells.specs.declared.cell.Slot.{Slot}
use Rattle.exh_cells.specs.declared.cell.TheConstants.{SLOTS}
use Rattle.exh_cells.specs.CellLaws.{AreApart, AreMatched, AreWords, IsSlotOf}
use Rattle.exh_cells.specs.Fit.{FitEach, FitsCell, FitsSlot, FitsSlots, pages_in}
use Rattle.exh_cells.specs.Told.{entry_in, number_at}
use Rattle.exh_change.specs.PlacedSteps.{new_cell, no_slot}
use Rattle.exh_change.proofs.WardPlaces.{other_is}

-- ---- lists

pub all_at : {A : Type 0} (P : A → Type 0) (xs : List A) (i : ℕ) (x : A) → AllByRecursion P xs → slice_get xs i ≡ Some x → P x
all_at P [] i x all is = cc
all_at P (y ∷ xs) zero x all is = let same : y ≡ x = cc in subst P same all.0
all_at P (y ∷ xs) (suc i) x all is = all_at P xs i x all.1 is

-- what stands at a place of a list that has one more
pub pushed_is : {A : Type 0} (xs : List A) (x y : A) (i : ℕ) → slice_get (xs ++ x ∷ []) i ≡ Some y → (slice_get xs i ≡ Some y) ⊎ ((i ≡ length xs) × (y ≡ x))
pushed_is [] x y zero is = inr (refl, cc)
pushed_is [] x y (suc i) is = cc
pushed_is (z ∷ xs) x y zero is = inl is
pushed_is (z ∷ xs) x y (suc i) is = elim (pushed_is xs x y i is) [
  | inl there ↦ inl there
  | inr last ↦ inr (ap suc last.0, last.1)
]

-- bits are the same or not
pub same_or_not : (one other : List Bool) → (one ≡ other) ⊎ (one ≡ other → ⊥)
same_or_not [] [] = inl refl
same_or_not [] (bit ∷ other) = inr (λ same. (cc))
same_or_not (bit ∷ one) [] = inr (λ same. (cc))
same_or_not (true ∷ one) (false ∷ other) = inr (λ same. (cc))
same_or_not (false ∷ one) (true ∷ other) = inr (λ same. (cc))
same_or_not (true ∷ one) (true ∷ other) = elim (same_or_not one other) [
  | inl same ↦ inl (ap (λ (bits : List Bool). true ∷ bits) same)
  | inr differ ↦ inr (λ same. differ (cc))
]
same_or_not (false ∷ one) (false ∷ other) = elim (same_or_not one other) [
  | inl same ↦ inl (ap (λ (bits : List Bool). false ∷ bits) same)
  | inr differ ↦ inr (λ same. differ (cc))
]

-- ---- what slots tell depends on the cells' numbers alone

abbrev pub numbers_of : List Cell → List ℕ
numbers_of cells = map (λ (cell : Cell). cell.number) cells

abbrev entry_by : ℕ → Slot → Option Entry
entry_by number slot = if nat_eq slot.number 0 then None else Some (record { number = slot.number; kind = if nat_eq (slot.number % 2) 1 then Split number else Merge })

entry_same : (cells others : List Cell) (slot : Slot) → (slot.number ≢ 0 → number_at others slot.page ≡ number_at cells slot.page) → entry_in others slot ≡ entry_in cells slot
entry_same cells others slot same = elim (cases_eq slot.number 0) [
  | inl none ↦
      let by : (number : ℕ) → entry_by number slot ≡ None = λ (number : ℕ). rw none refl in
      by (number_at others slot.page) ∙ sym (by (number_at cells slot.page))
  | inr some ↦ ap (λ (number : ℕ). entry_by number slot) (same some)
]

numbers_set : (cells : List Cell) (place : ℕ) (cell changed : Cell) → slice_get cells place ≡ Some cell → changed.number ≡ cell.number → numbers_of (slice_set cells place changed) ≡ numbers_of cells
numbers_set [] place cell changed is same = cc
numbers_set (first ∷ cells) zero cell changed is same =
    let here : first ≡ cell = cc in
    ap (λ (number : ℕ). number ∷ numbers_of cells) (same ∙ ap (λ (cell : Cell). cell.number) (sym here))
numbers_set (first ∷ cells) (suc place) cell changed is same = ap (λ (numbers : List ℕ). first.number ∷ numbers) (numbers_set cells place cell changed is same)

number_pushed : (cells : List Cell) (cell : Cell) (place : ℕ) → place < length cells → number_at (cells ++ cell ∷ []) place ≡ number_at cells place
number_pushed [] cell place within = absurd (omega (arith, within))
number_pushed (first ∷ cells) cell zero within = refl
number_pushed (first ∷ cells) cell (suc place) within = number_pushed cells cell place (omega (arith, within))

-- ---- one slot of one cell is another

module _ (bits : ℕ) (lows : List ℕ) (cells : List Cell) (tables : List TableMap) (apart : AreApart lows) (words : AreWords lows)
    (place low : ℕ) (cell : Cell) (len : ℕ) (prefix : List Bool) (slot new : Slot)
    (page_is : slice_get lows place ≡ Some low) (cell_is : slice_get cells place ≡ Some cell) (slot_is : slice_get cell.slots len ≡ Some slot) (has : HasPrefix len low) (prefix_is : prefix ≡ take len (word_bits low)) where
  abbrev pub changed : Cell
  changed = record cell { slots = slice_set cell.slots len new }

  abbrev pub cells_set : List Cell
  cells_set = slice_set cells place changed

  abbrev own_ward : ℕ
  own_ward = ward_of bits low

  same_entry : (slot : Slot) → entry_in cells_set slot ≡ entry_in cells slot
  same_entry slot = entry_same cells cells_set slot (λ some. ap (λ (numbers : List ℕ). get_or numbers slot.page 0) (numbers_set cells place cell changed cell_is refl))

  low_here : (other : ℕ) → slice_get lows place ≡ Some other → other ≡ low
  low_here other is = one_there lows place other low is page_is

  -- the prefix of a slot tells its length and its page
  one_slot : (other other_len : ℕ) → other < 2 ^ 64 → HasPrefix other_len other → take other_len (word_bits other) ≡ prefix → (other ≡ low) × (other_len ≡ len)
  one_slot other other_len small its is =
      let mine : (low < 2 ^ 64) = all_at (λ (low : ℕ). low < 2 ^ 64) lows place low words page_is in (
        sym (stored_low prefix other_len other is (its, small)) ∙ stored_low prefix len low (sym prefix_is) (has, mine),
        sym (stored_length prefix other_len other is (its, small)) ∙ stored_length prefix len low (sym prefix_is) (has, mine),
      )

  pub fits_set : FitEach bits lows cells → FitsSlot lows low len new.page → FitEach bits lows cells_set
  fits_set fit fits at own other own_is other_is = elim (set_is cells place at cell changed other cell_is other_is) [
    | inl (same, is) ↦
        let own_low : own ≡ low = low_here own (subst (λ (at : ℕ). slice_get lows at ≡ Some own) same own_is) in
        let was = fit place low cell page_is cell_is in
        let slots : FitsSlots lows low changed.slots = λ (at_len : ℕ) (one : Slot) at_is some. elim (set_is cell.slots len at_len slot new one slot_is at_is) [
          | inl (same_len, one_is) ↦ subst (λ (n : ℕ). FitsSlot lows low n one.page) (sym same_len) (subst (λ (one : Slot). FitsSlot lows low len one.page) (sym one_is) fits)
          | inr (differ, there) ↦ was.slots at_len one there some
        ] in
        let fitted : FitsCell bits lows place low changed = record { number = was.number; slots = slots } in
        subst (λ (other : Cell). FitsCell bits lows at own other) (sym is) (subst (λ (own : ℕ). FitsCell bits lows at own changed) (sym own_low) (subst (λ (at : ℕ). FitsCell bits lows at low changed) (sym same) fitted))
    | inr (differ, there) ↦ fit at own other own_is there
  ]

  -- ---- the table of the slot's ward has another entry at its prefix

  module _ (matched : AreMatched bits lows cells tables) (table : TableMap) (entry : Entry) (there : slice_get tables own_ward ≡ Some (get_or tables own_ward empty)) (told : entry_in cells new ≡ Some entry) (here : get table prefix ≡ Some entry)
      (elsewhere : (other : List Bool) → other ≢ prefix → get table other ≡ get (get_or tables own_ward empty) other) where
    abbrev old_table : TableMap
    old_table = get_or tables own_ward empty

    table_here : (number : ℕ) (one : TableMap) → slice_get (slice_set tables own_ward table) number ≡ Some one → number ≡ own_ward → one ≡ table
    table_here number one is same = one_there (slice_set tables own_ward table) own_ward one table (subst (λ (n : ℕ). slice_get (slice_set tables own_ward table) n ≡ Some one) same is) (set_here tables own_ward old_table table there)

    table_else : (number : ℕ) (one : TableMap) → slice_get (slice_set tables own_ward table) number ≡ Some one → number ≢ own_ward → slice_get tables number ≡ Some one
    table_else number one is differ = sym (set_else tables own_ward number table differ) ∙ is

    -- a slot is the changed one, or one of before at another prefix
    was_slot : (number : ℕ) (other : List Bool) (one : Slot) → IsSlotOf bits lows cells_set number other one
        → ((number ≡ own_ward) × (other ≡ prefix) × (one ≡ new)) ⊎ ((other ≢ prefix) × IsSlotOf bits lows cells number other one)
    was_slot number other one of =
        let small : of.low < 2 ^ 64 = all_at (λ (low : ℕ). low < 2 ^ 64) lows of.place of.low words of.page_is in
        let own : other ≡ prefix → (of.low ≡ low) × (of.len ≡ len) = λ same. one_slot of.low of.len small of.has_prefix (sym of.prefix_is ∙ same) in
        elim (set_is cells place of.place cell changed of.cell cell_is of.cell_is) [
          | inl (same, is) ↦
              let low_is : of.low ≡ low = low_here of.low (subst (λ (at : ℕ). slice_get lows at ≡ Some of.low) same of.page_is) in
              elim (set_is cell.slots len of.len slot new one slot_is (subst (λ (cell : Cell). slice_get cell.slots of.len ≡ Some one) is of.slot_is)) [
                | inl (same_len, one_is) ↦ inl (
                  sym of.ward_is ∙ ap (ward_of bits) low_is,
                  of.prefix_is ∙ (λ i. take (same_len i) (word_bits (low_is i))) ∙ sym prefix_is,
                  one_is,
                )
                | inr (differ, slot_there) ↦ inr (
                  λ same_prefix. differ (own same_prefix).1,
                  record {
                    place = of.place;
                    low = of.low;
                    cell = cell;
                    len = of.len;
                    page_is = of.page_is;
                    cell_is = subst (λ (at : ℕ). slice_get cells at ≡ Some cell) (sym same) cell_is;
                    slot_is = slot_there;
                    ward_is = of.ward_is;
                    has_prefix = of.has_prefix;
                    prefix_is = of.prefix_is;
                  },
                )
              ]
          | inr (differ, cell_there) ↦ inr (
            λ same_prefix. differ (apart of.place place low (subst (λ (low : ℕ). slice_get lows of.place ≡ Some low) (own same_prefix).0 of.page_is) page_is),
            record {
              place = of.place;
              low = of.low;
              cell = of.cell;
              len = of.len;
              page_is = of.page_is;
              cell_is = cell_there;
              slot_is = of.slot_is;
              ward_is = of.ward_is;
              has_prefix = of.has_prefix;
              prefix_is = of.prefix_is;
            },
          )
        ]

    -- the other way round
    still_slot : (number : ℕ) (other : List Bool) (one : Slot) → (of : IsSlotOf bits lows cells number other one) → (of.place ≡ place → of.len ≡ len → ⊥) → IsSlotOf bits lows cells_set number other one
    still_slot number other one of apart_slot = elim (cases_eq of.place place) [
      | inl same ↦
          let is : of.cell ≡ cell = one_there cells place of.cell cell (subst (λ (at : ℕ). slice_get cells at ≡ Some of.cell) same of.cell_is) cell_is in
          record {
            place = of.place;
            low = of.low;
            cell = changed;
            len = of.len;
            page_is = of.page_is;
            cell_is = subst (λ (at : ℕ). slice_get cells_set at ≡ Some changed) (sym same) (set_here cells place cell changed cell_is);
            slot_is = set_else cell.slots len of.len new (apart_slot same) ∙ subst (λ (cell : Cell). slice_get cell.slots of.len ≡ Some one) is of.slot_is;
            ward_is = of.ward_is;
            has_prefix = of.has_prefix;
            prefix_is = of.prefix_is;
          }
      | inr differ ↦ record {
        place = of.place;
        low = of.low;
        cell = of.cell;
        len = of.len;
        page_is = of.page_is;
        cell_is = set_else cells place of.place changed differ ∙ of.cell_is;
        slot_is = of.slot_is;
        ward_is = of.ward_is;
        has_prefix = of.has_prefix;
        prefix_is = of.prefix_is;
      }
    ]

    new_slot_is : IsSlotOf bits lows cells_set own_ward prefix new
    new_slot_is = record {
      place = place;
      low = low;
      cell = changed;
      len = len;
      page_is = page_is;
      cell_is = set_here cells place cell changed cell_is;
      slot_is = set_here cell.slots len slot new slot_is;
      ward_is = refl;
      has_prefix = has;
      prefix_is = prefix_is;
    }

    slots_matched : (number : ℕ) (one : TableMap) (other : List Bool) (at : Slot) → slice_get (slice_set tables own_ward table) number ≡ Some one → IsSlotOf bits lows cells_set number other at → get one other ≡ entry_in cells_set at
    slots_matched number one other at is of = elim (was_slot number other at of) [
      | inl (same, same_prefix, at_is) ↦
          ap (λ (one : TableMap). get one other) (table_here number one is same) ∙ ap (get table) same_prefix ∙ here ∙ sym told ∙ ap (entry_in cells) (sym at_is) ∙ sym (same_entry at)
      | inr (differ, was) ↦ elim (cases_eq number own_ward) [
        | inl same ↦
            let old = matched.slots own_ward old_table other at there (subst (λ (n : ℕ). IsSlotOf bits lows cells n other at) same was) in
            ap (λ (one : TableMap). get one other) (table_here number one is same) ∙ elsewhere other differ ∙ old ∙ sym (same_entry at)
        | inr not_own ↦ matched.slots number one other at (table_else number one is not_own) was ∙ sym (same_entry at)
      ]
    ]

    -- an entry at another prefix, or of another ward, has its slot still
    entry_kept : (number : ℕ) (one : TableMap) (other : List Bool) (at : Entry) → slice_get tables number ≡ Some one → get one other ≡ Some at → ((number ≡ own_ward) → other ≢ prefix) → (slot : Slot) × IsSlotOf bits lows cells_set number other slot
    entry_kept number one other at is found differ =
        let was = matched.entries number one other at is found in
        let of = was.1 in (
          was.0,
          still_slot number other was.0 of (λ same_place same_len.
              let low_is : of.low ≡ low = low_here of.low (subst (λ (at : ℕ). slice_get lows at ≡ Some of.low) same_place of.page_is) in
              differ (sym of.ward_is ∙ ap (ward_of bits) low_is) (of.prefix_is ∙ (λ i. take (same_len i) (word_bits (low_is i))) ∙ sym prefix_is)),
        )

    entries_matched : (number : ℕ) (one : TableMap) (other : List Bool) (at : Entry) → slice_get (slice_set tables own_ward table) number ≡ Some one → get one other ≡ Some at → (slot : Slot) × IsSlotOf bits lows cells_set number other slot
    entries_matched number one other at is found = elim (cases_eq number own_ward) [
      | inl same ↦ elim (same_or_not other prefix) [
        | inl same_prefix ↦ (new, subst (λ (n : ℕ). IsSlotOf bits lows cells_set n other new) (sym same) (subst (λ (bits_of_slot : List Bool). IsSlotOf bits lows cells_set own_ward bits_of_slot new) (sym same_prefix) new_slot_is))
        | inr differ ↦
            let old : get old_table other ≡ Some at = sym (elsewhere other differ) ∙ ap (λ (one : TableMap). get one other) (sym (table_here number one is same)) ∙ found in
            let kept = entry_kept own_ward old_table other at there old (λ (own : own_ward ≡ own_ward). differ) in
            (kept.0, subst (λ (n : ℕ). IsSlotOf bits lows cells_set n other kept.0) (sym same) kept.1)
      ]
      | inr not_own ↦ entry_kept number one other at (table_else number one is not_own) found (λ same. absurd (not_own same))
    ]

    pub matched_set : AreMatched bits lows cells_set (slice_set tables own_ward table)
    matched_set = record { count = length-set tables own_ward table ∙ matched.count; slots = slots_matched; entries = entries_matched }

-- ---- one page more, at which nothing was split yet

module _ (bits : ℕ) (lows : List ℕ) (cells : List Cell) (low number : ℕ) (all : length cells ≡ length lows) (none : (place : ℕ) → slice_get lows place ≡ Some low → ⊥) where
  abbrev pub lows_more : List ℕ
  lows_more = lows ++ low ∷ []

  abbrev pub cells_more : List Cell
  cells_more = cells ++ new_cell number ∷ []

  pub apart_more : AreApart lows → AreApart lows_more
  apart_more apart one other own is too = elim (pushed_is lows low own one is) [
    | inl there ↦ elim (pushed_is lows low own other too) [
      | inl there_too ↦ apart one other own there there_too
      | inr (last, own_is) ↦ absurd (none one (there ∙ ap Some own_is))
    ]
    | inr (last, own_is) ↦ elim (pushed_is lows low own other too) [
      | inl there_too ↦ absurd (none other (there_too ∙ ap Some own_is))
      | inr (last_too, own_is_too) ↦ last ∙ sym last_too
    ]
  ]

  pub words_more : AreWords lows → low < 2 ^ 64 → AreWords lows_more
  words_more words small = AllByRecursion-push (λ (low : ℕ). low < 2 ^ 64) lows low words small

  -- the cell of an old place is the old one, and that of the new place the new one
  old_cell : (place : ℕ) (cell : Cell) → place < length lows → slice_get cells_more place ≡ Some cell → slice_get cells place ≡ Some cell
  old_cell place cell within is = sym (at_front cells (new_cell number ∷ []) place (omega (arith, within, all))) ∙ is

  last_cell : (place : ℕ) (cell : Cell) → place ≡ length lows → slice_get cells_more place ≡ Some cell → cell ≡ new_cell number
  last_cell place cell last is = one_there cells_more place cell (new_cell number) is (subst (λ (n : ℕ). slice_get cells_more n ≡ Some (new_cell number)) (all ∙ sym last) (at_last cells (new_cell number)))

  empty_slots : (count at : ℕ) (slot : Slot) → slice_get (replicate count no_slot) at ≡ Some slot → slot ≡ no_slot
  empty_slots zero at slot is = cc
  empty_slots (suc count) zero slot is = cc
  empty_slots (suc count) (suc at) slot is = empty_slots count at slot is

  no_entry : (place : ℕ) (cell : Cell) (at : ℕ) (slot : Slot) → place ≡ length lows → slice_get cells_more place ≡ Some cell → slice_get cell.slots at ≡ Some slot → slot ≡ no_slot
  no_entry place cell at slot last is slot_is = empty_slots SLOTS at slot (subst (λ (cell : Cell). slice_get cell.slots at ≡ Some slot) (last_cell place cell last is) slot_is)

  wider : (own len page : ℕ) → FitsSlot lows own len page → FitsSlot lows_more own len page
  wider own len page fits = record { prefix = fits.prefix; page_is = at_front lows (low ∷ []) page (slice_get_within lows page _ fits.page_is) ∙ fits.page_is }

  pub fits_more : number ≡ pages_in bits (ward_of bits low) lows → FitEach bits lows cells → FitEach bits lows_more cells_more
  fits_more number_is fit place own cell own_is cell_is = elim (pushed_is lows low own place own_is) [
    | inl there ↦
        let within = slice_get_within lows place own there in
        let was = fit place own cell there (old_cell place cell within cell_is) in
        record {
          number = was.number ∙ ap (pages_in bits (ward_of bits own)) (sym (take-append-le place lows (low ∷ []) (omega (arith, within))));
          slots = λ len slot slot_is some. wider own len slot.page (was.slots len slot slot_is some);
        }
    | inr (last, is) ↦
        let front : take place lows_more ≡ lows = take-append-le place lows (low ∷ []) (omega (arith, last)) ∙ take_all place lows (omega (arith, last)) in
        record {
          number = ap (λ (cell : Cell). cell.number) (last_cell place cell last cell_is) ∙ number_is ∙ (λ i. pages_in bits (ward_of bits (sym is i)) (sym front i));
          slots = λ len slot slot_is some. absurd (some (ap (λ (slot : Slot). slot.number) (no_entry place cell len slot last cell_is slot_is)));
        }
  ]

  module _ (tables : List TableMap) (words : AreWords lows) (small : low < 2 ^ 64) (fit : FitEach bits lows cells) (matched : AreMatched bits lows cells tables) where
    -- a table has no entry at a prefix with the new low bound
    nothing_told : (ward : ℕ) (table : TableMap) (len : ℕ) → slice_get tables ward ≡ Some table → HasPrefix len low → (found : Option Entry) → get table (take len (word_bits low)) ≡ found → found ≡ None
    nothing_told ward table len there has None is = refl
    nothing_told ward table len there has (Some entry) is =
        let of = (matched.entries ward table (take len (word_bits low)) entry there is).1 in
        let its : of.low < 2 ^ 64 = all_at (λ (low : ℕ). low < 2 ^ 64) lows of.place of.low words of.page_is in
        let same : of.low ≡ low = sym (stored_low (take len (word_bits low)) of.len of.low (sym of.prefix_is) (of.has_prefix, its)) ∙ stored_low (take len (word_bits low)) len low refl (has, small) in
        absurd (none of.place (of.page_is ∙ ap Some same))

    same_entry_more : (ward : ℕ) (prefix : List Bool) (slot : Slot) → IsSlotOf bits lows cells ward prefix slot → entry_in cells_more slot ≡ entry_in cells slot
    same_entry_more ward prefix slot of =
        entry_same cells cells_more slot (λ some.
        let fits = (fit of.place of.low of.cell of.page_is of.cell_is).slots of.len slot of.slot_is some in
        number_pushed cells (new_cell number) slot.page (omega (arith, all, slice_get_within lows slot.page _ fits.page_is)))

    slots_more : (ward : ℕ) (table : TableMap) (prefix : List Bool) (slot : Slot) → slice_get tables ward ≡ Some table → IsSlotOf bits lows_more cells_more ward prefix slot → get table prefix ≡ entry_in cells_more slot
    slots_more ward table prefix slot there of = elim (pushed_is lows low of.low of.place of.page_is) [
      | inl page_there ↦
          let was : IsSlotOf bits lows cells ward prefix slot = record {
            place = of.place;
            low = of.low;
            cell = of.cell;
            len = of.len;
            page_is = page_there;
            cell_is = old_cell of.place of.cell (slice_get_within lows of.place of.low page_there) of.cell_is;
            slot_is = of.slot_is;
            ward_is = of.ward_is;
            has_prefix = of.has_prefix;
            prefix_is = of.prefix_is;
          } in
          matched.slots ward table prefix slot there was ∙ sym (same_entry_more ward prefix slot was)
      | inr (last, is) ↦
          let has : HasPrefix of.len low = subst (HasPrefix of.len) is of.has_prefix in
          let at : prefix ≡ take of.len (word_bits low) = of.prefix_is ∙ ap (λ (low : ℕ). take of.len (word_bits low)) is in
          let empty_slot : slot ≡ no_slot = no_entry of.place of.cell of.len slot last of.cell_is of.slot_is in
          ap (get table) at ∙ nothing_told ward table of.len there has (get table (take of.len (word_bits low))) refl ∙ ap (entry_in cells_more) (sym empty_slot)
    ]

    entries_more : (ward : ℕ) (table : TableMap) (prefix : List Bool) (entry : Entry) → slice_get tables ward ≡ Some table → get table prefix ≡ Some entry → (slot : Slot) × IsSlotOf bits lows_more cells_more ward prefix slot
    entries_more ward table prefix entry there is =
        let was = matched.entries ward table prefix entry there is in
        let of = was.1 in
        let within = slice_get_within lows of.place of.low of.page_is in (
          was.0,
          record {
            place = of.place;
            low = of.low;
            cell = of.cell;
            len = of.len;
            page_is = at_front lows (low ∷ []) of.place within ∙ of.page_is;
            cell_is = at_front cells (new_cell number ∷ []) of.place (omega (arith, within, all)) ∙ of.cell_is;
            slot_is = of.slot_is;
            ward_is = of.ward_is;
            has_prefix = of.has_prefix;
            prefix_is = of.prefix_is;
          },
        )

    pub matched_more : AreMatched bits lows_more cells_more tables
    matched_more = record { count = matched.count; slots = slots_more; entries = entries_more }
