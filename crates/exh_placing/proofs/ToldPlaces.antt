-- The tables that cells tell of have their places.
use Rattle.std.proofs.Common.{◌≡◌, ◌≢◌, ℕ, ◌<◌, ◌^◌, Bool, true, List, ◌∷◌, [], ◌++◌, length, map, None, Some, refl, sym, ap, ◌∙◌, subst, inl, inr, arith}
use Rattle.std.specs.FinMap.{get}
use Rattle.std.specs.List.{AllByRecursion, slice_get}
use Rattle.std.specs.Option.{option_map}
use Rattle.std.proofs.lemmas.Bool.{cases_eq}
use Rattle.std.proofs.lemmas.Option.{get_or_from_slice_get, slice_get-map, slice_get_within}
use Rattle.exh_prefix.specs.Leading.{ward_of}
use Rattle.exh_prefix.specs.Prefix.{low_of}
use Rattle.exh_prefix.specs.PrefixLemmas.{length-stored, low_of-stored}
use Rattle.exh_prefix.specs.PrefixListLemmas.{within_there}
use Rattle.exh_notice.specs.declared.entry.Entry.{Entry}
use Rattle.exh_table.specs.Table.{TableMap}
use Rattle.exh_cells.specs.declared.cell.Cell.{Cell}
use Rattle.exh_cells.specs.declared.cell.Slot.{Slot}
use Rattle.exh_cells.specs.CellLaws.{AreTold, EntriesHaveSlots}
use Rattle.exh_cells.specs.Told.{entry_in, kind_in, number_at}
use Rattle.exh_cells.specs.WalkImage.{IsCell}
use Rattle.exh_placing.specs.Placed.{HasPlaces, HavePlaces, kind_by, number_by}
use Rattle.exh_placing.proofs.Made.{entry_none, entry_there}

all_at : {X : Type 0} (P : X → Type 0) (xs : List X) (i : ℕ) (x : X) → AllByRecursion P xs → slice_get xs i ≡ Some x → P x
all_at P [] i x all is = cc
all_at P (y ∷ xs) Prim.Native.Nat.zero x all is = let same : y ≡ x = cc in subst P same all.0
all_at P (y ∷ xs) (Prim.Native.Nat.suc i) x all is = all_at P xs i x all.1 is

said_entry : List Cell → Slot → Entry
said_entry cells slot = record { number = slot.number; kind = kind_in cells slot }

-- what a slot that tells an entry says of it
entry_said : (cells : List Cell) (slot : Slot) (entry : Entry) → entry_in cells slot ≡ Some entry → (slot.number ≢ 0) × (entry.number ≡ slot.number) × (entry.kind ≡ kind_in cells slot)
unfolding said_entry
entry_said cells slot entry is = elim (cases_eq slot.number 0) [
  | inl none ↦ let clash : None ≡ Some entry = sym (entry_none cells slot none) ∙ is in cc
  | inr some ↦
      let both : Some (said_entry cells slot) ≡ Some entry = entry_there cells slot (said_entry cells slot) some refl refl ∙ is in
      let same : said_entry cells slot ≡ entry = cc in
      (some, ap (λ (entry : Entry). entry.number) (sym same), ap (λ (entry : Entry). entry.kind) (sym same))
]

module _ (law : EntriesHaveSlots) (ward_bits : ℕ) (lows : List ℕ) (cells : List Cell) (tables : List TableMap) (told : AreTold ward_bits lows cells tables) where
  number_told : (place low : ℕ) → slice_get lows place ≡ Some low → number_at cells place ≡ number_by ward_bits lows low place
  number_told place low is =
      let cell = within_there cells place (omega (arith, told.all, slice_get_within lows place low is)) in
      get_or_from_slice_get (map (λ (cell : Cell). cell.number) cells) place (cell.0).number 0
      (slice_get-map (λ (cell : Cell). cell.number) cells place ∙ ap (option_map (λ (cell : Cell). cell.number)) cell.1)
      ∙ (told.fit place low cell.0 is cell.1).number

  entry_placed : (ward : ℕ) (table : TableMap) (prefix : List Bool) (entry : Entry) → slice_get tables ward ≡ Some table → get table prefix ≡ Some entry → HasPlaces ward_bits lows ward prefix entry
  entry_placed ward table prefix entry there is =
      let found = law ward_bits lows cells tables ward table prefix entry told there is in
      let slot = found.0 in
      let at = found.1 in
      let said = entry_said cells slot entry found.2 in
      let word : at.low < 2 ^ 64 = all_at (λ (low : ℕ). low < 2 ^ 64) lows at.place at.low told.words at.page_is in
      let low_is : low_of prefix ≡ at.low = ap low_of at.prefix_is ∙ low_of-stored at.len at.low word at.has_prefix in
      let len : length prefix ≡ at.len = ap length at.prefix_is ∙ length-stored at.len at.low at.has_prefix in
      let valid = all_at IsCell cells at.place at.cell told.valid at.cell_is in
      let room : at.len < length at.cell.slots = slice_get_within at.cell.slots at.len slot at.slot_is in
      let fits = (told.fit at.place at.low at.cell at.page_is at.cell_is).slots at.len slot at.slot_is said.0 in
      let child = low_of (prefix ++ true ∷ []) in
      let right : slice_get lows slot.page ≡ Some child = fits.page_is ∙ ap (λ (bits : List Bool). Some (low_of (bits ++ true ∷ []))) (sym at.prefix_is) in
      let number = said.1 in
      let numbered = number_told slot.page child right in
      record {
        short = omega (arith, len, room, valid.read.count);
        some = λ none. said.0 (sym number ∙ none);
        own = ap (ward_of ward_bits) low_is ∙ at.ward_is;
        left = at.place;
        left_is = at.page_is ∙ ap (λ (low : ℕ). Some low) (sym low_is);
        right = slot.page;
        right_is = right;
        kind_is = said.2 ∙ (λ i. kind_by (sym number i) (numbered i));
      }

  pub told_placed : HavePlaces ward_bits lows tables
  told_placed = record { count = told.tables_are.count; each = entry_placed }
