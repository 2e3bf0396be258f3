-- Tables that match cells are those that the cells tell of.
use Rattle.std.proofs.Common.{◌≡◌, ℕ, Bool, List, Option, None, Some, refl, sym, ◌∙◌, Contains}
use Rattle.std.specs.FinMap.{get}
use Rattle.std.specs.List.{slice_get}
use Rattle.exh_notice.specs.declared.entry.Entry.{Entry}
use Rattle.exh_notice.specs.EntryLemmas.{entry_laws}
use Rattle.exh_format.specs.Table.{IsEntryOf, TableMap}
use Rattle.exh_cells.specs.declared.cell.Cell.{Cell}
use Rattle.exh_cells.specs.CellLaws.{AreMatched, IsSlotOf}
use Rattle.exh_cells.specs.Fit.{FitEach}
use Rattle.exh_cells.specs.Told.{AreTablesOf, told_of_ward}
use Rattle.exh_cells.proofs.CellTables.{Tells, entry_some, told_by, tells}

module _ (ward_bits : ℕ) (lows : List ℕ) (cells : List Cell) (tables : List TableMap) (fit : FitEach ward_bits lows cells) (are : AreMatched ward_bits lows cells tables) where
  slot_of_telling : (ward : ℕ) (prefix : List Bool) (entry : Entry) (told : Tells ward_bits lows cells ward prefix entry) → IsSlotOf ward_bits lows cells ward prefix told.slot
  slot_of_telling ward prefix entry told = record {
    place = told.place;
    low = told.low;
    cell = told.cell;
    len = told.len;
    page_is = told.page_is;
    cell_is = told.cell_is;
    slot_is = told.slot_is;
    ward_is = told.ward_is;
    has_prefix = ((fit told.place told.low told.cell told.page_is told.cell_is).slots told.len told.slot told.slot_is (entry_some cells told.slot entry told.entry_is).0).prefix;
    prefix_is = told.prefix_is;
  }

  told_is : (ward : ℕ) (table : TableMap) → slice_get tables ward ≡ Some table → (prefix : List Bool) (entry : Entry) → Contains (told_of_ward ward_bits ward lows cells) (prefix, entry) → get table prefix ≡ Some entry
  told_is ward table there prefix entry contains =
      let told = told_by ward_bits lows cells ward prefix entry contains in
      are.slots ward table prefix told.slot there (slot_of_telling ward prefix entry told) ∙ told.entry_is

  is_told : (ward : ℕ) (table : TableMap) → slice_get tables ward ≡ Some table → (prefix : List Bool) (entry : Entry) → get table prefix ≡ Some entry → Contains (told_of_ward ward_bits ward lows cells) (prefix, entry)
  is_told ward table there prefix entry is =
      let found = are.entries ward table prefix entry there is in
      let slot = found.1 in
      tells ward_bits lows cells ward prefix entry (record {
        place = slot.place;
        low = slot.low;
        cell = slot.cell;
        len = slot.len;
        slot = found.0;
        page_is = slot.page_is;
        cell_is = slot.cell_is;
        slot_is = slot.slot_is;
        ward_is = slot.ward_is;
        prefix_is = slot.prefix_is;
        entry_is = sym (are.slots ward table prefix found.0 there slot) ∙ is;
      })

  entry_at : (ward : ℕ) (table : TableMap) → slice_get tables ward ≡ Some table → (prefix : List Bool) (found : Option Entry) → get table prefix ≡ found → IsEntryOf (told_of_ward ward_bits ward lows cells) prefix found
  entry_at ward table there prefix None is = λ entry contains. let other = told_is ward table there prefix entry contains in cc
  entry_at ward table there prefix (Some top) is = record {
    member = is_told ward table there prefix top is;
    greatest = λ entry contains.
        let other = told_is ward table there prefix entry contains in
        let same : top ≡ entry = cc in
        rw same (entry_laws.order.reflexive entry);
  }

  pub matched_told : AreTablesOf ward_bits lows cells tables
  matched_told = record {
    count = are.count;
    each = λ ward table there prefix. entry_at ward table there prefix (get table prefix) refl;
  }
