-- One change more at a prefix of a legal file, whose pages stay in their places: the cells and the tables that they tell of.
use Rattle.std.proofs.Common.{◌≡◌, ℕ, ◌+◌, ◌<◌, ◌≤◌, Bool, true, List, [], ◌∷◌, ◌++◌, length, slice_get, Some, ap, ◌∙◌}
use Rattle.std.specs.Prelude.{slice_set}
use Rattle.exh_prefix.specs.declared.prefix.TheConstants.{LIMIT}
use Rattle.exh_prefix.specs.Leading.{ward_of}
use Rattle.exh_prefix.specs.Prefix.{low_of}
use Rattle.exh_notice.specs.declared.entry.Kind.{Kind}
use Rattle.exh_table.specs.Table.{TableMap}
use Rattle.exh_page.specs.declared.page.Page.{Page}
use Rattle.exh_page.specs.Page.{low_bound}
use Rattle.exh_cells.specs.declared.cell.Cell.{Cell}
use Rattle.exh_cells.specs.declared.cell.Slot.{Slot}
use Rattle.exh_cells.specs.CellLaws.{AreTold, EntriesHaveSlots, MatchedTablesAreTold, SlotsAreEntries}
use Rattle.exh_cells.specs.Fit.{FitEach, FitsCells, FitsSlot}
use Rattle.exh_cells.specs.LegalPlaced.{IsLegalPlaced}
use Rattle.exh_cells.specs.PlacedFile.{IsPlaced, PlacedFile, lows_of}
use Rattle.exh_cells.specs.Told.{AreTablesOf, entry_in}
use Rattle.exh_change.specs.PlacedSteps.{slot_of, with_change}
use Rattle.exh_change.proofs.ChangedCells.{fits_set, matched_set}
use Rattle.exh_change.proofs.LegalWards.{are_matched, are_told, table_there}
use Rattle.exh_change.proofs.Slots.{has, low_there, next_elsewhere, next_entry, next_here, next_slot, next_table, prefix_is, slot_is, ward_fits}

-- what is cited of cells and tables
pub record CellLaws : Type 0 where
  pub slots : SlotsAreEntries
  pub entries : EntriesHaveSlots
  pub told : MatchedTablesAreTold

module _ (laws : CellLaws) (file : PlacedFile) (tables : List TableMap) (valid : IsPlaced file) (legal : IsLegalPlaced file tables) (place : ℕ) (page : Page) (cell : Cell) (page_is : slice_get file.pages place ≡ Some page) (cell_is : slice_get file.cells place ≡ Some cell)
    (prefix : List Bool) (low_is : low_bound page ≡ low_of prefix) (short : length prefix < LIMIT) (long : file.header.settings.ward_bits ≤ length prefix)
    (kind : Kind) (right : ℕ) (right_low : slice_get (lows_of file.pages) right ≡ Some (low_of (prefix ++ true ∷ [])))
    (told : entry_in file.cells (next_slot laws.slots file tables valid legal place page cell page_is cell_is prefix low_is short long right) ≡ Some (next_entry laws.slots file tables valid legal place page cell page_is cell_is prefix low_is short long kind)) where
  abbrev bits : ℕ
  bits = file.header.settings.ward_bits

  abbrev lows : List ℕ
  lows = lows_of file.pages

  abbrev w : ℕ
  w = ward_of bits (low_of prefix)

  abbrev slot : Slot
  slot = slot_of cell (length prefix)

  abbrev new_slot : Slot
  new_slot = record { number = slot.number + 1; page = right }

  abbrev new_table : TableMap
  new_table = next_table laws.slots file tables valid legal place page cell page_is cell_is prefix low_is short long kind

  abbrev pub cells_after : List Cell
  cells_after = slice_set file.cells place (with_change (length prefix) right cell)

  are : AreTold bits lows file.cells tables
  are = are_told file tables valid legal

  page_low : slice_get lows place ≡ Some (low_of prefix)
  page_low = low_there laws.slots file tables valid legal place page cell page_is cell_is prefix low_is short long

  fits_right : FitsSlot lows (low_of prefix) (length prefix) right
  fits_right = record {
    prefix = has laws.slots file tables valid legal place page cell page_is cell_is prefix low_is short long;
    page_is = right_low ∙ ap (λ (front : List Bool). Some (low_of (front ++ true ∷ []))) (prefix_is laws.slots file tables valid legal place page cell page_is cell_is prefix low_is short long);
  }

  fit_after : FitEach bits lows cells_after
  fit_after =
      fits_set bits lows file.cells tables are.apart are.words place (low_of prefix) cell (length prefix) prefix slot new_slot page_low cell_is
      (slot_is laws.slots file tables valid legal place page cell page_is cell_is prefix low_is short long) (has laws.slots file tables valid legal place page cell page_is cell_is prefix low_is short long)
      (prefix_is laws.slots file tables valid legal place page cell page_is cell_is prefix low_is short long) legal.fits.each fits_right

  pub fits_after : FitsCells bits file.header.page_counts lows cells_after
  fits_after = record { firsts = legal.fits.firsts; counts_are = legal.fits.counts_are; each = fit_after }

  pub told_after : AreTablesOf bits lows cells_after (slice_set tables w new_table)
  told_after =
      laws.told bits lows cells_after (slice_set tables w new_table) fit_after
      (matched_set bits lows file.cells tables are.apart are.words place (low_of prefix) cell (length prefix) prefix slot new_slot page_low cell_is
      (slot_is laws.slots file tables valid legal place page cell page_is cell_is prefix low_is short long) (has laws.slots file tables valid legal place page cell page_is cell_is prefix low_is short long)
      (prefix_is laws.slots file tables valid legal place page cell page_is cell_is prefix low_is short long)
      (are_matched file tables valid legal laws.slots laws.entries) new_table (next_entry laws.slots file tables valid legal place page cell page_is cell_is prefix low_is short long kind)
      (table_there file tables valid legal w (ward_fits laws.slots file tables valid legal place page cell page_is cell_is prefix low_is short long)) told
      (next_here laws.slots file tables valid legal place page cell page_is cell_is prefix low_is short long kind)
      (next_elsewhere laws.slots file tables valid legal place page cell page_is cell_is prefix low_is short long kind))
