-- A split of which the right half is a forwarding page that is made live again.
use Rattle.std.proofs.Common.{◌≡◌, ◌≢◌, ℕ, Bool, true, List, [], ◌∷◌, ◌++◌, length, map, take, slice_get, Option, Some, inl, refl, sym, ap, ◌∙◌, subst, arith}
use Rattle.std.specs.Prelude.{slice_set}
use Rattle.std.specs.Option.{option_map}
use Rattle.std.proofs.lemmas.List.{length-map, length-set, take_all}
use Rattle.std.proofs.lemmas.Option.{get_or_from_slice_get, slice_get-map}
use Rattle.exh_keyer.specs.Pseudokey.{any_pseudokey}
use Rattle.exh_prefix.specs.Leading.{ward_of, ward_prefix}
use Rattle.exh_prefix.specs.LowLemmas.{left_keeps}
use Rattle.exh_prefix.specs.Prefix.{low_of}
use Rattle.exh_prefix.specs.PrefixListLemmas.{one_there, set_else, set_here}
use Rattle.exh_notice.specs.declared.entry.Kind.TheVariants.{Split}
use Rattle.exh_table.specs.Table.{TableMap}
use Rattle.exh_page.specs.declared.page.Page.{Page}
use Rattle.exh_page.specs.declared.page.Page.TheVariants.{Forward, Live}
use Rattle.exh_page.specs.declared.record.Record.{Record}
use Rattle.exh_page.specs.Page.{low_bound}
use Rattle.exh_legal.specs.Change.{IsForwardOf, IsSplit}
use Rattle.exh_legal.specs.LegalLaws.{IsWard}
use Rattle.exh_legal.specs.Pages.{map_of}
use Rattle.exh_cells.specs.declared.cell.Cell.{Cell}
use Rattle.exh_cells.specs.Fit.{FitsCells, pages_in}
use Rattle.exh_cells.specs.LegalPlaced.{IsLegalPlaced, pages_of_ward}
use Rattle.exh_cells.specs.PlacedFile.{IsPlaced, PlacedFile, lows_of}
use Rattle.exh_cells.specs.Told.{AreTablesOf, entry_in, number_at}
use Rattle.exh_change.specs.PlacedSteps.{IsFullIn, IsStep, left_half, right_half, slot_of, split_revived}
use Rattle.exh_change.specs.StepLaws.{IsSplitRevived}
use Rattle.exh_edits.specs.PlacedLaws.{map_in}
use Rattle.exh_change.proofs.ChangedWard.{IsChange, step_kept}
use Rattle.exh_change.proofs.InPlace.{cells_after, fits_after, told_after}
use Rattle.exh_change.proofs.Slots.{IsRightPage, has_right, next_entry, next_slot, number_is, split_told, stands}
use Rattle.exh_change.proofs.TwoPages.{both, lows_both, others_both, own_both}
use Rattle.exh_change.proofs.WardPlaces.{low_at}
use Rattle.exh_change.proofs.WardSplits.{SplitLaws, even, few, long, map_after, not_here, splits, standing, table_after, w_less, ward_after}

-- the number that a cell tells
pub number_told : (cells : List Cell) (place : ℕ) (cell : Cell) → slice_get cells place ≡ Some cell → number_at cells place ≡ cell.number
number_told cells place cell is =
    get_or_from_slice_get (map (λ (cell : Cell). cell.number) cells) place cell.number 0 (slice_get-map (λ (cell : Cell). cell.number) cells place ∙ ap (option_map (λ (cell : Cell). cell.number)) is)

module _ (laws : SplitLaws) (file : PlacedFile) (tables : List TableMap) (valid : IsPlaced file) (legal : IsLegalPlaced file tables) (place : ℕ) (prefix : List Bool) (link : Option ℕ) (records : List Record) (cell : Cell)
    (is : IsFullIn file place prefix link records cell) (some : (slot_of cell (length prefix)).number ≢ 0) where
  abbrev bits : ℕ
  bits = file.header.settings.ward_bits

  abbrev cap : ℕ
  cap = file.header.settings.cap

  abbrev page : Page
  page = Live prefix link records

  abbrev w : ℕ
  w = ward_of bits (low_of prefix)

  abbrev own : List Page
  own = pages_of_ward bits file.pages w

  abbrev right_place : ℕ
  right_place = (slot_of cell (length prefix)).page

  right : IsRightPage file prefix right_place
  right = has_right laws.cells.slots file tables valid legal place page cell is.there.page_is is.there.cell_is prefix refl is.short (long laws file tables valid legal place prefix link records cell is) some

  right_standing : slice_get own right.cell.number ≡ Some right.page
  right_standing = stands file tables valid legal right_place right.page right.cell right.there right.cell_is w right.own

  forward : IsForwardOf own (low_of (prefix ++ true ∷ [])) right.cell.number
  forward = (splits laws file tables valid legal place prefix link records cell is).forwards right.cell.number (right.page, right_standing, right.low)

  forward_there : slice_get file.pages right_place ≡ Some (Forward (low_of (prefix ++ true ∷ [])) forward.0)
  forward_there = right.there ∙ ap (λ (page : Page). Some page) (one_there own right.cell.number right.page _ right_standing forward.1)

  numbers_differ : right.cell.number ≢ cell.number
  numbers_differ = not_here laws file tables valid legal place prefix link records cell is right.cell.number right.page right_standing right.low

  places_differ : right_place ≢ place
  places_differ same =
      let alike = one_there file.pages place right.page page (subst (λ (n : ℕ). slice_get file.pages n ≡ Some right.page) same right.there) is.there.page_is in
      numbers_differ (ap (λ (cell : Cell). cell.number) (one_there file.cells place right.cell cell (subst (λ (n : ℕ). slice_get file.cells n ≡ Some right.cell) same right.cell_is) is.there.cell_is))

  -- ---- the ward

  abbrev left_page : Page
  left_page = left_half prefix right.cell.number records

  abbrev right_page : Page
  right_page = right_half prefix link records

  abbrev own_after : List Page
  own_after = slice_set (slice_set own cell.number left_page) right.cell.number right_page

  here : slice_get own cell.number ≡ Some page
  here = standing laws file tables valid legal place prefix link records cell is

  split : IsSplit cap own cell.number prefix right.cell.number own_after
  split = record {
    link = link;
    records = records;
    there = here;
    full = is.full;
    short = is.short;
    left = set_else (slice_set own cell.number left_page) right.cell.number cell.number right_page (λ same. numbers_differ (sym same)) ∙ set_here own cell.number page left_page here;
    right_half = set_here (slice_set own cell.number left_page) right.cell.number right.page right_page (set_else own cell.number right.cell.number left_page numbers_differ ∙ right_standing);
    place = inl (forward, length-set (slice_set own cell.number left_page) right.cell.number right_page ∙ length-set own cell.number left_page);
    others = λ number not_left not_right. set_else (slice_set own cell.number left_page) right.cell.number number right_page not_right ∙ set_else own cell.number number left_page not_left;
  }

  abbrev new_table : TableMap
  new_table = table_after laws file tables valid legal place prefix link records cell is right.cell.number own_after split

  -- ---- the file

  left_low : low_bound left_page ≡ low_bound page
  left_low = left_keeps prefix is.short

  right_low : low_bound right_page ≡ low_bound right.page
  right_low = sym right.low

  abbrev pages_after : List Page
  pages_after = both bits file.pages place right_place page right.page left_page right_page is.there.page_is right.there left_low right_low places_differ

  lows_same : lows_of pages_after ≡ lows_of file.pages
  lows_same = lows_both bits file.pages place right_place page right.page left_page right_page is.there.page_is right.there left_low right_low places_differ

  own_is : pages_of_ward bits pages_after w ≡ own_after
  own_is =
      own_both bits file.pages place right_place page right.page left_page right_page is.there.page_is right.there left_low right_low places_differ w cell.number right.cell.number refl right.own
      (number_is file tables valid legal place page cell is.there.page_is is.there.cell_is)
      (number_is file tables valid legal right_place right.page right.cell right.there right.cell_is ∙ ap (λ (ward : ℕ). pages_in bits ward (take right_place (lows_of file.pages))) right.own)

  told : entry_in file.cells (next_slot laws.cells.slots file tables valid legal place page cell is.there.page_is is.there.cell_is prefix refl is.short (long laws file tables valid legal place prefix link records cell is) right_place)
      ≡ Some (next_entry laws.cells.slots file tables valid legal place page cell is.there.page_is is.there.cell_is prefix refl is.short (long laws file tables valid legal place prefix link records cell is) (Split right.cell.number))
  told =
      split_told laws.cells.slots file tables valid legal place page cell is.there.page_is is.there.cell_is prefix refl is.short (long laws file tables valid legal place prefix link records cell is) file.cells right_place
      (even laws file tables valid legal place prefix link records cell is)
      ∙ ap (λ (number : ℕ). Some (next_entry laws.cells.slots file tables valid legal place page cell is.there.page_is is.there.cell_is prefix refl is.short (long laws file tables valid legal place prefix link records cell is) (Split number)))
      (number_told file.cells right_place right.cell right.cell_is)

  right_there : slice_get (lows_of file.pages) right_place ≡ Some (low_of (prefix ++ true ∷ []))
  right_there = low_at file.pages right_place right.page right.there ∙ ap (λ (low : ℕ). Some low) right.low

  abbrev new_cells : List Cell
  new_cells = cells_after laws.cells file tables valid legal place page cell is.there.page_is is.there.cell_is prefix refl is.short (long laws file tables valid legal place prefix link records cell is) (Split right.cell.number) right_place right_there told

  fits : FitsCells bits file.header.page_counts (lows_of file.pages) new_cells
  fits = fits_after laws.cells file tables valid legal place page cell is.there.page_is is.there.cell_is prefix refl is.short (long laws file tables valid legal place prefix link records cell is) (Split right.cell.number) right_place right_there told

  tables_told : AreTablesOf bits (lows_of file.pages) new_cells (slice_set tables w new_table)
  tables_told = told_after laws.cells file tables valid legal place page cell is.there.page_is is.there.cell_is prefix refl is.short (long laws file tables valid legal place prefix link records cell is) (Split right.cell.number) right_place right_there told

  change : IsChange file tables file.header.page_counts pages_after new_cells w new_table
  change = record {
    there = w_less laws file tables valid legal place prefix link records cell is;
    others = λ other differ.
        others_both bits file.pages place right_place page right.page left_page right_page is.there.page_is right.there left_low right_low places_differ other (λ same. differ (sym same)) (λ same. differ (sym same ∙ right.own));
    own = subst (λ (pages : List Page). IsWard cap (any_pseudokey file.header.settings.keyer) (ward_prefix bits w) new_table [] new_table pages) (sym own_is) (ward_after laws file tables valid legal place prefix link records cell is right.cell.number own_after split);
    fits = subst (λ (lows : List ℕ). FitsCells bits file.header.page_counts lows new_cells) (sym lows_same) fits;
    told = subst (λ (lows : List ℕ). AreTablesOf bits lows new_cells (slice_set tables w new_table)) (sym lows_same) tables_told;
    places = ap (take (length file.pages)) lows_same ∙ take_all (length file.pages) (lows_of file.pages) (omega (arith, length-map file.pages low_bound));
  }

  step : IsStep file (map_in file) (split_revived place prefix link records cell right_place right.cell.number file)
  step =
      step_kept file tables (few laws file tables valid legal place prefix link records cell is) legal.tables_are.count legal.legal file.header.page_counts pages_after new_cells w new_table change
      (ap map_of own_is ∙ map_after laws file tables valid legal place prefix link records cell is right.cell.number own_after split)

  pub is_revived : IsSplitRevived file place prefix link records cell
  is_revived = record { target = forward.0; forward = forward_there; right_cell = right.cell; right_is = right.cell_is; step = step }
