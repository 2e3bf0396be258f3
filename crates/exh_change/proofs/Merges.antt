-- A live left half of a legal file, and its merge with its right buddy.
use Rattle.std.proofs.Common.{◌≡◌, ◌≢◌, ℕ, ◌+◌, ◌%◌, ◌^◌, ◌<◌, ◌≤◌, Bool, true, false, List, [], ◌∷◌, ◌++◌, length, take, get_or, slice_get, Option, Some, refl, sym, ap, ◌∙◌, subst, arith}
use Rattle.std.specs.Prelude.{slice_set}
use Rattle.std.specs.FinMap.{empty}
use Rattle.std.proofs.lemmas.List.{length-map, length-set, length_push, take_all}
use Rattle.exh_keyer.specs.Pseudokey.{any_pseudokey}
use Rattle.exh_keyer.specs.PseudokeyFits.{any_pseudokey-lt}
use Rattle.exh_prefix.specs.declared.prefix.TheConstants.{LIMIT}
use Rattle.exh_prefix.specs.BitLemmas.{length-bits_of}
use Rattle.exh_prefix.specs.Leading.{ward_of, ward_prefix}
use Rattle.exh_prefix.specs.LowLemmas.{left_keeps, right_above}
use Rattle.exh_prefix.specs.Prefix.{low_of}
use Rattle.exh_prefix.specs.PrefixListLemmas.{one_there, set_else, set_here}
use Rattle.exh_notice.specs.declared.entry.Kind.TheVariants.{Merge}
use Rattle.exh_table.specs.Table.{TableMap}
use Rattle.exh_page.specs.declared.page.Page.{Page}
use Rattle.exh_page.specs.declared.page.Page.TheVariants.{Forward, Live}
use Rattle.exh_page.specs.declared.record.Record.{Record}
use Rattle.exh_page.specs.Page.{low_bound, with_records}
use Rattle.exh_legal.specs.BareLemmas.{bare_at}
use Rattle.exh_legal.specs.Change.{IsMerge}
use Rattle.exh_legal.specs.ChangeNumbers.{next_notice}
use Rattle.exh_legal.specs.LegalLaws.{FittingTablesBeginWards, IsChanged, IsWard, LiveLeftChildrenMerge, MergesKeepLegal, IsMergeable as WardMerges}
use Rattle.exh_legal.specs.Pages.{map_of}
use Rattle.exh_cells.specs.declared.cell.Cell.{Cell}
use Rattle.exh_cells.specs.Fit.{FitsCells, pages_in}
use Rattle.exh_cells.specs.LegalPlaced.{IsLegalPlaced, pages_of_ward}
use Rattle.exh_cells.specs.PlacedFile.{IsPlaced, PlacedFile, lows_of}
use Rattle.exh_cells.specs.Told.{AreTablesOf, entry_in}
use Rattle.exh_edits.specs.PlacedLaws.{map_in}
use Rattle.exh_change.specs.PlacedSteps.{IsLiveIn, IsStep, merged, slot_of}
use Rattle.exh_change.specs.StepLaws.{IsMergeable}
use Rattle.exh_change.proofs.ChangedWard.{IsChange, step_kept}
use Rattle.exh_change.proofs.StepsCounts.{few_bits}
use Rattle.exh_change.proofs.InPlace.{CellLaws, cells_after, fits_after, told_after}
use Rattle.exh_change.proofs.LegalWards.{own_ward, ward_less}
use Rattle.exh_change.proofs.Slots.{IsRightPage, has_right, merge_told, next_entry, next_slot, next_table, number_is, stands, table_number_is}
use Rattle.exh_change.proofs.TwoPages.{both, lows_both, others_both, own_both}
use Rattle.exh_change.proofs.WardPlaces.{low_at}

-- what is cited of merges
pub record MergeLaws : Type 0 where
  pub cells : CellLaws
  pub begin : FittingTablesBeginWards
  pub merge : MergesKeepLegal
  pub live : LiveLeftChildrenMerge

module _ (laws : MergeLaws) (file : PlacedFile) (tables : List TableMap) (valid : IsPlaced file) (legal : IsLegalPlaced file tables) (place : ℕ) (prefix : List Bool) (link : Option ℕ) (records : List Record) (cell : Cell)
    (is : IsLiveIn file place (prefix ++ false ∷ []) link records cell) (long : file.header.settings.ward_bits ≤ length prefix) where
  abbrev bits : ℕ
  bits = file.header.settings.ward_bits

  abbrev cap : ℕ
  cap = file.header.settings.cap

  abbrev pseudo : List ℕ → ℕ
  pseudo = any_pseudokey file.header.settings.keyer

  abbrev page : Page
  page = Live (prefix ++ false ∷ []) link records

  few : bits ≤ 4
  few = few_bits file.header valid.header

  -- ---- its ward

  short : length prefix < LIMIT
  short =
      let number = ward_of bits (low_bound page) in
      let its = own_ward file tables few legal.legal number (ward_less bits (low_bound page) few) in
      let at = stands file tables valid legal place page cell is.page_is is.cell_is number refl in
      let within = its.legal.legal.linked.within cell.number (with_records [] page) (bare_at (pages_of_ward bits file.pages number) cell.number page at) in
      omega (arith, within.1, length_push prefix false)

  low_is : low_bound page ≡ low_of prefix
  low_is = left_keeps prefix short

  abbrev w : ℕ
  w = ward_of bits (low_of prefix)

  abbrev ward : List Bool
  ward = ward_prefix bits w

  abbrev own : List Page
  own = pages_of_ward bits file.pages w

  abbrev table : TableMap
  table = get_or tables w empty

  w_less : w < 2 ^ bits
  w_less = ward_less bits (low_of prefix) few

  is_ward : IsWard cap pseudo ward table [] table own
  is_ward = own_ward file tables few legal.legal w w_less

  here : slice_get own cell.number ≡ Some page
  here = stands file tables valid legal place page cell is.page_is is.cell_is w (ap (ward_of bits) low_is)

  ward_merges : WardMerges table own prefix
  ward_merges = laws.live cap pseudo ward table [] table own prefix cell.number is_ward (link, records, here) (omega (arith, length-bits_of bits w, long))

  odd : (slot_of cell (length prefix)).number % 2 ≡ 1
  odd = ap (λ (n : ℕ). n % 2) (sym (table_number_is laws.cells.slots file tables valid legal place page cell is.page_is is.cell_is prefix low_is short long)) ∙ ward_merges.odd

  -- ---- the page of the right child's low bound

  abbrev right_place : ℕ
  right_place = (slot_of cell (length prefix)).page

  right : IsRightPage file prefix right_place
  right = has_right laws.cells.slots file tables valid legal place page cell is.page_is is.cell_is prefix low_is short long (λ none. omega (arith, none, odd))

  right_standing : slice_get own right.cell.number ≡ Some right.page
  right_standing = stands file tables valid legal right_place right.page right.cell right.there right.cell_is w right.own

  numbers_differ : right.cell.number ≢ cell.number
  numbers_differ same =
      let alike = one_there own cell.number right.page page (subst (λ (n : ℕ). slice_get own n ≡ Some right.page) same right_standing) here in
      let low : low_of prefix ≡ low_of (prefix ++ true ∷ []) = sym low_is ∙ sym (ap low_bound alike) ∙ right.low in
      omega (arith, low, right_above prefix short)

  places_differ : right_place ≢ place
  places_differ same =
      numbers_differ (ap (λ (cell : Cell). cell.number) (one_there file.cells place right.cell cell (subst (λ (n : ℕ). slice_get file.cells n ≡ Some right.cell) same right.cell_is) is.cell_is))

  -- ---- a merge with it

  module _ (right_link : Option ℕ) (more : List Record) (buddy_is : slice_get file.pages right_place ≡ Some (Live (prefix ++ true ∷ []) right_link more)) (fitting : length records + length more ≤ cap) where
    abbrev left_page : Page
    left_page = Live prefix right_link (records ++ more)

    abbrev right_page : Page
    right_page = Forward (low_of (prefix ++ true ∷ [])) cell.number

    abbrev own_after : List Page
    own_after = slice_set (slice_set own cell.number left_page) right.cell.number right_page

    buddy : slice_get own right.cell.number ≡ Some (Live (prefix ++ true ∷ []) right_link more)
    buddy = right_standing ∙ ap (λ (page : Page). Some page) (one_there file.pages right_place right.page _ right.there buddy_is)

    merge : IsMerge cap own cell.number prefix own_after
    merge = record {
      right = right.cell.number;
      left_link = link;
      right_link = right_link;
      left_records = records;
      right_records = more;
      there = here;
      buddy = buddy;
      few = fitting;
      merged = set_else (slice_set own cell.number left_page) right.cell.number cell.number right_page (λ same. numbers_differ (sym same)) ∙ set_here own cell.number page left_page here;
      forwards = set_here (slice_set own cell.number left_page) right.cell.number right.page right_page (set_else own cell.number right.cell.number left_page numbers_differ ∙ right_standing);
      others = λ number not_left not_right. set_else (slice_set own cell.number left_page) right.cell.number number right_page not_right ∙ set_else own cell.number number left_page not_left;
      same = length-set (slice_set own cell.number left_page) right.cell.number right_page ∙ length-set own cell.number left_page;
    }

    abbrev new_table : TableMap
    new_table = next_table laws.cells.slots file tables valid legal place page cell is.page_is is.cell_is prefix low_is short long Merge

    changed : IsChanged cap pseudo ward table [] table own (next_notice w table prefix Merge) own_after
    changed = laws.merge cap pseudo ward table [] table own cell.number prefix own_after (next_notice w table prefix Merge) (any_pseudokey-lt file.header.settings.keyer) is_ward merge refl refl refl

    ward_after : IsWard cap pseudo ward new_table [] new_table own_after
    ward_after = laws.begin cap pseudo ward new_table own_after changed.legal.legal changed.fits

    -- ---- the file

    left_low : low_bound left_page ≡ low_bound page
    left_low = sym low_is

    right_low : low_bound right_page ≡ low_bound right.page
    right_low = sym right.low

    abbrev pages_after : List Page
    pages_after = both bits file.pages place right_place page right.page left_page right_page is.page_is right.there left_low right_low places_differ

    lows_same : lows_of pages_after ≡ lows_of file.pages
    lows_same = lows_both bits file.pages place right_place page right.page left_page right_page is.page_is right.there left_low right_low places_differ

    own_is : pages_of_ward bits pages_after w ≡ own_after
    own_is =
        own_both bits file.pages place right_place page right.page left_page right_page is.page_is right.there left_low right_low places_differ w cell.number right.cell.number (ap (ward_of bits) low_is) right.own
        (number_is file tables valid legal place page cell is.page_is is.cell_is ∙ ap (λ (low : ℕ). pages_in bits (ward_of bits low) (take place (lows_of file.pages))) low_is)
        (number_is file tables valid legal right_place right.page right.cell right.there right.cell_is ∙ ap (λ (ward : ℕ). pages_in bits ward (take right_place (lows_of file.pages))) right.own)

    told : entry_in file.cells (next_slot laws.cells.slots file tables valid legal place page cell is.page_is is.cell_is prefix low_is short long right_place)
        ≡ Some (next_entry laws.cells.slots file tables valid legal place page cell is.page_is is.cell_is prefix low_is short long Merge)
    told = merge_told laws.cells.slots file tables valid legal place page cell is.page_is is.cell_is prefix low_is short long file.cells right_place odd

    right_there : slice_get (lows_of file.pages) right_place ≡ Some (low_of (prefix ++ true ∷ []))
    right_there = low_at file.pages right_place right.page right.there ∙ ap (λ (low : ℕ). Some low) right.low

    abbrev new_cells : List Cell
    new_cells = cells_after laws.cells file tables valid legal place page cell is.page_is is.cell_is prefix low_is short long Merge right_place right_there told

    fits : FitsCells bits file.header.page_counts (lows_of file.pages) new_cells
    fits = fits_after laws.cells file tables valid legal place page cell is.page_is is.cell_is prefix low_is short long Merge right_place right_there told

    tables_told : AreTablesOf bits (lows_of file.pages) new_cells (slice_set tables w new_table)
    tables_told = told_after laws.cells file tables valid legal place page cell is.page_is is.cell_is prefix low_is short long Merge right_place right_there told

    change : IsChange file tables file.header.page_counts pages_after new_cells w new_table
    change = record {
      there = w_less;
      others = λ other differ.
          others_both bits file.pages place right_place page right.page left_page right_page is.page_is right.there left_low right_low places_differ other (λ same. differ (sym same ∙ ap (ward_of bits) low_is)) (λ same. differ (sym same ∙ right.own));
      own = subst (λ (pages : List Page). IsWard cap pseudo ward new_table [] new_table pages) (sym own_is) ward_after;
      fits = subst (λ (lows : List ℕ). FitsCells bits file.header.page_counts lows new_cells) (sym lows_same) fits;
      told = subst (λ (lows : List ℕ). AreTablesOf bits lows new_cells (slice_set tables w new_table)) (sym lows_same) tables_told;
      places = ap (take (length file.pages)) lows_same ∙ take_all (length file.pages) (lows_of file.pages) (omega (arith, length-map file.pages low_bound));
    }

    merge_step : IsStep file (map_in file) (merged place right_place prefix right_link records more cell file)
    merge_step = step_kept file tables few legal.tables_are.count legal.legal file.header.page_counts pages_after new_cells w new_table change (ap map_of own_is ∙ changed.map)

  pub is_mergeable : IsMergeable file place prefix records cell
  is_mergeable = record { odd = odd; right = right.page; there = right.there; low = right.low; merges = merge_step }
