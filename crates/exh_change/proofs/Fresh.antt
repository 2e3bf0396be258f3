-- A split of which the right half is a new page, behind the others.
use Rattle.std.proofs.Common.{◌≡◌, ◌≢◌, ℕ, zero, suc, ◌+◌, ◌-◌, ◌^◌, ◌<◌, ◌≤◌, Bool, true, List, [], ◌∷◌, ◌++◌, length, take, get_or, slice_get, Option, None, Some, inl, inr, refl, sym, ap, ◌∙◌, subst, arith}
use Rattle.std.specs.Prelude.{slice_index, slice_set}
use Rattle.std.specs.FinMap.{empty, get}
use Rattle.std.proofs.lemmas.Bool.{cases_eq, cases_lt}
use Rattle.std.proofs.lemmas.List.{get_or-set_other, get_or-set_same, length-set, length_push, take-append-le, take_all}
use Rattle.std.proofs.lemmas.Nat.{pow_below}
use Rattle.std.proofs.lemmas.Option.{slice_get_within}
use Rattle.exh_keyer.specs.Pseudokey.{any_pseudokey}
use Rattle.exh_prefix.specs.declared.prefix.TheConstants.{LIMIT}
use Rattle.exh_prefix.specs.Leading.{ward_of, ward_prefix}
use Rattle.exh_prefix.specs.LowLemmas.{child_short, left_keeps, low_of-small}
use Rattle.exh_prefix.specs.Prefix.{low_of}
use Rattle.exh_prefix.specs.PrefixListLemmas.{at_front, at_last, set_else, set_here}
use Rattle.exh_notice.specs.declared.entry.Kind.TheVariants.{Split}
use Rattle.exh_table.specs.Table.{TableMap}
use Rattle.exh_page.specs.declared.page.Page.{Page}
use Rattle.exh_page.specs.declared.page.Page.TheVariants.{Forward, Live}
use Rattle.exh_page.specs.declared.record.Record.{Record}
use Rattle.exh_page.specs.Page.{low_bound}
use Rattle.exh_legal.specs.BareLemmas.{bare_at}
use Rattle.exh_legal.specs.Change.{IsForwardOf, IsSplit}
use Rattle.exh_legal.specs.LegalLaws.{IsWard}
use Rattle.exh_legal.specs.Pages.{map_of}
use Rattle.exh_cells.specs.declared.cell.Cell.{Cell}
use Rattle.exh_cells.specs.declared.cell.Slot.{Slot}
use Rattle.exh_cells.specs.declared.fit.TheConstants.{COUNTS_LEN}
use Rattle.exh_cells.specs.CellLaws.{AreApart, AreMatched, AreTold, AreWords}
use Rattle.exh_cells.specs.Fit.{BeginWards, FitEach, FitsCells, FitsSlot, pages_in}
use Rattle.exh_cells.specs.LegalPlaced.{IsLegalPlaced, pages_of_ward}
use Rattle.exh_cells.specs.PlacedFile.{IsPlaced, PlacedFile, lows_of}
use Rattle.exh_cells.specs.Told.{AreTablesOf, entry_in, number_at}
use Rattle.exh_change.specs.PlacedSteps.{IsFullIn, IsStep, count_in, left_half, new_cell, right_half, slot_of, split_fresh, with_change}
use Rattle.exh_change.specs.StepLaws.{IsSplitFresh}
use Rattle.exh_edits.specs.PlacedLaws.{map_in}
use Rattle.exh_change.proofs.ChangedCells.{apart_more, fits_more, fits_set, matched_more, matched_set, pushed_is, words_more}
use Rattle.exh_change.proofs.ChangedWard.{IsChange, step_kept}
use Rattle.exh_change.proofs.StepsCounts.{all_counts, some_pages}
use Rattle.exh_change.proofs.LegalWards.{are_matched, are_told, length-lows, table_there}
use Rattle.exh_change.proofs.Revived.{number_told}
use Rattle.exh_change.proofs.Slots.{entry_is, has, low_there, next_elsewhere, next_entry, next_here, next_slot, no_entry, number_is, prefix_is, slot_is, split_told, ward_of_child}
use Rattle.exh_change.proofs.WardPlaces.{counted_push_other, counted_push_own, length_own, lows_push, lows_set, numbered, page_of_low, push_other, push_own, set_other, set_own}
use Rattle.exh_change.proofs.WardSplits.{SplitLaws, even, few, is_ward, long, map_after, room_after, splits, standing, table_after, w_less, ward_after}

pushed_else : {A : Type 0} (xs : List A) (x : A) (i : ℕ) → i ≢ length xs → slice_get (xs ++ x ∷ []) i ≡ slice_get xs i
pushed_else [] x zero differ = absurd (differ refl)
pushed_else [] x (suc i) differ = refl
pushed_else (y ∷ xs) x zero differ = refl
pushed_else (y ∷ xs) x (suc i) differ = pushed_else xs x i (λ same. differ (ap suc same))

wards_few : (bits ward : ℕ) → bits ≤ 4 → ward < 2 ^ bits → ward < COUNTS_LEN
wards_few bits ward few less = elim (cases_lt bits 4) [
  | inl fewer ↦ omega (arith, less, pow_below bits 4 fewer)
  | inr not_fewer ↦ let same : bits ≡ 4 = omega (arith, few, not_fewer) in subst (λ (n : ℕ). ward < 2 ^ n) same less
]

module _ (laws : SplitLaws) (file : PlacedFile) (tables : List TableMap) (valid : IsPlaced file) (legal : IsLegalPlaced file tables) (place : ℕ) (prefix : List Bool) (link : Option ℕ) (records : List Record) (cell : Cell)
    (is : IsFullIn file place prefix link records cell) (nothing : (slot_of cell (length prefix)).number ≡ 0) where
  abbrev bits : ℕ
  bits = file.header.settings.ward_bits

  abbrev cap : ℕ
  cap = file.header.settings.cap

  abbrev page : Page
  page = Live prefix link records

  abbrev w : ℕ
  w = ward_of bits (low_of prefix)

  abbrev own : List Page
  own = pages_of_ward bits file.pages w

  abbrev table : TableMap
  table = get_or tables w empty

  abbrev lows : List ℕ
  lows = lows_of file.pages

  abbrev right_low : ℕ
  right_low = low_of (prefix ++ true ∷ [])

  abbrev count : ℕ
  count = count_in file prefix

  few_wards : bits ≤ 4
  few_wards = few laws file tables valid legal place prefix link records cell is

  long_enough : bits ≤ length prefix
  long_enough = long laws file tables valid legal place prefix link records cell is

  w_there : w < 2 ^ bits
  w_there = w_less laws file tables valid legal place prefix link records cell is

  count_is : count ≡ pages_in bits w lows
  count_is = legal.fits.counts_are w (wards_few bits w few_wards w_there)

  own_count : length own ≡ count
  own_count = length_own bits w file.pages ∙ sym count_is

  right_ward : ward_of bits right_low ≡ w
  right_ward = ward_of_child bits prefix true long_enough is.short

  -- ---- no page has the right half's low bound

  no_split : get table prefix ≡ None
  no_split = entry_is laws.cells.slots file tables valid legal place page cell is.there.page_is is.there.cell_is prefix refl is.short long_enough ∙ no_entry file.cells (slot_of cell (length prefix)) nothing

  none_own : (number : ℕ) (other : Page) → slice_get own number ≡ Some other → low_bound other ≢ right_low
  none_own number other at low =
      let forward : IsForwardOf own right_low number = (splits laws file tables valid legal place prefix link records cell is).forwards number (other, at, low) in
      let merge = ((is_ward laws file tables valid legal place prefix link records cell is).fits.merges prefix).1 (is.short, (number, (forward.0, bare_at own number (Forward right_low forward.0) forward.1))) in
      let clash = sym no_split ∙ merge.1 in
      cc

  none_there : (other : ℕ) → slice_get lows other ≡ Some right_low → ⊥
  none_there other at =
      let twin = page_of_low file.pages other right_low at in
      none_own (pages_in bits w (take other lows)) twin.0 (numbered bits w file.pages other twin.0 twin.1 (ap (ward_of bits) twin.2 ∙ right_ward)) twin.2

  -- ---- the ward

  abbrev left_page : Page
  left_page = left_half prefix count records

  abbrev right_page : Page
  right_page = right_half prefix link records

  abbrev own_more : List Page
  own_more = own ++ right_page ∷ []

  abbrev own_after : List Page
  own_after = slice_set own_more cell.number left_page

  here : slice_get own cell.number ≡ Some page
  here = standing laws file tables valid legal place prefix link records cell is

  within : cell.number < length own
  within = slice_get_within own cell.number page here

  here_more : slice_get own_more cell.number ≡ Some page
  here_more = at_front own (right_page ∷ []) cell.number within ∙ here

  last_more : slice_get own_more count ≡ Some right_page
  last_more = subst (λ (n : ℕ). slice_get own_more n ≡ Some right_page) own_count (at_last own right_page)

  length_after : length own_after ≡ length own + 1
  length_after = length-set own_more cell.number left_page ∙ length_push own right_page

  split : IsSplit cap own cell.number prefix count own_after
  split = record {
    link = link;
    records = records;
    there = here;
    full = is.full;
    short = is.short;
    left = set_here own_more cell.number page left_page here_more;
    right_half = set_else own_more cell.number count left_page (λ same. omega (arith, same, within, own_count)) ∙ last_more;
    place = inr (record { none = none_own; last = sym own_count; more = length_after });
    others = λ number not_left not_right. set_else own_more cell.number number left_page not_left ∙ pushed_else own right_page number (λ same. not_right (same ∙ own_count));
  }

  abbrev new_table : TableMap
  new_table = table_after laws file tables valid legal place prefix link records cell is count own_after split

  room : count < 2 ^ (LIMIT - bits)
  room = (let all = room_after laws file tables valid legal place prefix link records cell is count own_after split in omega (arith, all, length_after, own_count))

  -- ---- the pages

  abbrev pages_more : List Page
  pages_more = file.pages ++ right_page ∷ []

  abbrev pages_after : List Page
  pages_after = slice_set pages_more place left_page

  place_within : place < length file.pages
  place_within = slice_get_within file.pages place page is.there.page_is

  page_more : slice_get pages_more place ≡ Some page
  page_more = at_front file.pages (right_page ∷ []) place place_within ∙ is.there.page_is

  left_low : low_bound left_page ≡ low_bound page
  left_low = left_keeps prefix is.short

  all_lows : length lows ≡ length file.pages
  all_lows = length-lows file tables valid legal

  abbrev lows_then : List ℕ
  lows_then = lows ++ right_low ∷ []

  lows_after : lows_of pages_after ≡ lows_then
  lows_after = lows_set pages_more place page left_page page_more left_low ∙ lows_push file.pages right_page

  number_more : pages_in bits w (take place (lows_of pages_more)) ≡ cell.number
  number_more =
      ap (λ (lows : List ℕ). pages_in bits w (take place lows)) (lows_push file.pages right_page)
      ∙ ap (pages_in bits w) (take-append-le place lows (right_low ∷ []) (omega (arith, place_within, all_lows)))
      ∙ sym (number_is file tables valid legal place page cell is.there.page_is is.there.cell_is)

  own_is : pages_of_ward bits pages_after w ≡ own_after
  own_is =
      let pushed : pages_of_ward bits pages_more w ≡ own_more = push_own bits w file.pages right_page right_ward in
      set_own bits w pages_more place page left_page page_more refl (ap (ward_of bits) left_low) ∙ (λ i. slice_set (pushed i) (number_more i) left_page)

  others_are : (other : ℕ) → other ≢ w → pages_of_ward bits pages_after other ≡ pages_of_ward bits file.pages other
  others_are other differ =
      set_other bits other pages_more place page left_page page_more (λ same. differ (sym same)) (λ same. differ (sym same ∙ ap (ward_of bits) left_low))
      ∙ push_other bits other file.pages right_page (λ same. differ (sym same ∙ right_ward))

  -- ---- the cells

  are : AreTold bits lows file.cells tables
  are = are_told file tables valid legal

  abbrev cells_then : List Cell
  cells_then = file.cells ++ new_cell count ∷ []

  abbrev cells_after : List Cell
  cells_after = slice_set cells_then place (with_change (length prefix) (length file.pages) cell)

  abbrev slot : Slot
  slot = slot_of cell (length prefix)

  abbrev slot_after : Slot
  slot_after = record { number = slot.number + 1; page = length file.pages }

  apart_then : AreApart lows_then
  apart_then = apart_more bits lows file.cells right_low count are.all none_there are.apart

  words_then : AreWords lows_then
  words_then = words_more bits lows file.cells right_low count are.all none_there are.words (low_of-small (prefix ++ true ∷ []) (child_short prefix true is.short))

  fit_then : FitEach bits lows_then cells_then
  fit_then = fits_more bits lows file.cells right_low count are.all none_there (count_is ∙ ap (λ (ward : ℕ). pages_in bits ward lows) (sym right_ward)) legal.fits.each

  matched_then : AreMatched bits lows_then cells_then tables
  matched_then =
      matched_more bits lows file.cells right_low count are.all none_there tables are.words (low_of-small (prefix ++ true ∷ []) (child_short prefix true is.short)) legal.fits.each
      (are_matched file tables valid legal laws.cells.slots laws.cells.entries)

  low_then : slice_get lows_then place ≡ Some (low_of prefix)
  low_then = at_front lows (right_low ∷ []) place (omega (arith, place_within, all_lows)) ∙ low_there laws.cells.slots file tables valid legal place page cell is.there.page_is is.there.cell_is prefix refl is.short long_enough

  cell_then : slice_get cells_then place ≡ Some cell
  cell_then = at_front file.cells (new_cell count ∷ []) place (omega (arith, place_within, valid.all)) ∙ is.there.cell_is

  fits_right : FitsSlot lows_then (low_of prefix) (length prefix) (length file.pages)
  fits_right = record {
    prefix = has laws.cells.slots file tables valid legal place page cell is.there.page_is is.there.cell_is prefix refl is.short long_enough;
    page_is = subst (λ (n : ℕ). slice_get lows_then n ≡ Some right_low) all_lows (at_last lows right_low)
        ∙ ap (λ (front : List Bool). Some (low_of (front ++ true ∷ []))) (prefix_is laws.cells.slots file tables valid legal place page cell is.there.page_is is.there.cell_is prefix refl is.short long_enough);
  }

  fit_after : FitEach bits lows_then cells_after
  fit_after =
      fits_set bits lows_then cells_then tables apart_then words_then place (low_of prefix) cell (length prefix) prefix slot slot_after low_then cell_then
      (slot_is laws.cells.slots file tables valid legal place page cell is.there.page_is is.there.cell_is prefix refl is.short long_enough)
      (has laws.cells.slots file tables valid legal place page cell is.there.page_is is.there.cell_is prefix refl is.short long_enough)
      (prefix_is laws.cells.slots file tables valid legal place page cell is.there.page_is is.there.cell_is prefix refl is.short long_enough) fit_then fits_right

  last_number : number_at cells_then (length file.pages) ≡ count
  last_number = number_told cells_then (length file.pages) (new_cell count) (subst (λ (n : ℕ). slice_get cells_then n ≡ Some (new_cell count)) valid.all (at_last file.cells (new_cell count)))

  told : entry_in cells_then (next_slot laws.cells.slots file tables valid legal place page cell is.there.page_is is.there.cell_is prefix refl is.short long_enough (length file.pages))
      ≡ Some (next_entry laws.cells.slots file tables valid legal place page cell is.there.page_is is.there.cell_is prefix refl is.short long_enough (Split count))
  told =
      split_told laws.cells.slots file tables valid legal place page cell is.there.page_is is.there.cell_is prefix refl is.short long_enough cells_then (length file.pages)
      (even laws file tables valid legal place prefix link records cell is)
      ∙ ap (λ (number : ℕ). Some (next_entry laws.cells.slots file tables valid legal place page cell is.there.page_is is.there.cell_is prefix refl is.short long_enough (Split number))) last_number

  tables_told : AreTablesOf bits lows_then cells_after (slice_set tables w new_table)
  tables_told =
      laws.cells.told bits lows_then cells_after (slice_set tables w new_table) fit_after
      (matched_set bits lows_then cells_then tables apart_then words_then place (low_of prefix) cell (length prefix) prefix slot slot_after low_then cell_then
      (slot_is laws.cells.slots file tables valid legal place page cell is.there.page_is is.there.cell_is prefix refl is.short long_enough)
      (has laws.cells.slots file tables valid legal place page cell is.there.page_is is.there.cell_is prefix refl is.short long_enough)
      (prefix_is laws.cells.slots file tables valid legal place page cell is.there.page_is is.there.cell_is prefix refl is.short long_enough)
      matched_then new_table (next_entry laws.cells.slots file tables valid legal place page cell is.there.page_is is.there.cell_is prefix refl is.short long_enough (Split count))
      (table_there file tables valid legal w w_there) told
      (next_here laws.cells.slots file tables valid legal place page cell is.there.page_is is.there.cell_is prefix refl is.short long_enough (Split count))
      (next_elsewhere laws.cells.slots file tables valid legal place page cell is.there.page_is is.there.cell_is prefix refl is.short long_enough (Split count)))

  -- ---- the counts

  abbrev counts_after : List ℕ
  counts_after = slice_set file.header.page_counts w (slice_index file.header.page_counts w + 1)

  counted : (ward : ℕ) → ward < COUNTS_LEN → slice_index counts_after ward ≡ pages_in bits ward lows_then
  counted ward less = elim (cases_eq ward w) [
    | inl same ↦
        let set : slice_index counts_after w ≡ count + 1 = get_or-set_same file.header.page_counts w (count + 1) 0 (omega (arith, all_counts file.header valid.header, wards_few bits w few_wards w_there)) in
        let one_more : pages_in bits w lows_then ≡ pages_in bits w lows + 1 = counted_push_own bits w lows right_low right_ward in
        ap (slice_index counts_after) same ∙ set ∙ ap (λ (n : ℕ). n + 1) count_is ∙ sym one_more ∙ ap (λ (ward : ℕ). pages_in bits ward lows_then) (sym same)
    | inr differ ↦
        get_or-set_other file.header.page_counts w ward (count + 1) 0 differ ∙ legal.fits.counts_are ward less ∙ sym (counted_push_other bits ward lows right_low (λ same. differ (sym same ∙ right_ward)))
  ]

  firsts : BeginWards bits lows_then
  firsts first low less at = elim (pushed_is lows right_low low first at) [
    | inl there ↦ legal.fits.firsts first low less there
    | inr (last, low_is) ↦ absurd (omega (arith, last, less, all_lows, valid.count, some_pages file.header valid.header))
  ]

  fits : FitsCells bits counts_after lows_then cells_after
  fits = record { firsts = firsts; counts_are = counted; each = fit_after }

  -- ---- the file

  change : IsChange file tables counts_after pages_after cells_after w new_table
  change = record {
    there = w_there;
    others = others_are;
    own = subst (λ (pages : List Page). IsWard cap (any_pseudokey file.header.settings.keyer) (ward_prefix bits w) new_table [] new_table pages) (sym own_is)
        (ward_after laws file tables valid legal place prefix link records cell is count own_after split);
    fits = subst (λ (lows : List ℕ). FitsCells bits counts_after lows cells_after) (sym lows_after) fits;
    told = subst (λ (lows : List ℕ). AreTablesOf bits lows cells_after (slice_set tables w new_table)) (sym lows_after) tables_told;
    places = ap (take (length file.pages)) lows_after ∙ take-append-le (length file.pages) lows (right_low ∷ []) (omega (arith, all_lows)) ∙ take_all (length file.pages) lows (omega (arith, all_lows));
  }

  step : IsStep file (map_in file) (split_fresh place prefix link records cell file)
  step =
      step_kept file tables few_wards legal.tables_are.count legal.legal counts_after pages_after cells_after w new_table change
      (ap map_of own_is ∙ map_after laws file tables valid legal place prefix link records cell is count own_after split)

  pub is_fresh : IsSplitFresh file place prefix link records cell
  is_fresh = record { room = room; step = step }
