-- The wards of a legal file, its map, and what its cells tell of its tables.
use Rattle.std.proofs.Common.{◌≡◌, ℕ, ◌+◌, ◌<◌, ◌≤◌, ◌^◌, List, [], ◌∷◌, length, take, get_or, slice_get, Some, refl, sym, ap, ◌∙◌, subst, arith}
use Rattle.std.specs.FinMap as fin
use Rattle.std.specs.List.{AllByRecursion}
use Rattle.std.proofs.lemmas.List.{length-map}
use Rattle.std.proofs.lemmas.List.FromFn.{get_or-map-range_with_len, length-map-range_with_len}
use Rattle.std.proofs.lemmas.Option.{slice_get-get_or}
use Rattle.exh_keyer.specs.Pseudokey.{any_pseudokey}
use Rattle.exh_prefix.specs.BitLemmas.{bits_of-number_of}
use Rattle.exh_prefix.specs.Bits.{bits_of, word_bits}
use Rattle.exh_prefix.specs.Leading.{ward_of, ward_prefix}
use Rattle.exh_prefix.specs.LeadingLemmas.{leading-lt, length-leading_bits}
use Rattle.exh_prefix.specs.LowLemmas.{low_of-small}
use Rattle.exh_prefix.specs.Prefix.{Begins}
use Rattle.exh_prefix.specs.Version.{second_version}
use Rattle.exh_table.specs.Table.{TableMap}
use Rattle.exh_page.specs.declared.page.Page.{Page}
use Rattle.exh_page.specs.declared.page.Page.TheVariants.{Live, Forward}
use Rattle.exh_page.specs.Page.{low_bound, with_records}
use Rattle.exh_legal.specs.BareLemmas.{bare_at, bare_low}
use Rattle.exh_legal.specs.LegalLaws.{IsWard}
use Rattle.exh_legal.specs.Pages.{IsLegal, map_of}
use Rattle.exh_legal.specs.ReasonLaws.{IsLegalFile}
use Rattle.exh_legal.specs.WardMapLemmas.{get_in_ward, legal_from}
use Rattle.exh_codec.specs.PageImage.{IsPage}
use Rattle.exh_cells.specs.CellLaws.{AreApart, AreMatched, AreTold, AreWords, EntriesHaveSlots, SlotsAreEntries}
use Rattle.exh_cells.specs.LegalPlaced.{IsLegalPlaced, pages_of_ward, placed_parts, wards_of}
use Rattle.exh_cells.specs.PlacedFile.{IsPlaced, PlacedFile, lows_of}
use Rattle.exh_edits.specs.PlacedLaws.{map_in}
use Rattle.exh_change.proofs.StepsCounts.{few_bits}
use Rattle.exh_change.proofs.WardPlaces.{numbered, one_place, page_of_low}

low_small : (pseudo : List ℕ → ℕ) (page : Page) → IsPage second_version pseudo page → low_bound page < 2 ^ 64
low_small pseudo (Live prefix right records) valid = low_of-small prefix valid.in_range.0
low_small pseudo (Forward low target) valid = valid.in_range.0

lows_small : (pseudo : List ℕ → ℕ) (pages : List Page) → AllByRecursion (IsPage second_version pseudo) pages → AreWords (lows_of pages)
lows_small pseudo [] valid = tt
lows_small pseudo (page ∷ pages) valid = (low_small pseudo page valid.0, lows_small pseudo pages valid.1)

-- a number's leading bits are a prefix of their ward
ward_begins : (bits k : ℕ) → bits ≤ 4 → Begins (ward_prefix bits (ward_of bits k)) k
ward_begins bits k few =
    let front_len : length (take bits (word_bits k)) ≡ bits = length-leading_bits bits k (omega (arith, few)) in
    let prefix_is : ward_prefix bits (ward_of bits k) ≡ take bits (word_bits k) = ap (λ (n : ℕ). bits_of n (ward_of bits k)) (sym front_len) ∙ bits_of-number_of (take bits (word_bits k)) in
    subst (λ prefix. Begins prefix k) (sym prefix_is) (ap (λ (n : ℕ). take n (word_bits k)) front_len)

pub ward_less : (bits low : ℕ) → bits ≤ 4 → ward_of bits low < 2 ^ bits
ward_less bits low few = leading-lt bits low (omega (arith, few))

-- ---- wards

module _ (file : PlacedFile) where
  abbrev file_bits : ℕ
  file_bits = file.header.settings.ward_bits

  pub count_of_wards : length (wards_of file) ≡ 2 ^ file_bits
  count_of_wards = length-map-range_with_len (pages_of_ward file_bits file.pages) 0 (2 ^ file_bits)

  pub ward_there : (ward : ℕ) → ward < 2 ^ file_bits → slice_get (wards_of file) ward ≡ Some (pages_of_ward file_bits file.pages ward)
  ward_there ward less =
      slice_get-get_or (wards_of file) ward [] (omega (arith, less, count_of_wards))
      ∙ ap (λ (pages : List Page). Some pages) (get_or-map-range_with_len (pages_of_ward file_bits file.pages) 0 (2 ^ file_bits) ward ward [] less (omega arith))

module _ (file : PlacedFile) (tables : List TableMap) (few : file.header.settings.ward_bits ≤ 4) (legal : IsLegalFile (any_pseudokey file.header.settings.keyer) (placed_parts file tables)) where
  abbrev bits : ℕ
  bits = file.header.settings.ward_bits

  abbrev pseudo : List ℕ → ℕ
  pseudo = any_pseudokey file.header.settings.keyer

  abbrev cap : ℕ
  cap = file.header.settings.cap

  pub own_ward : (ward : ℕ) → ward < 2 ^ bits → IsWard cap pseudo (ward_prefix bits ward) (get_or tables ward fin.empty) [] (get_or tables ward fin.empty) (pages_of_ward bits file.pages ward)
  own_ward ward less = legal.wards ward (pages_of_ward bits file.pages ward) (ward_there file ward less)

  -- what the file's map has at a key is what the map of the key's own ward has
  pub get_in_file : (key : List ℕ) → fin.get (map_in file) key ≡ fin.get (map_of (pages_of_ward bits file.pages (ward_of bits (pseudo key)))) key
  get_in_file key =
      let ward = ward_of bits (pseudo key) in
      let less = ward_less bits (pseudo key) few in
      let each = legal_from cap pseudo bits 0 (wards_of file) (λ number pages there.
      (let same : number ≡ 0 + number = omega arith in subst (λ (n : ℕ). IsLegal cap pseudo (ward_prefix bits n) pages) same (legal.wards number pages there).legal.legal)) in
      get_in_ward cap pseudo bits ward (wards_of file) (pages_of_ward bits file.pages ward) key each (count_of_wards file) (ward_there file ward less) (own_ward ward less).legal.legal.each (ward_begins bits (pseudo key) few)

-- ---- places and cells

module _ (file : PlacedFile) (tables : List TableMap) (valid : IsPlaced file) (legal : IsLegalPlaced file tables) where
  abbrev own_bits : ℕ
  own_bits = file.header.settings.ward_bits

  abbrev lows : List ℕ
  lows = lows_of file.pages

  few : own_bits ≤ 4
  few = few_bits file.header valid.header

  pub length-lows : length lows ≡ length file.pages
  length-lows = length-map file.pages low_bound

  pub table_there : (ward : ℕ) → ward < 2 ^ own_bits → slice_get tables ward ≡ Some (get_or tables ward fin.empty)
  table_there ward less = slice_get-get_or tables ward fin.empty (omega (arith, less, legal.tables_are.count))

  -- no two pages share a low bound, as none of one ward do
  pub apart : AreApart lows
  apart one other low is too =
      let ward = ward_of own_bits low in
      let page = page_of_low file.pages one low is in
      let twin = page_of_low file.pages other low too in
      let own = ap (ward_of own_bits) page.2 in
      let own_too = ap (ward_of own_bits) twin.2 in
      let pages = pages_of_ward own_bits file.pages ward in
      let first = bare_at pages _ page.0 (numbered own_bits ward file.pages one page.0 page.1 own) in
      let second = bare_at pages _ twin.0 (numbered own_bits ward file.pages other twin.0 twin.1 own_too) in
      let same : low_bound (with_records [] page.0) ≡ low_bound (with_records [] twin.0) = bare_low page.0 ∙ page.2 ∙ sym twin.2 ∙ sym (bare_low twin.0) in
      one_place own_bits ward lows one other low low is too refl refl ((own_ward file tables few legal.legal ward (ward_less own_bits low few)).legal.legal.linked.apart _ _ _ _ first second same)

  pub are_told : AreTold own_bits lows file.cells tables
  are_told = record {
    few = few;
    apart = apart;
    words = lows_small (any_pseudokey file.header.settings.keyer) file.pages valid.pages;
    all = valid.all ∙ sym length-lows;
    valid = valid.cells;
    fit = legal.fits.each;
    tables_are = legal.tables_are;
  }

  -- the tables match the cells
  pub are_matched : SlotsAreEntries → EntriesHaveSlots → AreMatched own_bits lows file.cells tables
  are_matched slots entries = record {
    count = legal.tables_are.count;
    slots = λ ward table prefix slot. slots own_bits lows file.cells tables ward table prefix slot are_told;
    entries = λ ward table prefix entry there is. (let found = entries own_bits lows file.cells tables ward table prefix entry are_told there is in (found.0, found.1));
  }
