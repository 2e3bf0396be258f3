-- The wards of a legal file of version 3, and what its cells tell of their tables.
use Rattle.std.proofs.Common.{◌≡◌, ℕ, ◌<◌, ◌^◌, List, [], ◌∷◌, length, take, get_or, slice_get, Some, refl, sym, ap, ◌∙◌, subst, arith}
use Rattle.std.specs.FinMap.{empty}
use Rattle.std.specs.List.{AllByRecursion}
use Rattle.std.proofs.lemmas.List.{length-map}
use Rattle.std.proofs.lemmas.List.FromFn.{get_or-map-range_with_len, length-map-range_with_len}
use Rattle.std.proofs.lemmas.Option.{slice_get-get_or}
use Rattle.exh_keyer.specs.Pseudokey.{any_pseudokey}
use Rattle.exh_prefix.specs.Leading.{ward_of, ward_prefix}
use Rattle.exh_prefix.specs.LeadingLemmas.{leading-lt}
use Rattle.exh_prefix.specs.LowLemmas.{low_of-small}
use Rattle.exh_prefix.specs.Prefix.{low_of}
use Rattle.exh_prefix.specs.Version.{second_version}
use Rattle.exh_table.specs.Table.{TableMap}
use Rattle.exh_page.specs.declared.page.Page.{Page}
use Rattle.exh_page.specs.declared.page.Page.TheVariants.{Live, Forward}
use Rattle.exh_page.specs.Page.{low_bound, with_records}
use Rattle.exh_legal.specs.BareLemmas.{bare_at, bare_low}
use Rattle.exh_legal.specs.LegalLaws.{IsWard}
use Rattle.exh_codec.specs.PageImage.{IsPage}
use Rattle.exh_cells.specs.CellLaws.{AreApart, AreTold, AreWords}
use Rattle.exh_cells.specs.Fit.{pages_in}
use Rattle.exh_cells.specs.LegalPlaced.{IsLegalPlaced, pages_of_ward, wards_of}
use Rattle.exh_cells.specs.PlacedFile.{IsPlaced, PlacedFile, lows_of}
use Rattle.exh_edits.proofs.Counts.{few_bits, some_pages}
use Rattle.exh_edits.proofs.WardNumbers.{none_counted, numbered, one_place, page_of_low}

low_small : (pseudo : List ℕ → ℕ) (page : Page) → IsPage second_version pseudo page → low_bound page < 2 ^ 64
low_small pseudo (Live prefix right records) valid = low_of-small prefix valid.in_range.0
low_small pseudo (Forward low target) valid = valid.in_range.0

lows_small : (pseudo : List ℕ → ℕ) (pages : List Page) → AllByRecursion (IsPage second_version pseudo) pages → AreWords (lows_of pages)
lows_small pseudo [] valid = tt
lows_small pseudo (page ∷ pages) valid = (low_small pseudo page valid.0, lows_small pseudo pages valid.1)

module _ (file : PlacedFile) (tables : List TableMap) (valid : IsPlaced file) (legal : IsLegalPlaced file tables) where
  abbrev bits : ℕ
  bits = file.header.settings.ward_bits

  abbrev lows : List ℕ
  lows = lows_of file.pages

  abbrev pseudo : List ℕ → ℕ
  pseudo = any_pseudokey file.header.settings.keyer

  pub length-lows : length lows ≡ length file.pages
  length-lows = length-map file.pages low_bound

  pub ward_less : (low : ℕ) → ward_of bits low < 2 ^ bits
  ward_less low = leading-lt bits low (omega (arith, few_bits file.header valid.header))

  pub count_of_wards : length (wards_of file) ≡ 2 ^ bits
  count_of_wards = length-map-range_with_len (pages_of_ward bits file.pages) 0 (2 ^ bits)

  pub ward_there : (ward : ℕ) → ward < 2 ^ bits → slice_get (wards_of file) ward ≡ Some (pages_of_ward bits file.pages ward)
  ward_there ward less =
      slice_get-get_or (wards_of file) ward [] (omega (arith, less, count_of_wards))
      ∙ ap (λ (pages : List Page). Some pages) (get_or-map-range_with_len (pages_of_ward bits file.pages) 0 (2 ^ bits) ward ward [] less (omega arith))

  pub table_there : (ward : ℕ) → ward < 2 ^ bits → slice_get tables ward ≡ Some (get_or tables ward empty)
  table_there ward less = slice_get-get_or tables ward empty (omega (arith, less, legal.tables_are.count))

  pub own_ward : (ward : ℕ) → ward < 2 ^ bits → IsWard file.header.settings.cap pseudo (ward_prefix bits ward) (get_or tables ward empty) [] (get_or tables ward empty) (pages_of_ward bits file.pages ward)
  own_ward ward less = legal.legal.wards ward (pages_of_ward bits file.pages ward) (ward_there ward less)

  -- no two pages share a low bound, as none of one ward do
  apart : AreApart lows
  apart one other low is too =
      let ward = ward_of bits low in
      let page = page_of_low file.pages one low is in
      let twin = page_of_low file.pages other low too in
      let own = ap (ward_of bits) page.2 in
      let own_too = ap (ward_of bits) twin.2 in
      let pages = pages_of_ward bits file.pages ward in
      let first = bare_at pages _ page.0 (numbered bits ward file.pages one page.0 page.1 own) in
      let second = bare_at pages _ twin.0 (numbered bits ward file.pages other twin.0 twin.1 own_too) in
      let same : low_bound (with_records [] page.0) ≡ low_bound (with_records [] twin.0) = bare_low page.0 ∙ page.2 ∙ sym twin.2 ∙ sym (bare_low twin.0) in
      one_place bits ward lows one other low low is too refl refl ((own_ward ward (ward_less low)).legal.legal.linked.apart _ _ _ _ first second same)

  pub are_told : AreTold bits lows file.cells tables
  are_told = record {
    few = few_bits file.header valid.header;
    apart = apart;
    words = lows_small pseudo file.pages valid.pages;
    all = valid.all ∙ sym length-lows;
    valid = valid.cells;
    fit = legal.fits.each;
    tables_are = legal.tables_are;
  }

  -- ---- where a ward begins

  -- the first pages are those of the wards
  first_number : (ward : ℕ) → ward < 2 ^ bits → pages_in bits ward (take ward lows) ≡ 0
  first_number ward less = none_counted bits ward lows ward (λ place low before is own.
      let first = legal.fits.firsts place low (omega (arith, before, less)) is in
      omega (arith, before, first, own))

  pub record BeginsAt (ward : ℕ) : Type 0 where
    pub number : pages_in bits ward (take ward lows) ≡ 0
    pub low : slice_get lows ward ≡ Some (low_of (ward_prefix bits ward))

  pub begins_at : (ward : ℕ) → ward < 2 ^ bits → BeginsAt ward
  begins_at ward less =
      let number = first_number ward less in
      let low = get_or lows ward 0 in
      let there : slice_get lows ward ≡ Some low = slice_get-get_or lows ward 0 (omega (arith, less, length-lows, valid.count, some_pages file.header valid.header)) in
      let page = page_of_low file.pages ward low there in
      let own = ap (ward_of bits) page.2 ∙ legal.fits.firsts ward low less there in
      let pages = pages_of_ward bits file.pages ward in
      let standing = numbered bits ward file.pages ward page.0 page.1 own in
      let bare_first = bare_at pages 0 page.0 (subst (λ (number : ℕ). slice_get pages number ≡ Some page.0) number standing) in
      let first = (own_ward ward less).legal.legal.linked.first in
      let same : first.0 ≡ with_records [] page.0 = (let both : Some first.0 ≡ Some (with_records [] page.0) = sym first.1 ∙ bare_first in cc) in
      let low_is : low ≡ low_of (ward_prefix bits ward) = sym page.2 ∙ sym (bare_low page.0) ∙ ap low_bound (sym same) ∙ first.3 in
      record { number = number; low = there ∙ ap (λ (low : ℕ). Some low) low_is }
