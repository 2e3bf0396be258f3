-- Files of version 3 beside others that say the same.
use Rattle.std.proofs.Common.{◌≡◌, ℕ, zero, suc, ◌+◌, ◌^◌, ◌<◌, ◌≤◌, get_or, inl, inr, Bool, true, false, cond, eq-eqb, nat_eq, List, [], ◌∷◌, length, filter, map, Some, refl, sym, ap, ◌∙◌, subst, arith}
use Rattle.std.specs.Prelude.{slice_get}
use Rattle.std.specs.FinMap.{empty}
use Rattle.std.specs.List.{AllByRecursion, range_with_len}
use Rattle.std.proofs.lemmas.Bool.{cases_lt}
use Rattle.std.proofs.lemmas.List.{length-map, get_or_past}
use Rattle.std.proofs.lemmas.List.FromFn.{get_or-map-range_with_len, length-map-range_with_len}
use Rattle.exh_prefix.specs.Leading.{ward_of, ward_prefix}
use Rattle.exh_prefix.specs.LowLemmas.{low_of-small}
use Rattle.exh_prefix.specs.Version.{second_version}
use Rattle.exh_keyer.specs.declared.any_keyer.AnyKeyer.{AnyKeyer}
use Rattle.exh_keyer.specs.Pseudokey.{any_pseudokey}
use Rattle.exh_table.specs.Table.{TableMap}
use Rattle.exh_page.specs.declared.page.Page.{Page}
use Rattle.exh_page.specs.declared.page.Page.TheVariants.{Forward, Live}
use Rattle.exh_page.specs.Page.{low_bound}
use Rattle.exh_page.specs.declared.file_settings.FileSettings.{FileSettings}
use Rattle.exh_codec.specs.PageImage.{IsPage}
use Rattle.exh_legal.specs.declared.reason.Reason.TheVariants.{LowBounds}
use Rattle.exh_legal.specs.LegalLaws.{IsWard}
use Rattle.exh_legal.specs.LegalParts.{parts_of}
use Rattle.exh_legal.specs.ReasonLaws.{IsLegalFile, LegalFilesPass}
use Rattle.exh_format.specs.LegalFile.{parts_in, table_naming, tables_of}
use Rattle.exh_format.specs.LegalFileLemmas.{table_naming_at}
use Rattle.exh_format.specs.PageFile.{PageFile}
use Rattle.exh_cells.specs.CellLaws.{AreApart, AreTold, TablesTellCells}
use Rattle.exh_cells.specs.declared.cell.Cell.{Cell}
use Rattle.exh_cells.specs.declared.stamped_header.StampedHeader.{StampedHeader}
use Rattle.exh_cells.specs.LegalPlaced.{HasFitting, HasTables, IsLegalPlaced, pages_of_ward, placed_parts, wards_of}
use Rattle.exh_cells.specs.PlacedFile.{IsPlaced, PlacedFile, lows_of}
use Rattle.exh_versions.specs.PlainLaws.{SaysTheSame}
use Rattle.exh_versions.proofs.Headers.{few_bits}
use Rattle.exh_versions.proofs.Legal.{ranges}
use Rattle.exh_versions.proofs.Placed.{ward_within}

-- ---- tables

-- of the same wards, with tables that are the same at each number
module _ (pseudo : List ℕ → ℕ) (cap bits : ℕ) (wards : List (List Page)) (tables others : List TableMap) where
  same_legal : ((number : ℕ) → get_or tables number empty ≡ get_or others number empty) → IsLegalFile pseudo (parts_of cap bits wards tables) → IsLegalFile pseudo (parts_of cap bits wards others)
  same_legal same legal = record {
    wards = λ number pages there. subst (λ (table : TableMap). IsWard cap pseudo (ward_prefix bits number) table [] table pages) (same number) (legal.wards number pages there);
    strays = λ number past. sym (same number) ∙ legal.strays number past;
  }

module _ (file : PlacedFile) (tables : List TableMap) (plain : PageFile) (valid : IsPlaced file) (says : SaysTheSame file tables plain) where
  wards_count : length plain.wards ≡ 2 ^ file.header.settings.ward_bits
  wards_count = ap length says.wards ∙ length-map-range_with_len (pages_of_ward file.header.settings.ward_bits file.pages) 0 (2 ^ file.header.settings.ward_bits)

  few_wards : length plain.wards ≤ 16
  few_wards = let most : 2 ^ file.header.settings.ward_bits ≤ 16 = valid.header.plain.wards in omega (arith, wards_count, most)

  same_at : (number : ℕ) → get_or tables number empty ≡ get_or (tables_of plain.entries) number empty
  same_at number = elim (cases_lt number (length plain.wards)) [
    | inl within ↦
        ap (λ (tables : List TableMap). get_or tables number empty) (sym says.tables_are)
        ∙ get_or-map-range_with_len (table_naming plain.entries) 0 (length plain.wards) number number empty within (omega arith)
        ∙ sym (table_naming_at plain.entries number (omega (arith, within, few_wards)))
    | inr past ↦
        get_or_past tables number empty (omega (arith, past, ap length (sym says.tables_are), length-map-range_with_len (table_naming plain.entries) 0 (length plain.wards))) ∙ sym (says.strays number past)
  ]

  -- the plain file's parts, by the settings and wards of the other
  abbrev Legal : FileSettings AnyKeyer → List (List Page) → Type 0
  Legal settings wards = IsLegalFile (any_pseudokey settings.keyer) (parts_of settings.cap settings.ward_bits wards (tables_of plain.entries))

  pub plain_from : IsLegalPlaced file tables → IsLegalFile (any_pseudokey plain.header.settings.keyer) (parts_in plain)
  plain_from legal =
      let settings = file.header.settings in
      let here : Legal settings (wards_of file) = same_legal (any_pseudokey settings.keyer) settings.cap settings.ward_bits (wards_of file) tables (tables_of plain.entries) same_at legal.legal in
      subst (λ (settings : FileSettings AnyKeyer). Legal settings plain.wards) (sym says.settings) (subst (Legal settings) (sym says.wards) here)

  pub placed_from : HasFitting file → HasTables file tables → IsLegalFile (any_pseudokey plain.header.settings.keyer) (parts_in plain) → IsLegalPlaced file tables
  placed_from fits have legal =
      let settings = file.header.settings in
      let here : Legal settings (wards_of file) = subst (Legal settings) says.wards (subst (λ (settings : FileSettings AnyKeyer). Legal settings plain.wards) says.settings legal) in
      record {
        fits = fits;
        tables_are = have;
        legal = same_legal (any_pseudokey settings.keyer) settings.cap settings.ward_bits (wards_of file) (tables_of plain.entries) tables (λ number. sym (same_at number)) here;
      }

-- ---- low bounds

-- no two pages among some share a low bound
abbrev pub ApartPages : List Page → Type 0
ApartPages pages = (one other : ℕ) (page twin : Page) → slice_get pages one ≡ Some page → slice_get pages other ≡ Some twin → low_bound page ≡ low_bound twin → one ≡ other

module _ (own : Page → Bool) where
  kept_more : (keeps : Bool) (first : Page) (pages : List Page) (page : Page) (number : ℕ) → slice_get (filter own pages) number ≡ Some page → (number : ℕ) × (slice_get (cond keeps (first ∷ filter own pages) (filter own pages)) number ≡ Some page)
  kept_more true first pages page number is = (suc number, is)
  kept_more false first pages page number is = (number, is)

  -- a page that a filter keeps
  kept : (pages : List Page) (at : ℕ) (page : Page) → slice_get pages at ≡ Some page → own page ≡ true → (number : ℕ) × (slice_get (filter own pages) number ≡ Some page)
  kept [] at page is mine = cc
  kept (first ∷ pages) zero page is mine =
      let same : first ≡ page = cc in
      let here : own first ≡ true = ap own same ∙ mine in
      (0, ap (λ (keeps : Bool). slice_get (cond keeps (first ∷ filter own pages) (filter own pages)) 0) here ∙ is)
  kept (first ∷ pages) (suc at) page is mine =
      let later = kept pages at page is mine in
      kept_more (own first) first pages page later.0 later.1

  apart_behind : (keeps : Bool) (first : Page) (pages : List Page) → ApartPages (cond keeps (first ∷ filter own pages) (filter own pages)) → ApartPages (filter own pages)
  apart_behind true first pages apart = λ one other page twin there too same. let next = apart (suc one) (suc other) page twin there too same in omega (arith, next)
  apart_behind false first pages apart = apart

  first_apart : (first : Page) (pages : List Page) (at : ℕ) (twin : Page) → own first ≡ true → ApartPages (filter own (first ∷ pages)) → slice_get pages at ≡ Some twin → own twin ≡ true → low_bound first ≡ low_bound twin → ⊥
  first_apart first pages at twin mine apart is twin_mine same =
      let later = kept pages at twin is twin_mine in
      let whole : ApartPages (first ∷ filter own pages) = subst (λ (keeps : Bool). ApartPages (cond keeps (first ∷ filter own pages) (filter own pages))) mine apart in
      let equal : 0 ≡ suc later.0 = whole 0 (suc later.0) first twin refl later.1 same in
      omega (arith, equal)

  -- pages that share a low bound and are kept are one
  apart_kept : (pages : List Page) (one other : ℕ) (page twin : Page) → ApartPages (filter own pages) → slice_get pages one ≡ Some page → slice_get pages other ≡ Some twin → own page ≡ true → own twin ≡ true → low_bound page ≡ low_bound twin → one ≡ other
  apart_kept [] one other page twin apart is too mine twin_mine same = cc
  apart_kept (first ∷ pages) zero zero page twin apart is too mine twin_mine same = refl
  apart_kept (first ∷ pages) zero (suc other) page twin apart is too mine twin_mine same =
      let here : first ≡ page = cc in absurd (first_apart first pages other twin (ap own here ∙ mine) apart too twin_mine (ap low_bound here ∙ same))
  apart_kept (first ∷ pages) (suc one) zero page twin apart is too mine twin_mine same =
      let here : first ≡ twin = cc in absurd (first_apart first pages one page (ap own here ∙ twin_mine) apart is mine (ap low_bound here ∙ sym same))
  apart_kept (first ∷ pages) (suc one) (suc other) page twin apart is too mine twin_mine same =
      ap suc (apart_kept pages one other page twin (apart_behind (own first) first pages apart) is too mine twin_mine same)

low_there : (pages : List Page) (at low : ℕ) → slice_get (lows_of pages) at ≡ Some low → (page : Page) × (slice_get pages at ≡ Some page) × (low_bound page ≡ low)
low_there [] at low is = cc
low_there (page ∷ pages) zero low is = let same : low_bound page ≡ low = cc in (page, refl, same)
low_there (page ∷ pages) (suc at) low is = low_there pages at low is

range_at : {X : Type 0} (f : ℕ → X) (from n number : ℕ) → number < n → slice_get (map f (range_with_len from n)) number ≡ Some (f (from + number))
range_at f from zero number within = absurd (omega (arith, within))
range_at f from (suc n) zero within = let here : from ≡ from + 0 = omega arith in ap (λ (k : ℕ). Some (f k)) here
range_at f from (suc n) (suc number) within = let next : from + 1 + number ≡ from + suc number = omega arith in range_at f (from + 1) n number (omega (arith, within)) ∙ ap (λ (k : ℕ). Some (f k)) next

small_low : (pseudo : List ℕ → ℕ) (page : Page) → IsPage second_version pseudo page → low_bound page < 2 ^ 64
small_low pseudo (Live prefix right records) valid = low_of-small prefix valid.in_range.0
small_low pseudo (Forward low target) valid = valid.in_range.0

small_lows : (pseudo : List ℕ → ℕ) (pages : List Page) → AllByRecursion (IsPage second_version pseudo) pages → AllByRecursion (λ low. low < 2 ^ 64) (lows_of pages)
small_lows pseudo [] valid = tt
small_lows pseudo (page ∷ pages) valid = (small_low pseudo page valid.0, small_lows pseudo pages valid.1)

-- ---- cells

module _ (law : LegalFilesPass) (file : PlacedFile) (tables : List TableMap) (valid : IsPlaced file) (legal : IsLegalPlaced file tables) where
  apart : AreApart (lows_of file.pages)
  apart one other low there too =
      let bits = file.header.settings.ward_bits in
      let first = low_there file.pages one low there in
      let second = low_there file.pages other low too in
      let ward = ward_of bits low in
      let own = λ (page : Page). nat_eq (ward_of bits (low_bound page)) ward in
      let within : ward < 2 ^ bits = ward_within bits low (few_bits file.header valid.header) in
      let pages_there : slice_get (wards_of file) ward ≡ Some (pages_of_ward bits file.pages (0 + ward)) = range_at (pages_of_ward bits file.pages) 0 (2 ^ bits) ward within in
      let same_ward : 0 + ward ≡ ward = omega arith in
      let lows = ((law (any_pseudokey file.header.settings.keyer) (placed_parts file tables) (ranges file tables valid)).1 legal.legal).passed LowBounds ward (pages_of_ward bits file.pages ward)
      (pages_there ∙ ap (λ (ward : ℕ). Some (pages_of_ward bits file.pages ward)) same_ward) in
      apart_kept own file.pages one other first.0 second.0 lows.apart first.1 second.1
      (eq-eqb (ward_of bits (low_bound first.0)) ward (ap (ward_of bits) first.2)) (eq-eqb (ward_of bits (low_bound second.0)) ward (ap (ward_of bits) second.2)) (first.2 ∙ sym second.2)

  pub told : AreTold file.header.settings.ward_bits (lows_of file.pages) file.cells tables
  told = record {
    few = few_bits file.header valid.header;
    apart = apart;
    words = small_lows (any_pseudokey file.header.settings.keyer) file.pages valid.pages;
    all = valid.all ∙ sym (length-map file.pages low_bound);
    valid = valid.cells;
    fit = legal.fits.each;
    tables_are = legal.tables_are;
  }

made : StampedHeader → List Page → List Cell → PlacedFile
made header pages cells = record { header = header; pages = pages; cells = cells }

pub one_legal : LegalFilesPass → TablesTellCells → (one other : PlacedFile) (tables : List TableMap) → IsPlaced one → IsPlaced other → one.header ≡ other.header → one.pages ≡ other.pages → IsLegalPlaced one tables → IsLegalPlaced other tables → one ≡ other
unfolding made
one_legal law tell one other tables first second header pages legal other_legal =
    let mine : AreTold other.header.settings.ward_bits (lows_of other.pages) one.cells tables =
    subst (λ (header : StampedHeader). AreTold header.settings.ward_bits (lows_of other.pages) one.cells tables) header
    (subst (λ (pages : List Page). AreTold one.header.settings.ward_bits (lows_of pages) one.cells tables) pages (told law one tables first legal)) in
    let cells : one.cells ≡ other.cells = tell other.header.settings.ward_bits (lows_of other.pages) one.cells other.cells tables mine (told law other tables second other_legal) in
    (λ i. made (header i) (pages i) (cells i))
