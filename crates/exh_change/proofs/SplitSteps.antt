-- What the laws of splits say of a draft.
use Rattle.std.proofs.Common.{◌≡◌, ℕ, zero, suc, ◌<◌, ◌≤◌, Bool, not, nat_eq, List, [], ◌∷◌, length, take, slice_get, Option, Some, refl, ap, ◌∙◌, arith}
use Rattle.std.proofs.lemmas.List.{length-take}
use Rattle.std.proofs.lemmas.List.Filters.{length-filter_both}
use Rattle.std.proofs.lemmas.List.Sums.{length-filter}
use Rattle.std.proofs.lemmas.Option.{slice_get_within}
use Rattle.exh_prefix.specs.Leading.{ward_of}
use Rattle.exh_page.specs.declared.page.Page.{Page}
use Rattle.exh_page.specs.declared.page.Page.TheVariants.{Live}
use Rattle.exh_page.specs.declared.record.Record.{Record}
use Rattle.exh_page.specs.Page.{low_bound, records_of}
use Rattle.exh_table.specs.Table.{TableMap}
use Rattle.exh_cells.specs.declared.cell.Cell.{Cell}
use Rattle.exh_cells.specs.declared.stamped_header.StampedHeader.{StampedHeader}
use Rattle.exh_cells.specs.LegalPlaced.{IsLegalPlaced}
use Rattle.exh_cells.specs.PlacedFile.{PlacedFile, lows_of}
use Rattle.exh_change.specs.StepLaws.{IsSplittable, SplitsKeepLegal}
use Rattle.exh_change.specs.declared.draft.Draft.{Draft}
use Rattle.exh_change.specs.Drafts.{IsOf}
use Rattle.exh_change.proofs.Counts.{few_pages}

pub splittable : SplitsKeepLegal → (base : List ℕ) (draft : Draft) (file : PlacedFile) (tables : List TableMap) (place : ℕ) (page : Page) (prefix : List Bool) (link : Option ℕ) (records : List Record) (cell : Cell)
    → IsOf base draft file → IsLegalPlaced file tables → page ≡ Live prefix link records → slice_get file.pages place ≡ Some page → slice_get file.cells place ≡ Some cell → draft.header.settings.cap ≤ length (records_of page) → length prefix < 20
    → IsSplittable file place prefix link records cell
splittable law base draft file tables place page prefix link records cell is legal page_is there cell_is full short =
    law file tables place prefix link records cell is.is.valid legal
    (record {
      there = record { page_is = there ∙ ap (λ (page : Page). Some page) page_is; cell_is = cell_is };
      full = omega (arith, full, ap (λ (page : Page). length (records_of page)) page_is, ap (λ (header : StampedHeader). header.settings.cap) is.header);
      short = short;
    })

slice_map : (pages : List Page) (i : ℕ) (page : Page) → slice_get pages i ≡ Some page → slice_get (lows_of pages) i ≡ Some (low_bound page)
slice_map [] i page is = cc
slice_map (one ∷ pages) zero page is = let same : one ≡ page = cc in ap (λ (page : Page). Some (low_bound page)) same
slice_map (one ∷ pages) (suc i) page is = slice_map pages i page is

-- a number in a ward is less than how many pages there are
pub number_small : (base : List ℕ) (draft : Draft) (file : PlacedFile) (tables : List TableMap) (place : ℕ) (page : Page) (cell : Cell) → IsOf base draft file → IsLegalPlaced file tables → slice_get file.pages place ≡ Some page → slice_get file.cells place ≡ Some cell → cell.number < 4294967295
number_small base draft file tables place page cell is legal there cell_is =
    let bits = file.header.settings.ward_bits in
    let lows = lows_of file.pages in
    let before = take place lows in
    let test : ℕ → Bool = λ (low : ℕ). nat_eq (ward_of bits low) (ward_of bits (low_bound page)) in
    let number = (legal.fits.each place (low_bound page) cell (slice_map file.pages place page there) cell_is).number in
    let few = few_pages file.header is.is.valid.header in
    let within = slice_get_within file.pages place page there in
    omega (arith, number, length-filter test before, length-filter_both test (λ (low : ℕ). not (test low)) (λ low. refl) before, length-take place lows, few, within, is.is.valid.count)
