-- When a file of version 3 is legal, from its parts.
use Rattle.std.proofs.Common.{◌≡◌, ℕ, zero, suc, ◌+◌, ◌*◌, ◌^◌, ◌<◌, ◌≤◌, List, length, map, Option, None, Some, sym, ap, ◌∙◌, subst, arith}
use Rattle.std.specs.Prelude.{nat_eq, slice_get}
use Rattle.std.specs.Option.{unwrap_or}
use Rattle.std.proofs.lemmas.List.{length-map}
use Rattle.std.proofs.lemmas.List.FromFn.{length-map-range_with_len}
use Rattle.std.specs.List.{AllByRecursion, range_with_len}
use Rattle.exh_prefix.specs.declared.prefix.TheConstants.{LIMIT}
use Rattle.exh_prefix.specs.Leading.{ward_of}
use Rattle.exh_prefix.specs.PrefixListLemmas.{AllByRecursion-filter}
use Rattle.exh_prefix.specs.Version.{second_version}
use Rattle.exh_keyer.specs.Pseudokey.{any_pseudokey}
use Rattle.exh_table.specs.Table.{TableMap}
use Rattle.exh_page.specs.declared.page.Page.{Page}
use Rattle.exh_page.specs.declared.page.Page.TheVariants.{Forward, Live}
use Rattle.exh_page.specs.Page.{low_bound}
use Rattle.exh_codec.specs.PageImage.{IsPage}
use Rattle.exh_legal.specs.declared.reason.Reason.{Reason}
use Rattle.exh_legal.specs.declared.reason.Reason.TheVariants.{Cap, Forwards, Leaves, Links, LowBounds, Table}
use Rattle.exh_legal.specs.LegalParts.{HasPartRanges, IsBounded, OfEachWard, parts_of}
use Rattle.exh_legal.specs.MapLemmas.{page_at}
use Rattle.exh_legal.specs.ReasonLaws.{AreFormed, LegalFilesPass}
use Rattle.exh_legal.specs.Reasons.{IsFirstReason, ReasonPasses, rank_of}
use Rattle.exh_cells.specs.CellLaws.{CellsTellTables}
use Rattle.exh_cells.specs.declared.cell.Cell.{Cell}
use Rattle.exh_cells.specs.declared.stamped_header.StampedHeader.{StampedHeader}
use Rattle.exh_cells.specs.Fit.{FitsCells}
use Rattle.exh_cells.specs.LegalPlaced.{HasFitting, HasTables, IsFirstPlaced, IsLegalPlaced, PlacedPasses, pages_of_ward, placed_parts, wards_of}
use Rattle.exh_cells.specs.PlacedFile.{IsPlaced, PlacedFile, lows_of}
use Rattle.exh_cells.specs.Told.{AreTablesOf}
use Rattle.exh_versions.specs.declared.placed_parts.PlacedParts.{PlacedParts}
use Rattle.exh_versions.specs.LegalReading.{IsSomeFile, parts_with}
use Rattle.exh_versions.specs.PlacedParts.{ArePartsOf}
use Rattle.exh_versions.proofs.Headers.{few_bits, few_pages}

-- ---- the parts of a file

module _ {W : Type 0} (own : W → List Page) (parts : PlacedParts W) where
  pub some_bits : IsSomeFile own parts → parts.header.settings.ward_bits ≤ 4
  some_bits some = subst (λ (header : StampedHeader). header.settings.ward_bits ≤ 4) (sym some.2.header) (few_bits some.0.header some.1.header)

  count_of_lows : (some : IsSomeFile own parts) → length parts.lows.items ≡ length some.0.pages
  count_of_lows some = ap length some.2.lows ∙ length-map some.0.pages low_bound

  pub some_few : IsSomeFile own parts → length parts.lows.items ≤ 16 * 2 ^ LIMIT
  some_few some = omega (arith, count_of_lows some, some.1.count, few_pages some.0.header some.1.header)

  pub some_all : IsSomeFile own parts → length parts.cells.items ≡ length parts.lows.items
  some_all some = ap length some.2.cells ∙ some.1.all ∙ sym (count_of_lows some)

  pub some_wards : IsSomeFile own parts → length parts.wards.items ≡ 2 ^ parts.header.settings.ward_bits
  some_wards some =
      let bits = some.0.header.settings.ward_bits in
      sym (length-map parts.wards.items own) ∙ ap length some.2.wards ∙ length-map-range_with_len (pages_of_ward bits some.0.pages) 0 (2 ^ bits)
      ∙ ap (λ (header : StampedHeader). 2 ^ header.settings.ward_bits) (sym some.2.header)

  module _ (file : PlacedFile) (are : ArePartsOf own file parts) where
    pub fits_to : FitsCells parts.header.settings.ward_bits parts.header.page_counts parts.lows.items parts.cells.items → HasFitting file
    fits_to fits =
        subst (λ (header : StampedHeader). FitsCells header.settings.ward_bits header.page_counts (lows_of file.pages) file.cells) are.header
        (subst (λ (lows : List ℕ). FitsCells parts.header.settings.ward_bits parts.header.page_counts lows file.cells) are.lows
        (subst (λ (cells : List Cell). FitsCells parts.header.settings.ward_bits parts.header.page_counts parts.lows.items cells) are.cells fits))

    pub fits_from : HasFitting file → FitsCells parts.header.settings.ward_bits parts.header.page_counts parts.lows.items parts.cells.items
    fits_from fits =
        subst (λ (header : StampedHeader). FitsCells header.settings.ward_bits header.page_counts parts.lows.items parts.cells.items) (sym are.header)
        (subst (λ (lows : List ℕ). FitsCells file.header.settings.ward_bits file.header.page_counts lows parts.cells.items) (sym are.lows)
        (subst (λ (cells : List Cell). FitsCells file.header.settings.ward_bits file.header.page_counts (lows_of file.pages) cells) (sym are.cells) fits))

    pub tables_to : (tables : List TableMap) → AreTablesOf parts.header.settings.ward_bits parts.lows.items parts.cells.items tables → HasTables file tables
    tables_to tables have =
        subst (λ (header : StampedHeader). AreTablesOf header.settings.ward_bits (lows_of file.pages) file.cells tables) are.header
        (subst (λ (lows : List ℕ). AreTablesOf parts.header.settings.ward_bits lows file.cells tables) are.lows
        (subst (λ (cells : List Cell). AreTablesOf parts.header.settings.ward_bits parts.lows.items cells tables) are.cells have))

    pub reason_to : (tables : List TableMap) (found : Option Reason) → IsFirstReason (parts_with own parts tables) found → IsFirstReason (placed_parts file tables) found
    reason_to tables found first =
        subst (λ (header : StampedHeader). IsFirstReason (parts_of header.settings.cap header.settings.ward_bits (wards_of file) tables) found) are.header
        (subst (λ (wards : List (List Page)). IsFirstReason (parts_of parts.header.settings.cap parts.header.settings.ward_bits wards tables) found) are.wards first)

-- ---- the first reason

module _ (file : PlacedFile) (tables : List TableMap) where
  -- the first five ask no table
  front_to : (reason : Reason) → rank_of reason < 6 → ReasonPasses (placed_parts file tables) reason → PlacedPasses file reason
  front_to Cap less passes = passes
  front_to LowBounds less passes = passes
  front_to Leaves less passes = passes
  front_to Links less passes = passes
  front_to Forwards less passes = passes
  front_to Table less passes = absurd (omega (arith, less))

  front_below : (reason other : Reason) → rank_of other < rank_of reason → rank_of other < 6
  front_below Cap other less = omega (arith, less)
  front_below LowBounds other less = omega (arith, less)
  front_below Leaves other less = omega (arith, less)
  front_below Links other less = omega (arith, less)
  front_below Forwards other less = omega (arith, less)
  front_below Table other less = less

  pub placed_from : HasFitting file → HasTables file tables → (reason : Reason) → ReasonPasses (placed_parts file tables) reason → PlacedPasses file reason
  placed_from fits have Cap passes = passes
  placed_from fits have LowBounds passes = passes
  placed_from fits have Leaves passes = passes
  placed_from fits have Links passes = passes
  placed_from fits have Forwards passes = passes
  placed_from fits have Table passes = (fits, tables, have, passes)

  pub placed_back : CellsTellTables → HasTables file tables → (reason : Reason) → PlacedPasses file reason → ReasonPasses (placed_parts file tables) reason
  placed_back one have Cap passes = passes
  placed_back one have LowBounds passes = passes
  placed_back one have Leaves passes = passes
  placed_back one have Links passes = passes
  placed_back one have Forwards passes = passes
  placed_back one have Table passes =
      let same : passes.1 ≡ tables = one file.header.settings.ward_bits (lows_of file.pages) file.cells passes.1 tables passes.2 have in
      subst (λ (tables : List TableMap). ReasonPasses (placed_parts file tables) Table) same passes.3

  -- of a file whose cells fit
  pub first_from : CellsTellTables → HasFitting file → HasTables file tables → (found : Option Reason) → IsFirstReason (placed_parts file tables) found → IsFirstPlaced file found
  first_from one fits have None first = λ reason. placed_from fits have reason (first reason)
  first_from one fits have (Some reason) first = (λ passes. first.0 (placed_back one have reason passes), λ earlier less. placed_from fits have earlier (first.1 earlier less))

  -- and of one whose cells don't
  unfit_none : (HasFitting file → ⊥) → IsFirstReason (placed_parts file tables) None → IsFirstPlaced file (Some Table)
  unfit_none unfit first = (λ passes. unfit passes.0, λ earlier less. front_to earlier less (first earlier))

  unfit_some : (HasFitting file → ⊥) → (reason : Reason) → IsFirstReason (placed_parts file tables) (Some reason) → IsFirstPlaced file (Some reason)
  unfit_some unfit Cap first = (first.0, λ earlier less. front_to earlier (front_below Cap earlier less) (first.1 earlier less))
  unfit_some unfit LowBounds first = (first.0, λ earlier less. front_to earlier (front_below LowBounds earlier less) (first.1 earlier less))
  unfit_some unfit Leaves first = (first.0, λ earlier less. front_to earlier (front_below Leaves earlier less) (first.1 earlier less))
  unfit_some unfit Links first = (first.0, λ earlier less. front_to earlier (front_below Links earlier less) (first.1 earlier less))
  unfit_some unfit Forwards first = (first.0, λ earlier less. front_to earlier (front_below Forwards earlier less) (first.1 earlier less))
  unfit_some unfit Table first = (λ passes. unfit passes.0, λ earlier less. front_to earlier less (first.1 earlier less))

  pub first_unfit : (HasFitting file → ⊥) → (found : Option Reason) (reason : Reason) → reason ≡ unwrap_or found Table → IsFirstReason (placed_parts file tables) found → IsFirstPlaced file (Some reason)
  first_unfit unfit None reason is first = subst (λ (reason : Reason). IsFirstPlaced file (Some reason)) (sym is) (unfit_none unfit first)
  first_unfit unfit (Some found) reason is first = subst (λ (reason : Reason). IsFirstPlaced file (Some reason)) (sym is) (unfit_some unfit found first)

-- ---- legal where there is none, and only there

range_there : {X : Type 0} (f : ℕ → X) (from n number : ℕ) (x : X) → slice_get (map f (range_with_len from n)) number ≡ Some x → x ≡ f (from + number)
range_there f from zero number x is = cc
range_there f from (suc n) zero x is = let same : f from ≡ x = cc in let here : from ≡ from + 0 = omega arith in sym same ∙ ap f here
range_there f from (suc n) (suc number) x is = let next : from + 1 + number ≡ from + suc number = omega arith in range_there f (from + 1) n number x is ∙ ap f next

bounded : (pseudo : List ℕ → ℕ) (page : Page) → IsPage second_version pseudo page → IsBounded page
bounded pseudo (Live prefix right records) valid = valid.in_range.0
bounded pseudo (Forward low target) valid = valid.in_range.0

module _ (file : PlacedFile) (tables : List TableMap) (valid : IsPlaced file) where
  wards_formed : OfEachWard (placed_parts file tables) (λ ward table pages. AreFormed (any_pseudokey file.header.settings.keyer) pages)
  wards_formed number pages there =
      let pseudo = any_pseudokey file.header.settings.keyer in
      let bits = file.header.settings.ward_bits in
      let is : pages ≡ pages_of_ward bits file.pages (0 + number) = range_there (pages_of_ward bits file.pages) 0 (2 ^ bits) number pages there in
      let all : AllByRecursion (IsPage second_version pseudo) pages =
      subst (AllByRecursion (IsPage second_version pseudo)) (sym is) (AllByRecursion-filter (λ page. nat_eq (ward_of bits (low_bound page)) (0 + number)) (IsPage second_version pseudo) file.pages valid.pages) in
      record {
        formed = λ number page is. (page_at (IsPage second_version pseudo) pages number page all is).formed;
        bounded = λ number page is. bounded pseudo page (page_at (IsPage second_version pseudo) pages number page all is);
      }

  pub ranges : HasPartRanges (placed_parts file tables)
  ranges = record { cap = valid.header.plain.few; bits = omega (arith, few_bits file.header valid.header) }

  pub legal_from : LegalFilesPass → CellsTellTables → HasFitting file → HasTables file tables → IsFirstPlaced file None → IsLegalPlaced file tables
  legal_from law one fits have none = record {
    fits = fits;
    tables_are = have;
    legal = (law (any_pseudokey file.header.settings.keyer) (placed_parts file tables) ranges).0 (record { formed = wards_formed; passed = λ reason. placed_back file tables one have reason (none reason) });
  }

  pub no_reason : LegalFilesPass → IsLegalPlaced file tables → (reason : Reason) → IsFirstPlaced file (Some reason) → ⊥
  no_reason law legal reason first =
      first.0 (placed_from file tables legal.fits legal.tables_are reason (((law (any_pseudokey file.header.settings.keyer) (placed_parts file tables) ranges).1 legal.legal).passed reason))
