-- The blocks of a file of version 3.
use Rattle.std.proofs.Common.{◌≡◌, ℕ, zero, suc, ◌+◌, ◌*◌, ◌-◌, ◌/◌, ◌^◌, ◌<◌, ◌≤◌, Bool, true, false, List, [], ◌∷◌, ◌++◌, Option, Some, None, flat_map, length, map, take, drop, slice_get, count_by, refl, sym, ap, ◌∙◌, subst, take-append-drop, arith}
use Rattle.std.proofs.lemmas.List.{length-drop, length-map, length-take}
use Rattle.std.proofs.lemmas.List.Concat.{flat_map-append}
use Rattle.std.proofs.lemmas.List.Sums.{count_by-le-length}
use Rattle.std.specs.Prelude.{cond, nat_eq}
use Rattle.std.specs.List.{AllByRecursion, sum}
use Rattle.exh_prefix.specs.PrefixListLemmas.{within_there}
use Rattle.exh_prefix.specs.Leading.{ward_of}
use Rattle.exh_prefix.specs.Version.{second_version}
use Rattle.exh_prefix.specs.declared.version.Version.{Version as KnownVersion}
use Rattle.exh_prefix.specs.declared.version.Version.TheVariants.{Second}
use Rattle.exh_prefix.specs.Layout.{layout}
use Rattle.exh_keyer.specs.Pseudokey.{any_pseudokey}
use Rattle.exh_keyer.specs.declared.any_keyer.AnyKeyer.{AnyKeyer}
use Rattle.exh_page.specs.declared.page.Page.{Page}
use Rattle.exh_codec.specs.Cells.{Pair}
use Rattle.exh_codec.specs.CodecLaws.{ImagesAreBlocks}
use Rattle.exh_codec.specs.PageImage.{IsImage, IsPage}
use Rattle.exh_salvage.specs.SavedBlock.{pairs_of}
use Rattle.exh_salvage.specs.SavedLaws.{PagesAreSaved}
use Rattle.exh_salvage.specs.WholeLaws.{WholeFilesAreSaved, pairs_within}
use Rattle.exh_salvage.specs.declared.salvage.Salvage.{Salvage}
use Rattle.exh_format.specs.HeaderLemmas.{all_counted, small_sum}
use Rattle.exh_format.specs.PageFile.{page_block}
use Rattle.exh_cells.specs.Fit.{FitEach, pages_in}
use Rattle.exh_cells.specs.LegalPlaced.{IsLegalPlacedFile}
use Rattle.exh_cells.specs.Places.{groups_of}
use Rattle.exh_cells.specs.PlacedFile.{PlacedFile, group_bytes, lows_of, placed_bytes, stamped_block, walk_block}
use Rattle.exh_cells.specs.StampedHeader.{placed_format, plain_header}
use Rattle.exh_cells.specs.WalkImage.{IsCell}
use Rattle.exh_cells.specs.declared.cell.Cell.{Cell}
use Rattle.exh_transfer.specs.SalvageLaws.{IsOfAll, SavesJust}
use Rattle.exh_transfer.proofs.SavedBlocks.{AreBlocks, IsBlockOf, joined, one_block, pairs_of_some, saved}
use Rattle.exh_transfer.proofs.NoPages.{IsShortNumber, stamped_is, walk_is}

-- ---- pages, one after the other

module _ (blocks : ImagesAreBlocks) (version : KnownVersion) (keyer : AnyKeyer) where
  page_is : (page : Page) → IsPage (layout version) (any_pseudokey keyer) page → IsBlockOf (Some page) (page_block page)
  unfolding page_block
  page_is page valid =
      let image : IsImage (layout version) (any_pseudokey keyer) page (page_block page) = record { valid = valid; whole = refl } in
      record { long = blocks (layout version) (any_pseudokey keyer) page (page_block page) image; stands = record { version = version; keyer = keyer; image = image } }

  pub pages_are : (pages : List Page) → AllByRecursion (IsPage (layout version) (any_pseudokey keyer)) pages → AreBlocks (map Some pages) (flat_map page_block pages)
  pages_are [] valid = refl
  pages_are (page ∷ pages) valid = one_block (Some page) (page_block page) (flat_map page_block pages) (map Some pages) (page_is page valid.0) (pages_are pages valid.1)

-- ---- the numbers of cells

each_of : {X : Type 0} (P : X → Type 0) (xs : List X) → ((i : ℕ) (x : X) → slice_get xs i ≡ Some x → P x) → AllByRecursion P xs
each_of P [] holds = tt
each_of P (x ∷ xs) holds = (holds 0 x refl, each_of P xs (λ i y there. holds (suc i) y there))

place_within : {X : Type 0} (xs : List X) (i : ℕ) (x : X) → slice_get xs i ≡ Some x → i < length xs
place_within [] i x is = cc
place_within (y ∷ xs) zero x is = omega arith
place_within (y ∷ xs) (suc i) x is = omega (arith, place_within xs i x is)

numbers_are_short : (ward_bits : ℕ) (lows : List ℕ) (cells : List Cell) → FitEach ward_bits lows cells → length cells ≡ length lows → length lows ≤ 2 ^ 24 → AllByRecursion IsShortNumber cells
numbers_are_short ward_bits lows cells fit same few = each_of IsShortNumber cells (λ place cell there.
    let within : place < length lows = omega (arith, same, place_within cells place cell there) in
    let low = within_there lows place within in
    let number = (fit place low.0 cell low.1 there).number in
    let most = count_by-le-length (λ (other : ℕ). nat_eq (ward_of ward_bits other) (ward_of ward_bits low.0)) (take place lows) in
    omega (arith, number, most, length-take place lows, within, few))

-- ---- groups

pub all_take : {X : Type 0} (P : X → Type 0) (n : ℕ) (xs : List X) → AllByRecursion P xs → AllByRecursion P (take n xs)
all_take P zero xs all = tt
all_take P (suc n) [] all = tt
all_take P (suc n) (x ∷ xs) all = (all.0, all_take P n xs all.1)

pub all_drop : {X : Type 0} (P : X → Type 0) (n : ℕ) (xs : List X) → AllByRecursion P xs → AllByRecursion P (drop n xs)
all_drop P zero xs all = all
all_drop P (suc n) [] all = tt
all_drop P (suc n) (x ∷ xs) all = all_drop P n xs all.1

-- no page and then the pages of a group, of so many groups
pub grouped : ℕ → List Page → List (Option Page)
grouped zero pages = []
grouped (suc groups) pages = None ∷ (map Some (take 24 pages) ++ grouped groups (drop 24 pages))

pairs_of_groups : (groups : ℕ) (pages : List Page) → length pages ≤ 24 * groups → flat_map pairs_within (grouped groups pages) ≡ flat_map pairs_of pages
unfolding grouped
pairs_of_groups zero [] fit = refl
pairs_of_groups zero (page ∷ pages) fit = absurd (omega (arith, fit))
pairs_of_groups (suc groups) pages fit =
    let later = pairs_of_groups groups (drop 24 pages) (omega (arith, fit, length-drop 24 pages)) in
    flat_map-append pairs_within (map Some (take 24 pages)) (grouped groups (drop 24 pages))
    ∙ ap (λ (more : List Pair). flat_map pairs_within (map Some (take 24 pages)) ++ more) later
    ∙ ap (λ (front : List Pair). front ++ flat_map pairs_of (drop 24 pages)) (pairs_of_some (take 24 pages))
    ∙ sym (flat_map-append pairs_of (take 24 pages) (drop 24 pages))
    ∙ ap (flat_map pairs_of) (take-append-drop 24 pages)

module _ (images : ImagesAreBlocks) (are_saved : PagesAreSaved) (keyer : AnyKeyer) where
  pub groups_are : (groups : ℕ) (pages : List Page) (cells : List Cell) → AllByRecursion (IsPage second_version (any_pseudokey keyer)) pages → AllByRecursion IsCell cells → AllByRecursion IsShortNumber cells
      → AreBlocks (grouped groups pages) (group_bytes groups pages cells)
  unfolding grouped
  groups_are zero pages cells valid are_cells short = refl
  groups_are (suc groups) pages cells valid are_cells short =
      let IsOne = IsPage second_version (any_pseudokey keyer) in
      let walk = walk_is are_saved (take 24 cells) (omega (arith, length-take 24 cells)) (all_take IsCell 24 cells are_cells) (all_take IsShortNumber 24 cells short) in
      let own = pages_are images Second keyer (take 24 pages) (all_take IsOne 24 pages valid) in
      let others = groups_are groups (drop 24 pages) (drop 24 cells) (all_drop IsOne 24 pages valid) (all_drop IsCell 24 cells are_cells) (all_drop IsShortNumber 24 cells short) in
      one_block None (walk_block (take 24 cells)) (flat_map page_block (take 24 pages) ++ group_bytes groups (drop 24 pages) (drop 24 cells)) (map Some (take 24 pages) ++ grouped groups (drop 24 pages)) walk
      (joined (map Some (take 24 pages)) (grouped groups (drop 24 pages)) (flat_map page_block (take 24 pages)) (group_bytes groups (drop 24 pages) (drop 24 cells)) own others)

-- ---- a whole file

few_pages : (file : PlacedFile) (tables : List _) (bytes : List ℕ) → IsLegalPlacedFile file tables bytes → length file.pages ≤ 2 ^ 24
few_pages file tables bytes legal =
    let valid = legal.is.valid in
    let header = plain_header file.header in
    let counts = take (2 ^ file.header.settings.ward_bits) file.header.page_counts in
    let few = small_sum 20 file.header.settings.ward_bits counts (omega arith) valid.header.plain.pages in
    omega (arith, valid.count, all_counted placed_format header valid.header.plain, few, length-take (2 ^ file.header.settings.ward_bits) file.header.page_counts, valid.header.plain.counts)

pub placed_file : ImagesAreBlocks → PagesAreSaved → WholeFilesAreSaved → (file : PlacedFile) (tables : List _) (bytes : List ℕ) (salvage : Salvage) → IsLegalPlacedFile file tables bytes → IsOfAll bytes salvage → SavesJust file.pages salvage
placed_file images are_saved whole file tables bytes salvage legal is =
    let valid = legal.is.valid in
    let count = length file.pages in
    let groups = groups_of count in
    let lows = lows_of file.pages in
    let len : length lows ≡ count = length-map file.pages _ in
    let short = numbers_are_short file.header.settings.ward_bits lows file.cells legal.legal.fits.each (valid.all ∙ sym len) (omega (arith, len, few_pages file tables bytes legal)) in
    let behind = groups_are images are_saved file.header.settings.keyer groups file.pages file.cells valid.pages valid.cells short in
    let blocks : AreBlocks (None ∷ grouped groups file.pages) (placed_bytes file)
    = one_block None (stamped_block file.header) (group_bytes groups file.pages file.cells) (grouped groups file.pages) (stamped_is are_saved file.header valid.header) behind in
    saved whole (None ∷ grouped groups file.pages) file.pages bytes salvage (subst (AreBlocks (None ∷ grouped groups file.pages)) (sym legal.is.whole) blocks)
    (pairs_of_groups groups file.pages (omega arith)) is
