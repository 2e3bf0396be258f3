-- Lemmas on the version that bytes say and on the bytes of what they say, for the proofs of the crates above.
use Rattle.std.proofs.Common.{◌≡◌, ℕ, zero, suc, ◌+◌, ◌*◌, ◌^◌, ◌<◌, ◌≤◌, Bool, nat_eq, List, [], ◌∷◌, ◌++◌, length, map, take, drop, inl, inr, refl, sym, ap, ◌∙◌, subst, arith}
use Rattle.std.specs.FinMap.{entries}
use Rattle.std.specs.List.{AllByRecursion, enumerate_from, flat_map, range_with_len}
use Rattle.std.proofs.lemmas.List.{length-drop, take-append-drop}
use Rattle.byteorder.specs.Endian.{big_from}
use Rattle.exh_prefix.specs.Leading.{ward_of}
use Rattle.exh_prefix.specs.PrefixListLemmas.{AllByRecursion-append, AllByRecursion-append_left, AllByRecursion-append_right, AllByRecursion-filter}
use Rattle.exh_prefix.specs.declared.version.Version.{Version as KnownVersion}
use Rattle.exh_prefix.specs.declared.version.Version.TheVariants.{First, Second}
use Rattle.exh_notice.specs.declared.entry.Entry.{Entry}
use Rattle.exh_table.specs.Table.{TableMap}
use Rattle.exh_page.specs.declared.page.Page.{Page}
use Rattle.exh_page.specs.Page.{low_bound}
use Rattle.exh_format.specs.FileVersion.{file_version, format_of, number_of_version}
use Rattle.exh_format.specs.HeaderImage.{front_bytes}
use Rattle.exh_format.specs.PageFile.{IsPageFile, PageFile, file_bytes, header_block, page_block, pages_of, table_blocks, table_bytes}
use Rattle.exh_format.specs.Reading.{AreBytes}
use Rattle.exh_format.specs.declared.file_entry.FileEntry.{FileEntry}
use Rattle.exh_cells.specs.declared.cell.Cell.{Cell}
use Rattle.exh_versions.specs.LegalPlaced.{IsLegalPlacedFile, pages_of_ward, wards_of}
use Rattle.exh_versions.specs.Places.{groups_of}
use Rattle.exh_versions.specs.PlacedFile.{IsPlacedFile, PlacedFile, group_bytes, placed_bytes, stamped_block, walk_block}
use Rattle.exh_versions.specs.LegalBytes.{IsLegalBytes, SaysPlaced}
use Rattle.exh_versions.specs.PlainFile.{entries_of_table, entries_of_tables, file_entry}

-- ---- the version that bytes say

placed_number : (file : PlacedFile) → SaysPlaced (placed_bytes file)
unfolding stamped_block front_bytes
placed_number file = refl

pub says_placed : (file : PlacedFile) (bytes : List ℕ) → IsPlacedFile file bytes → SaysPlaced bytes
says_placed file bytes is = subst SaysPlaced (sym is.whole) (placed_number file)

plain_number : (version : KnownVersion) (file : PageFile) → big_from 8 2 (file_bytes (file_version version) file) ≡ number_of_version version
unfolding header_block front_bytes
plain_number First file = refl
plain_number Second file = refl

not_placed : (version : KnownVersion) → number_of_version version ≡ 3 → ⊥
not_placed First is = cc
not_placed Second is = cc

pub says_plain : (version : KnownVersion) (file : PageFile) (bytes : List ℕ) → IsPageFile (file_version version) file bytes → SaysPlaced bytes → ⊥
says_plain version file bytes is says = not_placed version (sym (plain_number version file) ∙ ap (big_from 8 2) (sym is.whole) ∙ says)

-- ---- the wards that entries name

all_named : (P : FileEntry → Type 0) (ward : ℕ) (told : List (List Bool × Entry)) → ((one : List Bool × Entry) → P (file_entry ward one)) → AllByRecursion P (map (file_entry ward) told)
all_named P ward [] each = tt
all_named P ward (one ∷ told) each = (each one, all_named P ward told each)

wards_below : (most base : ℕ) (tables : List TableMap) → base + length tables ≤ most → AllByRecursion (λ item. item.ward < most) (flat_map entries_of_table (enumerate_from base tables))
wards_below most base [] fit = tt
wards_below most base (table ∷ tables) fit =
    AllByRecursion-append (λ (item : FileEntry). item.ward < most) (entries_of_table (base, table)) (flat_map entries_of_table (enumerate_from (base + 1) tables))
    (all_named (λ (item : FileEntry). item.ward < most) base (entries table) (λ one. omega (arith, fit)))
    (wards_below most (base + 1) tables (omega (arith, fit)))

-- each is a byte
pub wards_are_bytes : (file : PlacedFile) (tables : List TableMap) (bytes : List ℕ) → IsLegalPlacedFile file tables bytes → AllByRecursion (λ item. item.ward < 256) (entries_of_tables tables)
wards_are_bytes file tables bytes legal = wards_below 256 0 tables (let few = legal.is.valid.header.plain.wards in omega (arith, few, legal.legal.tables_are.count))

-- ---- the blocks of pages

abbrev HasBytes : Page → Type 0
HasBytes page = AreBytes (page_block page)

each_block : (pages : List Page) → AreBytes (flat_map page_block pages) → AllByRecursion HasBytes pages
each_block [] all = tt
each_block (page ∷ pages) all = (
  AllByRecursion-append_left (λ byte. byte < 256) (page_block page) (flat_map page_block pages) all,
  each_block pages (AllByRecursion-append_right (λ byte. byte < 256) (page_block page) (flat_map page_block pages) all),
)

in_groups : (groups : ℕ) (pages : List Page) (cells : List Cell) → length pages ≤ 24 * groups → AreBytes (group_bytes groups pages cells) → AllByRecursion HasBytes pages
in_groups zero [] cells fit all = tt
in_groups zero (page ∷ pages) cells fit all = absurd (omega (arith, fit))
in_groups (suc groups) pages cells fit all =
    let front = flat_map page_block (take 24 pages) in
    let rest = group_bytes groups (drop 24 pages) (drop 24 cells) in
    let behind = AllByRecursion-append_right (λ byte. byte < 256) (walk_block (take 24 cells)) (front ++ rest) all in
    let own = each_block (take 24 pages) (AllByRecursion-append_left (λ byte. byte < 256) front rest behind) in
    let others = in_groups groups (drop 24 pages) (drop 24 cells) (omega (arith, fit, length-drop 24 pages)) (AllByRecursion-append_right (λ byte. byte < 256) front rest behind) in
    subst (AllByRecursion HasBytes) (take-append-drop 24 pages) (AllByRecursion-append HasBytes (take 24 pages) (drop 24 pages) own others)

in_wards : (bits : ℕ) (pages : List Page) (from count : ℕ) → AllByRecursion HasBytes pages → AllByRecursion HasBytes (pages_of (map (pages_of_ward bits pages) (range_with_len from count)))
in_wards bits pages from zero all = tt
in_wards bits pages from (suc count) all =
    AllByRecursion-append HasBytes (pages_of_ward bits pages from) (pages_of (map (pages_of_ward bits pages) (range_with_len (from + 1) count)))
    (AllByRecursion-filter (λ page. nat_eq (ward_of bits (low_bound page)) from) HasBytes pages all) (in_wards bits pages (from + 1) count all)

placed_are_bytes : (file : PlacedFile) (bytes : List ℕ) → IsPlacedFile file bytes → AreBytes bytes → AllByRecursion HasBytes (pages_of (wards_of file))
placed_are_bytes file bytes is all =
    let behind = AllByRecursion-append_right (λ byte. byte < 256) (stamped_block file.header) (group_bytes (groups_of (length file.pages)) file.pages file.cells) (subst AreBytes is.whole all) in
    in_wards file.header.settings.ward_bits file.pages 0 (2 ^ file.header.settings.ward_bits) (in_groups (groups_of (length file.pages)) file.pages file.cells (omega arith) behind)

plain_are_bytes : (file : PageFile) (bytes : List ℕ) → IsPageFile (format_of bytes) file bytes → AreBytes bytes → AllByRecursion HasBytes (pages_of file.wards)
plain_are_bytes file bytes is all =
    let pages = flat_map page_block (pages_of file.wards) in
    let table = table_bytes (format_of bytes).images (table_blocks (length file.entries)) file.entries in
    let behind = AllByRecursion-append_right (λ byte. byte < 256) (header_block (format_of bytes) file.header) (pages ++ table) (subst AreBytes is.whole all) in
    each_block (pages_of file.wards) (AllByRecursion-append_left (λ byte. byte < 256) pages table behind)

-- where the bytes that say a file are bytes, the blocks of its pages are
pub pages_are_bytes : (file : PageFile) (bytes : List ℕ) → IsLegalBytes file bytes → AreBytes bytes → AllByRecursion (λ page. AreBytes (page_block page)) (pages_of file.wards)
pages_are_bytes file bytes legal all = elim legal [
  | inl page ↦ plain_are_bytes file bytes page.is all
  | inr placed ↦ subst (λ (file : PageFile). AllByRecursion HasBytes (pages_of file.wards)) (sym placed.says) (placed_are_bytes placed.placed bytes placed.legal.is all)
]
