-- Lemmas on legal files, for the proofs of the crates above.
use Rattle.std.proofs.Common.{◌≡◌, ℕ, ◌^◌, ◌<◌, ◌≤◌, List, length, get_or, sym, ap, ◌∙◌, arith}
use Rattle.std.specs.FinMap.{empty}
use Rattle.std.proofs.lemmas.List.{length-map, length-take}
use Rattle.std.proofs.lemmas.List.FromFn.{get_or-map-range_with_len}
use Rattle.exh_legal.specs.declared.Page.{Page}
use Rattle.exh_format.specs.declared.file_entry.FileEntry.{FileEntry}
use Rattle.exh_format.specs.HeaderLemmas.{few_wards}
use Rattle.exh_format.specs.PageFile.{IsKnownFile, PageFile}
use Rattle.exh_legal.specs.LegalParts.{HasPartRanges}
use Rattle.exh_format.specs.LegalFile.{parts_in, table_naming, tables_of}
use Rattle.exh_format.specs.declared.tables.TheConstants.{NAMED_WARDS}

-- ---- what a header says

pub few_bits : (file : PageFile) → IsKnownFile file → file.header.settings.ward_bits ≤ 4
few_bits file valid = few_wards file.header.settings.ward_bits valid.1.header.wards

pub ranges_of : (file : PageFile) → IsKnownFile file → HasPartRanges (parts_in file)
ranges_of file valid = record { cap = valid.1.header.few; bits = (let few = few_bits file valid in omega arith) }

pub count_of_wards : (file : PageFile) → IsKnownFile file → length file.wards ≡ 2 ^ file.header.settings.ward_bits
count_of_wards file valid =
    sym (length-map file.wards (λ (pages : List Page). length pages)) ∙ ap length valid.1.counts
    ∙ (let wards = valid.1.header.wards in omega (arith, valid.1.header.counts, length-take (2 ^ file.header.settings.ward_bits) file.header.page_counts))

-- ---- the tables of its wards

pub table_naming_at : (entries : List FileEntry) (ward : ℕ) → ward < NAMED_WARDS → get_or (tables_of entries) ward empty ≡ table_naming entries ward
unfolding tables_of
table_naming_at entries ward less = get_or-map-range_with_len (table_naming entries) 0 NAMED_WARDS ward ward empty less (omega arith)
