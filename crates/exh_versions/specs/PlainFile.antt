-- What a page file of version 3 says, as a file of the versions before: the same wards, and its tables as entries.
use Rattle.std.specs.Prelude.{ℕ, Bool, List, length, map}
use Rattle.std.specs.FinMap.{entries}
use Rattle.std.specs.List.{enumerate_from, flat_map}
use Rattle.exh_notice.specs.declared.entry.Entry.{Entry}
use Rattle.exh_table.specs.Table.{TableMap}
use Rattle.exh_format.specs.declared.file_entry.FileEntry.{FileEntry}
use Rattle.exh_format.specs.declared.header.Header.{Header}
use Rattle.exh_format.specs.PageFile.{PageFile}
use Rattle.exh_cells.specs.declared.stamped_header.StampedHeader.{StampedHeader}
use Rattle.exh_versions.specs.LegalPlaced.{wards_of}
use Rattle.exh_versions.specs.PlacedFile.{PlacedFile}

-- ---- the entries of tables

abbrev pub file_entry : ℕ → List Bool × Entry → FileEntry
file_entry ward told = record { ward = ward; prefix = told.0; entry = told.1 }

-- what the table of a ward tells, in the order of prefixes
abbrev pub entries_of_table : ℕ × TableMap → List FileEntry
entries_of_table own = map (file_entry own.0) (entries own.1)

-- what those of all wards tell, ward 0's first
abbrev pub entries_of_tables : List TableMap → List FileEntry
entries_of_tables tables = flat_map entries_of_table (enumerate_from 0 tables)

-- ---- the file

-- the settings and the counts of pages, and how many entries there are
abbrev pub counted_header : StampedHeader → ℕ → Header
counted_header header count = record { settings = header.settings; entry_count = count; page_counts = header.page_counts }

abbrev pub plain_file : PlacedFile → List TableMap → PageFile
plain_file placed tables = record { header = counted_header placed.header (length (entries_of_tables tables)); wards = wards_of placed; entries = entries_of_tables tables }
