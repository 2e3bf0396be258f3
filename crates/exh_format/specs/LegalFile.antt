-- Legal page files: a relation between bytes and files, and the first fault of bytes.
use Rattle.std.specs.Prelude.{⊤, ℕ, nat_eq, Bool, List, Option, Some, map, filter, length, IfSome}
use Rattle.std.specs.List.{range_with_len}
use Rattle.std.specs.FinMap.{from_entries}
use Rattle.exh_keyer.specs.Pseudokey.{any_pseudokey}
use Rattle.exh_legal.specs.declared.Entry.{Entry}
use Rattle.exh_legal.specs.Table.{TableMap}
use Rattle.exh_format.specs.declared.file_entry.FileEntry.{FileEntry}
use Rattle.exh_format.specs.FileVersion.{FileVersion, format_of}
use Rattle.exh_format.specs.FileTests.{IsFileFault}
use Rattle.exh_format.specs.PageFile.{PageFile, IsPageFile}
use Rattle.exh_legal.specs.LegalParts.{FileParts, parts_of}
use Rattle.exh_legal.specs.ReasonLaws.{IsLegalFile}
use Rattle.exh_legal.specs.Reasons.{IsFirstReason}
use Rattle.exh_format.specs.declared.legal_file_fault.LegalFileFault.{LegalFileFault}
use Rattle.exh_format.specs.declared.legal_file_fault.LegalFileFault.TheVariants.{File, Illegal, Memory, Read}
use Rattle.exh_format.specs.declared.tables.TheConstants.{NAMED_WARDS}

-- ---- the table of a file, ward by ward

abbrev pub told_of : FileEntry → List Bool × Entry
told_of item = (item.prefix, item.entry)

-- the entries that name a ward
abbrev pub naming : List FileEntry → ℕ → List FileEntry
naming entries ward = filter (λ item. nat_eq item.ward ward) entries

-- the table that they are
abbrev pub table_naming : List FileEntry → ℕ → TableMap
table_naming entries ward = from_entries (map told_of (naming entries ward))

-- of each ward that an entry may name
unfoldable pub tables_of : List FileEntry → List TableMap
tables_of entries = map (table_naming entries) (range_with_len 0 NAMED_WARDS)

-- of each ward that is there
abbrev pub ward_tables : PageFile → List TableMap
ward_tables file = map (table_naming file.entries) (range_with_len 0 (length file.wards))

-- ---- legal files

-- what a file says, as the six reasons are asked of it
abbrev pub parts_in : PageFile → FileParts
parts_in file = parts_of file.header.settings.cap file.header.settings.ward_bits file.wards (tables_of file.entries)

-- the bytes are those of the file, and it is legal
pub record IsLegalPageFile (version : FileVersion) (file : PageFile) (bytes : List ℕ) : Type 0 where
  pub is : IsPageFile version file bytes
  pub legal : IsLegalFile (any_pseudokey file.header.settings.keyer) (parts_in file)

-- ---- the first fault

-- the bytes are a page file that isn't legal, for this reason first; or they aren't one, by this fault
abbrev pub IsLegalFileFault : FileVersion → List ℕ → LegalFileFault → Type 0
IsLegalFileFault version bytes (File fault) = IsFileFault version bytes fault
IsLegalFileFault version bytes (Illegal reason) = (file : PageFile) × IsPageFile version file bytes × IsFirstReason (parts_in file) (Some reason)
IsLegalFileFault version bytes Read = ⊥
IsLegalFileFault version bytes Memory = ⊥

-- the fault, if it is one of the bytes, is such a one in the version that they say, where they are known
abbrev pub IsLegalFileFaultOf : Option (List ℕ) → LegalFileFault → Type 0
IsLegalFileFaultOf known (File fault) = IfSome known (λ bytes. IsLegalFileFault (format_of bytes) bytes (File fault))
IsLegalFileFaultOf known (Illegal reason) = IfSome known (λ bytes. IsLegalFileFault (format_of bytes) bytes (Illegal reason))
IsLegalFileFaultOf known Read = ⊤
IsLegalFileFaultOf known Memory = ⊤

-- the fault isn't one of the bytes
abbrev pub IsOtherFault : LegalFileFault → Type 0
IsOtherFault (File fault) = ⊥
IsOtherFault (Illegal reason) = ⊥
IsOtherFault Read = ⊤
IsOtherFault Memory = ⊤
