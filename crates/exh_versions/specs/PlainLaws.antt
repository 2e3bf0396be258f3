-- A file of version 3 beside one of version 2, and beside others with its pages.
use Rattle.std.specs.Prelude.{◌≡◌, ◌↔◌, List}
use Rattle.exh_keyer.specs.Pseudokey.{any_pseudokey}
use Rattle.exh_table.specs.Table.{TableMap}
use Rattle.exh_legal.specs.LegalParts.{HasNoStrays}
use Rattle.exh_legal.specs.ReasonLaws.{IsLegalFile}
use Rattle.exh_format.specs.LegalFile.{parts_in, ward_tables}
use Rattle.exh_format.specs.PageFile.{PageFile}
use Rattle.exh_cells.specs.LegalPlaced.{HasFitting, HasTables, IsLegalPlaced, wards_of}
use Rattle.exh_cells.specs.PlacedFile.{IsPlaced, PlacedFile}

-- settings, wards and tables are the same, and no entry names another ward
pub record SaysTheSame (file : PlacedFile) (tables : List TableMap) (plain : PageFile) : Type 0 where
  pub settings : plain.header.settings ≡ file.header.settings
  pub wards : plain.wards ≡ wards_of file
  pub tables_are : ward_tables plain ≡ tables
  pub strays : HasNoStrays (parts_in plain)

-- of two files that say the same one is legal exactly where the other is, if the cells fit and tell of the tables
abbrev pub SameLegal : Type 0
SameLegal = (file : PlacedFile) (tables : List TableMap) (plain : PageFile) → IsPlaced file → HasFitting file → HasTables file tables → SaysTheSame file tables plain
    → IsLegalPlaced file tables ↔ IsLegalFile (any_pseudokey plain.header.settings.keyer) (parts_in plain)

-- legal files with the same header, the same pages at the same places and the same tables are one
abbrev pub OneLegalPlaced : Type 0
OneLegalPlaced = (one other : PlacedFile) (tables : List TableMap) → IsPlaced one → IsPlaced other → one.header ≡ other.header → one.pages ≡ other.pages → IsLegalPlaced one tables → IsLegalPlaced other tables → one ≡ other
