-- Laws of legal page files of every version, for the crates above.
use Rattle.std.specs.Prelude.{◌≡◌, ℕ, List}
use Rattle.exh_keyer.specs.Pseudokey.{any_pseudokey}
use Rattle.exh_table.specs.Table.{TableMap}
use Rattle.exh_versions.specs.ReasonLaws.{IsLegalFile}
use Rattle.exh_format.specs.FileVersion.{written_format}
use Rattle.exh_format.specs.LegalFile.{parts_in, ward_tables}
use Rattle.exh_format.specs.PageFile.{IsFile, IsKnownFile, PageFile}
use Rattle.exh_versions.specs.LegalPlaced.{IsLegalPlacedFile}
use Rattle.exh_versions.specs.PlacedFile.{PlacedFile}
use Rattle.exh_versions.specs.LegalBytes.{IsLegalBytes}
use Rattle.exh_versions.specs.PlainFile.{plain_file}

-- a file that a version which the code knows may have, and a legal one
pub record IsKnownLegal (file : PageFile) : Type 0 where
  pub is_known : IsKnownFile file
  pub legal : IsLegalFile (any_pseudokey file.header.settings.keyer) (parts_in file)

-- bytes of any version are those of such a file
abbrev pub LegalBytesAreFiles : Type 0
LegalBytesAreFiles = (file : PageFile) (bytes : List ℕ) → IsLegalBytes file bytes → IsKnownLegal file

-- what a file of version 3 says is a legal file of the version that is written, and its tables are those that the cells tell of
pub record IsPlainOf (file : PageFile) (tables : List TableMap) : Type 0 where
  pub valid : IsFile written_format file
  pub legal : IsLegalFile (any_pseudokey file.header.settings.keyer) (parts_in file)
  pub tables_are : ward_tables file ≡ tables

abbrev pub PlacedFilesSayFiles : Type 0
PlacedFilesSayFiles = (placed : PlacedFile) (tables : List TableMap) (bytes : List ℕ) → IsLegalPlacedFile placed tables bytes → IsPlainOf (plain_file placed tables) tables

-- bytes are those of one legal file
abbrev pub OneLegalFile : Type 0
OneLegalFile = (bytes : List ℕ) (one other : PageFile) → IsLegalBytes one bytes → IsLegalBytes other bytes → one ≡ other
