-- Legal page files of every version: a relation between bytes and files, and the first fault of bytes.
use Rattle.std.specs.Prelude.{◌≡◌, ℕ, ◌⊎◌, List}
use Rattle.byteorder.specs.Endian.{big_from}
use Rattle.exh_table.specs.Table.{TableMap}
use Rattle.exh_format.specs.FileVersion.{format_of}
use Rattle.exh_format.specs.LegalFile.{IsLegalPageFile}
use Rattle.exh_format.specs.PageFile.{PageFile}
use Rattle.exh_versions.specs.LegalPlaced.{IsLegalPlacedFile}
use Rattle.exh_versions.specs.PlacedFile.{PlacedFile}
use Rattle.exh_versions.specs.StampedHeader.{placed_format}
use Rattle.exh_versions.specs.PlainFile.{plain_file}

-- ---- legal files

-- the bytes are a legal file of version 3 that says what the file says
pub record IsLegalPlacedOf (file : PageFile) (bytes : List ℕ) : Type 0 where
  pub placed : PlacedFile
  pub tables : List TableMap
  pub legal : IsLegalPlacedFile placed tables bytes
  pub says : file ≡ plain_file placed tables

-- the bytes are the file, in version 1 or 2, or say it in version 3, and it is legal
abbrev pub IsLegalBytes : PageFile → List ℕ → Type 0
IsLegalBytes file bytes = IsLegalPageFile (format_of bytes) file bytes ⊎ IsLegalPlacedOf file bytes

-- ---- the first fault

-- the number of version 3 stands in the bytes
abbrev pub SaysPlaced : List ℕ → Type 0
SaysPlaced bytes = big_from 8 2 bytes ≡ placed_format.number
