-- What is answered of a legal page file of version 3, and of one that isn't.
use Rattle.std.specs.Prelude.{◌≡◌, ⊤, ℕ, List, Option, None, Some, map, IfSome}
use Rattle.exh_table.specs.Table.{TableMap}
use Rattle.exh_page.specs.declared.page.Page.{Page}
use Rattle.exh_legal.specs.declared.reason.Reason.{Reason}
use Rattle.exh_legal.specs.LegalParts.{FileParts, parts_of}
use Rattle.exh_format.specs.declared.legal_file_fault.LegalFileFault.{LegalFileFault}
use Rattle.exh_format.specs.declared.legal_file_fault.LegalFileFault.TheVariants.{File, Illegal, Memory, Read}
use Rattle.exh_format.specs.Reading.{AreBytes, IsAll}
use Rattle.exh_cells.specs.LegalPlaced.{HasFitting, HasTables, IsFirstPlaced, IsLegalPlacedFile}
use Rattle.exh_cells.specs.PlacedFile.{IsPlaced, IsPlacedFile, PlacedFile}
use Rattle.exh_versions.specs.declared.legal_placed.LegalPlaced.{LegalPlaced}
use Rattle.exh_versions.specs.declared.placed_parts.PlacedParts.{PlacedParts}
use Rattle.exh_versions.specs.PlacedParts.{ArePartsOf}
use Rattle.exh_versions.specs.PlacedTests.{IsPlacedFault}

-- ---- what is answered

-- the parts are the file's, and so are the tables
pub record AreLegalPartsOf {W : Type 0} (own : W → List Page) (file : PlacedFile) (tables : List TableMap) (legal : LegalPlaced W) : Type 0 where
  pub parts_are : ArePartsOf own file legal.parts
  pub tables_are : legal.tables.items ≡ tables

-- the parts and tables are those of a legal file that the bytes are of, which are all that was known
pub record IsLegalFrom {W : Type 0} (own : W → List Page) (known : Option (List ℕ)) (legal : LegalPlaced W) : Type 0 where
  pub file : PlacedFile
  pub bytes : List ℕ
  pub all : IsAll known bytes
  pub are_bytes : AreBytes bytes
  pub is : IsLegalPlacedFile file legal.tables.items bytes
  pub parts_are : ArePartsOf own file legal.parts

-- the bytes are a file that isn't legal, for this reason first; or they aren't one, by this fault
abbrev pub IsLegalPlacedFault : List ℕ → LegalFileFault → Type 0
IsLegalPlacedFault bytes (File fault) = IsPlacedFault bytes fault
IsLegalPlacedFault bytes (Illegal reason) = (file : PlacedFile) × IsPlacedFile file bytes × IsFirstPlaced file (Some reason)
IsLegalPlacedFault bytes Read = ⊥
IsLegalPlacedFault bytes Memory = ⊥

-- the fault, if it is one of the bytes, is such a one, where they are known
abbrev pub IsLegalPlacedFaultOf : Option (List ℕ) → LegalFileFault → Type 0
IsLegalPlacedFaultOf known (File fault) = IfSome known (λ bytes. IsLegalPlacedFault bytes (File fault))
IsLegalPlacedFaultOf known (Illegal reason) = IfSome known (λ bytes. IsLegalPlacedFault bytes (Illegal reason))
IsLegalPlacedFaultOf known Read = ⊤
IsLegalPlacedFaultOf known Memory = ⊤

-- ---- contracts of private functions

module _ {W : Type 0} (own : W → List Page) (parts : PlacedParts W) where
  -- they are those of a file
  abbrev pub IsSomeFile : Type 0
  IsSomeFile = (file : PlacedFile) × IsPlaced file × ArePartsOf own file parts

  -- what they say with these tables, as the six reasons are asked of it
  abbrev pub parts_with : List TableMap → FileParts
  parts_with tables = parts_of parts.header.settings.cap parts.header.settings.ward_bits (map own parts.wards.items) tables

  -- of their file these are the tables, and no reason applies
  abbrev pub AreTablesFor : List TableMap → Type 0
  AreTablesFor tables = (file : PlacedFile) → IsPlaced file → ArePartsOf own file parts → HasFitting file × HasTables file tables × IsFirstPlaced file None

  -- the first reason that applies, where the cells don't fit
  abbrev pub IsFirstUnfit : Reason → Type 0
  IsFirstUnfit reason = (file : PlacedFile) → IsPlaced file → ArePartsOf own file parts → (HasFitting file → ⊥) → IsFirstPlaced file (Some reason)

  -- the fault, if it is a reason, is the first that applies
  abbrev pub IsReasonFor : LegalFileFault → Type 0
  IsReasonFor (Illegal reason) = (file : PlacedFile) → IsPlaced file → ArePartsOf own file parts → IsFirstPlaced file (Some reason)
  IsReasonFor Memory = ⊤
  IsReasonFor (File fault) = ⊥
  IsReasonFor Read = ⊥
