-- What is answered of the bytes of a legal file.
use Rattle.std.proofs.Common.{◌≡◌, ℕ, List, Option, None, Some, Result, Ok, Err, sym, subst}
use Rattle.std.specs.Prelude.{IfErr, IfOk, IsErrAnd, MatchResult}
use Rattle.exh_table.specs.Table.{TableMap}
use Rattle.exh_page.specs.declared.page.Page.{Page}
use Rattle.exh_legal.specs.declared.reason.Reason.{Reason}
use Rattle.exh_legal.specs.ReasonLaws.{LegalFilesPass}
use Rattle.exh_format.specs.declared.legal_file_fault.LegalFileFault.{LegalFileFault}
use Rattle.exh_format.specs.declared.legal_file_fault.LegalFileFault.TheVariants.{File, Illegal, Memory, Read}
use Rattle.exh_format.specs.LegalFile.{IsOtherFault}
use Rattle.exh_format.specs.Reading.{AreBytes, IsAll}
use Rattle.exh_cells.specs.CellLaws.{CellsTellTables}
use Rattle.exh_cells.specs.LegalPlaced.{HasTables, IsFirstPlaced, IsLegalPlacedFile}
use Rattle.exh_cells.specs.PlacedFile.{IsPlacedFile, PlacedFile, lows_of}
use Rattle.exh_versions.specs.declared.legal_placed.LegalPlaced.{LegalPlaced}
use Rattle.exh_versions.specs.declared.placed_parts.PlacedParts.{PlacedParts}
use Rattle.exh_versions.specs.LegalReading.{AreLegalPartsOf, AreTablesFor, IsLegalFrom, IsLegalPlacedFault, IsLegalPlacedFaultOf, IsReasonFor}
use Rattle.exh_versions.specs.PlacedLaws.{OnePlacedFile, PassedHasNoFault, PlacedFilesPass}
use Rattle.exh_versions.specs.PlacedParts.{ArePartsOf, IsReadFrom}
use Rattle.exh_versions.proofs.Legal.{legal_from, no_reason}

-- what is answered, where a `?` hands on a fault
pub err_is : {T : Type 0} (r : Result T LegalFileFault) (fault : LegalFileFault) (P : LegalFileFault → Type 0) → IsErrAnd r (λ e. e ≡ fault) → P fault → IfErr r P
err_is (Ok x) fault P is p = tt
err_is (Err e) fault P is p = subst P (sym is) p

-- ---- what was found

module _ {W : Type 0} (own : W → List Page) (known : Option (List ℕ)) (parts : PlacedParts W) (read : IsReadFrom own known parts) where
  pub legal_found : LegalFilesPass → CellsTellTables → (legal : LegalPlaced W) → legal.parts ≡ parts → AreTablesFor own parts legal.tables.items → IsLegalFrom own known legal
  legal_found law one legal parts_is are =
      let found = are read.file read.is.valid read.parts_are in
      record {
        file = read.file;
        bytes = read.bytes;
        all = read.all;
        are_bytes = read.are_bytes;
        is = record { is = read.is; legal = legal_from read.file legal.tables.items read.is.valid law one found.0 found.1 found.2 };
        parts_are = subst (ArePartsOf own read.file) (sym parts_is) read.parts_are;
      }

  told_illegal : (known : Option (List ℕ)) (bytes : List ℕ) (file : PlacedFile) (reason : Reason) → IsAll known bytes → IsPlacedFile file bytes → IsFirstPlaced file (Some reason) → IsLegalPlacedFaultOf known (Illegal reason)
  told_illegal None bytes file reason is page first = tt
  told_illegal (Some all) bytes file reason is page first = (file, subst (IsPlacedFile file) (sym is) page, first)

  pub reason_found : (fault : LegalFileFault) → IsReasonFor own parts fault → IsLegalPlacedFaultOf known fault
  reason_found (File fault) for = absurd for
  reason_found Read for = absurd for
  reason_found Memory for = tt
  reason_found (Illegal reason) for = told_illegal known read.bytes read.file reason read.all read.is (for read.file read.is.valid read.parts_are)

-- ---- of the bytes of a legal file

module _ (one : OnePlacedFile) (pass : PlacedFilesPass) (none : PassedHasNoFault) (law : LegalFilesPass) (tell : CellsTellTables) (known : Option (List ℕ)) where
  other_fault : (fault : LegalFileFault) (file : PlacedFile) (tables : List TableMap) (bytes : List ℕ) → known ≡ Some bytes → AreBytes bytes → IsLegalPlacedFile file tables bytes → IsLegalPlacedFaultOf known fault → IsOtherFault fault
  other_fault Memory file tables bytes knows small is fault = tt
  other_fault Read file tables bytes knows small is fault = tt
  other_fault (File f) file tables bytes knows small is fault = none file.header bytes f (pass file bytes small is.is) (subst (λ (known : Option (List ℕ)). IsLegalPlacedFaultOf known (File f)) knows fault)
  other_fault (Illegal reason) file tables bytes knows small is fault =
      let told : IsLegalPlacedFault bytes (Illegal reason) = subst (λ (known : Option (List ℕ)). IsLegalPlacedFaultOf known (Illegal reason)) knows fault in
      let same : told.0 ≡ file = one bytes told.0 file told.1 is.is in
      no_reason file tables is.is.valid law is.legal reason (subst (λ (other : PlacedFile). IsFirstPlaced other (Some reason)) same told.2)

  pub every : {W : Type 0} (own : W → List Page) (result : Result (LegalPlaced W) LegalFileFault) → IfOk result (IsLegalFrom own known) → IfErr result (IsLegalPlacedFaultOf known)
      → (file : PlacedFile) (tables : List TableMap) (bytes : List ℕ) → known ≡ Some bytes → AreBytes bytes → IsLegalPlacedFile file tables bytes → MatchResult result (AreLegalPartsOf own file tables) IsOtherFault
  every own (Ok legal) ok err file tables bytes knows small is =
      let same : bytes ≡ ok.bytes = subst (λ (known : Option (List ℕ)). IsAll known ok.bytes) knows ok.all in
      let one_file : ok.file ≡ file = one bytes ok.file file (subst (IsPlacedFile ok.file) (sym same) ok.is.is) is.is in
      let have : HasTables file legal.tables.items = subst (λ (file : PlacedFile). HasTables file legal.tables.items) one_file ok.is.legal.tables_are in
      record {
        parts_are = subst (λ (file : PlacedFile). ArePartsOf own file legal.parts) one_file ok.parts_are;
        tables_are = tell file.header.settings.ward_bits (lows_of file.pages) file.cells legal.tables.items tables have is.legal.tables_are;
      }
  every own (Err fault) ok err file tables bytes knows small is = other_fault fault file tables bytes knows small is err
