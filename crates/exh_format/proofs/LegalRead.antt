-- What is answered of the bytes of a legal file.
use Rattle.std.proofs.Common.{◌≡◌, ℕ, List, Option, Some, Result, Ok, Err, sym, subst}
use Rattle.std.specs.Prelude.{IfErr, IfOk, MatchResult}
use Rattle.exh_legal.specs.declared.Page.{Page}
use Rattle.exh_format.specs.FileVersion.{format_of, version_of}
use Rattle.exh_format.specs.FileVersionLemmas.{known_file_fits}
use Rattle.exh_format.specs.FileParts.{file_read}
use Rattle.exh_format.specs.FileLaws.{FilesPass, OneFile, PassedHasNoFault}
use Rattle.exh_format.specs.PageFile.{IsPageFile, PageFile}
use Rattle.exh_format.specs.Reading.{AreBytes, IsAll}
use Rattle.exh_legal.specs.ReasonLaws.{LegalFilesPass}
use Rattle.exh_legal.specs.Reasons.{IsFirstReason}
use Rattle.exh_format.specs.declared.legal_file.LegalFile.{LegalFile}
use Rattle.exh_format.specs.declared.legal_file_fault.LegalFileFault.{LegalFileFault}
use Rattle.exh_format.specs.declared.legal_file_fault.LegalFileFault.TheVariants.{File, Illegal, Memory, Read}
use Rattle.exh_format.specs.LegalFile.{IsLegalFileFault, IsLegalFileFaultOf, IsLegalPageFile, IsOtherFault, parts_in}
use Rattle.exh_format.proofs.Parts.{no_reason}

module _ (one : OneFile) (pass : FilesPass) (none : PassedHasNoFault) (law : LegalFilesPass) (known : Option (List ℕ)) where
  other_fault : (fault : LegalFileFault) (file : PageFile) (bytes : List ℕ) → known ≡ Some bytes → AreBytes bytes → IsLegalPageFile (format_of bytes) file bytes → IsLegalFileFaultOf known fault → IsOtherFault fault
  other_fault Memory file bytes knows small is fault = tt
  other_fault Read file bytes knows small is fault = tt
  other_fault (File f) file bytes knows small is fault =
      none (format_of bytes) (known_file_fits (version_of bytes)) file.header bytes f small (pass (format_of bytes) (known_file_fits (version_of bytes)) file bytes small is.is) (subst (λ (known : Option (List ℕ)). IsLegalFileFaultOf known (File f)) knows fault)
  other_fault (Illegal reason) file bytes knows small is fault =
      let told : IsLegalFileFault (format_of bytes) bytes (Illegal reason) = subst (λ (known : Option (List ℕ)). IsLegalFileFaultOf known (Illegal reason)) knows fault in
      let same : told.0 ≡ file = one (format_of bytes) (known_file_fits (version_of bytes)) bytes told.0 file told.1 is.is in
      no_reason law file (version_of bytes, is.is.valid) is.legal reason (subst (λ (other : PageFile). IsFirstReason (parts_in other) (Some reason)) same told.2)

  pub every : {W : Type 0} (own : W → List Page) (result : Result (LegalFile W) LegalFileFault)
      → IfOk result (λ legal. (bytes : List ℕ) × IsAll known bytes × AreBytes bytes × IsLegalPageFile (format_of bytes) (file_read own legal.parts) bytes) → IfErr result (IsLegalFileFaultOf known)
      → (file : PageFile) (bytes : List ℕ) → known ≡ Some bytes → AreBytes bytes → IsLegalPageFile (format_of bytes) file bytes → MatchResult result (λ legal. file_read own legal.parts ≡ file) IsOtherFault
  every own (Ok legal) ok err file bytes knows small is =
      let same : bytes ≡ ok.0 = subst (λ (known : Option (List ℕ)). IsAll known ok.0) knows ok.1 in
      one (format_of bytes) (known_file_fits (version_of bytes)) bytes (file_read own legal.parts) file (subst (λ (bytes : List ℕ). IsPageFile (format_of bytes) (file_read own legal.parts) bytes) (sym same) ok.3.is) is.is
  every own (Err fault) ok err file bytes knows small is = other_fault fault file bytes knows small is err
