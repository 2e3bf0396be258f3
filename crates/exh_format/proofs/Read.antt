-- What is answered of the bytes of a file.
use Rattle.std.proofs.Common.{◌≡◌, ℕ, List, Option, Some, Result, Ok, Err, sym, subst}
use Rattle.std.specs.Prelude.{IfErr, IfOk, MatchResult}
use Rattle.exh_legal.specs.declared.Page.{Page}
use Rattle.exh_format.specs.FileVersionLemmas.{known_file_fits}
use Rattle.exh_format.specs.FileVersion.{format_of, version_of}
use Rattle.exh_format.specs.declared.file_parts.FileParts.{FileParts}
use Rattle.exh_format.specs.declared.read_file_fault.ReadFileFault.{ReadFileFault}
use Rattle.exh_format.specs.declared.read_file_fault.ReadFileFault.TheVariants.{File, Memory, Read}
use Rattle.exh_format.specs.FileParts.{file_read}
use Rattle.exh_format.specs.FileTests.{IsFault}
use Rattle.exh_format.specs.FileLaws.{FilesPass, OneFile, PassedHasNoFault}
use Rattle.exh_format.specs.PageFile.{IsPageFile, PageFile}
use Rattle.exh_format.specs.Reading.{AreBytes, IsAll, IsOf, IsOther}

other_fault : FilesPass → PassedHasNoFault → (known : Option (List ℕ)) (fault : ReadFileFault) (file : PageFile) (bytes : List ℕ) → known ≡ Some bytes → AreBytes bytes → IsPageFile (format_of bytes) file bytes
    → IsOf IsFault known fault → IsOther fault
other_fault pass none known Memory file bytes knows small is fault = tt
other_fault pass none known Read file bytes knows small is fault = tt
other_fault pass none known (File f) file bytes knows small is fault =
    none (format_of bytes) (known_file_fits (version_of bytes)) file.header bytes f small (pass (format_of bytes) (known_file_fits (version_of bytes)) file bytes small is) (subst (λ (known : Option (List ℕ)). IsOf IsFault known (File f)) knows fault)

pub every : {W : Type 0} (own : W → List Page) → OneFile → FilesPass → PassedHasNoFault → (known : Option (List ℕ)) (result : Result (FileParts W) ReadFileFault)
    → IfOk result (λ parts. (bytes : List ℕ) × IsAll known bytes × AreBytes bytes × IsPageFile (format_of bytes) (file_read own parts) bytes) → IfErr result (IsOf IsFault known)
    → (file : PageFile) (bytes : List ℕ) → known ≡ Some bytes → AreBytes bytes → IsPageFile (format_of bytes) file bytes → MatchResult result (λ parts. file_read own parts ≡ file) IsOther
every own one pass none known (Ok parts) ok err file bytes knows small is =
    let same : bytes ≡ ok.0 = subst (λ (known : Option (List ℕ)). IsAll known ok.0) knows ok.1 in
    one (format_of bytes) (known_file_fits (version_of bytes)) bytes (file_read own parts) file (subst (λ (bytes : List ℕ). IsPageFile (format_of bytes) (file_read own parts) bytes) (sym same) ok.3) is
every own one pass none known (Err fault) ok err file bytes knows small is = other_fault pass none known fault file bytes knows small is err
