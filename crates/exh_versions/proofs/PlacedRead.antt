-- What is answered of the bytes of a file.
use Rattle.std.proofs.Common.{◌≡◌, ℕ, List, Option, Some, Result, Ok, Err, sym, subst}
use Rattle.std.specs.Prelude.{IfErr, IfOk, MatchResult}
use Rattle.exh_page.specs.declared.page.Page.{Page}
use Rattle.exh_format.specs.declared.read_file_fault.ReadFileFault.{ReadFileFault}
use Rattle.exh_format.specs.declared.read_file_fault.ReadFileFault.TheVariants.{File, Memory, Read}
use Rattle.exh_format.specs.Reading.{AreBytes, IsAll, IsOf, IsOther}
use Rattle.exh_cells.specs.PlacedFile.{IsPlacedFile, PlacedFile}
use Rattle.exh_versions.specs.declared.placed_parts.PlacedParts.{PlacedParts}
use Rattle.exh_versions.specs.PlacedLaws.{OnePlacedFile, PassedHasNoFault, PlacedFilesPass}
use Rattle.exh_versions.specs.PlacedParts.{ArePartsOf, IsReadFrom}
use Rattle.exh_versions.specs.PlacedTests.{IsPlacedFault}

other_fault : PlacedFilesPass → PassedHasNoFault → (known : Option (List ℕ)) (fault : ReadFileFault) (file : PlacedFile) (bytes : List ℕ) → known ≡ Some bytes → AreBytes bytes → IsPlacedFile file bytes
    → IsOf IsPlacedFault known fault → IsOther fault
other_fault pass none known Memory file bytes knows small is fault = tt
other_fault pass none known Read file bytes knows small is fault = tt
other_fault pass none known (File f) file bytes knows small is fault = none file.header bytes f (pass file bytes small is) (subst (λ (known : Option (List ℕ)). IsOf IsPlacedFault known (File f)) knows fault)

pub every : {W : Type 0} (own : W → List Page) → OnePlacedFile → PlacedFilesPass → PassedHasNoFault → (known : Option (List ℕ)) (result : Result (PlacedParts W) ReadFileFault)
    → IfOk result (IsReadFrom own known) → IfErr result (IsOf IsPlacedFault known)
    → (file : PlacedFile) (bytes : List ℕ) → known ≡ Some bytes → AreBytes bytes → IsPlacedFile file bytes → MatchResult result (ArePartsOf own file) IsOther
every own one pass none known (Ok parts) ok err file bytes knows small is =
    let same : bytes ≡ ok.bytes = subst (λ (known : Option (List ℕ)). IsAll known ok.bytes) knows ok.all in
    let one_file : ok.file ≡ file = one bytes ok.file file (subst (IsPlacedFile ok.file) (sym same) ok.is) is in
    subst (λ (file : PlacedFile). ArePartsOf own file parts) one_file ok.parts_are
every own one pass none known (Err fault) ok err file bytes knows small is = other_fault pass none known fault file bytes knows small is err
