-- Laws of page files of version 3, for the crates above.
use Rattle.std.specs.Prelude.{◌≡◌, ℕ, List}
use Rattle.exh_format.specs.declared.file_fault.FileFault.{FileFault}
use Rattle.exh_format.specs.Reading.{AreBytes}
use Rattle.exh_cells.specs.declared.stamped_header.StampedHeader.{StampedHeader}
use Rattle.exh_cells.specs.PlacedFile.{IsPlaced, IsPlacedFile, PlacedFile}
use Rattle.exh_versions.specs.PlacedTests.{IsPlacedFault, PassesPlaced}

-- a file has exactly one list of bytes
abbrev pub OnePlacedImage : Type 0
OnePlacedImage = (file : PlacedFile) → IsPlaced file → (bytes : List ℕ) × IsPlacedFile file bytes × ((other : List ℕ) → IsPlacedFile file other → other ≡ bytes)

-- and bytes are those of one file
abbrev pub OnePlacedFile : Type 0
OnePlacedFile = (bytes : List ℕ) (one other : PlacedFile) → IsPlacedFile one bytes → IsPlacedFile other bytes → one ≡ other

-- the bytes of a file pass all tests
abbrev pub PlacedFilesPass : Type 0
PlacedFilesPass = (file : PlacedFile) (bytes : List ℕ) → AreBytes bytes → IsPlacedFile file bytes → PassesPlaced bytes file.header

-- where all are passed there is no fault
abbrev pub PassedHasNoFault : Type 0
PassedHasNoFault = (header : StampedHeader) (bytes : List ℕ) (fault : FileFault) → PassesPlaced bytes header → IsPlacedFault bytes fault → ⊥
