-- What is answered of a key of a page file of any version: as of one of version 3 where its bytes say that, else as of one of
-- the versions before.
use Rattle.std.specs.Prelude.{◌≡◌, ◌⊎◌, ℕ, List, Option, Result, Some, IfSome, MatchResult}
use Rattle.exh_table.specs.Table.{TableMap}
use Rattle.exh_format.specs.FileVersion.{format_of}
use Rattle.exh_format.specs.HeaderTests.{IsOfVersion}
use Rattle.exh_format.specs.LegalFile.{IsLegalPageFile}
use Rattle.exh_format.specs.PageFile.{PageFile}
use Rattle.exh_format.specs.Reading.{AreBytes}
use Rattle.exh_cells.specs.LegalPlaced.{IsLegalPlacedFile}
use Rattle.exh_cells.specs.PlacedFile.{PlacedFile}
use Rattle.exh_cells.specs.StampedHeader.{placed_format}
use Rattle.exh_direct.specs.declared.direct_fault.DirectFault.{DirectFault}
use Rattle.exh_direct.specs.DirectAnswer.{Finds, Refuses}
use Rattle.exh_direct.specs.DirectLaws.{FindsInFile, IsOtherFault}
use Rattle.exh_edits.specs.PlacedAnswer.{FindsPlaced, RefusesPlaced}
use Rattle.exh_edits.specs.PlacedLaws.{FindsInPlaced}

-- ---- which version the bytes say

-- the number of version 3 stands in them, where they are known, or it doesn't
abbrev pub SaysPlaced : Option (List ℕ) → Type 0
SaysPlaced known = IfSome known (IsOfVersion placed_format)

abbrev pub SaysPlain : Option (List ℕ) → Type 0
SaysPlain known = IfSome known (λ bytes. IsOfVersion placed_format bytes → ⊥)

-- ---- the answer

-- the value of a key, of so many whole blocks, and the blocks that were read for it
abbrev pub FindsAny : Option (List ℕ) → ℕ → List ℕ → Option (List ℕ) → Option (List ℕ) → Option (List ℕ) → Type 0
FindsAny known whole key old new value = (SaysPlaced known × FindsPlaced known key old new value) ⊎ (SaysPlain known × Finds known whole key old new value)

-- or the first fault
abbrev pub RefusesAny : Option (List ℕ) → ℕ → List ℕ → Option (List ℕ) → Option (List ℕ) → DirectFault → Type 0
RefusesAny known whole key old new fault = (SaysPlaced known × RefusesPlaced known key old new fault) ⊎ (SaysPlain known × Refuses known whole key old new fault)

-- over a legal file of any version the answer is the file's map at the key, and no fault of the file
pub record IsOfLegal (known : Option (List ℕ)) (key : List ℕ) (old new : Option (List ℕ)) (answer : Result (Option (List ℕ)) DirectFault) : Type 0 where
  pub plain : (file : PageFile) (bytes : List ℕ) → known ≡ Some bytes → AreBytes bytes → IsLegalPageFile (format_of bytes) file bytes → MatchResult answer (FindsInFile file key old new) IsOtherFault
  pub placed : (file : PlacedFile) (tables : List TableMap) (bytes : List ℕ) → known ≡ Some bytes → AreBytes bytes → IsLegalPlacedFile file tables bytes → MatchResult answer (FindsInPlaced file key old new) IsOtherFault
