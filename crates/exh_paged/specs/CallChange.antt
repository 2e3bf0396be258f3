-- Operations as changes of the blocks of a page file, and what is left of it.
use Rattle.std.specs.Prelude.{◌≡◌, ◌⊎◌, ◌/◌, Bool, ℕ, List, [], length, IsTrue}
use Rattle.exh_table.specs.Table.{TableMap}
use Rattle.exh_page.specs.KeyMap.{KeyMap}
use Rattle.exh_codec.specs.declared.block.TheConstants.{BLOCK_LEN}
use Rattle.exh_format.specs.Reading.{AreBytes}
use Rattle.exh_cells.specs.LegalPlaced.{IsLegalPlacedFile}
use Rattle.exh_cells.specs.PlacedFile.{PlacedFile}
use Rattle.exh_change.specs.declared.DirectFault.{DirectFault}
use Rattle.exh_change.specs.DirectLaws.{IsOtherFault}
use Rattle.exh_commit.specs.declared.BlockEdit.{BlockEdit}
use Rattle.exh_commit.specs.BlockEdits.{with_edits}
use Rattle.exh_commit.specs.EditLists.{HaveOwnPlaces}
use Rattle.exh_commit.specs.EditsInTurn.{AreInTurn}
use Rattle.exh_change.specs.PlacedLaws.{map_in}

-- ---- pairs

-- the bytes are those of a legal page file of version 3, whose pairs are this map
pub record HasPairs (bytes : List ℕ) (pairs : KeyMap) : Type 0 where
  pub file : PlacedFile
  pub tables : List TableMap
  pub legal : IsLegalPlacedFile file tables bytes
  pub is : map_in file ≡ pairs

-- and which is in the state of this stamp
pub record HasState (bytes : List ℕ) (pairs : KeyMap) (stamp : ℕ) : Type 0 where
  pub file : PlacedFile
  pub tables : List TableMap
  pub legal : IsLegalPlacedFile file tables bytes
  pub is : map_in file ≡ pairs
  pub stamp_is : file.header.stamp ≡ stamp

-- whatever legal page file the bytes are
abbrev pub OfLegal : List ℕ → (PlacedFile → Type 0) → Type 0
OfLegal bytes Holds = (file : PlacedFile) (tables : List TableMap) → AreBytes bytes → IsLegalPlacedFile file tables bytes → Holds file

-- ---- what may be made of a file

-- each edit is of a block that is there by then or of the next one, and none is of the place of another
pub record AreWithin (bytes : List ℕ) (edits : List BlockEdit) : Type 0 where
  pub count : ℕ
  pub turn : AreInTurn (length bytes / BLOCK_LEN) edits count
  pub own : HaveOwnPlaces edits

-- no block changes; or the file has the new stamp, and before it the own one of the file that it came of
abbrev pub IsStamped : PlacedFile → ℕ → List BlockEdit → PlacedFile → Type 0
IsStamped file stamp edits new = (edits ≡ []) ⊎ ((new.header.stamp ≡ stamp) × (new.header.before ≡ file.header.stamp))

-- the edits make of the bytes of a legal page file those of one with these pairs, whose stamp the answer goes with; where nothing is to change, there are none
pub record IsMade {A : Type 0} (Idle : Type 0) (file : PlacedFile) (bytes : List ℕ) (pairs : KeyMap) (Answers : ℕ → A → Type 0) (stamp : ℕ) (answer : A) (edits : List BlockEdit) : Type 0 where
  pub new : PlacedFile
  pub tables : List TableMap
  pub legal : IsLegalPlacedFile new tables (with_edits edits bytes)
  pub pairs_are : map_in new ≡ pairs
  pub answer_is : Answers new.header.stamp answer
  pub stamped : IsStamped file stamp edits new
  pub within : AreWithin bytes edits
  pub idle : Idle → edits ≡ []

-- of bytes that are no legal page file nothing is said
abbrev pub MayMake : {A : Type 0} → Type 0 → (PlacedFile → KeyMap) → (PlacedFile → ℕ → A → Type 0) → ℕ → List ℕ → A → List BlockEdit → Type 0
MayMake Idle pairs_after Answers stamp bytes answer edits = OfLegal bytes (λ file. IsMade Idle file bytes (pairs_after file) (Answers file) stamp answer edits)

-- a legal page file isn't refused for what it has
abbrev pub MayRefuse : List ℕ → DirectFault → Type 0
MayRefuse bytes fault = OfLegal bytes (λ file. IsOtherFault fault)

-- ---- what is left

-- the bytes are those of a legal page file with this stamp, and this one before it
pub record HasStamps (bytes : List ℕ) (own before : ℕ) : Type 0 where
  pub file : PlacedFile
  pub tables : List TableMap
  pub legal : IsLegalPlacedFile file tables bytes
  pub own_is : file.header.stamp ≡ own
  pub before_is : file.header.before ≡ before

-- nothing was changed; or they have the new stamp, and before it the own one of the file that they came of
abbrev pub IsStampedOver : PlacedFile → ℕ → List ℕ → List ℕ → Type 0
IsStampedOver file stamp old new = (new ≡ old) ⊎ HasStamps new stamp file.header.stamp

-- the bytes after edits, with these pairs; of a disk that may answer wrongly it isn't known which edits were made
pub record IsCalled (truthful : Bool) (Idle : Type 0) (file : PlacedFile) (left : KeyMap) (stamp : ℕ) (old new : List ℕ) : Type 0 where
  pub edits : List BlockEdit
  pub is : new ≡ with_edits edits old
  pub within : IsTrue truthful → AreWithin old edits
  pub pairs : IsTrue truthful → HasPairs new left
  pub stamped : IsTrue truthful → IsStampedOver file stamp old new
  pub idle : IsTrue truthful → Idle → new ≡ old

-- they are in a state whose stamp the answer goes with
pub record HasAnswer {A : Type 0} (bytes : List ℕ) (left : KeyMap) (Answers : ℕ → A → Type 0) (answer : A) : Type 0 where
  pub stamp : ℕ
  pub state : HasState bytes left stamp
  pub is : Answers stamp answer

pub record IsAnswered {A : Type 0} (truthful : Bool) (Idle : Type 0) (file : PlacedFile) (left : KeyMap) (Answers : ℕ → A → Type 0) (stamp : ℕ) (answer : A) (old new : List ℕ) : Type 0 where
  pub called : IsCalled truthful Idle file left stamp old new
  pub answer_is : IsTrue truthful → HasAnswer new left Answers answer

abbrev pub IsOldOrCalled : Bool → Type 0 → PlacedFile → KeyMap → ℕ → List ℕ → List ℕ → Type 0
IsOldOrCalled truthful Idle file left stamp old new = (new ≡ old) ⊎ IsCalled truthful Idle file left stamp old new
