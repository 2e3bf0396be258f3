-- What a changer makes of a file, and what a fault of a change tells of it.
use Rattle.std.specs.Prelude.{◌≡◌, ◌⊎◌, ◌/◌, ⊤, Bool, ℕ, List, length, IsTrue}
use Rattle.exh_codec.specs.declared.block.TheConstants.{BLOCK_LEN}
use Rattle.exh_edits.specs.declared.DirectFault.{DirectFault}
use Rattle.exh_edits.specs.declared.block_edit.BlockEdit.{BlockEdit}
use Rattle.exh_edits.specs.BlockEdits.{with_edits}
use Rattle.exh_commit.specs.declared.change_fault.ChangeFault.{ChangeFault}
use Rattle.exh_commit.specs.declared.change_fault.ChangeFault.TheVariants.{Open, Refused, Commit, LeftInLog}
use Rattle.exh_commit.specs.declared.commit_fault.CommitFault.TheVariants.{Place, NotSaved, MaybeSaved}
use Rattle.exh_commit.specs.CommitFault.{IsFirstAstray, IsUnsaved}

-- nothing was committed, and a crash leaves the bytes from before
abbrev pub IsUnchanged : ChangeFault → Type 0
IsUnchanged (Open error) = ⊤
IsUnchanged (Refused fault) = ⊤
IsUnchanged (Commit fault) = IsUnsaved fault
IsUnchanged (LeftInLog error) = ⊥

-- the edits were committed, and a crash leaves the bytes after them
abbrev pub IsSaved : ChangeFault → Type 0
IsSaved (Open error) = ⊥
IsSaved (Refused fault) = ⊥
IsSaved (Commit fault) = ⊥
IsSaved (LeftInLog error) = ⊤

module _ {A : Type 0} (truthful : Bool) (Allows : List ℕ → A → List BlockEdit → Type 0) where
  -- the bytes after edits that go with this answer; of a disk that may answer wrongly it isn't known which edits may be made
  pub record IsChanged (answer : A) (old new : List ℕ) : Type 0 where
    pub edits : List BlockEdit
    pub allowed : IsTrue truthful → Allows old answer edits
    pub is : new ≡ with_edits edits old

  -- the same with some answer
  abbrev pub MayChange : List ℕ → List ℕ → Type 0
  MayChange old new = (answer : A) × IsChanged answer old new

  abbrev pub IsOldOrChanged : List ℕ → List ℕ → Type 0
  IsOldOrChanged old new = (new ≡ old) ⊎ MayChange old new

-- ---- why a change fails

module _ {A : Type 0} (Allows : List ℕ → A → List BlockEdit → Type 0) (Refuses : List ℕ → DirectFault → Type 0) where
  -- of edits that the changer allows of the bytes this is the place of the first that is astray
  pub record MayStray (bytes : List ℕ) (place : ℕ) : Type 0 where
    pub answer : A
    pub edits : List BlockEdit
    pub allowed : Allows bytes answer edits
    pub astray : IsFirstAstray (length bytes / BLOCK_LEN) edits place

  -- of these bytes the changer refuses so, or allows edits that stray so; of other faults the disk, the log or memory is the cause
  abbrev pub IsCause : List ℕ → ChangeFault → Type 0
  IsCause bytes (Open error) = ⊤
  IsCause bytes (Refused fault) = Refuses bytes fault
  IsCause bytes (Commit (Place place)) = MayStray bytes place
  IsCause bytes (Commit (NotSaved error)) = ⊤
  IsCause bytes (Commit (MaybeSaved error)) = ⊤
  IsCause bytes (LeftInLog error) = ⊤
