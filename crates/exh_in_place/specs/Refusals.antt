-- What a refusal tells of the file that was to be changed.
use Rattle.std.specs.Prelude.{◌≡◌, ◌⊎◌, ⊤, ℕ, List}
use Rattle.exh_table.specs.Table.{TableMap}
use Rattle.exh_paged.specs.LegalPlaced.{IsLegalPlacedFile}
use Rattle.exh_paged.specs.PlacedFile.{PlacedFile}
use Rattle.exh_paged.specs.declared.ChangeFault.TheVariants as changes
use Rattle.exh_paged.specs.declared.CommitFault.TheVariants.{MaybeSaved}
use Rattle.exh_system.specs.DirectLaws.{IsOtherFault}
use Rattle.exh_system.specs.declared.DirectFault.TheVariants as reads
use Rattle.exh_paged.specs.FilesFault as files
use Rattle.exh_paged.specs.SaveFilesFault as saves
use Rattle.exh_paged.specs.declared.expected.Expected.TheVariants.{Stamp}
use Rattle.exh_paged.specs.declared.files_fault.FilesFault.{FilesFault}
use Rattle.exh_paged.specs.declared.files_fault.FilesFault.TheVariants.{Change as ChangeOf, Header, NotAsOpened as OtherStamp}
use Rattle.exh_paged.specs.declared.save_files_fault.SaveFilesFault.{SaveFilesFault}
use Rattle.exh_system.specs.declared.in_place_fault.InPlaceFault.{InPlaceFault}
use Rattle.exh_system.specs.declared.in_place_fault.InPlaceFault.TheVariants.{Changed, NotAsOpened, Restless}
use Rattle.exh_in_place.specs.declared.refused.Refused.{Refused}
use Rattle.exh_in_place.specs.declared.refused.Refused.TheVariants.{Change, Damaged, Unfit}

-- ---- what it tells

-- the change may have been saved, or was
abbrev pub MayBeSaved : Refused → Type 0
MayBeSaved (Change (changes.Commit (MaybeSaved error))) = ⊤
MayBeSaved (Change (changes.LeftInLog error)) = ⊤
MayBeSaved refused = ⊥

-- the file is another one, or in another state
abbrev pub IsOfState : InPlaceFault → Type 0
IsOfState Changed = ⊤
IsOfState NotAsOpened = ⊤
IsOfState Restless = ⊤
IsOfState fault = ⊥

abbrev pub TellsOfState : Refused → Type 0
TellsOfState (Unfit fault) = IsOfState fault
TellsOfState refused = ⊥

-- something in the file is wrong, and not that it couldn't be read
abbrev pub TellsOfContent : Refused → Type 0
TellsOfContent (Damaged cause) = IsOtherFault cause → ⊥
TellsOfContent refused = ⊥

-- ---- the fault that it comes of

-- what is told to be wrong in the file is the fault's
abbrev pub HasContentOf : FilesFault → Refused → Type 0
HasContentOf fault (Damaged (reads.File test)) = (fault ≡ Header test) ⊎ (fault ≡ ChangeOf (changes.Refused (reads.File test)))
HasContentOf fault (Damaged cause) = fault ≡ ChangeOf (changes.Refused cause)
HasContentOf fault refused = ⊤

-- where it doesn't tell that the change may have been saved, nothing was changed; it tells of another state only where the
-- file has another stamp, and of what is wrong in the file as the fault does
pub record IsOfFault (fault : FilesFault) (refused : Refused) : Type 0 where
  pub unchanged : (MayBeSaved refused → ⊥) → files.IsUnchanged fault
  pub state : TellsOfState refused → fault ≡ OtherStamp
  pub content : HasContentOf fault refused

-- the same of a save, but for what it tells of the file
pub record IsOfSaveFault (fault : SaveFilesFault) (refused : Refused) : Type 0 where
  pub unchanged : (MayBeSaved refused → ⊥) → saves.IsUnchanged fault

-- ---- legal files

-- of a legal page file nothing is told to be wrong, where the fault is one of the disk
abbrev pub LegalFilesAreWhole : Type 0
LegalFilesAreWhole = (stamp : ℕ) (file : PlacedFile) (tables : List TableMap) (bytes : List ℕ) → IsLegalPlacedFile file tables bytes
    → (fault : FilesFault) (refused : Refused) → IsOfFault fault refused → files.IsCause (Stamp stamp) bytes fault → files.ChangeFails files.IsOfDisk fault → TellsOfContent refused → ⊥
