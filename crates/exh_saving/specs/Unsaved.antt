-- Why a save isn't done, by what the disk answered.
use Rattle.std.specs.Prelude.{◌≡◌, ◌≢◌, ◌⊎◌, ℕ, IfSome, List, Option}
use Rattle.std.specs.Borrow.{Bor}
use Rattle.std.specs.IoError.{error_kind}
use Rattle.std.specs.declared.io.Error.{Error}
use Rattle.std.specs.declared.io.ErrorKind.TheVariants.{AlreadyExists, InvalidInput}
use Rattle.exh_saving.specs.Answer.{Answer, Fails, IsHoldTold, IsRegular, IsTold, Named, Stays}
use Rattle.exh_saving.specs.DiskFault.{told}
use Rattle.exh_saving.specs.Seen.{IsGone}
use Rattle.exh_saving.specs.declared.fault.Call.TheVariants.{Ask, Link, Open, Permit, Rename, Synchronize, Write}
use Rattle.exh_saving.specs.declared.fault.DiskFault.{DiskFault}
use Rattle.exh_saving.specs.declared.fault.DiskFault.TheVariants.{Changed, Memory, Source}
use Rattle.exh_saving.specs.declared.found.Found.{Found}
use Rattle.exh_saving.specs.declared.seen.Seen.{Seen}
use Rattle.exh_saving.specs.Claimed.{FailsAs, IsClaimed, IsNotOwn, IsUnclaimed}
use Rattle.exh_saving.specs.Dressed.{IsDressed}
use Rattle.exh_saving.specs.Refused.{IsOldRefused, IsPathRefused}
use Rattle.exh_saving.specs.Replaced.{IsReplaceable, IsStill, LeadsToDevice, MayTake}
use Rattle.exh_saving.specs.declared.source.SourceFault.{SourceFault}
use Rattle.exh_saving.specs.declared.source.SourceFault.TheVariants.{Memory as NoMemory, Source as NoSource, Writer}

-- What is at a path was looked at again, once no other save changes it: it may be replaced, and is what it was, and the new
-- file was given its owner, group and permissions.
abbrev pub IsAgain : {O : Type 0} → (Answer → Type 0) → (O → Found → Type 0) → List ℕ → List ℕ → Option (Bor (Seen O)) → List ℕ → Option Found → Type 0
IsAgain answers finds magic named seen path old = (there : Option Found) × MayTake answers finds magic named seen path there
    × IsStill old there × IfSome there (IsDressed answers)

-- A file got a path: what was there might be replaced, at a first look and at a second one, and was still as it was at a last
-- one, and the file was written under a name beside that was free, or had what a killed save left.
abbrev pub MayPlace : {O : Type 0} → (Answer → Type 0) → (O → Found → Type 0) → List ℕ → List ℕ → Option (Bor (Seen O)) → List ℕ → Type 0
MayPlace answers finds magic named seen path = (old : Option Found) × MayTake answers finds magic named seen path old
    × IsAgain answers finds magic named seen path old
    × IfSome old (λ old. answers (Stays path old))
    × ((name : List ℕ) × IsClaimed answers path old name)

-- the lock of the file at a path wasn't had
abbrev pub IsUnheld : (Answer → Type 0) → DiskFault → Type 0
IsUnheld answers fault = IsTold answers Open fault ⊎ IsHoldTold answers fault

-- what is at a path isn't replaced, or its lock wasn't had
abbrev pub IsOldUnheld : {O : Type 0} → (Answer → Type 0) → (O → Found → Type 0) → List ℕ → List ℕ → Option (Bor (Seen O)) → List ℕ → DiskFault → Type 0
IsOldUnheld answers finds magic named seen path fault = IsOldRefused answers finds magic named seen path fault
    ⊎ IsUnheld answers fault

-- at the second look what is there isn't replaced, or isn't what it was; or permissions weren't given
abbrev pub IsUnprepared : {O : Type 0} → (Answer → Type 0) → (O → Found → Type 0) → List ℕ → List ℕ → Option (Bor (Seen O)) → List ℕ → Option Found → DiskFault → Type 0
IsUnprepared answers finds magic named seen path old fault = IsOldRefused answers finds magic named seen path fault
    ⊎ ((there : Option Found) × IsReplaceable answers magic path there × (IsStill old there → ⊥) × (fault ≡ Changed))
    ⊎ IsTold answers Permit fault

-- what is to be saved wasn't written, for a reason of its own
abbrev pub IsUnwritten : (SourceFault → Type 0) → DiskFault → Type 0
IsUnwritten fails fault = ((fault ≡ Memory) × fails NoMemory)
    ⊎ ((fault ≡ Source) × fails NoSource)
    ⊎ ((error : Error) × (fault ≡ told Write error) × fails Writer)

-- a path no longer leads to the file whose lock is had, as it was; or that can't be said
abbrev pub IsMoved : (List ℕ → List ℕ → Type 0) → (Answer → Type 0) → List ℕ → List ℕ → DiskFault → Type 0
IsMoved leads answers named path fault = (IsGone leads answers named path × (fault ≡ Changed)) ⊎ IsTold answers Ask fault

-- something came to a path that nothing had
abbrev pub IsCome : (Answer → Type 0) → List ℕ → DiskFault → Type 0
IsCome answers path fault = (FailsAs answers AlreadyExists ⊎ ((found : Found) × answers (Named path found))) × (fault ≡ Changed)

-- a file that is written doesn't get its path
abbrev pub IsUnplaced : (List ℕ → List ℕ → Type 0) → (Answer → Type 0) → List ℕ → List ℕ → List ℕ → DiskFault → Type 0
IsUnplaced leads answers named path name fault = IsTold answers Synchronize fault
    ⊎ IsNotOwn answers name fault
    ⊎ IsMoved leads answers named path fault
    ⊎ IsCome answers path fault
    ⊎ IsTold answers Rename fault
    ⊎ IsTold answers Link fault

-- A save at a path without links isn't done: by what is there; or, where that may be replaced, by the file beside, by a
-- second look, by what is to be saved, or as the file gets its path.
abbrev pub IsUnsaved : {O : Type 0} → (List ℕ → List ℕ → Type 0) → (Answer → Type 0) → (O → Found → Type 0) → (SourceFault → Type 0)
    → List ℕ → List ℕ → Option (Bor (Seen O)) → List ℕ → DiskFault → Type 0
IsUnsaved leads answers finds fails magic named seen path fault = IsOldUnheld answers finds magic named seen path fault
    ⊎ ((old : Option Found) × MayTake answers finds magic named seen path old
    × (IsUnclaimed answers path old fault
    ⊎ IsUnprepared answers finds magic named seen path old fault
    ⊎ IsUnwritten fails fault
    ⊎ ((name : List ℕ) × IsUnplaced leads answers named path name fault)))

-- what is no regular file isn't written to: one is there by now, opening or synchronizing failed, or the writing
abbrev pub IsDeviceUnwritten : (Answer → Type 0) → (SourceFault → Type 0) → List ℕ → DiskFault → Type 0
IsDeviceUnwritten answers fails named fault = (answers (IsRegular named) × (fault ≡ Changed))
    ⊎ IsTold answers Open fault
    ⊎ IsUnwritten fails fault
    ⊎ ((error : Error) × answers (Fails error) × (error_kind error ≢ InvalidInput) × (fault ≡ told Synchronize error))

-- a save isn't done: by its path, by what is there where it leads, or by the device to which it leads
abbrev pub IsSaveRefused : {O : Type 0} → (List ℕ → List ℕ → Type 0) → (Answer → Type 0) → (O → Found → Type 0) → (SourceFault → Type 0)
    → List ℕ → List ℕ → Option (Bor (Seen O)) → DiskFault → Type 0
IsSaveRefused leads answers finds fails magic named seen fault = IsPathRefused answers named fault
    ⊎ ((whole : List ℕ) × ((whole ≡ named) ⊎ leads named whole) × IsUnsaved leads answers finds fails magic named seen whole fault)
    ⊎ (LeadsToDevice answers named × IsDeviceUnwritten answers fails named fault)
