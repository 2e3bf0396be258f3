-- What a disk answers to a save that asks.
use Rattle.std.specs.Prelude.{◌≡◌, ◌≢◌, ◌⊎◌, ℕ, Bool, true, false, List, Option}
use Rattle.std.specs.IoError.{error_kind}
use Rattle.std.specs.declared.io.Error.{Error}
use Rattle.std.specs.declared.io.ErrorKind.{ErrorKind}
use Rattle.std.specs.declared.io.ErrorKind.TheVariants.{NotFound, WouldBlock}
use Rattle.exh_saving.specs.DiskFault.{told}
use Rattle.exh_saving.specs.declared.fault.Call.{Call}
use Rattle.exh_saving.specs.declared.fault.Call.TheVariants.{Hold}
use Rattle.exh_saving.specs.declared.fault.DiskFault.{DiskFault}
use Rattle.exh_saving.specs.declared.fault.DiskFault.TheVariants.{Busy}
use Rattle.exh_saving.specs.declared.found.Found.{Found}
use Rattle.exh_saving.specs.declared.found.Head.{Head}
use Rattle.exh_saving.specs.declared.found.Runner.{Runner}

-- A path leads to this; this has a name, itself a link where it is one, or nothing has it; a file begins so; the file that is
-- asked about has a name, and is as it was; another has it, or it changed; a save's own file was made under a name, or is the
-- one of it; what a path leads to is a regular file; for whom the program runs; a file was given this owner and group, or these
-- permissions; a call failed so.
pub data Answer : Type 0 where
  Leads : List ℕ → Found → Answer
  Named : List ℕ → Found → Answer
  Unnamed : List ℕ → Answer
  Begins : List ℕ → Head → Answer
  Stays : List ℕ → Found → Answer
  Strange : List ℕ → Answer
  Owned : List ℕ → Answer
  IsRegular : List ℕ → Answer
  Runs : Runner → Answer
  Gives : Option ℕ → Option ℕ → Answer
  Permits : ℕ → Answer
  Fails : Error → Answer

-- a call failed, and so it is told
abbrev pub IsTold : (Answer → Type 0) → Call → DiskFault → Type 0
IsTold answers call fault = (error : Error) × answers (Fails error) × (fault ≡ told call error)

-- how a call that failed is told, where one kind of error says that another save has the file
pub record IsBusyTold (busy : ErrorKind) (call : Call) (error : Error) (fault : DiskFault) : Type 0 where
  pub taken : error_kind error ≡ busy → fault ≡ Busy
  pub other : error_kind error ≢ busy → fault ≡ told call error

-- taking a lock failed, and so it is told
abbrev pub IsHoldTold : (Answer → Type 0) → DiskFault → Type 0
IsHoldTold answers fault = (error : Error) × answers (Fails error) × IsBusyTold WouldBlock Hold error fault

-- a path leads to nothing, or to another one than this
abbrev pub LeadsElsewhere : (List ℕ → List ℕ → Type 0) → (Answer → Type 0) → List ℕ → List ℕ → Type 0
LeadsElsewhere leads answers named path = ((error : Error) × answers (Fails error) × (error_kind error ≡ NotFound))
    ⊎ ((whole : List ℕ) × leads named whole × (whole ≢ path))

-- whether a path leads to another one
abbrev pub IsLeading : (List ℕ → List ℕ → Type 0) → (Answer → Type 0) → List ℕ → List ℕ → Bool → Type 0
IsLeading leads answers named path true = leads named path
IsLeading leads answers named path false = LeadsElsewhere leads answers named path
