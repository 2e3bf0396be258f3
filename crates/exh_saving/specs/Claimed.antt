-- The file beside a path that a save has for itself, and why it has none.
use Rattle.std.specs.Prelude.{◌≡◌, ◌⊎◌, ℕ, Bool, true, false, List, None, Option, Some}
use Rattle.std.specs.IoError.{error_kind}
use Rattle.std.specs.List.{All}
use Rattle.std.specs.declared.io.Error.{Error}
use Rattle.std.specs.declared.io.ErrorKind.{ErrorKind}
use Rattle.std.specs.declared.io.ErrorKind.TheVariants.{AlreadyExists, NotFound, PermissionDenied, WouldBlock}
use Rattle.exh_saving.specs.Answer.{Answer, Begins, Fails, IsBusyTold, IsTold, Named, Runs, Strange, Unnamed}
use Rattle.exh_saving.specs.declared.fault.Call.{Call}
use Rattle.exh_saving.specs.declared.fault.Call.TheVariants.{Ask, Empty, Lock, Make}
use Rattle.exh_saving.specs.declared.fault.DiskFault.{DiskFault}
use Rattle.exh_saving.specs.declared.fault.DiskFault.TheVariants.{Busy, Memory, NoName}
use Rattle.exh_saving.specs.declared.found.Found.{Found}
use Rattle.exh_saving.specs.declared.found.Head.{Head}
use Rattle.exh_saving.specs.declared.found.Runner.{Runner}
use Rattle.exh_saving.specs.LeftOver.{IsLeftOver, IsUnfinished}
use Rattle.exh_saving.specs.Names.{IsBeside, suffixes}

-- a call failed, the error being of this kind
abbrev pub FailsAs : (Answer → Type 0) → ErrorKind → Type 0
FailsAs answers kind = (error : Error) × answers (Fails error) × (error_kind error ≡ kind)

-- for whom the program runs, where the disk says that
abbrev pub IsRunner : (Answer → Type 0) → Option Runner → Type 0
IsRunner answers None = (error : Error) × answers (Fails error)
IsRunner answers (Some runner) = answers (Runs runner)

-- whether a file of this name is one that a save hasn't finished; one that may not be read isn't taken
abbrev pub IsOfASave : (Answer → Type 0) → List ℕ → Bool → Type 0
IsOfASave answers name true = (head : Head) × answers (Begins name head) × IsUnfinished head
IsOfASave answers name false = FailsAs answers PermissionDenied ⊎ ((head : Head) × answers (Begins name head) × (IsUnfinished head → ⊥))

-- what has a name is what a killed save left
abbrev pub IsLeft : (Answer → Type 0) → List ℕ → Option Found → Type 0
IsLeft answers name old = (found : Found) × (runner : Option Runner) × answers (Named name found) × IsRunner answers runner × IsLeftOver found runner old

-- a save may have the file of a name: nothing had it, or what a killed save left, unfinished
abbrev pub MayClaim : (Answer → Type 0) → Option Found → List ℕ → Type 0
MayClaim answers old name = answers (Unnamed name) ⊎ (IsLeft answers name old × IsOfASave answers name true)

-- it may not: the name is the path's, or something has it that no save left
abbrev pub IsTakenName : (Answer → Type 0) → List ℕ → Option Found → List ℕ → Type 0
IsTakenName answers path old name = (name ≡ path)
    ⊎ ((found : Found) × (runner : Option Runner) × answers (Named name found) × IsRunner answers runner × (IsLeftOver found runner old → ⊥))
    ⊎ IsOfASave answers name false

-- a file was claimed beside a path
abbrev pub IsClaimed : (Answer → Type 0) → List ℕ → Option Found → List ℕ → Type 0
IsClaimed answers path old name = ((suffix : List ℕ) × IsBeside path suffix name) × MayClaim answers old name

-- a call failed, and so it is told, where one kind of error says that another save has the file
abbrev pub IsBusyAt : (Answer → Type 0) → ErrorKind → Call → DiskFault → Type 0
IsBusyAt answers busy call fault = (error : Error) × answers (Fails error) × IsBusyTold busy call error fault

-- a file isn't the one of its name, or that can't be said
abbrev pub IsNotOwn : (Answer → Type 0) → List ℕ → DiskFault → Type 0
IsNotOwn answers name fault = ((fault ≡ Busy) × answers (Strange name)) ⊎ IsBusyAt answers NotFound Ask fault

-- a file wasn't had for a save alone
abbrev pub IsUnowned : (Answer → Type 0) → List ℕ → DiskFault → Type 0
IsUnowned answers name fault = IsBusyAt answers WouldBlock Lock fault ⊎ IsNotOwn answers name fault

-- a file of a name wasn't made, or wasn't taken over
abbrev pub IsUnmade : (Answer → Type 0) → List ℕ → DiskFault → Type 0
IsUnmade answers name fault = IsTold answers Make fault
    ⊎ IsTold answers Empty fault
    ⊎ IsBusyAt answers AlreadyExists Make fault
    ⊎ IsBusyAt answers NotFound Make fault
    ⊎ IsUnowned answers name fault

-- the name beside a path that has this behind it is taken
abbrev pub IsTakenBeside : (Answer → Type 0) → List ℕ → Option Found → List ℕ → Type 0
IsTakenBeside answers path old suffix = (name : List ℕ) × IsBeside path suffix name × IsTakenName answers path old name

-- each name beside a path is taken
abbrev pub IsNoName : (Answer → Type 0) → List ℕ → Option Found → DiskFault → Type 0
IsNoName answers path old (NoName names) = All (IsTakenBeside answers path old) suffixes
IsNoName answers path old fault = ⊥

-- no file was claimed beside a path
abbrev pub IsUnclaimed : (Answer → Type 0) → List ℕ → Option Found → DiskFault → Type 0
IsUnclaimed answers path old fault = (fault ≡ Memory) ⊎ IsNoName answers path old fault ⊎ ((name : List ℕ) × IsUnmade answers name fault)
