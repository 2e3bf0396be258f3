-- Why a path can't be saved to, by what a disk answered.
use Rattle.std.specs.Prelude.{◌≡◌, ◌≢◌, ◌⊎◌, ℕ, [], IfErr, IsOk, IsSomeAnd, List, Option}
use Rattle.std.specs.Borrow.{Bor}
use Rattle.std.specs.IoError.{error_kind}
use Rattle.std.specs.declared.io.Error.{Error}
use Rattle.std.specs.declared.io.ErrorKind.TheVariants.{NotFound}
use Rattle.exh_saving.specs.Answer.{Answer, Begins, Fails, IsTold, Leads, Named, Runs}
use Rattle.exh_saving.specs.Folder.{IsFolderOf, IsNameIn}
use Rattle.exh_saving.specs.Found.{IsClosedTo, IsUnchanged}
use Rattle.exh_saving.specs.Seen.{IsKept, MayBeSeen, MayReplace}
use Rattle.exh_saving.specs.declared.fault.Call.TheVariants.{Ask, Make, Open}
use Rattle.exh_saving.specs.declared.fault.DiskFault.{DiskFault}
use Rattle.exh_saving.specs.declared.fault.DiskFault.TheVariants.{Changed, ClosedFolder, DanglingLink, Folder, Memory, NoFileName, NoPageFile}
use Rattle.exh_saving.specs.declared.found.Found.{Found}
use Rattle.exh_saving.specs.declared.found.Head.{Head}
use Rattle.exh_saving.specs.declared.found.Kind.TheVariants.{Folder as FolderKind, Link, Regular}
use Rattle.exh_saving.specs.declared.found.Runner.{Runner}
use Rattle.exh_saving.specs.declared.seen.Seen.{Seen}
use Rattle.exh_saving.specs.Replaced.{IsFree, IsReplaceable}

-- something has a name: a link, which leads to nothing; or what came meanwhile
abbrev pub IsTaken : (Answer → Type 0) → List ℕ → DiskFault → Type 0
IsTaken answers name fault = (found : Found) × answers (Named name found) × (((fault ≡ DanglingLink) × (found.kind ≡ Link)) ⊎ ((fault ≡ Changed) × (found.kind ≢ Link)))

-- a path leads to nothing
abbrev pub IsUnfound : (Answer → Type 0) → Type 0
IsUnfound answers = (error : Error) × answers (Fails error) × (error_kind error ≡ NotFound)

-- A path names no file, leads to a folder, or to nothing though something has the name; or asking failed. Memory runs out for
-- a path that leads to nothing; else the disk says so.
abbrev pub IsPathRefused : (Answer → Type 0) → List ℕ → DiskFault → Type 0
IsPathRefused answers named fault = ((fault ≡ NoFileName) × IsNameIn named [])
    ⊎ ((fault ≡ Folder) × ((found : Found) × answers (Leads named found) × (found.kind ≡ FolderKind)))
    ⊎ IsTaken answers named fault
    ⊎ ((fault ≡ Memory) × IsUnfound answers)
    ⊎ IsTold answers Ask fault

-- what was found at a path is no regular file, or changed until it was read; or it isn't empty and begins otherwise; or reading failed
abbrev pub IsFileRefused : (Answer → Type 0) → List ℕ → List ℕ → Found → DiskFault → Type 0
IsFileRefused answers magic path there fault = ((fault ≡ Changed) × (there.kind ≢ Regular))
    ⊎ ((head : Head) × answers (Begins path head) × (((fault ≡ Changed) × (IsUnchanged there head.found → ⊥))
    ⊎ ((fault ≡ NoPageFile) × (there.size ≢ 0) × (head.bytes ≢ magic))))
    ⊎ IsTold answers Open fault

-- what has a name may not be replaced, or asking failed
abbrev pub IsNameRefused : (Answer → Type 0) → List ℕ → List ℕ → DiskFault → Type 0
IsNameRefused answers magic path fault = IsTold answers Ask fault
    ⊎ ((there : Found) × answers (Named path there) × IsFileRefused answers magic path there fault)

-- An opened file keeps what is at a path from being replaced: the disk said what it was, and by that this may not be; or it
-- said that not, and what is to be saved to may be this file.
abbrev pub IsKeptAt : {O : Type 0} → (Answer → Type 0) → (O → Found → Type 0) → Seen O → List ℕ → List ℕ → Option Found → DiskFault → Type 0
IsKeptAt answers finds seen named path there fault = IsKept seen fault
    × (IsOk seen.about → MayReplace finds seen named path there → ⊥)
    × IfErr seen.about (λ _. MayBeSeen answers finds seen named there)

-- what is at a path isn't replaced, by how it begins, or else by the file that was opened
abbrev pub IsOldRefused : {O : Type 0} → (Answer → Type 0) → (O → Found → Type 0) → List ℕ → List ℕ → Option (Bor (Seen O)) → List ℕ → DiskFault → Type 0
IsOldRefused answers finds magic named seen path fault = IsNameRefused answers magic path fault
    ⊎ ((there : Option Found) × IsReplaceable answers magic path there × IsSomeAnd seen (λ seen. IsKeptAt answers finds seen.now named path there fault))

-- a folder is none, or closed to whom the program runs for; or asking failed
abbrev pub IsFolderRefused : (Answer → Type 0) → List ℕ → DiskFault → Type 0
IsFolderRefused answers folder fault = ((found : Found) × answers (Leads folder found) × (fault ≡ ClosedFolder)
    × ((found.kind ≢ FolderKind) ⊎ ((runner : Runner) × answers (Runs runner) × IsClosedTo found runner)))
    ⊎ IsTold answers Make fault

-- a path without links can't be saved to: by what is there; or, where that may be replaced, by its folder
abbrev pub IsPlaceRefused : {O : Type 0} → (Answer → Type 0) → (O → Found → Type 0) → List ℕ → List ℕ → Option (Bor (Seen O)) → List ℕ → DiskFault → Type 0
IsPlaceRefused answers finds magic named seen path fault = IsOldRefused answers finds magic named seen path fault
    ⊎ (IsFree answers finds magic named seen path × ((folder : List ℕ) × IsFolderOf path folder × IsFolderRefused answers folder fault))

-- a path can't be saved to: by itself, or by what is where it leads
abbrev pub IsRefused : {O : Type 0} → (List ℕ → List ℕ → Type 0) → (Answer → Type 0) → (O → Found → Type 0) → List ℕ → List ℕ → Option (Bor (Seen O)) → DiskFault → Type 0
IsRefused leads answers finds magic named seen fault = IsPathRefused answers named fault
    ⊎ ((whole : List ℕ) × ((whole ≡ named) ⊎ leads named whole) × IsPlaceRefused answers finds magic named seen whole fault)
