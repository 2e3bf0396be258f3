-- What a save may write to, by what a disk answered of it.
use Rattle.std.specs.Prelude.{◌≡◌, ◌⊎◌, ℕ, ⊤, IfSome, List, None, Option, Some}
use Rattle.std.specs.Borrow.{Bor}
use Rattle.exh_saving.specs.Answer.{Answer, Begins, Leads, Named, Unnamed}
use Rattle.exh_saving.specs.Folder.{IsFolderOf}
use Rattle.exh_saving.specs.Found.{IsUnchanged}
use Rattle.exh_saving.specs.Seen.{MayReplace}
use Rattle.exh_saving.specs.declared.found.Found.{Found}
use Rattle.exh_saving.specs.declared.found.Head.{Head}
use Rattle.exh_saving.specs.declared.found.Kind.TheVariants.{Folder, Link, Other, Regular}
use Rattle.exh_saving.specs.declared.seen.Seen.{Seen}

-- a regular file is empty or begins with these bytes, and was what it is when they were read
pub record IsPageFile (magic : List ℕ) (found : Found) (head : Head) : Type 0 where
  pub regular : found.kind ≡ Regular
  pub unchanged : IsUnchanged found head.found
  pub begins : (found.size ≡ 0) ⊎ (head.bytes ≡ magic)

-- by how the file at a path begins it may be replaced
abbrev pub IsReplaceableFile : (Answer → Type 0) → List ℕ → List ℕ → Found → Type 0
IsReplaceableFile answers magic path found = (head : Head) × answers (Begins path head) × IsPageFile magic found head

-- nothing has a name, or a file that is empty or begins with these bytes
abbrev pub IsReplaceable : (Answer → Type 0) → List ℕ → List ℕ → Option Found → Type 0
IsReplaceable answers magic path None = answers (Unnamed path)
IsReplaceable answers magic path (Some found) = answers (Named path found) × IsReplaceableFile answers magic path found

-- this, at a path without links, may be replaced, by how it begins and by the file that was opened, where one was
abbrev pub MayTake : {O : Type 0} → (Answer → Type 0) → (O → Found → Type 0) → List ℕ → List ℕ → Option (Bor (Seen O)) → List ℕ → Option Found → Type 0
MayTake answers finds magic named seen path there = IsReplaceable answers magic path there × IfSome seen (λ seen. MayReplace finds seen.now named path there)

-- so may what is there
abbrev pub IsFree : {O : Type 0} → (Answer → Type 0) → (O → Found → Type 0) → List ℕ → List ℕ → Option (Bor (Seen O)) → List ℕ → Type 0
IsFree answers finds magic named seen path = (there : Option Found) × MayTake answers finds magic named seen path there

-- a path leads to what is written as it stands
abbrev pub LeadsToDevice : (Answer → Type 0) → List ℕ → Type 0
LeadsToDevice answers named = (found : Found) × answers (Leads named found) × ((found.kind ≡ Link) ⊎ (found.kind ≡ Other))

-- a path leads to a folder
abbrev pub IsOpenFolder : (Answer → Type 0) → List ℕ → Type 0
IsOpenFolder answers path = (found : Found) × answers (Leads path found) × (found.kind ≡ Folder)

-- A path can be saved to: it leads to a device; or what is there, where it leads, may be replaced, and is in a folder.
abbrev pub MaySave : {O : Type 0} → (List ℕ → List ℕ → Type 0) → (Answer → Type 0) → (O → Found → Type 0) → List ℕ → List ℕ → Option (Bor (Seen O)) → Type 0
MaySave leads answers finds magic named seen = LeadsToDevice answers named
    ⊎ ((whole : List ℕ) × ((whole ≡ named) ⊎ leads named whole) × IsFree answers finds magic named seen whole
    × ((folder : List ℕ) × IsFolderOf whole folder × IsOpenFolder answers folder))

-- nothing came to a path, went, or was written to in between
abbrev pub IsStill : Option Found → Option Found → Type 0
IsStill None None = ⊤
IsStill (Some old) (Some there) = IsUnchanged old there
IsStill None (Some there) = ⊥
IsStill (Some old) None = ⊥
