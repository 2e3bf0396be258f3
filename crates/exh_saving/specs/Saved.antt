-- What a save leaves at its path, at each moment of it and once it has ended.
use Rattle.std.specs.Prelude.{◌≡◌, ◌⊎◌, ℕ, IfNone, IfOk, IfSome, List, None, OnErr, Option, Result, Some, string_bytes}
use Rattle.std.specs.Io.KnownBytes.{Appends}
use Rattle.std.specs.declared.io.Error.{Error}
use Rattle.exh_saving.specs.History.{File, History, LeavesOldOrNew, LeavesOnly, Nothing, Standing, kept, placed}
use Rattle.exh_saving.specs.declared.fault.DiskFault.{DiskFault}
use Rattle.exh_saving.specs.Answer.{Answer}
use Rattle.exh_saving.specs.Replaced.{LeadsToDevice}
use Rattle.exh_saving.specs.declared.path.PathTo.{PathTo}
use Rattle.exh_saving.specs.declared.path.PathTo.TheVariants.{Device, File as Path}
use Rattle.exh_saving.specs.declared.saving.Saved.{Saved}

-- what a path leads to is nothing, or a file, at this path or at one that it may lead to, or a device
abbrev pub Reaches : (List ℕ → List ℕ → Type 0) → (Answer → Type 0) → List ℕ → PathTo → Type 0
Reaches leads answers named (Path path) = (string_bytes path ≡ named) ⊎ leads named (string_bytes path)
Reaches leads answers named Device = LeadsToDevice answers named

-- what has stood at a path once a file of these bytes was saved there, and why its folder isn't on the disk
abbrev pub saved_history : Option History → Option (List ℕ) → Option Error → Option History
saved_history old bytes None = kept (placed old bytes)
saved_history old bytes (Some error) = placed old bytes

-- a file of the bytes that were saved, as far as a model says which an emptied one has
abbrev pub IsSaved : Option (List ℕ) → List ℕ → Standing → Type 0
IsSaved unwritten bytes Nothing = ⊥
IsSaved unwritten bytes (File has) = Appends unwritten has bytes

-- these bytes were written to something, as far as a model says which it has
abbrev pub IsWrittenTo : {W : Type 0} → (W → Option (List ℕ)) → List ℕ → Type 0
IsWrittenTo {W = W} contents bytes = (old : W) × (new : W) × Appends (contents old) (contents new) bytes

-- A save of what is new at a path. At each moment of it a crash leaves there what it could leave before, or what is new;
-- where the save is refused nothing came there, and where it is done the file that was written, if one was;
-- where the folder is on the disk too, a crash leaves what is new.
pub record SavesAt {F : Type 0} (old new : Option History) (holds : F → Option (List ℕ)) (IsNew : Standing → Type 0) (result : Result (Saved F) DiskFault) : Type 0 where
  pub any_moment : LeavesOldOrNew old new IsNew
  pub refused : OnErr result (new ≡ old)
  pub came : IfOk result (λ saved. IfSome saved.file (λ file. new ≡ saved_history old (holds file) saved.folder))
  pub stayed : IfOk result (λ saved. IfNone saved.file (new ≡ old))
  pub settled : IfOk result (λ saved. IfSome saved.file (λ file. IfNone saved.folder (LeavesOnly new IsNew)))
