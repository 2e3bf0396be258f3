-- What an error of a commit tells of the file, by the fault that it comes of.
use Rattle.std.proofs.Common.{ℕ, List, subst}
use Rattle.exh_map.specs.Refusals.{IsOfFault, IsOfSaveFault}
use Rattle.exh_map.specs.declared.Refused.{Refused}
use Rattle.exh_map.specs.Told.{IsChanged, IsOfRefusal, IsUnsure}
use Rattle.exh_map.specs.declared.store_error.StoreError.{StoreError}
use Rattle.exhash.specs.FilesFault.{IsCause, IsUnchanged}
use Rattle.exhash.specs.OwnLog.{HasOtherStamp}
use Rattle.exhash.specs.SaveFilesFault as saves
use Rattle.exh_map.specs.declared.Expected.TheVariants.{Stamp}
use Rattle.exh_map.specs.declared.FilesFault.{FilesFault}
use Rattle.exh_map.specs.declared.SaveFilesFault.{SaveFilesFault}

-- ---- nothing was changed

pub unchanged_for : (fault : FilesFault) (refused : Refused) (error : StoreError) → IsOfFault fault refused → IsOfRefusal refused error → (IsUnsure error → ⊥) → IsUnchanged fault
unchanged_for fault refused error of told sure = of.unchanged (λ may. sure (told.unsure may))

pub unsaved_for : (fault : SaveFilesFault) (refused : Refused) (error : StoreError) → IsOfSaveFault fault refused → IsOfRefusal refused error → (IsUnsure error → ⊥) → saves.IsUnchanged fault
unsaved_for fault refused error of told sure = of.unchanged (λ may. sure (told.unsure may))

-- ---- another state

pub other_for : (before : ℕ) (old : List ℕ) (fault : FilesFault) (refused : Refused) (error : StoreError) → IsOfFault fault refused → IsOfRefusal refused error → IsChanged error → IsCause (Stamp before) old fault → HasOtherStamp before old
other_for before old fault refused error of told changed cause = subst (IsCause (Stamp before) old) (of.state (told.state changed)) cause
