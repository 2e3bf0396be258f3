-- What is said of a save's answer, whether or not a file was written.
use Rattle.std.specs.Prelude.{◌≡◌, IfNone, IfOk, IfSome, IsSome, None, OnOk, Option, Some}
use Rattle.std.specs.declared.result.Result.{Result}
use Rattle.std.specs.declared.result.Result.TheVariants.{Err, Ok}
use Rattle.std.proofs.lemmas.Bool.{false≢true}
use Rattle.exh_saving.specs.declared.fault.DiskFault.{DiskFault}
use Rattle.exh_saving.specs.declared.saving.Saved.{Saved}

-- of no file nothing is to be said
pub at_no_file : {F : Type 0} (result : Result (Saved F) DiskFault) (P : Type 0) → IfOk result (λ saved. saved.file ≡ None) → IfOk result (λ saved. IfSome saved.file (λ _. P))
at_no_file (Ok saved) P none = rw none tt
at_no_file (Err fault) P none = tt

if_none : {F : Type 0} (file : Option F) (P : Type 0) → P → IfNone file P
if_none (Some file) P holds = tt
if_none None P holds = holds

of_file : {F : Type 0} (file : Option F) (P : Type 0) → P → IfSome file (λ _. P)
of_file (Some file) P holds = holds
of_file None P holds = tt

if_some : {F : Type 0} (file : Option F) (P : Type 0) → IsSome file → IfNone file P
if_some (Some file) P is = tt
if_some None P is = absurd (false≢true is)

-- what holds anyway, and what holds where it was written, holds where no file was written
pub where_none : {F : Type 0} (result : Result (Saved F) DiskFault) (P Q : Type 0) → P → OnOk result Q → IfOk result (λ saved. IfNone saved.file (P × Q))
where_none (Ok saved) P Q holds written = if_none saved.file (P × Q) (holds, written)
where_none (Err fault) P Q holds written = tt

-- what holds once a save is done holds of its file
pub where_done : {F : Type 0} (result : Result (Saved F) DiskFault) (P : Type 0) → OnOk result P → IfOk result (λ saved. IfSome saved.file (λ _. P))
where_done (Ok saved) P holds = of_file saved.file P holds
where_done (Err fault) P holds = tt

-- where a file was written there is nothing to say of none
pub where_written : {F : Type 0} (result : Result (Saved F) DiskFault) (P : Type 0) → IfOk result (λ saved. IsSome saved.file) → IfOk result (λ saved. IfNone saved.file P)
where_written (Ok saved) P is = if_some saved.file P is
where_written (Err fault) P is = tt
