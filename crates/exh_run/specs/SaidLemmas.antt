-- Texts that a command ends with.
use Rattle.std.proofs.Common.{◌≡◌, ℕ, Bool, List, Option, Result, Ok, Err, inl, inr, subst}
use Rattle.std.specs.Prelude.{IfOk}
use Rattle.exh_job.specs.LastLine.{TellsLine}
use Rattle.exh_job.specs.declared.status.Status.{Status}
use Rattle.exh_run.specs.Ends.{Ends, EndsText, Says}

pub said : {V E : Type 0} (bytes : V → List ℕ) (old new : Option (List ℕ)) (failed : Bool) (text : Result V E) (status result : Status) (wanted : List ℕ)
    → IfOk text (λ text. bytes text ≡ wanted) → EndsText bytes old new failed text status result → Ends (Says wanted status) old new failed result
said bytes old new failed (Ok text) status result wanted is told = inl (subst (λ (line : List ℕ). TellsLine old new failed line status result) is told)
said bytes old new failed (Err none) status result wanted is told = inr told
