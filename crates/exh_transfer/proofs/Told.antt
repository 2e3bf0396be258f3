-- Some text that a command ends with.
use Rattle.std.proofs.Common.{ℕ, Bool, List, [], Option, Result, Ok, Err, inl, inr}
use Rattle.exh_run.specs.declared.Status.{Status}
use Rattle.exh_run.specs.declared.Status.TheVariants.{Done}
use Rattle.exh_run.specs.Ends.{EndsText}
use Rattle.exh_transfer.specs.Counts.{SaysText}

pub told : {V E : Type 0} (bytes : V → List ℕ) (old new : Option (List ℕ)) (failed : Bool) (text : Result V E) (result : Status) → EndsText bytes old new failed text Done result → SaysText old new failed result
told bytes old new failed (Ok text) result ends = (bytes text, inl ends)
told bytes old new failed (Err none) result ends = ([], inr ends)
