-- How the run of a command ends: the statuses of refusals, and what is printed.
use Rattle.std.specs.Prelude.{◌≡◌, ◌⊎◌, ℕ, Bool, List, Option, Result, Ok, Err}
use Rattle.exhash.specs.declared.StoreError.{StoreError}
use Rattle.exhash.specs.declared.StoreError.TheVariants as fault
use Rattle.exh_job.specs.LastLine.{TellsLine}
use Rattle.exh_job.specs.declared.status.Status.{Status}
use Rattle.exh_job.specs.declared.status.Status.TheVariants.{Done, Missing, Refused, Busy}

-- ---- statuses of refusals

-- a file isn't read: another process had it all the while, or changed it
abbrev pub reading_status : StoreError → Status
reading_status fault.Busy = Busy
reading_status fault.Changed = Busy
reading_status other = Refused

-- a file isn't changed: another process had it all the while
abbrev pub change_status : StoreError → Status
change_status fault.Busy = Busy
change_status other = Refused

-- no file is made at a path: something is there already, or another process is at work there; or it is made, and its folder
-- isn't synchronized
abbrev pub unmade_status : StoreError → Status
unmade_status (fault.Unsynchronized error) = Done
unmade_status fault.Exists = Missing
unmade_status fault.Busy = Busy
unmade_status other = Refused

-- a new file is made, or isn't
abbrev pub made_status : Result (Unit {0}) StoreError → Status
made_status (Ok made) = Done
made_status (Err fault) = unmade_status fault

-- ---- ends

-- nothing is printed, or this text; and the status where that goes out
pub data Ended : Type 0 where
  Silent : Status → Ended
  Says : List ℕ → Status → Ended

-- Of a writer that held `old` bytes before and `new` ones after, where these are known, and of whether it failed: the text
-- goes out, and the status is this one, or another where it didn't go out; where there was no memory for the text nothing
-- is printed.
abbrev pub EndsText : {V E : Type 0} → (V → List ℕ) → Option (List ℕ) → Option (List ℕ) → Bool → Result V E → Status → Status → Type 0
EndsText bytes old new failed (Ok text) status result = TellsLine old new failed (bytes text) status result
EndsText bytes old new failed (Err none) status result = (new ≡ old) × (result ≡ Refused)

-- Of a writer that held `old` bytes before and `new` ones after, where these are known, and of whether it failed: nothing was
-- printed; or the text went out, or, with another status, a beginning of it, or nothing where there was no memory for it.
abbrev pub Ends : Ended → Option (List ℕ) → Option (List ℕ) → Bool → Status → Type 0
Ends (Silent status) old new failed result = (new ≡ old) × (result ≡ status)
Ends (Says text status) old new failed result = TellsLine old new failed text status result ⊎ ((new ≡ old) × (result ≡ Refused))
