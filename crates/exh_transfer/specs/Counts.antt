-- What a `stats` prints, and how it ends.
use Rattle.std.specs.Prelude.{ℕ, Bool, List, Option, Result, Ok, Err}
use Rattle.exh_run.specs.declared.Status.{Status}
use Rattle.exh_run.specs.declared.Status.TheVariants.{Done}
use Rattle.exh_map.specs.declared.store_error.StoreError.{StoreError}
use Rattle.exh_run.specs.Ends.{Ends, Says, Silent, reading_status}
use Rattle.exh_compact.specs.declared.stats.Stats.{Stats}

-- some text is printed
abbrev pub SaysText : Option (List ℕ) → Option (List ℕ) → Bool → Status → Type 0
SaysText old new failed status = (text : List ℕ) × Ends (Says text Done) old new failed status

-- the file is read, or isn't
abbrev pub StatsEnds : {S : Type 0} → Result S StoreError → Option (List ℕ) → Option (List ℕ) → Bool → Status → Type 0
StatsEnds (Ok stats) old new failed status = SaysText old new failed status
StatsEnds (Err fault) old new failed status = Ends (Silent (reading_status fault)) old new failed status

abbrev pub StatsEnd : Option (List ℕ) → Option (List ℕ) → Bool → Status → Type 0
StatsEnd old new failed status = (stats : Result Stats StoreError) × StatsEnds stats old new failed status
