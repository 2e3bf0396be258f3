-- When work that goes on is told of. Times are in milliseconds.
use Rattle.std.specs.Prelude.{◌≡◌, ⊤, ℕ, ◌-◌, ◌≤◌, true, Option, None, Some}
use Rattle.exh_stream.specs.declared.pace.TheConstants.{APART, QUIET}
use Rattle.exh_stream.specs.declared.pace.Pace.{Pace}

-- a line may come now that comes so long after the last one, if there was one
abbrev pub IsApart : Option ℕ → ℕ → Type 0
IsApart None now = ⊤
IsApart (Some told) now = APART ≤ now - told

-- a line is shown at this time: the work has gone on for long, and the last line was shown a while ago
pub record IsTold (pace : Pace) (now : ℕ) : Type 0 where
  pub long : QUIET ≤ now - pace.began
  pub apart : IsApart pace.told now

-- one step further, at which a line was shown: the clock said a time at which one is
abbrev pub IsToldStep : Pace → Pace → Type 0
IsToldStep old new = (now : ℕ) × IsTold old now × (new.told ≡ Some now) × (new.stands ≡ true)
