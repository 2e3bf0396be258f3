-- Which owner, group and permissions a file beside a path gets.
use Rattle.std.specs.Prelude.{ℕ, Bool, true, false, None, Some, bit_and}
use Rattle.std.specs.declared.io.Error.{Error}
use Rattle.exh_saving.specs.Answer.{Answer, Fails, Gives, Permits}
use Rattle.exh_saving.specs.declared.found.Found.{Found}

-- of an old file's permissions all; all but what only serves under its owner and its group; or neither that nor its group's
abbrev pub dressed_mode : ℕ → Bool → Bool → ℕ
dressed_mode mode true true = mode
dressed_mode mode false true = bit_and mode 0o1777
dressed_mode mode has_owner false = bit_and mode 0o1707

-- a file was given this, or the call failed
abbrev pub IsGiven : (Answer → Type 0) → Answer → Bool → Type 0
IsGiven answers given true = answers given
IsGiven answers given false = (error : Error) × answers (Fails error)

-- a file was given an old one's owner and group, where the disk allowed it, and then the permissions
abbrev pub IsDressed : (Answer → Type 0) → Found → Type 0
IsDressed answers old = (has_owner : Bool) × (has_group : Bool)
    × IsGiven answers (Gives (Some old.owner) None) has_owner
    × IsGiven answers (Gives None (Some old.group)) has_group
    × answers (Permits (dressed_mode old.mode has_owner has_group))
