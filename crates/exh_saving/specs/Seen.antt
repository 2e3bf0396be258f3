-- What a save may replace, by a file that was opened before.
use Rattle.std.specs.Prelude.{◌≡◌, ◌⊎◌, ℕ, IfErr, IfOk, IfSome, IsOkAnd, IsSomeAnd, List, MatchResult, Option, string_bytes}
use Rattle.std.specs.declared.io.Error.{Error}
use Rattle.exh_saving.specs.Answer.{Answer, Fails, LeadsElsewhere, Strange}
use Rattle.exh_saving.specs.DiskFault.{told}
use Rattle.exh_saving.specs.Found.{IsSame, IsUnchanged}
use Rattle.exh_saving.specs.declared.fault.Call.TheVariants.{Ask}
use Rattle.exh_saving.specs.declared.fault.DiskFault.{DiskFault}
use Rattle.exh_saving.specs.declared.fault.DiskFault.TheVariants.{NotAsOpened}
use Rattle.exh_saving.specs.declared.found.Found.{Found}
use Rattle.exh_saving.specs.declared.seen.Seen.{Seen}

-- This is of a file that was opened at a path: it is known by that path, and where the system said what and where it is, by
-- that and by a path without links that this one may lead to; else a call failed.
pub record IsSeenAt {O : Type 0} (leads : List ℕ → List ℕ → Type 0) (answers : Answer → Type 0) (finds : O → Found → Type 0) (path : List ℕ) (file : O) (seen : Seen O) : Type 0 where
  pub named : string_bytes seen.named ≡ path
  pub opened : seen.opened ≡ file
  pub whole : IfOk seen.about (λ about. leads path (string_bytes about.path) × finds file about.found)
  pub unasked : IfErr seen.about (λ error. answers (Fails error))

-- What is to be saved to is where the file was opened, by the words of its path or without links, or is this file.
abbrev pub IsAt : {O : Type 0} → Seen O → List ℕ → List ℕ → Found → Type 0
IsAt seen named path there = (string_bytes seen.named ≡ named) ⊎ IsOkAnd seen.about (λ about. (string_bytes about.path ≡ path) ⊎ IsSame about.found there)

-- an opened file is found to be another one than this
abbrev pub IsAnother : {O : Type 0} → (O → Found → Type 0) → O → Found → Type 0
IsAnother finds opened there = (found : Found) × finds opened found × (IsSame found there → ⊥)

-- What is at a path may be replaced. Where it is named as the opened file was, that must be there as it was, and the system
-- have said what it was and where; else it must be as it was where the path is the file's, or what is there is the file; and
-- where the system said neither, it must be another one.
pub record MayReplace {O : Type 0} (finds : O → Found → Type 0) (seen : Seen O) (named path : List ℕ) (there : Option Found) : Type 0 where
  pub by_name : string_bytes seen.named ≡ named → IsOkAnd seen.about (λ about. (string_bytes about.path ≡ path) × IsSomeAnd there (IsUnchanged about.found))
  pub elsewhere : IfOk seen.about (λ about. IfSome there (λ found. (string_bytes about.path ≡ path) ⊎ IsSame about.found found → IsUnchanged about.found found))
  pub unasked : IfErr seen.about (λ _. IfSome there (IsAnother finds seen.opened))

-- why it may not: it is not as it was, or the system said not what it was
abbrev pub IsKept : {O : Type 0} → Seen O → DiskFault → Type 0
IsKept seen fault = MatchResult seen.about (λ _. fault ≡ NotAsOpened) (λ error. fault ≡ told Ask error)

-- What is to be saved to may be an opened file of which the disk didn't say what it was: it is named so; or the file was
-- asked about again, which failed, or found to be what is there.
abbrev pub MayBeSeen : {O : Type 0} → (Answer → Type 0) → (O → Found → Type 0) → Seen O → List ℕ → Option Found → Type 0
MayBeSeen answers finds seen named there = (string_bytes seen.named ≡ named)
    ⊎ IsSomeAnd there (λ there. ((error : Error) × answers (Fails error)) ⊎ ((found : Found) × finds seen.opened found × IsSame found there))

-- Where a file was opened it is no longer, as it was: its path leads elsewhere, or what is there is another file or changed.
abbrev pub IsGone : (List ℕ → List ℕ → Type 0) → (Answer → Type 0) → List ℕ → List ℕ → Type 0
IsGone leads answers named path = LeadsElsewhere leads answers named path ⊎ answers (Strange path)
