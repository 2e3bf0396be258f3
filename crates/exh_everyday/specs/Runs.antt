-- How the run of an everyday command ends: as some answer of the library to it has it.
use Rattle.std.specs.Prelude.{◌≡◌, ◌⊎◌, ℕ, Bool, List, Option, Result, IfOk}
use Rattle.exh_transfer.specs.declared.BackupFault.{BackupFault}
use Rattle.exh_transfer.specs.declared.StoreError.{StoreError}
use Rattle.exh_transfer.specs.declared.Status.{Status}
use Rattle.exh_transfer.specs.declared.Status.TheVariants.{Refused}
use Rattle.exh_request.specs.declared.action.Action.{Action}
use Rattle.exh_request.specs.declared.action.Action.TheVariants as actions
use Rattle.exh_request.specs.declared.form.Form.{Form}
use Rattle.exh_request.specs.declared.keys.Keys.{Keys}
use Rattle.exh_request.specs.declared.keys.Keys.TheVariants as keys
use Rattle.exh_request.specs.declared.new_value.NewValue.{NewValue}
use Rattle.exh_request.specs.declared.new_value.NewValue.TheVariants as values
use Rattle.exh_request.specs.declared.put_when.PutWhen.{PutWhen}
use Rattle.exh_request.specs.declared.put_when.PutWhen.TheVariants as put
use Rattle.exh_everyday.specs.declared.answer.Answer.{Answer}
use Rattle.exh_everyday.specs.declared.change.Change.{Change}
use Rattle.exh_everyday.specs.declared.change.Change.TheVariants.{Put, PutNew, Replace, Remove, Swap}
use Rattle.exh_everyday.specs.declared.found.Found.{Found}
use Rattle.exh_everyday.specs.Changes.{IsAnswerTo}
use Rattle.exh_everyday.specs.Founds.{AreOfKeys}
use Rattle.exh_transfer.specs.Ends.{Ends, Silent, made_status}
use Rattle.exh_transfer.specs.Compacts.{CompactEnds}
use Rattle.exh_transfer.specs.Counts.{StatsEnd}
use Rattle.exh_transfer.specs.Exports.{ExportEnds}
use Rattle.exh_transfer.specs.Imports.{ImportEnds}
use Rattle.exh_transfer.specs.Salvages.{SalvageEnds}
use Rattle.exh_everyday.specs.Endings.{change_ended, copied_status, del_several_ended, get_ended, get_several_ended}

-- the change that a put asks for
abbrev pub change_of_put : List ℕ → List ℕ → PutWhen → Change
change_of_put key value put.Always = Put key value
change_of_put key value put.New = PutNew key value
change_of_put key value put.There = Replace key value

-- ---- what standard output held before and holds after, where that is known, whether it failed, and the status

abbrev pub ChangeEnds : Bool → Change → Option (List ℕ) → Option (List ℕ) → Bool → Status → Type 0
ChangeEnds hex change old new failed status = (answered : Result Answer StoreError) × (IfOk answered (IsAnswerTo change) × Ends (change_ended hex answered) old new failed status)

-- the value of standard input isn't read, or one is
abbrev pub PutEnds : Bool → List ℕ → NewValue → PutWhen → Option (List ℕ) → Option (List ℕ) → Bool → Status → Type 0
PutEnds hex key (values.Word value) when old new failed status = ChangeEnds hex (change_of_put key value when) old new failed status
PutEnds hex key values.Input when old new failed status = Ends (Silent Refused) old new failed status ⊎ ((value : List ℕ) × ChangeEnds hex (change_of_put key value when) old new failed status)

abbrev pub GetOneEnds : Form → Option (List ℕ) → Option (List ℕ) → Bool → Status → Type 0
GetOneEnds form old new failed status = (found : Result (Option (List ℕ)) StoreError) × Ends (get_ended form found) old new failed status

abbrev pub GetSeveralEnds : Bool → List (List ℕ) → Option (List ℕ) → Option (List ℕ) → Bool → Status → Type 0
GetSeveralEnds hex several old new failed status = (found : Result Found StoreError) × (IfOk found (AreOfKeys several) × Ends (get_several_ended hex found) old new failed status)

-- the keys of standard input aren't read, or they are
abbrev pub GetEnds : Form → Keys → Option (List ℕ) → Option (List ℕ) → Bool → Status → Type 0
GetEnds form (keys.One key) old new failed status = GetOneEnds form old new failed status
GetEnds form (keys.Several several) old new failed status = GetSeveralEnds form.is_hex several.items old new failed status
GetEnds form keys.Input old new failed status = Ends (Silent Refused) old new failed status ⊎ ((several : List (List ℕ)) × GetSeveralEnds form.is_hex several old new failed status)

abbrev pub DelSeveralEnds : Bool → List (List ℕ) → Option (List ℕ) → Option (List ℕ) → Bool → Status → Type 0
DelSeveralEnds hex several old new failed status = (taken : Result Found StoreError) × (IfOk taken (AreOfKeys several) × Ends (del_several_ended hex taken) old new failed status)

abbrev pub DelEnds : Bool → Keys → Option (List ℕ) → Option (List ℕ) → Bool → Status → Type 0
DelEnds hex (keys.One key) old new failed status = ChangeEnds hex (Remove key) old new failed status
DelEnds hex (keys.Several several) old new failed status = DelSeveralEnds hex several.items old new failed status
DelEnds hex keys.Input old new failed status = Ends (Silent Refused) old new failed status ⊎ ((several : List (List ℕ)) × DelSeveralEnds hex several old new failed status)

-- a create and a backup print nothing
abbrev pub CreateEnds : Status → Type 0
CreateEnds status = (made : Result (Unit {0}) StoreError) × (status ≡ made_status made)

abbrev pub BackupEnds : Status → Type 0
BackupEnds status = (copied : Result (Unit {0}) BackupFault) × (status ≡ copied_status copied)

abbrev pub RunEnds : Form → Action → Option (List ℕ) → Option (List ℕ) → Bool → Status → Type 0
RunEnds form (actions.Create settings) old new failed status = (new ≡ old) × CreateEnds status
RunEnds form (actions.Get which) old new failed status = GetEnds form which old new failed status
RunEnds form (actions.Put key value when) old new failed status = PutEnds form.is_hex key value when old new failed status
RunEnds form (actions.Del which) old new failed status = DelEnds form.is_hex which old new failed status
RunEnds form (actions.Swap key was next) old new failed status = ChangeEnds form.is_hex (Swap key was next) old new failed status
RunEnds form (actions.Backup path) old new failed status = (new ≡ old) × BackupEnds status
RunEnds form (actions.Import words texts) old new failed status = ImportEnds old new failed status
RunEnds form (actions.Export format bare) old new failed status = ExportEnds format form.is_hex bare old new failed status
RunEnds form (actions.Compact given) old new failed status = CompactEnds old new failed status
RunEnds form (actions.Stats json) old new failed status = StatsEnd old new failed status
RunEnds form (actions.Salvage format bare) old new failed status = SalvageEnds format form.is_hex bare old new failed status
