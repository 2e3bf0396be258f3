-- How an everyday command ends, by what the library answers.
use Rattle.std.specs.Prelude.{Bool, List, ℕ, codes, flat_map, Option, Some, None, Result, Ok, Err}
use Rattle.exh_transfer.specs.declared.BackupFault.{BackupFault}
use Rattle.exh_transfer.specs.declared.BackupFault.TheVariants.{File, Copy}
use Rattle.exh_transfer.specs.declared.StoreError.{StoreError}
use Rattle.exh_request.specs.declared.form.Form.{Form}
use Rattle.exh_transfer.specs.declared.Status.{Status}
use Rattle.exh_transfer.specs.declared.Status.TheVariants.{Done, Missing}
use Rattle.exh_transfer.specs.Ends.{Ended, Silent, Says, change_status, reading_status, unmade_status}
use Rattle.exh_everyday.specs.declared.answer.Answer.{Answer}
use Rattle.exh_everyday.specs.declared.found.Found.{Found}
use Rattle.exh_everyday.specs.Answers.{answer_line, answer_status, found_status, pair_line, value_text}

-- a file isn't copied
abbrev pub backup_status : BackupFault → Status
backup_status (File fault) = reading_status fault
backup_status (Copy fault) = unmade_status fault

abbrev pub copied_status : Result (Unit {0}) BackupFault → Status
copied_status (Ok copied) = Done
copied_status (Err fault) = backup_status fault

-- of a put, a del or a swap of one key
abbrev pub change_ended : Bool → Result Answer StoreError → Ended
change_ended hex (Ok answer) = Says (answer_line hex answer) (answer_status answer)
change_ended hex (Err fault) = Silent (change_status fault)

-- of a get of one key
abbrev pub get_ended : Form → Result (Option (List ℕ)) StoreError → Ended
get_ended form (Ok (Some value)) = Says (value_text form.is_raw form.is_hex value) Done
get_ended form (Ok None) = Silent Missing
get_ended form (Err fault) = Silent (reading_status fault)

-- of several keys, those that are there with these words before the value
abbrev pub found_ended : List ℕ → Bool → Found → Ended
found_ended words hex found = Says (flat_map (pair_line words hex) found.pairs) (found_status found.absent.items)

-- of a get of several
abbrev pub get_several_ended : Bool → Result Found StoreError → Ended
get_several_ended hex (Ok found) = found_ended (codes " ") hex found
get_several_ended hex (Err fault) = Silent (reading_status fault)

-- of a del of several
abbrev pub del_several_ended : Bool → Result Found StoreError → Ended
del_several_ended hex (Ok found) = found_ended (codes " was ") hex found
del_several_ended hex (Err fault) = Silent (change_status fault)
