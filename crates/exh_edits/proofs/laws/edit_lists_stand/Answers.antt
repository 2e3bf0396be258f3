use Rattle.exh_edits.proofs.EditLists.{blocks_are_found, edits_pushed, edits_put, unedited_are_kept}
use Rattle.exh_edits.proofs.laws.edit_lists_stand.Goals as goal

pub returns : goal.returns
returns c = record { found = blocks_are_found; kept = unedited_are_kept; pushed = edits_pushed; put = edits_put }
