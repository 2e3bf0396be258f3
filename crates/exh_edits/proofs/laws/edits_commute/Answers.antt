use Rattle.exh_edits.proofs.EditLists.{commuted, replaced}
use Rattle.exh_edits.proofs.laws.edits_commute.Goals as goal

pub returns : goal.returns
returns c = record { same_place = replaced; two_places = commuted }
