use Rattle.exh_versions.proofs.Plain.{says}
use Rattle.exh_versions.proofs.laws.placed_files_say_files.Goals as goal

pub returns : goal.returns
returns c placed tables bytes legal = says placed tables bytes legal c.legal_tables_have_room.ensures
