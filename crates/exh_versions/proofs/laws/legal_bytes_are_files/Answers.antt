use Rattle.exh_versions.proofs.OneFile.{known_legal}
use Rattle.exh_versions.proofs.laws.legal_bytes_are_files.Goals as goal

pub returns : goal.returns
returns c file bytes legal = known_legal c.placed_files_say_files.ensures file bytes legal
