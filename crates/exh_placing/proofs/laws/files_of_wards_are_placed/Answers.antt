use Rattle.exh_placing.proofs.PlacedFiles.{placed_file}
use Rattle.exh_placing.proofs.laws.files_of_wards_are_placed.Goals as goal

pub returns : goal.returns
returns c = placed_file
