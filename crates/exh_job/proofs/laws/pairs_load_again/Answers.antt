use Rattle.exh_job.proofs.PairsAgain.{loads_again}
use Rattle.exh_job.proofs.laws.pairs_load_again.Goals as goal

pub returns : goal.returns
returns c = loads_again c.loads_are_one_maps.ensures.one c.loads_are_one_maps.ensures.new c.legal_bytes_are_files.ensures
