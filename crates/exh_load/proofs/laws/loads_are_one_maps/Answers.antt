use Rattle.exh_load.proofs.OneMap.{no_parts, one_maps}
use Rattle.exh_load.proofs.laws.loads_are_one_maps.Goals as goal

pub returns-clause-one : goal.returns-clause-one
returns-clause-one c = one_maps

pub returns-clause-new : goal.returns-clause-new
returns-clause-new c = no_parts
