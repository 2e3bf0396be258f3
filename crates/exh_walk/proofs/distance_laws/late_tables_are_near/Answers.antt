use Rattle.exh_walk.proofs.LateTables.{late_near}
use Rattle.exh_walk.proofs.distance_laws.late_tables_are_near.Goals as goal

pub returns : goal.returns
returns c = late_near c.gets_go_home.ensures.gets
